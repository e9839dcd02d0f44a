use Rattle.std.proofs.Common.{◌≡◌, ◌+◌, ◌-◌, ◌*◌, ◌++◌, ℕ, List, length, take, drop, replicate, sym, ap, ◌∙◌, arith}
use Rattle.std.proofs.lemmas.List.{take-append-drop, drop-replicate}
use Rattle.std.specs.List.{flat_map}
use Rattle.mission_model.specs.CountsList.{pairs_of}
use Rattle.dataman_layout.specs.Fields.{number_bytes}
use Rattle.dataman_layout.specs.Mark.{pair_bytes, mark_bytes, mark_in, plain_mark}
use Rattle.dataman_layout.specs.MarkLaws.{FitsMark, mark_in-mark_bytes}
use Rattle.dataman_layout.proofs.mark.encode_mark.Goals as goal

pub returns-clause-bytes : goal.returns-clause-bytes
unfolding mark_bytes
returns-clause-bytes c =
    let mark = c.args.mark.now in
    let n = length (pairs_of mark.counts) in
    let number : c.len-number.result ≡ n = c.len-number.ensures.pairs in
    let at : ℕ = 7 + 4 * c.len-number.result in
    let left : 135 - at ≡ 128 - 4 * n = omega (arith, number) in
    let last : drop at c.put_pairs.new.bytes ≡ replicate (128 - 4 * n) 0 =
    c.put_pairs.ensures.rest at (omega arith) ∙ c.put_u8.ensures.rest at (omega arith) ∙ c.put_u16.ensures.rest at (omega arith) ∙ c.put_u32.ensures.rest at (omega arith)
    ∙ drop-replicate at 135 0 ∙ ap (λ (k : ℕ). replicate k 0) left in
    let front : take 7 c.put_u8.new.bytes ≡ number_bytes 4 mark.id ++ number_bytes 2 mark.index ++ number_bytes 1 n = c.put_u8.ensures.front
    ∙ (λ i. (c.put_u16.ensures.front ∙ ap (λ (l : List ℕ). l ++ number_bytes 2 mark.index) c.put_u32.ensures.front) i ++ number_bytes 1 (number i)) in
    sym (take-append-drop at c.put_pairs.new.bytes) ∙ (λ i. (c.put_pairs.ensures.front ∙ ap (λ (l : List ℕ). l ++ flat_map pair_bytes (pairs_of mark.counts)) front) i ++ last i)

pub returns-clause-read : goal.returns-clause-read
returns-clause-read c =
    let mark = c.args.mark.now in
    let number = c.len-number.ensures.pairs in
    let fits : FitsMark 32 (plain_mark mark) = record {
      byte = omega arith;
      id = c.put_u32.ensures.fits;
      index = c.put_u16.ensures.fits;
      few = omega (arith, number, c.len-number.ensures.limit);
      rise = c.len-number.ensures.rises;
      fit = c.put_pairs.ensures.fit;
    } in
    ap (mark_in 32) (returns-clause-bytes c) ∙ mark_in-mark_bytes 32 (plain_mark mark) fits
