use Rattle.std.proofs.Common.{◌≡◌, ◌+◌, ◌*◌, ◌^◌, ◌++◌, ◌<◌, ℕ, List, [], ◌∷◌, length, take, get_or, sym, ap, ◌∙◌, subst, arith, append_assoc}
use Rattle.std.proofs.lemmas.List.{take_more, flat_map_more}
use Rattle.std.specs.List.{flat_map}
use Rattle.std.proofs.lemmas.Option.{get_or_from_slice_get}
use borrow.Author.Count.{below_more}
use Rattle.mission_model.specs.CountsList.{pairs_of}
use Rattle.dataman_layout.specs.Fields.{number_bytes}
use Rattle.dataman_layout.specs.Mark.{pair_bytes}
use Rattle.dataman_layout.proofs.mark.put_pairs.Goals as goal

-- the bytes with one pair more
one_more : (b0 b1 b2 front : List ℕ) (pairs : List (ℕ × ℕ)) (place at : ℕ) (p : ℕ × ℕ) → at ≡ 7 + 4 * place → place < length pairs → get_or pairs place (0, 0) ≡ p
    → take (7 + 4 * place) b0 ≡ front ++ flat_map pair_bytes (take place pairs) → take (at + 2) b1 ≡ take at b0 ++ number_bytes 2 p.0 → take (at + 2 + 2) b2 ≡ take (at + 2) b1 ++ number_bytes 2 p.1
    → take (7 + 4 * (place + 1)) b2 ≡ front ++ flat_map pair_bytes (take (place + 1) pairs)
one_more b0 b1 b2 front pairs place at p start within here before seq used =
    let end : 7 + 4 * (place + 1) ≡ at + 2 + 2 = omega arith in
    let more : take (place + 1) pairs ≡ take place pairs ++ p ∷ [] = take_more pairs place (0, 0) within ∙ ap (λ (x : ℕ × ℕ). take place pairs ++ x ∷ []) here in
    ap (λ (k : ℕ). take k b2) end ∙ used ∙ ap (λ (l : List ℕ). l ++ number_bytes 2 p.1) (seq ∙ ap (λ (l : List ℕ). l ++ number_bytes 2 p.0) (ap (λ (k : ℕ). take k b0) start ∙ before))
    ∙ append_assoc (front ++ flat_map pair_bytes (take place pairs)) (number_bytes 2 p.0) (number_bytes 2 p.1)
    ∙ flat_map_more pair_bytes front (take place pairs) p ∙ ap (λ (l : List (ℕ × ℕ)). front ++ flat_map pair_bytes l) (sym more)

pub loop-place-preserved : goal.loop-place-preserved
loop-place-preserved c =
    let place = c.loop-place.place in
    let pairs = pairs_of c.args.counts.now in
    let within : place < length pairs = omega (arith, c.loop-place-test.true, c.requires.number) in
    let here : get_or pairs place (0, 0) ≡ c.pair-seq.result = get_or_from_slice_get pairs place c.pair-seq.result (0, 0) c.pair-seq.ensures in
    let at : 7 + 4 * c.from.result ≡ 7 + 4 * place = omega (arith, c.from.ensures) in
    let fits : ((get_or pairs place (0, 0)).0 < 2 ^ 16) × ((get_or pairs place (0, 0)).1 < 2 ^ 16) =
    subst (λ (p : ℕ × ℕ). (p.0 < 2 ^ 16) × (p.1 < 2 ^ 16)) (sym here) (c.put_u16.ensures.fits, c.put_u16-in-loop-place.ensures.fits) in
    record {
      front = one_more c.loop-place.bytes c.put_u16.new.bytes c.put_u16-in-loop-place.new.bytes (take 7 c.args.bytes.now) pairs place (7 + 4 * c.from.result) c.pair-seq.result at within here
          c.loop-place.invariant.front c.put_u16.ensures.front c.put_u16-in-loop-place.ensures.front;
      rest = λ k behind. c.put_u16-in-loop-place.ensures.rest k (omega (arith, at)) ∙ c.put_u16.ensures.rest k (omega (arith, at)) ∙ c.loop-place.invariant.rest k (omega arith);
      fit = below_more (λ (k : ℕ). ((get_or pairs k (0, 0)).0 < 2 ^ 16) × ((get_or pairs k (0, 0)).1 < 2 ^ 16)) place c.loop-place.invariant.fit fits;
    }
