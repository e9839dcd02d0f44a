use Rattle.std.proofs.Common.{◌≡◌, ◌⊎◌, ◌+◌, ◌*◌, ◌<◌, ◌≤◌, ℕ, List, length, inl, inr, ap, ◌∙◌, arith}
use Rattle.mission_model.specs.Pairs.{with_pair}
use Rattle.dataman_layout.specs.Fields.{number_at}
use Rattle.dataman_layout.specs.Mark.{pairs_in}
use Rattle.dataman_layout.specs.MarkLaws.{length-pairs_in}
use Rattle.dataman_layout.proofs.Rising.{least_from, IsOut, stops_rising, goes_on}
use Rattle.dataman_layout.proofs.mark.counts_of.Goals as goal

-- where the fields of a pair stand
seq_there : (bytes : List ℕ) (place from seq : ℕ) → from ≡ place → seq ≡ number_at (7 + 4 * from) 2 bytes → seq ≡ number_at (7 + 4 * place) 2 bytes
seq_there bytes place from seq e read = read ∙ ap (λ (k : ℕ). number_at (7 + 4 * k) 2 bytes) e

used_there : (bytes : List ℕ) (place from used : ℕ) → from ≡ place → used ≡ number_at (7 + 4 * from + 2) 2 bytes → used ≡ number_at (9 + 4 * place) 2 bytes
used_there bytes place from used e read =
    let at : 7 + 4 * from + 2 ≡ 9 + 4 * place = omega arith in
    read ∙ ap (λ (k : ℕ). number_at k 2 bytes) at

out : (bytes : List ℕ) (place least seq used shown : ℕ) → least ≡ least_from 0 (pairs_in bytes place) → shown ≡ seq → (shown < least) ⊎ ((least ≤ shown) × (used ≡ 0)) → IsOut bytes place seq used
out bytes place least seq used shown e same (inl low) = inl (omega arith)
out bytes place least seq used shown e same (inr rest) = inr rest.1

pub returns-then-from-least-clause-none : goal.returns-then-from-least-clause-none
returns-then-from-least-clause-none c =
    let bytes = c.args.bytes.now in
    let place = c.loop-place.place in
    stops_rising bytes place c.args.number c.u16_at-seq.result c.u16_at-used.result c.loop-place-test.true
    (seq_there bytes place c.from.result c.u16_at-seq.result c.from.ensures c.u16_at-seq.ensures) (used_there bytes place c.from.result c.u16_at-used.result c.from.ensures c.u16_at-used.ensures)
    (out bytes place c.loop-place.least c.u16_at-seq.result c.u16_at-used.result c.from-in-loop-place.result c.loop-place.invariant.least c.from-in-loop-place.ensures c.then-from-least.either)

pub put-requires-clause-room : goal.put-requires-clause-room
put-requires-clause-room c =
    let size = ap length c.loop-place.invariant.pairs ∙ length-pairs_in c.args.bytes.now c.loop-place.place in
    inr (omega (arith, size, c.loop-place-test.true, c.requires.few))

pub loop-place-preserved : goal.loop-place-preserved
loop-place-preserved c =
    let place = c.loop-place.place in
    let bytes = c.args.bytes.now in
    let first : c.u16_at-seq.result ≡ number_at (7 + 4 * place) 2 bytes = seq_there bytes place c.from.result c.u16_at-seq.result c.from.ensures c.u16_at-seq.ensures in
    let second : c.u16_at-used.result ≡ number_at (9 + 4 * place) 2 bytes = used_there bytes place c.from.result c.u16_at-used.result c.from.ensures c.u16_at-used.ensures in
    let above : least_from 0 (pairs_in bytes place) ≤ c.u16_at-seq.result = omega (arith, c.loop-place.invariant.least, c.if-from-least.false, c.from-in-loop-place.ensures) in
    let some : 1 ≤ c.u16_at-used.result = omega (arith, c.if-used-eq-NOT_USED.false) in
    let next = goes_on bytes place c.u16_at-seq.result c.u16_at-used.result first second c.loop-place.invariant.rise above some in
    record {
      pairs = c.put.ensures ∙ ap (λ l. with_pair l c.u16_at-seq.result c.u16_at-used.result) c.loop-place.invariant.pairs ∙ next.0;
      rise = next.1;
      least = ap (λ (n : ℕ). n + 1) c.from-least.ensures ∙ next.2;
    }
