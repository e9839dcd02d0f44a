-- The bytes of a span.
use Rattle.std.proofs.Common.{◌≡◌, ℕ, ◌-◌, ◌≤◌, min, List, length, take, drop, ap, ◌∙◌, arith}
use Rattle.std.specs.List.{slice_range}
use Rattle.std.proofs.lemmas.List.{length-take-le, length-drop, take_min}

-- how many there are
pub length-slice_range : (text : List ℕ) (from to : ℕ) → from ≤ to → to ≤ length text → length (slice_range text from to) ≡ to - from
length-slice_range text from to rising inside =
    let len : length (drop from text) ≡ length text - from = length-drop from text in
    length-take-le (to - from) (drop from text) (omega arith)

-- the bytes up to a place behind the text's end are those up to the end
pub clipped : (text : List ℕ) (from to : ℕ) → slice_range text from (min (length text) to) ≡ slice_range text from to
clipped text from to =
    let len : length (drop from text) ≡ length text - from = length-drop from text in
    let count : min (length text) to - from ≡ min (to - from) (length (drop from text)) = omega arith in
    ap (λ n. take n (drop from text)) count ∙ take_min (to - from) (drop from text)
