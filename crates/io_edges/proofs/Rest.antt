-- What a slice from a place on is.
use Rattle.std.proofs.Common.{◌≡◌, ℕ, ◌-◌, List, length, take, drop, subst, length-drop}
use Rattle.std.proofs.Math.Seq.{take-length}

-- all that is left after the first n
pub rest_whole : (n : ℕ) (bytes : List ℕ) → take (length bytes - n) (drop n bytes) ≡ drop n bytes
rest_whole n bytes = let P : ℕ → Type 0 = λ k. take k (drop n bytes) ≡ drop n bytes in subst P (length-drop n bytes) (take-length (drop n bytes))
