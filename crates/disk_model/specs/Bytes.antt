-- Lists of bytes, and what stands at a place in one.
use Rattle.std.specs.Prelude.{◌≡◌, ◌⊎◌, ℕ, zero, suc, ◌+◌, ◌<◌, ◌≤◌, List, [], ◌∷◌, length, get_or}

-- the n bytes from a place on, where a byte past the end is 0
abbrev pub field : ℕ → ℕ → List ℕ → List ℕ
field at zero bytes = []
field at (suc n) bytes = get_or bytes at 0 ∷ field (suc at) n bytes

-- a place that is none of the n from `at` on
abbrev pub Outside : ℕ → ℕ → ℕ → Type 0
Outside at n k = (k < at) ⊎ (at + n ≤ k)

-- `new` is `old` but for n bytes from `at` on, which may be any
pub record Torn (at n : ℕ) (old new : List ℕ) : Type 0 where
  pub size : length new ≡ length old
  pub others : (k : ℕ) → Outside at n k → get_or new k 0 ≡ get_or old k 0

-- `new` is `old` but for these bytes from `at` on
pub record Holds (at : ℕ) (bytes old new : List ℕ) : Type 0 where
  pub others : Torn at (length bytes) old new
  pub here : field at (length bytes) new ≡ bytes

-- only zeros
abbrev pub IsZeros : List ℕ → Type 0
IsZeros bytes = (k : ℕ) → get_or bytes k 0 ≡ 0
