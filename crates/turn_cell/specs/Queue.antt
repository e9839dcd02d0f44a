-- Tickets that are waiting_with and holding, over views of any kind.
use Rattle.std.specs.Prelude.{◌≡◌, ◌≢◌, ℕ, ◌+◌, ◌%◌, ◌<◌, List, [], ◌∷◌, Bool, true, false, length}
use mathlib.Core.Option.{some}
use lib.ListN.{get_elem?}

abbrev pub one_if : Bool → ℕ
one_if true = 1
one_if false = 0

-- how many of the list pass the test
abbrev pub how_many : {V : Type 0} → (V → Bool) → List V → ℕ
how_many p [] = 0
how_many p (v ∷ vs) = one_if (p v) + how_many p vs

-- the ticket comes among the next n, from w on
abbrev pub AmongNext : ℕ → ℕ → ℕ → Type 0
AmongNext w n t = (k : ℕ) × (k < n) × (t ≡ (w + k) % 18446744073709551616)

-- w0 is the next ticket, w1 the one that is holding
pub record InQueue {V : Type 0} (waits holds : V → Bool) (ticket : V → ℕ) (w0 w1 : ℕ) (views : List V) : Type 0 where
  pub small : w1 < 18446744073709551616
  pub few : length views < 256
  pub next : w0 ≡ (w1 + how_many waits views) % 18446744073709551616
  pub due : (j : ℕ) (v : V) → get_elem? views j ≡ some v → waits v ≡ true → AmongNext w1 (how_many waits views) (ticket v)
  pub apart : (i j : ℕ) (u v : V) → i ≢ j → get_elem? views i ≡ some u → get_elem? views j ≡ some v → waits u ≡ true → waits v ≡ true → ticket u ≢ ticket v
  pub holder : (j : ℕ) (v : V) → get_elem? views j ≡ some v → holds v ≡ true → (waits v ≡ true) × (ticket v ≡ w1)
