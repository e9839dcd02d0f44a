-- Which seqs a look has no need to ask.
use Rattle.std.specs.Prelude.{◌≡◌, ℕ, ◌<◌, ◌≤◌, ◌||◌, Bool, true, is_some}
use Rattle.first_cache.specs.CacheState.{CacheState, known_at, is_in_flight}

-- the item at a seq is known, or a read of it is in flight
abbrev pub is_settled : CacheState → ℕ → Bool
is_settled c seq = is_some (known_at c seq) || is_in_flight c seq

-- so it is for each seq from one on up to another
abbrev pub Settled : CacheState → ℕ → ℕ → Type 0
Settled c from to = (seq : ℕ) → from ≤ seq → seq < to → is_settled c seq ≡ true
