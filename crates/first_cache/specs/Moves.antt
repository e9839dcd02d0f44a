-- Another window over what is known.
use Rattle.std.specs.Prelude.{ℕ, ◌+◌, zero, suc, List, [], ◌∷◌, ◌++◌, Option}
use Rattle.first_model.specs.declared.plan.Item.{Item}
use Rattle.first_cache.specs.CacheState.{CacheState, known_at}

-- what is known of so many seqs from seq on
abbrev pub known_from : CacheState → ℕ → ℕ → List (Option Item)
known_from c seq zero = []
known_from c seq (suc n) = known_from c seq n ++ known_at c (seq + n) ∷ []

-- the cache with the window of so many places from seq on: known items outside it are forgotten, the others kept
abbrev pub moved : CacheState → ℕ → ℕ → CacheState
moved c seq places = record c { from = seq; known = known_from c seq places }
