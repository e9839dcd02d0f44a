-- Which reads a look at a seq asks.
use Rattle.std.specs.Prelude.{◌≡◌, ℕ, ◌+◌, ◌-◌, zero, suc, min, nat_lt, ◌&&◌, ◌||◌, Bool, true, is_some, List, [], ◌∷◌, ◌++◌, take, slice_set, if◌then◌else◌}
use Rattle.mission_model.specs.declared.plan.PlanType.{PlanType}
use Rattle.mission_model.specs.declared.request.Client.{Client}
use Rattle.mission_model.specs.declared.request.Request.{Request}
use Rattle.mission_model.specs.declared.request.Request.TheVariants as request
use Rattle.request_board.specs.BoardState.{BoardState, limit, outstanding}
use Rattle.client_cache.specs.CacheState.{CacheState, known_at, in_window, is_in_flight, window_end, id_of, count_of}

-- the seq, where its item is neither known nor in flight
abbrev pub missing_at : CacheState → ℕ → List ℕ
missing_at c seq = if is_some (known_at c seq) || is_in_flight c seq then [] else seq ∷ []

-- of so many seqs from seq on, those whose item is neither known nor in flight, rising
abbrev pub missing : CacheState → ℕ → ℕ → List ℕ
missing c seq zero = []
missing c seq (suc n) = missing c seq n ++ missing_at c (seq + n)

-- the seqs from seq on that are below both the count and the window's end, neither known nor in flight, as far as the
-- board leaves more than one place free
abbrev pub wanted : CacheState → BoardState → ℕ → List ℕ
wanted c b seq = take (limit c.client - outstanding b c.client - 1) (missing c seq (min (count_of c.head) (window_end c) - seq))

-- what a look at any seq asks: nothing behind the plan's end, and nothing outside the window
abbrev pub looked : CacheState → BoardState → ℕ → List ℕ
looked c b seq = if nat_lt seq (count_of c.head) && in_window c seq then wanted c b seq else []

-- the client's reads of these seqs of a plan
abbrev pub reads : Client → PlanType → ℕ → List ℕ → List (Client × Request)
reads client kind id [] = []
reads client kind id (seq ∷ seqs) = (client, request.Read kind id seq) ∷ reads client kind id seqs

-- the board with these reads behind all other requests
abbrev pub asking : CacheState → BoardState → List ℕ → BoardState
asking c b seqs = record b { waiting = b.waiting ++ reads c.client c.kind (id_of c.head) seqs }

-- the flags with these seqs in flight
abbrev pub flags_with : List Bool → List ℕ → List Bool
flags_with flags [] = flags
flags_with flags (seq ∷ seqs) = flags_with (slice_set flags seq true) seqs

-- the cache with reads of these seqs in flight
abbrev pub flying : CacheState → List ℕ → CacheState
flying c seqs = record c { in_flight = flags_with c.in_flight seqs }

-- reads of these seqs of the adopted plan were asked, in this order, and are in flight; nothing else changed
pub record Asks (c : CacheState) (b : BoardState) (seqs : List ℕ) (c' : CacheState) (b' : BoardState) : Type 0 where
  pub cache : c' ≡ flying c seqs
  pub board : b' ≡ asking c b seqs
