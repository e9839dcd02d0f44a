-- A plan is taken from its first item on: an item that is known, passes the check of plans after those before it and goes with the
-- uses of the jumps is taken once, and stays taken until the plan is begun anew.
use Rattle.std.specs.Prelude.{◌≡◌, ℕ, zero, suc, ◌-◌, ◌&&◌, Bool, List, [], ◌∷◌, ◌++◌, length, nat_lt, Option, Some, None, is_some, is_none, if◌then◌else◌}
use Rattle.mission_model.specs.declared.plan.Item.{Item}
use Rattle.mission_model.specs.declared.plan.PlanHead.{PlanHead}
use Rattle.mission_model.specs.declared.plan.PlanType.{PlanType}
use Rattle.mission_model.specs.declared.plan_check.PlanCheck.{PlanCheck}
use Rattle.mission_model.specs.PlanCode.{PlanCode}
use Rattle.mission_model.specs.PlanCheck.{Checked}
use Rattle.client_cache.specs.CacheState.{CacheState, count_of, known_at, forgotten, adopted}
use Rattle.navigator.specs.Uses.{JumpUses, goes_with}

-- the item may be taken behind these, in a plan of so many
abbrev pub can_follow : PlanType → JumpUses → ℕ → List Item → Item → Bool
can_follow kind uses count items item = goes_with kind uses (length items) item && is_none (PlanCode kind count items item)

abbrev pub following : PlanType → JumpUses → ℕ → List Item → Option Item → Option Item
following kind uses count items None = None
following kind uses count items (Some item) = if can_follow kind uses count items item then Some item else None

-- the item that is taken next, if the cache knows one that may be
abbrev pub next_of : PlanType → JumpUses → CacheState → List Item → Option Item
next_of kind uses c items = following kind uses (count_of c.head) items (known_at c (length items))

abbrev pub added : List Item → Option Item → List Item
added items None = items
added items (Some item) = items ++ item ∷ []

-- the items and the next one
abbrev pub with_next_of : PlanType → JumpUses → CacheState → List Item → List Item
with_next_of kind uses c items = added items (next_of kind uses c items)

-- the items and up to n more
abbrev pub with_up_to : ℕ → PlanType → JumpUses → CacheState → List Item → List Item
with_up_to zero kind uses c items = items
with_up_to (suc n) kind uses c items = with_next_of kind uses c (with_up_to n kind uses c items)

-- the items and all more that the cache gives
unfoldable pub whole_taking : PlanType → JumpUses → CacheState → List Item → List Item
whole_taking kind uses c items = with_up_to (count_of c.head - length items) kind uses c items

-- the cache once the taking has come to this seq: what is known there and was not taken is forgotten
abbrev pub cache_behind : CacheState → ℕ → CacheState
cache_behind c seq = if nat_lt seq (count_of c.head) && is_some (known_at c seq) then forgotten c seq else c

-- the plan of a type: what is known of it, and the items that were taken
pub record PlanTaken : Type 0 where
  pub kind : PlanType
  pub cache : CacheState
  pub taken : List Item

-- the plan once all was taken that can be
abbrev pub taking : JumpUses → PlanTaken → PlanTaken
taking uses p = record p { cache = cache_behind p.cache (length (whole_taking p.kind uses p.cache p.taken)); taken = whole_taking p.kind uses p.cache p.taken }

-- the cache after one look for an item that may stand at this seq: what is known there and may not is forgotten
abbrev pub cache_past : CacheState → ℕ → Option Item → CacheState
cache_past c seq (Some item) = c
cache_past c seq None = if is_some (known_at c seq) then forgotten c seq else c

-- one step of the taking behind these items: this answer, this cache, and a check that has accepted what was taken
pub record TakesNext (kind : PlanType) (uses : JumpUses) (c : CacheState) (items : List Item) (answer : Option Item) (c' : CacheState) (check : PlanCheck) : Type 0 where
  pub answer_is : answer ≡ next_of kind uses c items
  pub cache : c' ≡ cache_past c (length items) answer
  pub checked : Checked check kind (count_of c.head) (added items answer)

-- the plan once a published head was met, and whether its taking begins anew
abbrev pub plan_met : PlanTaken → PlanHead → Bool → PlanTaken
plan_met p head anew = record p { cache = adopted p.cache head; taken = if anew then [] else p.taken }
