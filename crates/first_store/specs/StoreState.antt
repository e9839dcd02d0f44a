-- A store of plans as its clients know it: of each kind the plan in force and what was written for the next one, and the
-- mark.
use Rattle.std.specs.Prelude.{ℕ, ◌+◌, ◌<◌, ◌==◌, zero, suc, List, [], ◌∷◌, ◌++◌, Option, Some, None, IsSome, if◌then◌else◌}
use Rattle.first_model.specs.declared.plan.Item.{Item}
use Rattle.first_model.specs.declared.plan.PlanType.{PlanType}
use Rattle.first_model.specs.declared.plan.PlanType.TheVariants.{Mission, Fence, Safe}
use Rattle.first_model.specs.PlainMark.{PlainMark}
use Rattle.first_store.specs.declared.places.Written.{Written}

-- a plan's id and its items
pub record StoredPlan : Type 0 where
  pub id : ℕ
  pub items : List Item

-- at each seq what was written there last, an item under a plan's id, if anything was
abbrev pub Drafts : Type 0
Drafts = ℕ → Option Written

-- of one kind, the plan in force, the generation of its cell, and the drafts
pub record KindState : Type 0 where
  pub plan : StoredPlan
  pub generation : ℕ
  pub drafts : Drafts

-- a change of what is in force: the commit of a plan, or a mark
pub data Change : Type 0 where
  Commit : (kind : PlanType) (plan : StoredPlan) → Change
  SetMark : (mark : PlainMark) → Change

-- the three kinds, the mark and the generation of its cell, and a change of which it is in doubt whether it is in force
pub record StoreState : Type 0 where
  pub mission : KindState
  pub fence : KindState
  pub safe : KindState
  pub mark : PlainMark
  pub mark_generation : ℕ
  pub doubt : Option Change

-- what the store has of a kind
abbrev pub of_kind : StoreState → PlanType → KindState
of_kind st Mission = st.mission
of_kind st Fence = st.fence
of_kind st Safe = st.safe

-- the store with something else of a kind
abbrev pub with_kind : StoreState → PlanType → KindState → StoreState
with_kind st Mission new = record st { mission = new }
with_kind st Fence new = record st { fence = new }
with_kind st Safe new = record st { safe = new }

-- the plan in force of a kind
abbrev pub plan_of : StoreState → PlanType → StoredPlan
plan_of st kind = (of_kind st kind).plan

-- nothing was written
abbrev pub no_drafts : Drafts
no_drafts seq = None

-- the drafts with something else at a seq
abbrev pub put : Drafts → ℕ → Option Written → Drafts
put drafts seq new = λ other. if other == seq then new else drafts other

-- the item, where this was written for the plan of this id
abbrev pub item_for : ℕ → Option Written → Option Item
item_for id None = None
item_for id (Some written) = if written.id == id then Some written.item else None

-- the draft's item of this id at a seq: it is there where the last write at that seq was for the plan of this id
abbrev pub draft_at : Drafts → ℕ → ℕ → Option Item
draft_at drafts id seq = item_for id (drafts seq)

-- the draft of this id has its item at each seq below count
abbrev pub IsWhole : Drafts → ℕ → ℕ → Type 0
IsWhole drafts id count = (seq : ℕ) → seq < count → IsSome (draft_at drafts id seq)

-- the item, if there is one
abbrev pub if_any : Option Item → List Item
if_any None = []
if_any (Some item) = item ∷ []

-- the draft's items of this id at the seqs below count, in order
abbrev pub drafted : Drafts → ℕ → ℕ → List Item
drafted drafts id zero = []
drafted drafts id (suc seq) = drafted drafts id seq ++ if_any (draft_at drafts id seq)

-- the mark at the first item of the mission of this id
abbrev pub first_mark : ℕ → PlainMark
first_mark id = record { id = id; index = 0; pairs = [] }

-- the store with the mark at the first item, where it is a mission that is new
abbrev pub begun : StoreState → PlanType → ℕ → StoreState
begun st Mission id = record st { mark = first_mark id }
begun st other id = st

-- the store once a change is in force: a plan takes the place of the one before it, whole, and no drafts of its kind are
-- left; a mark takes the place of the mark
abbrev pub applied : StoreState → Change → StoreState
applied st (Commit kind plan) = begun (with_kind st kind (record { plan = plan; generation = (of_kind st kind).generation + 1; drafts = no_drafts })) kind plan.id
applied st (SetMark mark) = record st { mark = mark; mark_generation = st.mark_generation + 1 }

-- the store without a doubt: what was in force before the change stays in force
abbrev pub settled : StoreState → StoreState
settled st = record st { doubt = None }

-- the empty plan, whose cell has had one generation
abbrev pub no_plan : KindState
no_plan = record { plan = record { id = 0; items = [] }; generation = 1; drafts = no_drafts }

-- a new store: three empty plans of id 0, and no mark was stored
abbrev pub new_store : StoreState
new_store = record { mission = no_plan; fence = no_plan; safe = no_plan; mark = first_mark 0; mark_generation = 0; doubt = None }
