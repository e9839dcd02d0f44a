-- A store of plans as banks hold it: what they say, and what a read of their disk gives.
use Rattle.std.specs.Prelude.{◌≡◌, ℕ, ◌-◌, ◌<◌, List, Some}
use Rattle.mission_model.specs.declared.plan.PlanType.{PlanType}
use Rattle.mission_model.specs.PlanCode.{limit_of}
use Rattle.plan_store.specs.declared.places.Written.{Written}
use Rattle.plan_store.specs.StoreState.{Drafts, StoreState, of_kind, plan_of}
use Rattle.bank_state.specs.Plans.{Holding}
use Rattle.bank_state.specs.StandsFor.{record_in}
use Rattle.bank_state.specs.Ledger.{Ledger, plan_by, mark_by}
use Rattle.bank_state.specs.Store.{MayBe, doubt_in}

-- the plans and the mark of a store, for which an image stands
abbrev pub holding_of : StoreState → Holding
holding_of st = record { plans = record { mission = st.mission.plan; fence = st.fence.plan; safe = st.safe.plan }; mark = st.mark }

-- an image stands for the store, or for it with its doubt applied
abbrev pub MayStandFor : StoreState → List ℕ → Type 0
MayStandFor st image = MayBe (holding_of st) st.doubt image

-- each item that was written for a plan newer than the one of this id is read as its record in a bank
abbrev pub HasDrafts : Drafts → ℕ → PlanType → ℕ → List ℕ → Type 0
HasDrafts drafts id kind bank image = (seq : ℕ) (written : Written) → seq < limit_of kind → drafts seq ≡ Some written → id < written.id
    → record_in kind bank seq image ≡ Some (record { kind = kind; id = written.id; seq = seq; item = written.item })

-- Banks that say this, over a disk that reads so, hold the store: its plans, its mark and its doubt are theirs, its
-- generations are those of their cells, and what was written for the next plan of a kind stands in the spare bank.
pub record Holds (st : StoreState) (ledger : Ledger) (seen : List ℕ) : Type 0 where
  pub plans : (kind : PlanType) → plan_of st kind ≡ plan_by ledger kind seen
  pub generations : (kind : PlanType) → (of_kind st kind).generation ≡ (ledger.entries kind).generation
  pub drafts : (kind : PlanType) → HasDrafts (of_kind st kind).drafts (ledger.entries kind).head.id kind (1 - (ledger.entries kind).bank) seen
  pub mark : st.mark ≡ mark_by ledger
  pub mark_generation : st.mark_generation ≡ ledger.mark_generation
  pub doubt : st.doubt ≡ doubt_in ledger ledger.doubt seen
