-- What banks say and a read gives, where the records of the banks stay.
use Rattle.std.proofs.Common.{◌≡◌, ℕ, ◌-◌, ◌<◌, ◌≤◌, List, Option, Some, None, refl, arith}
use Rattle.mission_model.specs.declared.plan.PlanType.{PlanType}
use Rattle.mission_model.specs.declared.plan.PlanHead.{PlanHead}
use Rattle.mission_model.specs.PlanCode.{limit_of}
use Rattle.disk_model.specs.Disk.{DiskState}
use Rattle.plan_store.specs.StoreState.{Commit}
use Rattle.bank_state.specs.declared.parts.Parts.{Parts}
use Rattle.bank_state.specs.declared.parts.Doubt.{Doubt}
use Rattle.bank_state.specs.declared.parts.Doubt.TheVariants as doubt
use Rattle.bank_state.specs.StandsFor.{record_in}
use Rattle.bank_state.specs.Frames.{items_same}
use Rattle.bank_state.specs.Ledger.{Ledger, ledger_of, plan_in}
use Rattle.bank_state.specs.Store.{IsStore, InDoubt, doubt_in}

-- a plan in doubt is within its limit
abbrev pub DoubtLimited : Option Doubt → Type 0
DoubtLimited None = Unit {0}
DoubtLimited (Some (doubt.Plan kind head)) = head.count ≤ limit_of kind
DoubtLimited (Some (doubt.Mark mark)) = Unit {0}

-- each bank in force is one of two, and each plan within its limit
pub record Limited (ledger : Ledger) : Type 0 where
  pub banks : (kind : PlanType) → (ledger.entries kind).bank < 2
  pub counts : (kind : PlanType) → (ledger.entries kind).head.count ≤ limit_of kind
  pub doubt : DoubtLimited ledger.doubt

doubt_limited : (parts : Parts) (d : Option Doubt) (disk : DiskState) → InDoubt parts d disk → DoubtLimited d
doubt_limited parts None disk doubted = tt
doubt_limited parts (Some (doubt.Plan kind head)) disk doubted = doubted.within
doubt_limited parts (Some (doubt.Mark mark)) disk doubted = tt

-- as in a store
pub limited : (parts : Parts) (disk : DiskState) → IsStore parts disk → Limited (ledger_of parts)
limited parts disk store = record { banks = λ kind. (store.each kind).bank; counts = λ kind. (store.each kind).count; doubt = doubt_limited parts parts.doubt disk store.in_doubt }

-- each record of each bank is the same
abbrev pub Same : List ℕ → List ℕ → Type 0
Same old new = (kind : PlanType) (bank seq : ℕ) → seq < limit_of kind → record_in kind bank seq new ≡ record_in kind bank seq old

pub plan_same : (kind : PlanType) (bank : ℕ) (head : PlanHead) (old new : List ℕ) → head.count ≤ limit_of kind → Same old new → plan_in kind bank head new ≡ plan_in kind bank head old
plan_same kind bank head old new within same =
    let items = items_same kind bank head.count old new (λ seq below. same kind bank seq (omega (arith, below, within))) in
    λ i. record { id = head.id; items = items i }

pub doubt_same : (ledger : Ledger) (d : Option Doubt) (old new : List ℕ) → DoubtLimited d → Same old new → doubt_in ledger d new ≡ doubt_in ledger d old
doubt_same ledger None old new within same = refl
doubt_same ledger (Some (doubt.Plan kind head)) old new within same =
    let plan = plan_same kind (1 - (ledger.entries kind).bank) head old new within same in
    λ i. Some (Commit kind (plan i))
doubt_same ledger (Some (doubt.Mark mark)) old new within same = refl
