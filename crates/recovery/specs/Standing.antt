-- What an image without a fault stands for, and what a boot tells of it.
use Rattle.dataman_layout.specs.Layouts.{most_pairs}
use Rattle.dataman_layout.specs.declared.layout.Layout.{Layout}
use Rattle.std.specs.Prelude.{◌≡◌, ◌↔◌, ℕ, ◌+◌, ◌==◌, List, [], ◌∷◌, Option, Some, None, unwrap_or, if◌then◌else◌}
use Rattle.mission_model.specs.declared.plan.PlanHead.{PlanHead}
use Rattle.mission_model.specs.declared.plan.PlanType.TheVariants.{Mission, Fence, Safe}
use Rattle.mission_model.specs.declared.vehicle.BootState.{BootState}
use Rattle.mission_model.specs.PlainMark.{PlainMark, plain_mark}
use Rattle.gated_cell.specs.Cell.{Held, Empty, Twins, InForce, held}
use Rattle.dataman_layout.specs.Mark.{mark_in}
use Rattle.plan_store.specs.StoreState.{first_mark}
use Rattle.bank_state.specs.Plans.{Plans, Holding, head_of}
use Rattle.bank_state.specs.StandsFor.{mark_cell, StandsFor}
use Rattle.bank_state.specs.Ledger.{Ledger, mark_by}
use Rattle.recovery.specs.Faults.{fault_in, plan_at}

-- the mark where it is the mission's
abbrev pub kept_of : ℕ → Option PlainMark → Option PlainMark
kept_of id None = None
kept_of id (Some mark) = if mark.id == id then Some mark else None

-- the stored mark of the mission of this id, if one is stored
abbrev pub mark_at : Layout → ℕ → Held → Option PlainMark
mark_at layout id Empty = None
mark_at layout id (Twins generation) = None
mark_at layout id (InForce second generation payload) = kept_of id (mark_in (most_pairs layout) payload)

-- the plans in force in a layout, and the mark: the mission's where one is stored, and else its begin
abbrev pub holding_by : Layout → List ℕ → Holding
holding_by layout image =
    let mission = plan_at layout Mission image in
    record {
      plans = record { mission = mission; fence = plan_at layout Fence image; safe = plan_at layout Safe image };
      mark = unwrap_or (mark_at layout mission.id (held (mark_cell layout) image)) (first_mark mission.id);
    }

-- a boot tells the heads of these plans and this mark
pub record Tells (state : BootState) (plans : Plans) (mark : PlainMark) : Type 0 where
  pub heads : state.heads ≡ head_of plans.mission ∷ head_of plans.fence ∷ head_of plans.safe ∷ []
  pub marked : plain_mark state.mark ≡ mark

-- how many items these plans have
abbrev pub items_of : List PlanHead → ℕ
items_of [] = 0
items_of (head ∷ heads) = head.count + items_of heads

-- it tells what banks say
pub record TellsBanks (state : BootState) (ledger : Ledger) : Type 0 where
  pub heads : state.heads ≡ (ledger.entries Mission).head ∷ (ledger.entries Fence).head ∷ (ledger.entries Safe).head ∷ []
  pub marked : plain_mark state.mark ≡ mark_by ledger

-- An image has no fault exactly where it stands for something.
abbrev pub NoFaultExactly : List ℕ → Type 0
NoFaultExactly image = (fault_in image ≡ None) ↔ ((plans : Plans) × (mark : PlainMark) × StandsFor image plans mark)
