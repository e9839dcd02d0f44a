-- What a boot finds, where its heads and its mark fit one another.
use Rattle.std.specs.Prelude.{◌≡◌, ℕ, ◌<◌, ◌≤◌}
use Rattle.std.specs.List.{All}
use Rattle.mission_model.specs.declared.plan.Item.{Item}
use Rattle.mission_model.specs.declared.plan.PlanType.{PlanType}
use Rattle.mission_model.specs.declared.plan.PlanType.TheVariants.{Mission}
use Rattle.mission_model.specs.declared.command.Jump.{Jump}
use Rattle.mission_model.specs.declared.vehicle.BootState.{BootState}
use Rattle.mission_model.specs.Command.{jump_of}
use Rattle.mission_model.specs.CountsList.{pairs_of}
use Rattle.mission_model.specs.PlanTypes.{limit_of, head_of}
use Rattle.std.specs.Prelude.{Some}

-- each count is within its limit; the mark is of the mission, stands at one of its items or at its end, and counts jumps
-- at seqs of it alone
pub record StateInLimits (state : BootState) : Type 0 where
  pub counts : (kind : PlanType) → (head_of state.heads kind).count ≤ limit_of kind
  pub id : state.mark.id ≡ (head_of state.heads Mission).id
  pub index : state.mark.index ≤ (head_of state.heads Mission).count
  pub pairs : All (λ (pair : ℕ × ℕ). pair.0 < (head_of state.heads Mission).count) (pairs_of state.mark.counts)

-- the item is a DO_JUMP that repeats at least this often
abbrev pub IsUsedJump : Item → ℕ → Type 0
IsUsedJump item used = (jump : Jump) × (jump_of item ≡ Some jump) × (used ≤ jump.repeats)
