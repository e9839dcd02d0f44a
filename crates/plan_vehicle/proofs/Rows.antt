-- What the code finds of a look is the row of the definition.
use Rattle.std.proofs.Common.{◌≡◌, ℕ, ◌+◌, ◌<◌, ◌≤◌, true, Option, Some, None, refl, sym, ap, ◌∙◌, subst}
use Rattle.std.specs.Prelude.{slice_get}
use Rattle.mission_model.specs.declared.plan.Item.{Item}
use Rattle.mission_model.specs.declared.command.Jump.{Jump}
use Rattle.mission_model.specs.declared.plan.PlanType.TheVariants.{Mission}
use Rattle.mission_model.specs.declared.vehicle.NavWhat.TheVariants as what
use Rattle.mission_model.specs.Legs.{is_leg, is_action, HasJump}
use Rattle.mission_model.specs.Pairs.{Takes, used_of, with_pair}
use Rattle.plan_vehicle.specs.PlanState.{told_at, told_items}
use Rattle.plan_vehicle.specs.VehicleState.{VehicleState}
use Rattle.plan_vehicle.specs.MissionEvents.{moved, mode_after, LooksOn}
use Rattle.plan_vehicle.specs.Looked.{IsAt, jump_told}
use Rattle.plan_vehicle.proofs.ToldItems.{told_at-known}

-- the item that is told at the index is the mission's item there
item_at : (v : VehicleState) (seq mission fence : ℕ) (item : Item) → IsAt v seq mission fence → told_at v.mission seq ≡ Some item → slice_get (told_items v.mission) v.index ≡ Some item
item_at v seq mission fence item at told =
    ap (slice_get (told_items v.mission)) (sym at.seq_is) ∙ sym (told_at-known Mission v.mission seq at.judged.mission_known) ∙ told

pub leg_shown : (v new : VehicleState) (seq mission fence : ℕ) (item : Item) → IsAt v seq mission fence → told_at v.mission seq ≡ Some item → is_leg item.command ≡ true → new ≡ record v { at_leg = true } → LooksOn v (what.Leg seq mission fence item) new
leg_shown v new seq mission fence item at told leg after =
    (record { judged = at.judged; feasible = at.feasible; step = (at.seq_is, (item, item_at v seq mission fence item at told, leg), refl) }, told, after)

pub action_done : (v new : VehicleState) (seq mission fence : ℕ) (item : Item) → IsAt v seq mission fence → told_at v.mission seq ≡ Some item → is_action item.command ≡ true → new ≡ record (moved v (seq + 1) v.counts) { mode = mode_after v.mode item } → LooksOn v (what.Action seq mission fence item) new
action_done v new seq mission fence item at told action after =
    (record { judged = at.judged; feasible = at.feasible; step = (at.seq_is, (item, item_at v seq mission fence item at told, action), refl) }, told, after ∙ ap (λ i. record (moved v (i + 1) v.counts) { mode = mode_after v.mode item }) at.seq_is)

-- a told jump at the index is the mission's jump there
pub jump_at : (v : VehicleState) (seq mission fence : ℕ) (jump : Jump) (told : Option Item) → told_at v.mission seq ≡ told → jump_told told ≡ Some jump → IsAt v seq mission fence → HasJump (told_items v.mission) v.index jump.target jump.repeats
jump_at v seq mission fence jump None is h at = absurd cc
jump_at v seq mission fence jump (Some item) is h at = (item, item_at v seq mission fence item at is, h)

pub jump_taken : (v new : VehicleState) (seq to used mission fence : ℕ) (jump : Jump) → IsAt v seq mission fence → jump_told (told_at v.mission seq) ≡ Some jump → jump.target ≡ to → Takes v.counts seq → used_of v.counts seq < jump.repeats → used ≡ used_of v.counts seq + 1 → new ≡ moved v to (with_pair v.counts seq used) → LooksOn v (what.Jump seq to used mission fence) new
jump_taken v new seq to used mission fence jump at is leads takes left count after =
    let there = jump_at v seq mission fence jump (told_at v.mission seq) refl is at in (
      record {
        judged = at.judged;
        feasible = at.feasible;
        step = (at.seq_is, jump.repeats, subst (λ t. HasJump (told_items v.mission) v.index t jump.repeats) leads there, subst (λ i. used_of v.counts i < jump.repeats) at.seq_is left, subst (λ i. used ≡ used_of v.counts i + 1) at.seq_is count, refl);
      },
      subst (Takes v.counts) at.seq_is takes,
      after ∙ ap (λ i. moved v to (with_pair v.counts i used)) at.seq_is,
    )

pub jump_passed : (v new : VehicleState) (seq mission fence : ℕ) (jump : Jump) → IsAt v seq mission fence → jump_told (told_at v.mission seq) ≡ Some jump → jump.repeats ≤ used_of v.counts seq → new ≡ moved v (seq + 1) v.counts → LooksOn v (what.JumpSpent seq mission fence) new
jump_passed v new seq mission fence jump at is spent after = (
  record {
    judged = at.judged;
    feasible = at.feasible;
    step = (at.seq_is, jump.target, jump.repeats, jump_at v seq mission fence jump (told_at v.mission seq) refl is at, subst (λ i. jump.repeats ≤ used_of v.counts i) at.seq_is spent, refl);
  },
  after ∙ ap (λ i. moved v (i + 1) v.counts) at.seq_is,
)
