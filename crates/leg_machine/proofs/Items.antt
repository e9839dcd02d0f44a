-- What is known of the item of a valid mission, and what a step at it does in the mission.
use Rattle.std.proofs.Common.{◌≡◌, ℕ, ◌<◌, ◌==◌, Bool, true, false, List, Option, Some, None, IsSome, refl, sym, ap, subst, ◌∙◌, arith}
use Rattle.std.specs.Prelude.{slice_get}
use Rattle.std.proofs.lemmas.Bool.{eqb-true}
use Rattle.std.proofs.lemmas.Bool.Decides.{nat_tests}
use Rattle.mission_model.specs.declared.message.AckCode.{AckCode}
use Rattle.mission_model.specs.declared.command.CommandRule.{CommandRule}
use Rattle.mission_model.specs.declared.command.Jump.{Jump}
use Rattle.mission_model.specs.declared.command.TheConstants.{DO_JUMP}
use Rattle.mission_model.specs.declared.plan.Item.{Item}
use Rattle.mission_model.specs.declared.plan.PlanType.TheVariants.{Mission}
use Rattle.mission_model.specs.Command.{rule_of, jump_of}
use Rattle.mission_model.specs.ItemCode.{ItemCode, code_by}
use Rattle.mission_model.specs.PlanCode.{PlanCode, code_or}
use Rattle.mission_model.specs.Legs.{is_leg, is_action}
use Rattle.mission_model.specs.ValidPlan.{PlanValid-jump, jump_of-accepted}
use Rattle.leg_machine.specs.declared.machine.LegOut.{LegOut}
use Rattle.leg_machine.specs.declared.machine.LegOut.TheVariants as out
use Rattle.leg_machine.specs.AtItem.{LeadsWithin, StepsAt}
use Rattle.leg_machine.specs.MachineState.{MachineState}
use Rattle.leg_machine.specs.MissionItem.{IsItemAt}
use Rattle.leg_machine.specs.Stepping.{Steps}

-- a jump of a valid mission leads to an item of it
pub LeadsWithin-item : (count index : ℕ) (item : Item) → IsItemAt count index item → LeadsWithin count item
LeadsWithin-item count index item h jump is =
    let target = PlanValid-jump h.items index item jump h.valid h.stands is in
    subst (λ n. jump.target < n) h.same_count target.1

-- a command of missions is a leg, a jump or an action
is_action-row : (command : ℕ) (rule : CommandRule) → rule_of Mission command ≡ Some rule → is_leg command ≡ false → (DO_JUMP == command) ≡ false → is_action command ≡ true
unfolding rule_of
is_action-row command rule row leg jump = grind (arith, nat_tests)

code_or-first : (code other : Option AckCode) → code_or code other ≡ None → code ≡ None
code_or-first None other h = refl
code_or-first (Some code) other h = absurd cc

-- an item of a valid mission has no code by itself
ItemCode-item : (count index : ℕ) (item : Item) → IsItemAt count index item → ItemCode Mission item ≡ None
unfolding PlanCode
ItemCode-item count index item h = code_or-first _ _ (h.valid.accepted index item h.stands)

row_of : (row : Option CommandRule) (item : Item) → code_by row item ≡ None → (rule : CommandRule) × (row ≡ Some rule)
row_of None item h = absurd cc
row_of (Some rule) item h = (rule, refl)

-- an item without a code has a command of missions
rule_of-accepted : (item : Item) → ItemCode Mission item ≡ None → (rule : CommandRule) × (rule_of Mission item.command ≡ Some rule)
unfolding ItemCode
rule_of-accepted item h = row_of (rule_of Mission item.command) item h

not_true : (b : Bool) → (b ≡ true → ⊥) → b ≡ false
not_true true h = absurd (h refl)
not_true false h = refl

none_some : (jump : Option Jump) → jump ≡ None → IsSome jump → ⊥
none_some None h is = absurd cc
none_some (Some jump) h is = absurd cc

-- an item of a valid mission that is neither a leg nor a jump is an action
is_action-item : (count index : ℕ) (item : Item) → IsItemAt count index item → is_leg item.command ≡ false → jump_of item ≡ None → is_action item.command ≡ true
is_action-item count index item h leg none =
    let accepted = ItemCode-item count index item h in
    let row = rule_of-accepted item accepted in
    let other : (DO_JUMP == item.command) ≡ false = not_true _ (λ same. none_some (jump_of item) none (jump_of-accepted item (sym (eqb-true DO_JUMP item.command same)) accepted)) in
    is_action-row item.command row.0 row.1 leg other

-- what a step does at an item, it does in a valid mission where that item stands
pub Steps-item : (items : List Item) (item : Item) (old : MachineState) (answer : LegOut) (new : MachineState) → slice_get items old.index ≡ Some item → IsItemAt old.count old.index item → StepsAt item old answer new → Steps items old answer new
Steps-item items item old (out.Leg seq) new at valid h = (h.0, (item, at, h.1), ap (λ s. (s.index, s.pairs)) h.2)
Steps-item items item old (out.Action seq) new at valid h = (h.0, (item, at, is_action-item old.count old.index item valid h.1 h.2), ap (λ s. (s.index, s.pairs)) h.3)
Steps-item items item old (out.Jump seq to used) new at valid h =
    (h.2.0, h.0.repeats, (item, at, h.1 ∙ ap (λ t. Some (record { target = t; repeats = h.0.repeats })) (sym h.2.1)), h.2.2, h.2.3, ap (λ s. (s.index, s.pairs)) h.2.4)
Steps-item items item old (out.JumpSpent seq) new at valid h =
    (h.2.0, h.0.target, h.0.repeats, (item, at, h.1), h.2.1, ap (λ s. (s.index, s.pairs)) h.2.2)
Steps-item items item old out.Done new at valid h = absurd h.2
Steps-item items item old out.Pending new at valid h = absurd h.2
