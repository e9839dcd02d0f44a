-- Which items of a mission go with the uses of its jumps. The Navigator treats any other item as one that is not known.
use Rattle.std.specs.Prelude.{ℕ, ◌==◌, ◌&&◌, ◌||◌, Bool, true, List, length, nat_le, nat_lt, Option, Some, None}
use Rattle.mission_model.specs.declared.command.Jump.{Jump}
use Rattle.mission_model.specs.declared.limits.TheConstants.{MAX_JUMPS}
use Rattle.mission_model.specs.declared.plan.Item.{Item}
use Rattle.mission_model.specs.declared.plan.PlanType.{PlanType}
use Rattle.mission_model.specs.declared.plan.PlanType.TheVariants.{Mission}
use Rattle.mission_model.specs.Command.{jump_of}
use Rattle.mission_model.specs.Pairs.{used_of}

-- the uses that the boot's mark names, while its mission is in force, and those of the jumps that count now
pub record JumpUses : Type 0 where
  pub boot : List (ℕ × ℕ)
  pub counts : List (ℕ × ℕ)

-- a jump repeats at least as often as the mark says it was used, and nothing else was used
abbrev pub allows_used : ℕ → Option Jump → Bool
allows_used used None = used == 0
allows_used used (Some jump) = nat_le used jump.repeats

-- the counts have a pair for the jump at this seq, or a place for one more
abbrev pub leaves_room : List (ℕ × ℕ) → ℕ → Option Jump → Bool
leaves_room counts seq None = true
leaves_room counts seq (Some jump) = nat_lt 0 (used_of counts seq) || nat_lt (length counts) MAX_JUMPS

-- the item goes with these uses at this seq; a vertex and a safe point go with any
abbrev pub goes_with : PlanType → JumpUses → ℕ → Item → Bool
goes_with Mission uses seq item = allows_used (used_of uses.boot seq) (jump_of item) && leaves_room uses.counts seq (jump_of item)
goes_with other uses seq item = true
