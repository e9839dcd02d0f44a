-- What a mission does at the place where it is: a leg of it, an action, a jump, or its end.
use Rattle.std.specs.Prelude.{◌≡◌, ℕ, ◌+◌, ◌<◌, ◌≤◌, ◌==◌, Bool, true, List, [], ◌∷◌, Some, length, slice_get}
use Rattle.std.specs.List.{list_any}
use Rattle.first_model.specs.declared.plan.Item.{Item}
use Rattle.first_model.specs.declared.command.TheConstants.{NAV_WAYPOINT, NAV_LOITER_UNLIM, NAV_LOITER_TURNS, NAV_LOITER_TIME, NAV_RETURN_TO_LAUNCH, NAV_LAND, NAV_TAKEOFF, NAV_DELAY, DO_CHANGE_SPEED, DO_LAND_START}
use Rattle.first_model.specs.Command.{jump_of}
use Rattle.first_model.specs.Pairs.{used_of, with_pair}

-- the command is one of these
abbrev pub is_among : List ℕ → ℕ → Bool
is_among commands command = list_any (λ other. other == command) commands

-- the command is a leg: the vehicle flies it, or waits there, until it is reached
abbrev pub is_leg : ℕ → Bool
is_leg command = is_among (NAV_WAYPOINT ∷ NAV_LOITER_UNLIM ∷ NAV_LOITER_TURNS ∷ NAV_LOITER_TIME ∷ NAV_LAND ∷ NAV_TAKEOFF ∷ NAV_DELAY ∷ []) command

-- the command is an action: it is done at once
abbrev pub is_action : ℕ → Bool
is_action command = is_among (NAV_RETURN_TO_LAUNCH ∷ DO_CHANGE_SPEED ∷ DO_LAND_START ∷ []) command

-- what a mission does: it shows a leg; it does an action; it takes a jump to a seq, which is used this often then; it
-- passes a jump that is used up; it has come to its end
pub data LegEvent : Type 0 where
  Leg : (seq : ℕ) → LegEvent
  Action : (seq : ℕ) → LegEvent
  Jump : (seq to used : ℕ) → LegEvent
  JumpSpent : (seq : ℕ) → LegEvent
  Done : LegEvent

-- the item at this index has a command of this sort
abbrev pub HasCommand : List Item → ℕ → (ℕ → Bool) → Type 0
HasCommand items i is_sort = (item : Item) × (slice_get items i ≡ Some item) × (is_sort item.command ≡ true)

-- the item at this index is a jump that leads to this seq and is taken this often
abbrev pub HasJump : List Item → ℕ → ℕ → ℕ → Type 0
HasJump items i target repeats = (item : Item) × (slice_get items i ≡ Some item) × (jump_of item ≡ Some (record { target = target; repeats = repeats }))

-- A mission of these items that is at index i, its jumps used as the pairs in counts say, does this, and is then at
-- another index with other counts:
-- a leg stays where it is; an action goes one on; a jump with repeats left goes to its target, and is used once more;
-- one without goes one on; behind the last item nothing is left to do.
abbrev pub LegStep : List Item → ℕ × List (ℕ × ℕ) → LegEvent → ℕ × List (ℕ × ℕ) → Type 0
LegStep items (i, counts) (Leg seq) after = (seq ≡ i) × HasCommand items i is_leg × (after ≡ (i, counts))
LegStep items (i, counts) (Action seq) after = (seq ≡ i) × HasCommand items i is_action × (after ≡ (i + 1, counts))
LegStep items (i, counts) (Jump seq to used) after = (seq ≡ i) × (repeats : ℕ) × HasJump items i to repeats × (used_of counts i < repeats) × (used ≡ used_of counts i + 1) × (after ≡ (to, with_pair counts i used))
LegStep items (i, counts) (JumpSpent seq) after = (seq ≡ i) × (target repeats : ℕ) × HasJump items i target repeats × (repeats ≤ used_of counts i) × (after ≡ (i + 1, counts))
LegStep items (i, counts) Done after = (i ≡ length items) × (after ≡ (i, counts))
