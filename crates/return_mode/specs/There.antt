-- Targets that are there: what a return shows is an item of the mission, a home that is set, or one of the safe points.
use Rattle.std.specs.Prelude.{◌≡◌, ℕ, ◌<◌, Bool, true, false, List, [], ◌∷◌, drop, slice_get, Option, Some, IsSome, if◌then◌else◌}
use Rattle.std.proofs.Common.{subst}
use Rattle.mission_model.specs.declared.plan.Home.{Home}
use Rattle.mission_model.specs.declared.vehicle.Look.{Look}
use Rattle.mission_model.specs.declared.vehicle.Look.TheVariants.{Here, Pending}
use Rattle.mission_model.specs.Returns.{ReturnTarget, to_item, to_home, to_safe, is_return_leg}
use Rattle.return_mode.specs.declared.plan.ReturnOut.{ReturnOut}
use Rattle.return_mode.specs.declared.plan.ReturnOut.TheVariants as out
use Rattle.return_mode.specs.ReturnState.{ReturnState, seq_at, seq_of, shown_at_end, out_at, out_of, after_out, after_reached}

-- what a return may lead to: the home where it is set, so many items of the mission, and so many safe points
pub record Places : Type 0 where
  pub home : Option Home
  pub items : ℕ
  pub points : ℕ

-- the target is there
abbrev pub IsThere : Places → ReturnTarget → Type 0
IsThere places (to_item seq) = seq < places.items
IsThere places to_home = IsSome places.home
IsThere places (to_safe seq) = seq < places.points

-- each of these targets is there
abbrev pub AreThere : Places → List ReturnTarget → Type 0
AreThere places [] = Unit {0}
AreThere places (target ∷ rest) = IsThere places target × AreThere places rest

-- what is shown is there
abbrev pub OutThere : Places → ReturnOut → Type 0
OutThere places (out.Leg seq) = seq < places.items
OutThere places (out.Skip seq) = seq < places.items
OutThere places out.Home = IsSome places.home
OutThere places (out.Safe seq) = seq < places.points
OutThere places out.None = Unit {0}
OutThere places out.Done = Unit {0}
OutThere places out.Pending = Unit {0}

AreThere-drop : (places : Places) (targets : List ReturnTarget) → AreThere places targets → AreThere places (drop 1 targets)
AreThere-drop places [] h = tt
AreThere-drop places (target ∷ rest) h = h.1

-- an item that is the present target is one of the mission
pub seq_of-there : (places : Places) (state : ReturnState) (seq : ℕ) → AreThere places state.left → seq_of state ≡ Some seq → seq < places.items
seq_of-there places state seq h is = at state.left h is
  where
    same : {a b : ℕ} → Some a ≡ Some b → a ≡ b
    same h = cc

    at : (left : List ReturnTarget) → AreThere places left → seq_at (slice_get left 0) ≡ Some seq → seq < places.items
    at [] h is = absurd cc
    at (to_item first ∷ rest) h is = subst (λ (n : ℕ). n < places.items) (same is) h.0
    at (to_home ∷ rest) h is = absurd cc
    at (to_safe first ∷ rest) h is = absurd cc

-- what is shown of the present target is there
pub out_of-there : (places : Places) (state : ReturnState) (look : Look) → AreThere places state.left → OutThere places (out_of state look)
out_of-there places state look h = at state.left state.is_none look h
  where
    at_end : (is_none : Bool) → OutThere places (shown_at_end is_none)
    at_end true = tt
    at_end false = tt

    leg_or_skip : (leg : Bool) (seq : ℕ) → seq < places.items → OutThere places (if leg then out.Leg seq else out.Skip seq)
    leg_or_skip true seq below = below
    leg_or_skip false seq below = below

    at : (left : List ReturnTarget) (is_none : Bool) (look : Look) → AreThere places left → OutThere places (out_at is_none (slice_get left 0) look)
    at [] is_none look h = at_end is_none
    at (to_item seq ∷ rest) is_none (Here item) h = leg_or_skip (is_return_leg item) seq h.0
    at (to_item seq ∷ rest) is_none Pending h = tt
    at (to_home ∷ rest) is_none look h = h.0
    at (to_safe seq ∷ rest) is_none look h = h.0

-- the targets that are left after something was shown are there, too
pub after_out-there : (places : Places) (state : ReturnState) (shown : ReturnOut) → AreThere places state.left → AreThere places (after_out state shown).left
after_out-there places state (out.Leg seq) h = h
after_out-there places state (out.Skip seq) h = AreThere-drop places state.left h
after_out-there places state out.Home h = h
after_out-there places state (out.Safe seq) h = h
after_out-there places state out.None h = h
after_out-there places state out.Done h = h
after_out-there places state out.Pending h = h

-- and so are those that are left after one was reached
pub after_reached-there : (places : Places) (state : ReturnState) → AreThere places state.left → AreThere places (after_reached state).left
after_reached-there places state h = by state.shown
  where
    by : (shown : Bool) → AreThere places (if shown then record { left = drop 1 state.left; is_none = state.is_none; shown = false } else state).left
    by true = AreThere-drop places state.left h
    by false = h
