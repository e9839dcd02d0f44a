-- The targets that a rule stands for.
use Rattle.std.specs.Prelude.{Bool, true, false, List, [], ◌∷◌, ◌++◌, Option, Some, None}
use Rattle.mission_model.specs.Returns.{ReturnTarget, to_item, to_home, to_safe, items_to, items_back}
use Rattle.return_mode.specs.declared.route.Target.{Target}
use Rattle.return_mode.specs.declared.route.Target.TheVariants as target
use Rattle.return_mode.specs.declared.route.Route.{Route}
use Rattle.return_mode.specs.declared.route.Route.TheVariants.{Nowhere, To, Onward, Back}

-- a target
abbrev pub as_target : Target → ReturnTarget
as_target (target.Item seq) = to_item seq
as_target target.Home = to_home
as_target (target.Safe seq) = to_safe seq

-- a target, or none
abbrev pub as_targets : Option Target → Option ReturnTarget
as_targets None = None
as_targets (Some t) = Some (as_target t)

-- the home, where it is set
abbrev pub home_if : Bool → List ReturnTarget
home_if true = to_home ∷ []
home_if false = []

-- the targets that are left
abbrev pub targets_of : Route → List ReturnTarget
targets_of Nowhere = []
targets_of (To t) = as_target t ∷ []
targets_of (Onward first last) = items_to first last
targets_of (Back index has_home) = items_back index ++ home_if has_home
