-- The one boot of a script that may be flown.
use Rattle.std.proofs.Common.{◌≡◌, List, [], ◌∷◌, ◌++◌, subst}
use Rattle.first_model.specs.declared.schedule.BootScript.{BootScript}
use Rattle.first_script.specs.Flyable.{AreFlyable, IsFlyableBoot}

last_of : (boots : List BootScript) (boot : BootScript) → AreFlyable (boots ++ boot ∷ []) → IsFlyableBoot boot
last_of [] boot flyable = flyable
last_of (first ∷ []) boot flyable = absurd flyable
last_of (first ∷ next ∷ more) boot flyable = absurd flyable

-- the last boot of boots that may be flown
pub last_flyable : (all boots : List BootScript) (boot : BootScript) → AreFlyable all → all ≡ boots ++ boot ∷ [] → IsFlyableBoot boot
last_flyable all boots boot flyable is = last_of boots boot (subst AreFlyable is flyable)
