-- A plan without its home, which a ground station writes as its first row.
use Rattle.std.specs.Prelude.{List, [], ◌∷◌, map, ◌==◌, if◌then◌else◌, pos, negsuc, ◌-ℤ◌}
use Rattle.first_model.specs.declared.plan.Param.{Param}
use Rattle.first_model.specs.declared.plan.Param.TheVariants.{Unset, Milli}
use Rattle.first_model.specs.declared.plan.Item.{Item}
use Rattle.first_model.specs.declared.command.TheConstants.{DO_JUMP}

-- a jump's target, in thousandths, where one row in front of it is gone; a negative one stays as it is
abbrev pub one_less : Param → Param
one_less Unset = Unset
one_less (Milli (pos n)) = Milli (pos n -ℤ pos 1000)
one_less (Milli (negsuc n)) = Milli (negsuc n)

-- an item where the row of the home is gone: a jump goes one row less far
abbrev pub retargeted : Item → Item
retargeted item = if item.command == DO_JUMP then record item { p1 = one_less item.p1 } else item

-- the items behind the home
abbrev pub without_home : List Item → List Item
without_home [] = []
without_home (home ∷ items) = map retargeted items
