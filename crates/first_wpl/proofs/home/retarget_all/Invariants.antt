use Rattle.std.proofs.Common.{◌≡◌, ◌++◌, map, take, drop}
use Rattle.first_wpl.specs.Home.{retargeted}
use Rattle.first_wpl.proofs.home.retarget_all.Given as goal

-- the items in front of the place are done, and the others as they were
abbrev pub invariant-loop-place : goal.invariant-loop-place
invariant-loop-place l = l.items.items ≡ map retargeted (take l.place l.fn.items.items) ++ drop l.place l.fn.items.items
