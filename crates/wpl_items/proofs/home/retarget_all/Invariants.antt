use Rattle.std.proofs.Common.{◌≡◌, ◌++◌, map, take, drop}
use Rattle.wpl_items.specs.Home.{retargeted}
use Rattle.wpl_items.proofs.home.retarget_all.Given as goal

-- the items in front of the place are done, and the others as they were
abbrev pub invariant-loop-place : goal.invariant-loop-place
invariant-loop-place l = l.items.items ≡ map retargeted (take l.place l.fn.items.items) ++ drop l.place l.fn.items.items
