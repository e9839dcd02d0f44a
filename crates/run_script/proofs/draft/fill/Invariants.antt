use Rattle.std.proofs.Common.{◌≡◌, ◌++◌, map, take, drop}
use Rattle.run_script.specs.Gathered.{filled_with}
use Rattle.run_script.proofs.draft.fill.Given as goal

-- the boots in front of the place are done, and the others as they were
abbrev pub invariant-loop-place : goal.invariant-loop-place
invariant-loop-place l = l.boots.items ≡ map (filled_with l.fn.params l.fn.home l.fn.links l.fn.watchers) (take l.place l.fn.boots.items) ++ drop l.place l.fn.boots.items
