-- What is left to be seated, and that there is room for it.
use Rattle.std.proofs.Common.{◌≡◌, ◌≤◌, ◌+◌, length, vec_len, vec_capacity}
use Rattle.vehicle_core.specs.Crew.{crew_of}
use Rattle.vehicle_core.proofs.Seating.{LinksLeft, WatchersLeft}
use Rattle.vehicle_core.proofs.crew.crew.Given as goal

abbrev pub invariant-loop-number : goal.invariant-loop-number
invariant-loop-number g l = LinksLeft l.number l.fn.links l.locals.items l.fn.navigator l.schedules.rest.items l.fn.watchers.items (crew_of l.fn.links l.fn.navigator l.fn.schedules.items l.fn.watchers.items) × (vec_len l.locals + length l.schedules.rest.items ≤ vec_capacity l.locals)

abbrev pub invariant-loop-watcher : goal.invariant-loop-watcher
invariant-loop-watcher g l = WatchersLeft l.number l.fn.links l.locals.items l.schedules.rest.items l.watcher-iterator.rest.items (crew_of l.fn.links l.fn.navigator l.fn.schedules.items l.fn.watchers.items) × (vec_len l.locals + length l.schedules.rest.items ≤ vec_capacity l.locals) × (l.number + length l.watcher-iterator.rest.items ≡ length l.fn.watchers.items)
