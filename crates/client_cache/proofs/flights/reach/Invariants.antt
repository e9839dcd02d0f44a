-- So many flags were added.
use Rattle.std.proofs.Common.{◌≡◌, ◌++◌, ◌≤◌, false, replicate}
use Rattle.std.specs.Vec.{vec_capacity}
use Rattle.client_cache.specs.declared.flights.TheConstants.{SEQS}
use Rattle.client_cache.proofs.flights.reach.Given as goal

abbrev pub invariant-loop : goal.invariant-loop
invariant-loop l = (l.flags.items ≡ l.fn.flags.items ++ replicate l.counter false) × (SEQS ≤ vec_capacity l.flags)
