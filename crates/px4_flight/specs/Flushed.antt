-- The status once standard output was flushed.
use Rattle.std.specs.Prelude.{Result, Err}
use Rattle.io_edges.specs.declared.edges.Failed.{Failed}
use Rattle.first_runner.specs.declared.status.Status.{Status}
use Rattle.first_runner.specs.declared.status.Status.TheVariants as status

-- a flush that fails makes a write fault of status 0; every other status stays
abbrev pub after_flush : Result (Unit {0}) Failed → Status → Status
after_flush (Err failed) status.Ok = status.WriteFault
after_flush flushed given = given
