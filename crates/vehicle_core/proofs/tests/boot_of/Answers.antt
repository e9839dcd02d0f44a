-- The boot is in limits.
use Rattle.std.proofs.Common.{◌≤◌, arith}
use Rattle.vehicle_core.proofs.tests.boot_of.Goals as goal

pub returns-clause-limits : goal.returns-clause-limits
returns-clause-limits c = record { params = record { tko_land = omega arith; rtl_type = omega arith }; links = omega arith; watchers = omega arith; inputs = c.requires }
