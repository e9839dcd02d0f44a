use Rattle.std.proofs.Common.{◌≡◌, true, drop, sym, rules}
use Rattle.dataman_layout.specs.Fields.{is_zeros}
use Rattle.dataman_layout.specs.CompatLaws.{compat_bytes-record}
use Rattle.dataman_layout.proofs.compat.decode_compat.Goals as goal

pub returns-then-is_zeros_from-clause-bytes : goal.returns-then-is_zeros_from-clause-bytes
returns-then-is_zeros_from-clause-bytes c =
    let zeros : is_zeros (drop 4 c.args.bytes.now) ≡ true = search rules in
    compat_bytes-record c.args.bytes.now c.version_in.result c.fits-bytes (record { size = search rules; version = sym c.version_in.ensures; rest = zeros })
