-- The bytes of what was read.
use Rattle.std.proofs.Common.{◌≡◌, ℕ, List, Option, Some, None, IfSome}
use Rattle.mission_model.specs.declared.counts.Mark.{Mark}
use Rattle.dataman_layout.specs.Fields.{IsBytes}
use Rattle.dataman_layout.specs.Mark.{MarkRecord, mark_bytes, plain_mark}
use Rattle.dataman_layout.specs.MarkLaws.{mark_bytes-record}

pub mark_spelled : (most : ℕ) (read : Option Mark) (bytes : List ℕ) → IsBytes bytes → IfSome read (λ m. MarkRecord most bytes (plain_mark m)) → IfSome read (λ m. bytes ≡ mark_bytes most (plain_mark m))
mark_spelled most None bytes low is = tt
mark_spelled most (Some m) bytes low is = mark_bytes-record most bytes (plain_mark m) low is
