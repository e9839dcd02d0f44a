use Rattle.std.proofs.Common.{◌≡◌, ◌+◌, ◌*◌, ℕ, List, length, Option, Some, None, IfSome, IfNone, sym, rules}
use Rattle.mission_model.specs.declared.counts.Mark.{Mark}
use Rattle.dataman_layout.specs.Mark.{PlainMark, MarkRecord, mark_in, plain_mark, plain_marks}
use Rattle.dataman_layout.specs.MarkLaws.{mark_in-record, record-mark_in}
use Rattle.dataman_layout.proofs.mark.mark_of.Goals as goal

found : (most : ℕ) (read : Option Mark) (bytes : List ℕ) → length bytes ≡ 7 + 4 * most → plain_marks read ≡ mark_in most bytes → IfSome read (λ m. MarkRecord most bytes (plain_mark m))
found most None bytes size e = tt
found most (Some m) bytes size e = record-mark_in most bytes (plain_mark m) size (sym e)

none : (most : ℕ) (read : Option Mark) (bytes : List ℕ) → plain_marks read ≡ mark_in most bytes → IfNone read ((mark : PlainMark) → MarkRecord most bytes mark → ⊥)
none most None bytes e = λ mark is. absurd (cc (e, mark_in-record most bytes mark is))
none most (Some m) bytes e = tt

pub returns-clause-found : goal.returns-clause-found
returns-clause-found c = found c.args.most c.fields_of.result c.args.bytes.now (search rules) c.fields_of.ensures

pub returns-clause-none : goal.returns-clause-none
returns-clause-none c = none c.args.most c.fields_of.result c.args.bytes.now c.fields_of.ensures
