use Rattle.std.proofs.Common.{◌≡◌, ℕ, List, length, Option, Some, None, IfSome, IfNone, sym, rules}
use Rattle.dataman_layout.specs.declared.item.Record.{Record}
use Rattle.dataman_layout.specs.Fields.{IsBytes}
use Rattle.dataman_layout.specs.Item.{ItemRecord, item_bytes, item_in}
use Rattle.dataman_layout.specs.ItemLaws.{item_in-record, record-item_in, item_bytes-record}
use Rattle.dataman_layout.proofs.item.decode_item.Goals as goal

found : (read : Option Record) (bytes : List ℕ) → length bytes ≡ 48 → read ≡ item_in bytes → IfSome read (λ r. ItemRecord bytes r)
found None bytes size e = tt
found (Some r) bytes size e = record-item_in bytes r size (sym e)

spelled : (read : Option Record) (bytes : List ℕ) → length bytes ≡ 48 → IsBytes bytes → read ≡ item_in bytes → IfSome read (λ r. bytes ≡ item_bytes r.kind r.id r.seq r.item)
spelled None bytes size low e = tt
spelled (Some r) bytes size low e = item_bytes-record bytes r low (record-item_in bytes r size (sym e))

none : (read : Option Record) (bytes : List ℕ) → read ≡ item_in bytes → IfNone read ((r : Record) → ItemRecord bytes r → ⊥)
none None bytes e = λ r is. absurd (cc (e, item_in-record bytes r is))
none (Some r) bytes e = tt

pub returns-clause-found : goal.returns-clause-found
returns-clause-found c = found c.record_of.result c.args.bytes.now (search rules) c.record_of.ensures

pub returns-clause-bytes : goal.returns-clause-bytes
returns-clause-bytes c = spelled c.record_of.result c.args.bytes.now (search rules) c.fits-bytes c.record_of.ensures

pub returns-clause-none : goal.returns-clause-none
returns-clause-none c = none c.record_of.result c.args.bytes.now c.record_of.ensures
