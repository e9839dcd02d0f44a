use Rattle.std.proofs.Common.{◌≡◌, ℕ, List, length, Option, Some, None, IfSome, IfNone, sym, rules}
use Rattle.mission_model.specs.declared.plan.PlanHead.{PlanHead}
use Rattle.dataman_layout.specs.Fields.{IsBytes}
use Rattle.dataman_layout.specs.State.{StateRecord, state_bytes, state_in}
use Rattle.dataman_layout.specs.StateLaws.{state_in-record, record-state_in, state_bytes-record}
use Rattle.dataman_layout.proofs.state.state_of.Goals as goal

found : (read : Option (ℕ × PlanHead)) (limit : ℕ) (bytes : List ℕ) → length bytes ≡ 7 → read ≡ state_in limit bytes → IfSome read (λ s. StateRecord limit bytes s.0 s.1)
found None limit bytes size e = tt
found (Some s) limit bytes size e = record-state_in limit bytes s.0 s.1 size (sym e)

spelled : (read : Option (ℕ × PlanHead)) (limit : ℕ) (bytes : List ℕ) → length bytes ≡ 7 → IsBytes bytes → read ≡ state_in limit bytes → IfSome read (λ s. bytes ≡ state_bytes s.0 s.1)
spelled None limit bytes size low e = tt
spelled (Some s) limit bytes size low e = state_bytes-record limit bytes s.0 s.1 low (record-state_in limit bytes s.0 s.1 size (sym e))

none : (read : Option (ℕ × PlanHead)) (limit : ℕ) (bytes : List ℕ) → read ≡ state_in limit bytes → IfNone read ((bank : ℕ) (head : PlanHead) → StateRecord limit bytes bank head → ⊥)
none None limit bytes e = λ bank head is. absurd (cc (e, state_in-record limit bytes bank head is))
none (Some s) limit bytes e = tt

pub returns-clause-found : goal.returns-clause-found
returns-clause-found c = found c.fields_of.result c.args.limit c.args.bytes.now (search rules) c.fields_of.ensures

pub returns-clause-bytes : goal.returns-clause-bytes
returns-clause-bytes c = spelled c.fields_of.result c.args.limit c.args.bytes.now (search rules) c.fits-bytes c.fields_of.ensures

pub returns-clause-none : goal.returns-clause-none
returns-clause-none c = none c.fields_of.result c.args.limit c.args.bytes.now c.fields_of.ensures
