-- A line that was read goes on the lines, and of no other lines are the bytes the text.
use Rattle.std.proofs.Common.{◌≡◌, ◌+◌, arith, refl, sym, ◌∙◌, length}
use Rattle.std.proofs.lemmas.Bool.{eqb-true, eqb-false}
use Rattle.record_text.proofs.RecordLaws.{goes_on, is_whole, is_bad, whole_reads, no_record}
use Rattle.record_text.proofs.reading.read_record.Goals as goal

pub loop-rest-preserved : goal.loop-rest-preserved
loop-rest-preserved c =
    let len : c.len.result ≡ length c.first_line.new.text.items = omega (arith, c.len.ensures) in
    goes_on c.args.bytes.now c.loop-rest.lines.items c.push.new.self.items c.in-Some.line c.loop-rest.rest.now c.first_line.new.text.items c.skip-rest.result.now c.len.result
    c.loop-rest.invariant c.in_ok-push-in-Some.ensures.items (rw c.in-Some.is at c.in_ok-line.ensures) len c.skip-rest.ensures

pub returns-in-None-clause-fault : goal.returns-in-None-clause-fault
returns-in-None-clause-fault c =
    is_bad c.args.bytes.now c.loop-rest.lines.items c.loop-rest.rest.now c.loop-rest.invariant
    (eqb-false (length c.loop-rest.rest.now) 0 (sym c.is_empty.ensures ∙ c.loop-rest-test.true)) (rw c.in-None.is at c.in_ok-line.ensures)
    c.next_number.result (omega (arith, c.next_number.ensures, c.len-in-None.ensures))

pub returns-in-None-clause-every_record : goal.returns-in-None-clause-every_record
returns-in-None-clause-every_record c = λ lines other.
    no_record c.args.bytes.now (length c.loop-rest.lines.items + 1) lines
    (is_bad c.args.bytes.now c.loop-rest.lines.items c.loop-rest.rest.now c.loop-rest.invariant
    (eqb-false (length c.loop-rest.rest.now) 0 (sym c.is_empty.ensures ∙ c.loop-rest-test.true)) (rw c.in-None.is at c.in_ok-line.ensures)
    (length c.loop-rest.lines.items + 1) refl) other

pub returns-clause-found : goal.returns-clause-found
returns-clause-found c =
    is_whole c.args.bytes.now c.loop-rest.lines.items c.loop-rest.rest.now c.loop-rest.invariant (eqb-true (length c.loop-rest.rest.now) 0 (sym c.is_empty.ensures ∙ c.loop-rest-test.false))

pub returns-clause-every_record : goal.returns-clause-every_record
returns-clause-every_record c = λ lines other.
    whole_reads c.args.bytes.now c.loop-rest.lines.items lines
    (is_whole c.args.bytes.now c.loop-rest.lines.items c.loop-rest.rest.now c.loop-rest.invariant (eqb-true (length c.loop-rest.rest.now) 0 (sym c.is_empty.ensures ∙ c.loop-rest-test.false))) other
