use Rattle.std.proofs.Common.{length, ap, ◌∙◌, subst, arith}
use Rattle.nav_text.specs.declared.fault.TextFault.{TextFault}
use Rattle.nav_text.specs.Faults.{text_fault, IsFaultFound}
use Rattle.run_script.proofs.TextFaults.{few_lines, high_within}
use Rattle.run_script.proofs.read.read_text.Goals as goal

pub read_lines-requires-clause-few : goal.read_lines-requires-clause-few
read_lines-requires-clause-few c = omega (arith, ap length (c.deref.ensures.value ∙ c.in-Ok.ensures.spans), few_lines c.args.bytes.now, c.requires)

pub line_at-number-requires : goal.line_at-number-requires
line_at-number-requires c = omega (arith, high_within c.args.bytes.now c.in-Err-NotAscii.place (subst (λ (f : TextFault). IsFaultFound (text_fault c.args.bytes.now) f) c.in-Err-NotAscii.field-0-is c.in-Err-NotAscii.ensures.fault))
