use Rattle.std.proofs.Common.{◌≡◌, ℕ, ◌+◌, length, arith, subst, sym, ◌∙◌}
use Rattle.mission_model.specs.declared.schedule.Script.{Script}
use Rattle.run_script.specs.declared.fault.ScriptFault.{ScriptFault}
use Rattle.run_script.specs.declared.fault.ScriptFault.TheVariants.{Unfinished}
use Rattle.run_script.specs.Scripts.{LinesScript, LinesFault, UnlessMemory}
use Rattle.run_script.proofs.Reading.{script_here, script_same, unfinished_here, unfinished_only}
use Rattle.run_script.proofs.InLimits.{few_links}
use Rattle.run_script.proofs.Loops.{next_read, next_fault, end_read}
use Rattle.run_script.proofs.read.read_lines.Goals as goal

pub loop-number-preserved : goal.loop-number-preserved
loop-number-preserved c = record {
  within = omega (arith, c.loop-number-test.true);
  read = next_read c.args.text.now c.args.lines.now c.loop-number.number (record { from = 0; to = 0 }) c.loop-number.draft c.loop-number.within c.loop-number-test.true c.loop-number.invariant.read c.in-Ok.next c.step.new.draft c.in-Ok.ensures;
}

pub returns-in-Err-clause-only : goal.returns-in-Err-clause-only
returns-in-Err-clause-only c = λ script whole.
    let found = next_fault c.args.text.now c.args.lines.now c.loop-number.number (record { from = 0; to = 0 }) c.loop-number.draft c.loop-number.within c.loop-number-test.true c.loop-number.invariant.read c.in-Err.stop c.step.new.draft c.in-Err.ensures in
    subst (λ (f : ScriptFault). UnlessMemory (λ _. ⊥) f) (sym c.told.ensures) (found.1 script whole)

pub returns-in-Err-clause-fault : goal.returns-in-Err-clause-fault
returns-in-Err-clause-fault c =
    let found = next_fault c.args.text.now c.args.lines.now c.loop-number.number (record { from = 0; to = 0 }) c.loop-number.draft c.loop-number.within c.loop-number-test.true c.loop-number.invariant.read c.in-Err.stop c.step.new.draft c.in-Err.ensures in
    subst (λ (g : ScriptFault). UnlessMemory (λ f. LinesFault c.args.text.now c.args.lines.now (c.loop-number.number + 1) f) g) (sym c.told.ensures) found.0

pub returns-then-not-is_whole-clause-only : goal.returns-then-not-is_whole-clause-only
returns-then-not-is_whole-clause-only c =
    let read = end_read c.args.text.now c.args.lines.now c.loop-number.number c.loop-number.draft c.loop-number.within c.loop-number-test.false c.loop-number.invariant.read in
    unfinished_only c.args.text.now c.args.lines.now (c.loop-number.number + 1) c.loop-number.within c.loop-number.draft read (sym c.is_whole.ensures ∙ c.if-not-is_whole.true)

pub returns-then-not-is_whole-clause-fault : goal.returns-then-not-is_whole-clause-fault
returns-then-not-is_whole-clause-fault c =
    let read = end_read c.args.text.now c.args.lines.now c.loop-number.number c.loop-number.draft c.loop-number.within c.loop-number-test.false c.loop-number.invariant.read in
    let last : length c.args.lines.now + 1 ≡ c.loop-number.number + 1 = omega (arith, c.loop-number-test.false, c.loop-number.invariant.within) in
    subst (λ (n : ℕ). LinesFault c.args.text.now c.args.lines.now n Unfinished) last
    (unfinished_here c.args.text.now c.args.lines.now (c.loop-number.number + 1) c.loop-number.within c.loop-number.draft read (sym c.is_whole.ensures ∙ c.if-not-is_whole.true))

pub finish-requires-clause-links : goal.finish-requires-clause-links
finish-requires-clause-links c =
    let read = end_read c.args.text.now c.args.lines.now c.loop-number.number c.loop-number.draft c.loop-number.within c.loop-number-test.false c.loop-number.invariant.read in
    omega (arith, (few_links c.args.text.now c.args.lines.now (c.loop-number.number + 1) c.loop-number.within c.loop-number.draft read).0)

pub finish-requires-clause-watchers : goal.finish-requires-clause-watchers
finish-requires-clause-watchers c =
    let read = end_read c.args.text.now c.args.lines.now c.loop-number.number c.loop-number.draft c.loop-number.within c.loop-number-test.false c.loop-number.invariant.read in
    omega (arith, (few_links c.args.text.now c.args.lines.now (c.loop-number.number + 1) c.loop-number.within c.loop-number.draft read).1)

pub returns-in-Ok-finish-clause-good : goal.returns-in-Ok-finish-clause-good
returns-in-Ok-finish-clause-good c =
    let read = end_read c.args.text.now c.args.lines.now c.loop-number.number c.loop-number.draft c.loop-number.within c.loop-number-test.false c.loop-number.invariant.read in
    subst (λ (script : Script). LinesScript c.args.text.now c.args.lines.now script) (sym c.in-Ok-finish.ensures.script)
    (script_here c.args.text.now c.args.lines.now (c.loop-number.number + 1) c.loop-number.within c.loop-number.draft read (sym c.is_whole.ensures ∙ c.if-not-is_whole.false))

pub returns-in-Ok-finish-clause-only : goal.returns-in-Ok-finish-clause-only
returns-in-Ok-finish-clause-only c = λ script whole.
    let read = end_read c.args.text.now c.args.lines.now c.loop-number.number c.loop-number.draft c.loop-number.within c.loop-number-test.false c.loop-number.invariant.read in
    c.in-Ok-finish.ensures.script ∙ script_same c.args.text.now c.args.lines.now (c.loop-number.number + 1) c.loop-number.within c.loop-number.draft read script whole
