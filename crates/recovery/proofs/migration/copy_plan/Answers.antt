use Rattle.std.specs.Prelude.{◌+◌, ◌<◌}
use Rattle.dataman_layout.specs.declared.layout.Layout.TheVariants.{One}
use Rattle.dataman_layout.specs.Layouts.{limit_in}
use Rattle.std.proofs.Common.{refl, arith}
use Rattle.dataman_layout.specs.declared.layout.Layout.TheVariants.{Two}
use Rattle.dataman_layout.specs.Places.{Bank, place_of, size_of}
use Rattle.bank_state.specs.Running.{run_trans}
use Rattle.recovery.specs.Steps.{Went}
use Rattle.recovery.proofs.Steps.{passed_on, quietly_on, stopped_on, stopped_wider}
use Rattle.recovery.proofs.Copying.{Anything, run_more, copied_more}
use Rattle.recovery.proofs.migration.copy_plan.Goals as goal

pub returns-in_err-copy_record-clause-run : goal.returns-in_err-copy_record-clause-run
returns-in_err-copy_record-clause-run g c =
    let old = g.D.Disk.state c.args.disk.now in
    let mid = g.D.Disk.state c.loop-seq.disk in
    let new = g.D.Disk.state c.copy_record.new.disk in
    let kind = c.args.kind in
    run_trans (place_of Two (Bank kind 0)) (size_of Two (Bank kind 0)) Anything old mid new c.loop-seq.invariant.run
    (run_more kind c.args.bank c.loop-seq.seq old mid new (omega (arith, c.loop-seq-test.true, c.requires.count)) c.loop-seq.invariant.run c.copy_record.ensures.run)

pub returns-in_err-copy_record-clause-went : goal.returns-in_err-copy_record-clause-went
returns-in_err-copy_record-clause-went g c =
    let old = (g.D.Disk.state c.args.disk.now).meter in
    let mid = (g.D.Disk.state c.loop-seq.disk).meter in
    let new = (g.D.Disk.state c.copy_record.new.disk).meter in
    let seq = c.loop-seq.seq in
    let f = c.in_err-copy_record.field-0.0 in
    passed_on (Went c.args.head.count c.args.head.count old new) c.from_residual.result f c.from_residual.ensures.1
    (stopped_wider f (seq + 1) c.args.head.count old new (omega (arith, c.loop-seq-test.true)) (stopped_on f seq seq 1 old mid new c.loop-seq.invariant.went c.in_err-copy_record.ensures.went))

pub loop-seq-preserved : goal.loop-seq-preserved
loop-seq-preserved g c =
    let old = g.D.Disk.state c.args.disk.now in
    let mid = g.D.Disk.state c.loop-seq.disk in
    let new = g.D.Disk.state c.copy_record.new.disk in
    let kind = c.args.kind in
    let seq = c.loop-seq.seq in
    let below : c.loop-seq.seq < limit_in One c.args.kind = omega (arith, c.loop-seq-test.true, c.requires.count) in
    record {
      copied = copied_more kind c.args.bank seq old mid new below (seq + 1) refl c.loop-seq.invariant.run c.copy_record.ensures.run c.loop-seq.invariant.copied c.in_ok-copy_record.ensures.copied;
      run = run_trans (place_of Two (Bank kind 0)) (size_of Two (Bank kind 0)) Anything old mid new c.loop-seq.invariant.run (run_more kind c.args.bank seq old mid new below c.loop-seq.invariant.run c.copy_record.ensures.run);
      went = quietly_on seq seq 1 1 old.meter mid.meter new.meter c.loop-seq.invariant.went c.in_ok-copy_record.ensures.went;
    }
