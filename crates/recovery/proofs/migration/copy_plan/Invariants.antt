-- The records below the seq were copied.
use Rattle.std.proofs.Common.{IsTrue}
use Rattle.disk_model.specs.Every.{Run}
use Rattle.dataman_layout.specs.declared.layout.Layout.TheVariants.{Two}
use Rattle.dataman_layout.specs.Places.{Bank, place_of, size_of}
use Rattle.recovery.specs.Migration.{AreCopied}
use Rattle.recovery.specs.Steps.{Quietly}
use Rattle.recovery.proofs.Copying.{Anything}
use Rattle.recovery.proofs.migration.copy_plan.Given as goal

abbrev pub invariant-loop-seq : goal.invariant-loop-seq
invariant-loop-seq g l = record {
  copied : IsTrue (g.D.Disk.state l.disk).tells → AreCopied l.kind l.bank l.seq (g.D.Disk.state l.fn.disk).seen (g.D.Disk.state l.disk).seen;
  run : Run (place_of Two (Bank l.kind 0)) (size_of Two (Bank l.kind 0)) Anything (g.D.Disk.state l.fn.disk) (g.D.Disk.state l.disk);
  went : Quietly l.seq l.seq (g.D.Disk.state l.fn.disk).meter (g.D.Disk.state l.disk).meter;
}
