-- Runs of calls that follow one another.
use Rattle.std.proofs.Common.{ℕ, Bool, IsTrue, List, subst, sym, ◌∙◌, arith}
use Rattle.disk_model.specs.Bytes.{Torn}
use Rattle.disk_model.specs.Disk.{DiskState, IsSound, Only}
use Rattle.disk_model.specs.Every.{Every, Image, Run, run_run}
use Rattle.disk_model.specs.Moments.{leaves_weaker}
use Rattle.disk_model.specs.Places.{torn_trans}

-- what is read is the only image
pub every_only : (F : List ℕ → Type 0) (disk : DiskState) → IsSound disk → Only disk.seen disk.images → (IsTrue disk.tells → F disk.seen) → Every F disk
every_only F disk sound only reads = record { reads = reads; images = λ c left. subst F (sym (only c left)) (reads (sound.told c left)) }

-- a run whose images have more than is asked
pub run_weaker : (at n : ℕ) (Q P : List ℕ → Type 0) (old new : DiskState) → ((d c : List ℕ) → old.images d → Torn at n d c → Q c → P c) → Run at n Q old new → Run at n P old new
run_weaker at n Q P old new f run = record {
  within = run.within;
  moments = leaves_weaker old new (Image at n old Q) (Image at n old P) (λ c image. record { from = image.from; holds = f image.from.0 c image.from.1 image.from.2 image.holds }) run.moments;
  reads = run.reads;
  tells = run.tells;
  meter = run.meter;
}

-- one run after another
pub run_trans : (at n : ℕ) (Q : List ℕ → Type 0) (old mid new : DiskState) → Run at n Q old mid → Run at n Q mid new → Run at n Q old new
run_trans at n Q old mid new first second = record {
  within = λ c left. back c (second.within c left);
  moments = run_run at n Q (Image at n old Q) old mid new first.moments second (λ c image. record { from = back c image.from; holds = image.holds });
  reads = λ told. torn_trans at n old.seen mid.seen new.seen (first.reads (subst (λ (b : Bool). IsTrue b) second.tells told)) (second.reads told);
  tells = second.tells ∙ first.tells;
  meter = record { size = second.meter.size ∙ first.meter.size; can_cut = second.meter.can_cut ∙ first.meter.can_cut; faults = omega (arith, first.meter.faults, second.meter.faults) };
}
  where
    back : (c : List ℕ) → (d : List ℕ) × mid.images d × Torn at n d c → (d : List ℕ) × old.images d × Torn at n d c
    back c from =
        let start = first.within from.0 from.1 in
        (start.0, start.1, torn_trans at n start.0 from.0 c start.2 from.2)
