-- What each call keeps of what is read and of each image, and what a run of calls does in a range.
use Rattle.std.specs.Prelude.{◌≡◌, ◌+◌, ◌≤◌, ℕ, Bool, IsTrue, List, length, Ok}
use Rattle.std.proofs.Common.{refl, sym, ◌∙◌, subst, arith}
use Rattle.disk_model.specs.Bytes.{Torn, Holds}
use Rattle.disk_model.specs.Disk.{DiskState, Meter, IsSound, Elapses, Still, Follows, Writes, Syncs, Reads, Arms, Restarts}
use Rattle.disk_model.specs.Places.{torn_none, torn_trans, torn_wider}
use Rattle.disk_model.specs.Moments.{LeavesOnly, started, goes_on, runs_on, leaves_weaker}

-- what is read, where it is told, and each image have F
pub record Every (F : List ℕ → Type 0) (disk : DiskState) : Type 0 where
  pub reads : IsTrue disk.tells → F disk.seen
  pub images : (c : List ℕ) → disk.images c → F c

-- an image of a run that writes at most n bytes from `at` on: one from before it but for those, with Q
pub record Image (at n : ℕ) (old : DiskState) (Q : List ℕ → Type 0) (c : List ℕ) : Type 0 where
  pub from : (d : List ℕ) × old.images d × Torn at n d c
  pub holds : Q c

-- what no call changes, and what never falls
pub record Steady (old new : Meter) : Type 0 where
  pub size : new.size ≡ old.size
  pub can_cut : new.can_cut ≡ old.can_cut
  pub faults : old.faults ≤ new.faults

-- calls that write at most n bytes from `at` on, and at each moment leave images with Q
pub record Run (at n : ℕ) (Q : List ℕ → Type 0) (old now : DiskState) : Type 0 where
  pub within : Follows (Torn at n) old.images now.images
  pub moments : LeavesOnly old now (Image at n old Q)
  pub reads : IsTrue now.tells → Torn at n old.seen now.seen
  pub tells : now.tells ≡ old.tells
  pub meter : Steady old.meter now.meter

pub told_before : (old new : DiskState) → Elapses old new → IsTrue new.tells → IsTrue old.tells
told_before old new time told = subst (λ (b : Bool). IsTrue b) time.tells told

pub told_after : (old new : DiskState) → Elapses old new → IsTrue old.tells → IsTrue new.tells
told_after old new time told = subst (λ (b : Bool). IsTrue b) (sym time.tells) told

pub every_weaker : (F G : List ℕ → Type 0) (disk : DiskState) → ((c : List ℕ) → F c → G c) → Every F disk → Every G disk
every_weaker F G disk f every = record { reads = λ told. f disk.seen (every.reads told); images = λ c left. f c (every.images c left) }

-- a call that changes nothing
pub every_still : (F : List ℕ → Type 0) (old new : DiskState) → Still old new → Elapses old new → Every F old → Every F new
every_still F old new still time every = record {
  reads = λ told. subst F (sym still.seen) (every.reads (told_before old new time told));
  images = λ c left. every.images c (still.images c left);
}

pub every_read : (F : List ℕ → Type 0) (at n : ℕ) (got : List ℕ) (old new : DiskState) (result : _) → Reads at n old new got result → Every F old → Every F new
every_read F at n got old new result reads every = every_still F old new reads.still reads.time every

pub every_arm : (F : List ℕ → Type 0) (cut : _) (old new : DiskState) → Arms cut old new → Every F old → Every F new
every_arm F cut old new arms every = every_still F old new arms.still arms.time every

pub every_restart : (F : List ℕ → Type 0) (old new : DiskState) → IsSound new → Restarts old new → Every F old → Every F new
every_restart F old new sound restarts every = record { reads = here; images = λ c left. subst F (sym (restarts.only c left)) (here (sound.told c left)) }
  where
    here : IsTrue new.tells → F new.seen
    here told = every.images new.seen (restarts.image (told_before old new restarts.time told))

-- a write, done or not
pub every_write : (F G : List ℕ → Type 0) (at : ℕ) (bytes : List ℕ) (old new : DiskState) (result : _)
    → ((d c : List ℕ) → Torn at (length bytes) d c → F d → G c) → Writes at bytes old new result → Every F old → Every G new
every_write F G at bytes old new result keeps writes every = record {
  reads = λ told. let before = told_before old new writes.time told in keeps old.seen new.seen (writes.torn before) (every.reads before);
  images = λ c left. let from = writes.images c left in keeps from.0 c from.2 (every.images from.0 from.1);
}

pub every_sync : (F : List ℕ → Type 0) (old new : DiskState) (result : _) → Syncs old new result → Every F old → Every F new
every_sync F old new result syncs every = record {
  reads = λ told. subst F (sym syncs.seen) (every.reads (told_before old new syncs.time told));
  images = λ c left. every.images c (syncs.images c left);
}

-- a write and a sync that are Ok
pub every_kept : (F G : List ℕ → Type 0) (at : ℕ) (bytes : List ℕ) (old mid new : DiskState) (u v : Unit {0}) → IsSound new
    → ((d c : List ℕ) → Holds at bytes d c → F d → G c) → Writes at bytes old mid (Ok u) → Syncs mid new (Ok v) → Every F old → Every G new
every_kept F G at bytes old mid new u v sound keeps writes syncs every = record {
  reads = here;
  images = λ c left. subst G (sym (syncs.durable c left)) (here (sound.told c left));
}
  where
    at_mid : IsTrue new.tells → G mid.seen
    at_mid told =
        let before = told_before old mid writes.time (told_before mid new syncs.time told) in
        keeps old.seen mid.seen (writes.written before) (every.reads before)

    here : IsTrue new.tells → G new.seen
    here told = subst G (sym syncs.seen) (at_mid told)

pub run_start : (at n : ℕ) (Q : List ℕ → Type 0) (old : DiskState) → IsSound old → Every Q old → Run at n Q old old
run_start at n Q old sound every = record {
  within = λ c left. (c, left, torn_none at n c);
  moments = started old (Image at n old Q) sound (λ c left. record { from = (c, left, torn_none at n c); holds = every.images c left });
  reads = λ told. torn_none at n old.seen;
  tells = refl;
  meter = record { size = refl; can_cut = refl; faults = omega arith };
}

pub run_write : (at n : ℕ) (Q : List ℕ → Type 0) (a : ℕ) (bytes : List ℕ) (old mid new : DiskState) (result : _) → at ≤ a → a + length bytes ≤ at + n
    → Writes a bytes mid new result → Every Q new → Run at n Q old mid → Run at n Q old new
run_write at n Q a bytes old mid new result low high writes every run = record {
  within = within;
  moments = goes_on old mid new (Image at n old Q) run.moments writes.time (λ c left. record { from = within c left; holds = every.images c left });
  reads = λ told.
      let before = told_before mid new writes.time told in
      torn_trans at n old.seen mid.seen new.seen (run.reads before) (torn_wider a (length bytes) at n mid.seen new.seen low high (writes.torn before));
  tells = writes.time.tells ∙ run.tells;
  meter = record { size = writes.meter.call.size ∙ run.meter.size; can_cut = writes.meter.call.can_cut ∙ run.meter.can_cut; faults = omega (arith, run.meter.faults, writes.meter.call.faults) };
}
  where
    within : Follows (Torn at n) old.images new.images
    within c left =
        let from = writes.images c left in
        let start = run.within from.0 from.1 in
        (start.0, start.1, torn_trans at n start.0 from.0 c start.2 (torn_wider a (length bytes) at n from.0 c low high from.2))

pub run_sync : (at n : ℕ) (Q : List ℕ → Type 0) (old mid new : DiskState) (result : _) → Syncs mid new result → Every Q new → Run at n Q old mid → Run at n Q old new
run_sync at n Q old mid new result syncs every run = record {
  within = λ c left. run.within c (syncs.images c left);
  moments = goes_on old mid new (Image at n old Q) run.moments syncs.time (λ c left. record { from = run.within c (syncs.images c left); holds = every.images c left });
  reads = λ told. subst (λ (l : List ℕ). Torn at n old.seen l) (sym syncs.seen) (run.reads (told_before mid new syncs.time told));
  tells = syncs.time.tells ∙ run.tells;
  meter = record { size = syncs.meter.call.size ∙ run.meter.size; can_cut = syncs.meter.call.can_cut ∙ run.meter.can_cut; faults = omega (arith, run.meter.faults, syncs.meter.call.faults) };
}

pub run_read : (at n : ℕ) (Q : List ℕ → Type 0) (a m : ℕ) (got : List ℕ) (old mid new : DiskState) (result : _) → Reads a m mid new got result → Every Q new → Run at n Q old mid → Run at n Q old new
run_read at n Q a m got old mid new result reads every run = record {
  within = λ c left. run.within c (reads.still.images c left);
  moments = goes_on old mid new (Image at n old Q) run.moments reads.time (λ c left. record { from = run.within c (reads.still.images c left); holds = every.images c left });
  reads = λ told. subst (λ (l : List ℕ). Torn at n old.seen l) (sym reads.still.seen) (run.reads (told_before mid new reads.time told));
  tells = reads.time.tells ∙ run.tells;
  meter = record { size = reads.meter.call.size ∙ run.meter.size; can_cut = reads.meter.call.can_cut ∙ run.meter.can_cut; faults = omega (arith, run.meter.faults, reads.meter.call.faults) };
}

-- one run after another leaves at each moment what the two leave
pub run_run : (at n : ℕ) (Q P : List ℕ → Type 0) (old mid new : DiskState) → LeavesOnly old mid P → Run at n Q mid new → ((c : List ℕ) → Image at n mid Q c → P c) → LeavesOnly old new P
run_run at n Q P old mid new so_far run keeps = runs_on old mid new P so_far (leaves_weaker mid new (Image at n mid Q) P keeps run.moments)

-- what a run keeps of each image
pub every_run : (at n : ℕ) (Q F : List ℕ → Type 0) (old new : DiskState) → Run at n Q old new → ((d c : List ℕ) → Torn at n d c → F d → F c) → Every F old → Every F new
every_run at n Q F old new run keeps every = record {
  reads = λ told. keeps old.seen new.seen (run.reads told) (every.reads (subst (λ (b : Bool). IsTrue b) run.tells told));
  images = λ c left. let from = run.within c left in keeps from.0 c from.2 (every.images from.0 from.1);
}

-- one call more that changes neither what is read nor an image
pub since_still : (old mid new : DiskState) (P : List ℕ → Type 0) → LeavesOnly old mid P → Still mid new → Elapses mid new → LeavesOnly old new P
since_still old mid new P so_far still time = goes_on old mid new P so_far time (λ c left. so_far.now c (still.images c left))

-- a restart, whose only image was one before it
pub since_restart : (old mid new : DiskState) (P : List ℕ → Type 0) → IsSound new → LeavesOnly old mid P → Restarts mid new → LeavesOnly old new P
since_restart old mid new P sound so_far restarts =
    goes_on old mid new P so_far restarts.time (λ c left. subst P (sym (restarts.only c left)) (so_far.now new.seen (restarts.image (told_before mid new restarts.time (sound.told c left)))))

-- after a restart what is read is the only image, and was one before
pub record LeavesOne (old new : DiskState) : Type 0 where
  pub only : (c : List ℕ) → new.images c → c ≡ new.seen
  pub from : (c : List ℕ) → new.images c → old.images c
  pub told : IsTrue new.tells → new.images new.seen

pub restart_leaves_one : (old new : DiskState) → IsSound new → Restarts old new → LeavesOne old new
restart_leaves_one old new sound restarts = record {
  only = restarts.only;
  from = λ c left. subst old.images (sym (restarts.only c left)) (restarts.image (told_before old new restarts.time (sound.told c left)));
  told = sound.seen_is_left;
}
