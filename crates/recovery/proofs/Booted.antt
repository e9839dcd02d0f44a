-- How a boot ends, by how its steps ended.
use Rattle.dataman_layout.specs.declared.layout.Layout.{Layout}
use Rattle.dataman_layout.specs.declared.layout.Layout.TheVariants.{One, Two}
use Rattle.std.specs.Prelude.{◌≡◌, ◌+◌, ℕ, false, IsTrue, IfErr, IfOk, IfSome, OnOk, List, length, Option, None, Result, Ok, Err, get_or}
use Rattle.std.proofs.Common.{refl, sym, ap, subst, inl, inr, arith, ◌∙◌}
use Rattle.mission_model.specs.declared.plan.PlanHead.{PlanHead}
use Rattle.mission_model.specs.declared.plan.PlanType.{PlanType}
use Rattle.mission_model.specs.declared.plan.PlanType.TheVariants.{Mission, Fence, Safe}
use Rattle.mission_model.specs.PlainMark.{PlainMark, plain_mark}
use Rattle.disk_model.specs.declared.disk.DiskFault.{DiskFault}
use Rattle.disk_model.specs.Disk.{DiskState, Meter, IsSound, Only, Syncs}
use Rattle.disk_model.specs.Every.{Steady}
use Rattle.disk_model.specs.Moments.{LeavesOnly, first_call, leaves_weaker, runs_on}
use Rattle.gated_cell.specs.declared.cell.GatedCell.{GatedCell}
use Rattle.gated_cell.specs.Cell.{held, Known}
use Rattle.plan_store.specs.StoreState.{StoredPlan}
use Rattle.bank_state.specs.Plans.{Plans, head_of}
use Rattle.bank_state.specs.StandsFor.{compat_place, state_cell, mark_cell, IsLayout, IsThisLayout, HasPlanIn, StandsIn, StandsFor}
use Rattle.bank_state.specs.Frames.{length-items_read}
use Rattle.bank_state.specs.OnePair.{one_name, one_pair}
use Rattle.bank_state.specs.declared.parts.PlanBanks.{PlanBanks}
use Rattle.recovery.specs.declared.cells.States.{States}
use Rattle.recovery.specs.declared.fault.BootFault.{BootFault}
use Rattle.recovery.specs.declared.finding.Found.{Found}
use Rattle.recovery.specs.Booting.{IsOfBoot, StandsAgain, moves, looks, items_at, moves_by, moves_in, MigrationCalls, IsFoundIn, BootEnds, Boots}
use Rattle.recovery.specs.Faults.{compat_fault, fault_behind, fault_in, layout_in, plan_at}
use Rattle.recovery.specs.Found.{IsOpened, AllRead, BanksIn, AreStates, StatesIn, IsWithin, reads_behind}
use Rattle.recovery.specs.Migration.{IsCarried, Moved, items_named}
use Rattle.recovery.specs.Steps.{Keeps, Quietly, Went, Stopped, Step, StoppedBy, IsOfDisk, Answers}
use Rattle.recovery.proofs.Exactly.{no_fault, none_behind}
use Rattle.recovery.proofs.Faultless.{none_of_two, held_size, layout_of, layout_is, names_of}
use Rattle.recovery.proofs.Gathered.{of_first, of_last, first_here, later_here, known_of, plan_is}
use Rattle.recovery.proofs.Items.{stopped_as}
use Rattle.recovery.proofs.Moved.{stands_again, stands_still}
use Rattle.recovery.proofs.Up.{none_is_disk}
use Rattle.recovery.proofs.Steps.{Gives, by_disk, disk_gives, change_stopped, keeps_sync, only_still, quiet_sync, quietly_on, steady_trans, step_then, stopped_on, stopped_wider, went_on}

count_is : (layout : Layout) (kind : PlanType) (plan : StoredPlan) (banks : PlanBanks) (image : List ℕ) → HasPlanIn layout kind plan image → BanksIn layout kind banks image → banks.head.count ≡ length plan.items
count_is layout kind plan banks image has read =
    let names = names_of layout kind (held (state_cell layout kind) image) banks.bank banks.head (held_size (state_cell layout kind) 7 image refl) read.named in
    ap (λ (h : PlanHead). h.count) (one_name layout kind (held (state_cell layout kind) image) banks.bank has.bank banks.head (head_of plan) names has.named).1

-- states name as many items as the plans have that an image stands for
named_items : (layout : Layout) (image : List ℕ) (plans : Plans) (mark : PlainMark) (states : States) → StandsIn layout image plans mark → StatesIn layout states image
    → items_named states ≡ length plans.mission.items + (length plans.fence.items + length plans.safe.items)
named_items layout image plans mark states stands read = omega (
  arith,
  count_is layout Mission plans.mission states.mission image (stands.each Mission) read.mission,
  count_is layout Fence plans.fence states.fence image (stands.each Fence) read.fence,
  count_is layout Safe plans.safe states.safe image (stands.each Safe) read.safe,
)

-- and as the plans in force have
named_at : (layout : Layout) (image : List ℕ) (states : States) → StatesIn layout states image → items_at layout image ≡ items_named states
named_at layout image states read = omega (arith, one Mission states.mission read.mission, one Fence states.fence read.fence, one Safe states.safe read.safe)
  where
    one : (kind : PlanType) (banks : PlanBanks) → BanksIn layout kind banks image → length (plan_at layout kind image).items ≡ banks.head.count
    one kind banks reads = ap (λ (p : StoredPlan). length p.items) (plan_is layout kind banks image reads) ∙ length-items_read layout kind banks.bank banks.head.count image

quietly_as : (k m r n : ℕ) (a z : Meter) → k ≡ m → r ≡ n → Quietly k r a z → Quietly m n a z
quietly_as k m r n a z more reads quiet = subst (λ (i : ℕ). Quietly m i a z) reads (subst (λ (j : ℕ). Quietly j r a z) more quiet)

went_as : {T : Type 0} (k m r : ℕ) (a z : Meter) (result : Result T BootFault) → k ≡ m → Went k r a z result → Went m r a z result
went_as k m r a z result same went = subst (λ (j : ℕ). Went j r a z result) same went

-- The images of reads
still_images : {T : Type 0} (a b : DiskState) (r : ℕ) (result : Result T BootFault) → IsSound a → Step r a b result → LeavesOnly a b (IsOfBoot a)
still_images a b r result sound step = first_call a b (IsOfBoot a) sound (λ c left. inl left) step.time (λ c left. inl (step.still.images c left))

module _ (a : DiskState) (sound : IsSound a) where
  -- a boot that a read stopped
  pub boots_stopped : {T : Type 0} (r : ℕ) (b : DiskState) (f : BootFault) → Step {T = T} r a b (Err f) → (IsTrue a.tells → StoppedBy (fault_in a.seen) f) → Boots 0 a b (Err f)
  boots_stopped r b f step first = record {
    images = still_images a b r (Err f) sound step;
    tells = step.time.tells;
    steady = step.steady;
    ends = (first, record { most = moves_in a.seen; told = λ told. refl; stopped = stopped_wider f 0 (0 + moves_in a.seen) a.meter b.meter (omega arith) step.went });
  }

  -- of a store of layout 2
  pub boots_two : (z : DiskState) (is : Found) → Step (10 + items_named is.states) a z (Ok is) → IsFoundIn is z → (IsTrue a.tells → IsLayout Two (held compat_place a.seen) × (Two ≡ layout_in (held compat_place a.seen)) × (fault_in a.seen ≡ None)) → Boots 0 a z (Ok is)
  boots_two z is step there told = record {
    images = still_images a z (10 + items_named is.states) (Ok is) sound step;
    tells = step.time.tells;
    steady = step.steady;
    ends = (
      there,
      λ t. subst (λ (l : List ℕ). IsThisLayout (held compat_place l)) (sym step.still.seen) (told (subst (λ b. IsTrue b) step.time.tells t)).0,
      λ t. ((told t).2, stands_still a.seen z.seen step.still.seen (told t).0),
      record { layout = Two; items = items_named is.states; told = λ t. ((told t).1, refl); calls = step.went },
    );
  }

  -- Of a store of layout 1, which was found
  module _ (b : DiskState) (was : Found) (step : Step (10 + items_named was.states) a b (Ok was))
      (told : IsTrue a.tells → IsLayout One (held compat_place a.seen) × (One ≡ layout_in (held compat_place a.seen)) × (fault_in a.seen ≡ None) × AllRead One a.seen was.states was.mark_cell was.mark) (z : DiskState) (images : LeavesOnly b z (IsCarried b))
      (tells : z.tells ≡ b.tells) (steady : Steady b.meter z.meter) where
    one_images : LeavesOnly a z (IsOfBoot a)
    one_images = runs_on a b z (IsOfBoot a) (still_images a b (10 + items_named was.states) (Ok was) sound step)
        (leaves_weaker b z (IsCarried b) (IsOfBoot a) (λ c carried. inr (carried.0, step.still.images carried.0 carried.1, carried.2)) images)

    one_tells : z.tells ≡ a.tells
    one_tells = tells ∙ step.time.tells

    told_b : IsTrue a.tells → IsTrue b.tells
    told_b t = subst (λ x. IsTrue x) (sym step.time.tells) t

    told_a : IsTrue z.tells → IsTrue a.tells
    told_a t = subst (λ x. IsTrue x) one_tells t

    pub boots_moved : (is : Found) → IsFoundIn is z → (IsTrue z.tells → Moved b.seen z.seen) → Went (items_named was.states + 12) (items_named was.states + (8 + items_named is.states)) b.meter z.meter (Ok is) → Boots 0 a z (Ok is)
    boots_moved is there moved went = record {
      images = one_images;
      tells = one_tells;
      steady = steady_trans a.meter b.meter z.meter step.steady steady;
      ends = (
        there,
        λ t. (moved t).is.layout,
        λ t. ((told t).2, subst (λ (l : List ℕ). StandsAgain l z.seen) step.still.seen (stands_again b.seen z.seen (moved (subst (λ x. IsTrue x) (sym one_tells) t)))),
        record { layout = One; items = items_named was.states; told = λ t. ((told t).1, same t); calls = calls },
      );
    }
      where
        same : IsTrue a.tells → items_named was.states ≡ items_named is.states
        same t =
            let t_z = subst (λ x. IsTrue x) (sym one_tells) t in
            let m = moved t_z in
            named_items One b.seen m.plans m.mark was.states m.was (subst (λ (l : List ℕ). StatesIn One was.states l) (sym step.still.seen) (told t).3.states_are)
            ∙ sym (named_items Two z.seen m.plans m.mark is.states m.is (there.read t_z).states_are)

        calls : Quietly (0 + (items_named was.states + 12)) (10 + items_named was.states + (items_named was.states + (8 + items_named is.states))) a.meter z.meter
        calls = quietly_on 0 (10 + items_named was.states) (items_named was.states + 12) (items_named was.states + (8 + items_named is.states)) a.meter b.meter z.meter step.went went

    pub boots_unmoved : (f : BootFault) → (IsTrue b.tells → IsOfDisk f) → Stopped (items_named was.states + 12) b.meter z.meter f → Boots 0 a z (Err f)
    boots_unmoved f of stopped = record {
      images = one_images;
      tells = one_tells;
      steady = steady_trans a.meter b.meter z.meter step.steady steady;
      ends = (
        λ t. by_disk (fault_in a.seen) f (of (told_b t)),
        record {
          most = items_named was.states + 12;
          told = is_most;
          stopped = stopped_on f 0 (10 + items_named was.states) (items_named was.states + 12) a.meter b.meter z.meter step.went stopped;
        },
      );
    }
      where
        is_most : IsTrue a.tells → items_named was.states + 12 ≡ moves_in a.seen
        is_most t =
            let items = sym (named_at One a.seen was.states (told t).3.states_are) in
            (λ i. moves_by (sym (told t).2 i) ((told t).1 i) (items i))

    pub boots_one : (result : Result Found BootFault) → IfOk result (λ is. IsFoundIn is z) → OnOk result (IsTrue z.tells → Moved b.seen z.seen) → (IsTrue b.tells → IfErr result IsOfDisk)
        → Went (items_named was.states + 12) (items_named was.states + reads_behind result) b.meter z.meter result → Boots 0 a z result
    boots_one (Ok is) there moved of went = boots_moved is there moved went
    boots_one (Err f) there moved of went = boots_unmoved f of went

-- A sync before a boot
module _ (a b : DiskState) (sound : IsSound a) where
  keeps_of : Keeps a b → LeavesOnly a b (IsOfBoot a)
  keeps_of kept = leaves_weaker a b a.images (IsOfBoot a) (λ c left. inl left) kept.images

  pub boots_unsynced : (f : DiskFault) (e : BootFault) → Syncs a b (Err f) → Gives f e → Boots 1 a b (Err e)
  boots_unsynced f e syncs gives =
      let kept = keeps_sync a b (Err f) sound syncs in
      record {
        images = keeps_of kept;
        tells = kept.tells;
        steady = kept.steady;
        ends = (
          λ t. by_disk (fault_in a.seen) e (disk_gives f e gives),
          record { most = moves_in a.seen; told = λ t. refl; stopped = stopped_wider e 1 (1 + moves_in a.seen) a.meter b.meter (omega arith) (change_stopped f e a.meter b.meter syncs.meter gives) },
        );
      }

  module _ (u : Unit {0}) (syncs : Syncs a b (Ok u)) (z : DiskState) where
    told_on : IsTrue a.tells → IsTrue b.tells
    told_on t = subst (λ x. IsTrue x) (sym syncs.time.tells) t

    quiet : Quietly 1 0 a.meter b.meter
    quiet = quiet_sync a.meter b.meter u syncs.meter

    ends_synced : (result : Result Found BootFault) → BootEnds 0 b z result → BootEnds 1 a z result
    ends_synced (Ok is) ends = (
      ends.0,
      ends.1,
      λ t. subst (λ (l : List ℕ). (fault_in l ≡ None) × StandsAgain l z.seen) syncs.seen (ends.2 (told_on t)),
      record {
        layout = ends.3.layout;
        items = ends.3.items;
        told = λ t. subst (λ (l : List ℕ). (ends.3.layout ≡ layout_in (held compat_place l)) × (ends.3.items ≡ items_named is.states)) syncs.seen (ends.3.told (told_on t));
        calls = quietly_as (1 + (0 + moves ends.3.layout ends.3.items)) (1 + moves ends.3.layout ends.3.items) (0 + looks ends.3.layout ends.3.items (items_named is.states)) (looks ends.3.layout ends.3.items (items_named is.states)) a.meter z.meter
            (omega arith) (omega arith) (quietly_on 1 0 (0 + moves ends.3.layout ends.3.items) (looks ends.3.layout ends.3.items (items_named is.states)) a.meter b.meter z.meter quiet ends.3.calls);
      },
    )
    ends_synced (Err f) ends = (
      λ t. subst (λ (l : List ℕ). StoppedBy (fault_in l) f) syncs.seen (ends.0 (told_on t)),
      record {
        most = ends.1.most;
        told = λ t. subst (λ (l : List ℕ). ends.1.most ≡ moves_in l) syncs.seen (ends.1.told (told_on t));
        stopped = stopped_wider f (1 + (0 + ends.1.most)) (1 + ends.1.most) a.meter z.meter (omega arith) (stopped_on f 1 0 (0 + ends.1.most) a.meter b.meter z.meter quiet ends.1.stopped);
      },
    )

    pub boots_synced : (result : Result Found BootFault) → Boots 0 b z result → Boots 1 a z result
    boots_synced result boots = record {
      images = runs_on a b z (IsOfBoot a) (keeps_of (keeps_sync a b (Ok u) sound syncs)) (leaves_weaker b z (IsOfBoot b) (IsOfBoot a) from boots.images);
      tells = boots.tells ∙ syncs.time.tells;
      steady = steady_trans a.meter b.meter z.meter (keeps_sync a b (Ok u) sound syncs).steady boots.steady;
      ends = ends_synced result boots.ends;
    }
      where
        from : (c : List ℕ) → IsOfBoot b c → IsOfBoot a c
        from c (inl was) = inl (syncs.images c was)
        from c (inr carried) = inr (carried.0, syncs.images carried.0 carried.1, carried.2)

-- Only the disk stops a migration
pub migration_of_disk : (a : DiskState) (f : BootFault) → (IsTrue a.tells → (plans : Plans) × (mark : PlainMark) × StandsIn One a.seen plans mark) → (IsTrue a.tells → StoppedBy (fault_in a.seen) f) → IsTrue a.tells → IsOfDisk f
migration_of_disk a f stands stopped told =
    let here = stands told in
    none_is_disk f (subst (λ (o : Option BootFault). StoppedBy o f) (no_fault One a.seen here.0 here.1 here.2) (stopped told))

-- and a store of layout 1 tells it
pub not_two : (a : DiskState) (layout : Layout) → (IsTrue a.tells → (plans : Plans) × (mark : PlainMark) × StandsIn One a.seen plans mark) → (IsTrue a.tells → layout ≡ layout_in (held compat_place a.seen)) → IsTrue a.tells → layout ≡ Two → ⊥
not_two a layout stands is told two = absurd (cc (sym two, is told, layout_is One (held compat_place a.seen) (stands told).2.layout))

-- A migration: reads, and then the move
module _ (a : DiskState) (sound : IsSound a) (only : Only a.seen a.images) where
  pub migration_stopped : {T : Type 0} (r : ℕ) (b : DiskState) (f : BootFault) → Step {T = T} r a b (Err f) → MigrationCalls a b (Err f)
  migration_stopped r b f step = record { items = items_at One a.seen; told = λ t. refl; went = stopped_wider f 0 (items_at One a.seen + 11) a.meter b.meter (omega arith) step.went }

  pub still_stands : {T : Type 0} (b : DiskState) (r : ℕ) (result : Result T BootFault) → Step r a b result → (plans : Plans) (mark : PlainMark) → StandsIn One a.seen plans mark → LeavesOnly a b (λ c. StandsFor c plans mark)
  still_stands b r result step plans mark stands = first_call a b (λ c. StandsFor c plans mark) sound at step.time (λ c left. at c (step.still.images c left))
    where
      at : (c : List ℕ) → a.images c → StandsFor c plans mark
      at c left = subst (λ (l : List ℕ). StandsFor l plans mark) (sym (only c left)) (One, stands)

  module _ (b : DiskState) (was : Found) (step : Step (10 + items_named was.states) a b (Ok was)) (z : DiskState) where
    pub migration_images : LeavesOnly b z (IsCarried b) → IsTrue a.tells → (plans : Plans) (mark : PlainMark) → StandsIn One a.seen plans mark → LeavesOnly a z (λ c. StandsFor c plans mark)
    migration_images images told plans mark stands =
        runs_on a b z (λ c. StandsFor c plans mark) (still_stands b (10 + items_named was.states) (Ok was) step plans mark stands) (leaves_weaker b z (IsCarried b) (λ c. StandsFor c plans mark) same images)
      where
        same : (c : List ℕ) → IsCarried b c → StandsFor c plans mark
        same c from =
            let first = only from.0 (step.still.images from.0 from.1) in
            let pair = one_pair a.seen from.2.plans plans from.2.mark mark (One, subst (λ (l : List ℕ). StandsIn One l from.2.plans from.2.mark) first from.2.was) (One, stands) in
            subst (λ (m : PlainMark). StandsFor c plans m) pair.1 (subst (λ (p : Plans). StandsFor c p from.2.mark) pair.0 from.2.is)

    pub migration_moved : z.tells ≡ b.tells → (IsTrue z.tells → Moved b.seen z.seen) → Only z.seen z.images → IsTrue a.tells → (plans : Plans) (mark : PlainMark) → StandsIn One a.seen plans mark → (c : List ℕ) → z.images c → StandsIn Two c plans mark
    migration_moved tells moved last told plans mark stands c left =
        let told_z = subst (λ x. IsTrue x) (sym (tells ∙ step.time.tells)) told in
        let again = subst (λ (l : List ℕ). StandsAgain l z.seen) step.still.seen (stands_again b.seen z.seen (moved told_z)) in
        subst (λ (l : List ℕ). StandsIn Two l plans mark) (sym (last c left)) (again plans mark (One, stands))

    pub moved_all : (result : Result (Unit {0}) BootFault) → z.tells ≡ b.tells → OnOk result (IsTrue z.tells → Moved b.seen z.seen) → OnOk result (Only z.seen z.images)
        → OnOk result (IsTrue a.tells → (plans : Plans) (mark : PlainMark) → StandsIn One a.seen plans mark → (c : List ℕ) → z.images c → StandsIn Two c plans mark)
    moved_all (Ok u) tells moved last = migration_moved tells moved last
    moved_all (Err f) tells moved last = tt

    pub migration_calls : (result : Result (Unit {0}) BootFault) → (IsTrue a.tells → AllRead One a.seen was.states was.mark_cell was.mark) → Went (items_named was.states + 11) (items_named was.states) b.meter z.meter result → MigrationCalls a z result
    migration_calls result read went = record {
      items = items_named was.states;
      told = λ t. sym (named_at One a.seen was.states (read t).states_are);
      went = went_as (0 + (items_named was.states + 11)) (items_named was.states + 11) (10 + items_named was.states + items_named was.states) a.meter z.meter result (omega arith)
          (went_on 0 (10 + items_named was.states) (items_named was.states + 11) (items_named was.states) a.meter b.meter z.meter result step.went went);
    }

-- What is found behind a sync
pub found_synced : (b z : DiskState) (result : Result Found BootFault) → Only b.seen b.images → Step (reads_behind result) b z result → IfOk result (λ is. AreStates Two is.states) → IfOk result (λ is. is.mark_cell.place ≡ mark_cell Two)
    → IfOk result (λ is. is.mark_cell.doubt ≡ false) → IfOk result (λ is. IfSome is.mark (λ mark. IsWithin is.states.mission.head (plain_mark mark)))
    → (IsTrue b.tells → Answers (fault_behind Two b.seen) (λ is. AllRead Two b.seen is.states is.mark_cell is.mark) result) → IfOk result (λ is. IsFoundIn is z)
found_synced b z (Ok is) only step states place calm within answers = record {
  only = only_still b z step.still only;
  states = states;
  place = place;
  calm = calm;
  within = within;
  read = of_last b z step.still.seen step.time.tells (λ (l : List ℕ). AllRead Two l is.states is.mark_cell is.mark) (λ told. (answers told).1);
}
found_synced b z (Err f) only step states place calm within answers = tt

pub answers_synced : (a b : DiskState) (result : Result Found BootFault) → b.seen ≡ a.seen → b.tells ≡ a.tells → (IsTrue b.tells → Answers (fault_behind Two b.seen) (λ is. AllRead Two b.seen is.states is.mark_cell is.mark) result)
    → IsTrue a.tells → Answers (fault_behind Two a.seen) (λ _. Unit {0}) result
answers_synced a b (Ok is) seen tells answers told = (of_first a b seen tells (λ (l : List ℕ). fault_behind Two l ≡ None) (λ t. (answers t).0) told, tt)
answers_synced a b (Err f) seen tells answers told = of_first a b seen tells (λ (l : List ℕ). StoppedBy (fault_behind Two l) f) answers told

-- After a move only the disk stops a boot
pub moved_of_disk : (b d : DiskState) (result : Result Found BootFault) → (IsTrue d.tells → Moved b.seen d.seen) → (IsTrue d.tells → Answers (fault_behind Two d.seen) (λ _. Unit {0}) result) → d.tells ≡ b.tells → IsTrue b.tells → IfErr result IsOfDisk
moved_of_disk b d (Ok is) moved answers tells told = tt
moved_of_disk b d (Err f) moved answers tells told =
    let t = subst (λ x. IsTrue x) (sym tells) told in
    let m = moved t in
    none_is_disk f (subst (λ (o : Option BootFault). StoppedBy o f) (none_behind Two d.seen m.plans m.mark m.is) (answers t))

-- What was moved stays while nothing is written
pub kept_moved : (first : List ℕ) (b z : DiskState) → Keeps b z → (IsTrue b.tells → Moved first b.seen) → IsTrue z.tells → Moved first z.seen
kept_moved first b z kept moved told = subst (λ (l : List ℕ). Moved first l) (sym kept.seen) (moved (subst (λ x. IsTrue x) kept.tells told))

pub kept_carried : (a b z : DiskState) → LeavesOnly a b (IsCarried a) → Keeps b z → LeavesOnly a z (IsCarried a)
kept_carried a b z images kept = runs_on a b z (IsCarried a) images (leaves_weaker b z b.images (IsCarried a) (λ c left. images.now c left) kept.images)

-- What stops the compat cell, or the cells and plans behind it, stops a boot
pub compat_stopped : (image : List ℕ) (f : BootFault) → StoppedBy (compat_fault (get_or image 0 0) (held compat_place image)) f → StoppedBy (fault_in image) f
compat_stopped image f stopped =
    let h = held compat_place image in
    stopped_as (compat_fault (get_or image 0 0) h) (fault_in image) f (λ x is. first_here (compat_fault (get_or image 0 0) h) (fault_behind (layout_in h) image) x is) stopped

pub behind_stopped : (image : List ℕ) (layout : Layout) (f : BootFault) → compat_fault (get_or image 0 0) (held compat_place image) ≡ None → layout ≡ layout_in (held compat_place image) → StoppedBy (fault_behind layout image) f → StoppedBy (fault_in image) f
behind_stopped image layout f none told stopped =
    let h = held compat_place image in
    stopped_as (fault_behind layout image) (fault_in image) f
    (λ x is. later_here (compat_fault (get_or image 0 0) h) (fault_behind (layout_in h) image) x none (ap (λ (l : Layout). fault_behind l image) (sym told) ∙ is)) stopped

-- A compat cell was opened, and what stands behind it was found
module _ (a b z : DiskState) (layout : Layout) (cell : GatedCell) (is : Found) (sound : IsSound z) (only : Only a.seen a.images) (step1 : Step {T = GatedCell × Layout} 2 a b (Ok (cell, layout))) (step2 : Step (8 + items_named is.states) b z (Ok is))
    (told1 : IsTrue a.tells → (compat_fault (get_or a.seen 0 0) (held compat_place a.seen) ≡ None) × (IsOpened cell a.seen × (layout ≡ layout_in (held compat_place a.seen))))
    (told2 : IsTrue b.tells → (fault_behind layout b.seen ≡ None) × AllRead layout b.seen is.states is.mark_cell is.mark) where
  pub looked : Step (10 + items_named is.states) a z (Ok is)
  looked =
      let same : 2 + (8 + items_named is.states) ≡ 10 + items_named is.states = omega arith in
      subst (λ (m : ℕ). Step m a z (Ok is)) same (step_then 2 (8 + items_named is.states) a b z (cell, layout) (Ok is) step1 step2)

  pub only_looked : Only z.seen z.images
  only_looked = only_still a z looked.still only

  pub known_looked : Known cell z
  known_looked = known_of z sound only_looked cell (of_last a z looked.still.seen looked.time.tells (λ (l : List ℕ). IsOpened cell l) (λ t. (told1 t).1.0))

  first : IsTrue a.tells → (fault_behind layout a.seen ≡ None) × AllRead layout a.seen is.states is.mark_cell is.mark
  first = of_first a b step1.still.seen step1.time.tells (λ (l : List ℕ). (fault_behind layout l ≡ None) × AllRead layout l is.states is.mark_cell is.mark) told2

  pub layout_looked : IsTrue a.tells → IsLayout layout (held compat_place a.seen)
  layout_looked t =
      let h = held compat_place a.seen in
      subst (λ (l : Layout). IsLayout l h) (sym (told1 t).1.1) (layout_of (get_or a.seen 0 0) h (held_size compat_place 7 a.seen refl) (told1 t).0)

  pub none_looked : IsTrue a.tells → fault_in a.seen ≡ None
  none_looked t = none_of_two _ _ (told1 t).0 (ap (λ (l : Layout). fault_behind l a.seen) (sym (told1 t).1.1) ∙ (first t).0)

  -- of one layout or the other
  module _ (which : Layout) (same : layout ≡ which) where
    pub told_looked : IsTrue a.tells → IsLayout which (held compat_place a.seen) × (which ≡ layout_in (held compat_place a.seen)) × (fault_in a.seen ≡ None) × AllRead which a.seen is.states is.mark_cell is.mark
    told_looked t = subst (λ (l : Layout). IsLayout l (held compat_place a.seen) × (l ≡ layout_in (held compat_place a.seen)) × (fault_in a.seen ≡ None) × AllRead l a.seen is.states is.mark_cell is.mark) same (
      layout_looked t,
      (told1 t).1.1,
      none_looked t,
      (first t).1,
    )

    pub layout_last : IsTrue z.tells → IsLayout which (held compat_place z.seen)
    layout_last = of_last a z looked.still.seen looked.time.tells (λ (l : List ℕ). IsLayout which (held compat_place l)) (λ t. (told_looked t).0)

    pub read_last : IsTrue z.tells → AllRead which z.seen is.states is.mark_cell is.mark
    read_last = of_last a z looked.still.seen looked.time.tells (λ (l : List ℕ). AllRead which l is.states is.mark_cell is.mark) (λ t. (told_looked t).3)

  pub found_two : layout ≡ Two → AreStates layout is.states → is.mark_cell.place ≡ mark_cell layout → is.mark_cell.doubt ≡ false → IfSome is.mark (λ mark. IsWithin is.states.mission.head (plain_mark mark)) → IsFoundIn is z
  found_two same states place calm within = record {
    only = only_looked;
    states = subst (λ (l : Layout). AreStates l is.states) same states;
    place = place ∙ ap mark_cell same;
    calm = calm;
    within = within;
    read = read_last Two same;
  }
