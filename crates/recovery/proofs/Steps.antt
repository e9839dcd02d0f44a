-- Steps of a boot that follow one another.
use Rattle.std.specs.Prelude.{◌≡◌, ◌+◌, ◌≤◌, ℕ, IsTrue, List, Option, Result, Ok, Err, IsErrAnd}
use Rattle.std.proofs.Common.{refl, sym, subst, inl, inr, ⊎_elim, arith, ◌∙◌}
use Rattle.disk_model.specs.declared.disk.DiskFault.{DiskFault}
use Rattle.disk_model.specs.declared.disk.DiskFault.TheVariants as fault
use Rattle.disk_model.specs.Disk.{DiskState, Meter, Still, Elapses, Reads, Syncs, AfterRead, AfterChange, Only, IsSound}
use Rattle.disk_model.specs.Every.{Steady}
use Rattle.disk_model.specs.Moments.{first_call, goes_on}
use Rattle.disk_model.specs.Meters.{uncut_start, uncut_read, uncut_change, cut_in_read, cut_in_change, ok_is_uncut, ok_is_calm, failed_is_uncut, failed_rose, cut_comes}
use Rattle.gated_cell.specs.declared.fault.CellFault.{CellFault}
use Rattle.gated_cell.specs.declared.fault.CellFault.TheVariants as cell_fault
use Rattle.gated_cell.specs.declared.place.CellPlace.{CellPlace}
use Rattle.gated_cell.specs.Refusals.{NotOpened}
use Rattle.recovery.specs.declared.fault.BootFault.{BootFault}
use Rattle.recovery.specs.declared.fault.BootFault.TheVariants.{NotAStore, UnknownVersion, BadCell, BadItem, DiskFailed, PowerOff}
use Rattle.recovery.specs.Steps.{Made, Stopped, Quietly, Went, Step, Keeps, StoppedBy, IsOfDisk, fault_of}
use Rattle.bank_state.specs.Counting.{uncut_on, cut_on}

-- the word of a boot for the disk's
abbrev pub Gives : DiskFault → BootFault → Type 0
Gives f e = (f ≡ fault.Failed → e ≡ DiskFailed) × (f ≡ fault.Cut → e ≡ PowerOff)

pub still_trans : (a b c : DiskState) → Still a b → Still b c → Still a c
still_trans a b c first second = record { seen = second.seen ∙ first.seen; images = λ x left. first.images x (second.images x left); kept = λ x left. second.kept x (first.kept x left) }

-- the images of the first step are still those of the second
pub elapses_trans : (a b c : DiskState) → Elapses a b → Still b c → Elapses b c → Elapses a c
elapses_trans a b c first still second = record {
  tells = second.tells ∙ first.tells;
  tells_since = second.tells_since ∙ first.tells_since;
  later = omega (arith, first.later, second.later);
  nothing_else = λ t x le left. ⊎_elim (λ was. ⊎_elim (λ w. inl w) (λ now. inr (still.kept x now)) (first.nothing_else t x le was)) (λ now. inr now) (second.nothing_else t x (omega (arith, le, first.later)) left);
  keeps = λ told t x le left. second.keeps (subst (λ b. IsTrue b) (sym first.tells_since) told) t x (omega (arith, le, first.later)) (first.keeps told t x le left);
}

pub steady_trans : (a b c : Meter) → Steady a b → Steady b c → Steady a c
steady_trans a b c first second = record { size = second.size ∙ first.size; can_cut = second.can_cut ∙ first.can_cut; faults = omega (arith, first.faults, second.faults) }

made_on : (k r j : ℕ) (a b c : Meter) → Quietly k r a b → Made j b c → Made (k + j) a c
made_on k r j a b c first second = (
  k + second.0,
  r + second.1,
  omega (arith, second.2),
  uncut_on k r second.0 second.1 a b c first.1 second.3,
)

-- stopped after some calls
pub stopped_on : (f : BootFault) (k r j : ℕ) (a b c : Meter) → Quietly k r a b → Stopped j b c f → Stopped (k + j) a c f
stopped_on DiskFailed k r j a b c first stopped = (omega (arith, first.0, stopped.0), made_on k r j a b c first stopped.1)
stopped_on PowerOff k r j a b c first stopped = λ on.
    let cut = stopped (first.1.no_cut.power ∙ on) in (
      k + cut.0,
      r + cut.1,
      omega (arith, cut.2),
      cut_on k r cut.0 cut.1 a b c first.1 cut.3,
    )
stopped_on (NotAStore byte) k r j a b c first stopped = made_on k r j a b c first stopped
stopped_on (UnknownVersion number) k r j a b c first stopped = made_on k r j a b c first stopped
stopped_on (BadCell number) k r j a b c first stopped = made_on k r j a b c first stopped
stopped_on (BadItem kind seq) k r j a b c first stopped = made_on k r j a b c first stopped

pub quietly_on : (k r j i : ℕ) (a b c : Meter) → Quietly k r a b → Quietly j i b c → Quietly (k + j) (r + i) a c
quietly_on k r j i a b c first second = (second.0 ∙ first.0, uncut_on k r j i a b c first.1 second.1)

pub went_on : {T : Type 0} (k r j i : ℕ) (a b c : Meter) (result : Result T BootFault) → Quietly k r a b → Went j i b c result → Went (k + j) (r + i) a c result
went_on k r j i a b c (Ok x) first went = quietly_on k r j i a b c first went
went_on k r j i a b c (Err f) first went = stopped_on f k r j a b c first went

-- stopped by what was read
pub found : (f : BootFault) (k r : ℕ) (a b : Meter) → (IsOfDisk f → ⊥) → Quietly k r a b → Stopped k a b f
found DiskFailed k r a b of quiet = absurd (of tt)
found PowerOff k r a b of quiet = absurd (of tt)
found (NotAStore byte) k r a b of quiet = (k, r, omega arith, quiet.1)
found (UnknownVersion number) k r a b of quiet = (k, r, omega arith, quiet.1)
found (BadCell number) k r a b of quiet = (k, r, omega arith, quiet.1)
found (BadItem kind seq) k r a b of quiet = (k, r, omega arith, quiet.1)

-- a step after a step that was done
pub step_then : {T U : Type 0} (r i : ℕ) (a b c : DiskState) (x : T) (result : Result U BootFault) → Step r a b (Ok x) → Step i b c result → Step (r + i) a c result
step_then r i a b c x result first second = record {
  still = still_trans a b c first.still second.still;
  time = elapses_trans a b c first.time second.still second.time;
  steady = steady_trans a.meter b.meter c.meter first.steady second.steady;
  went = went_on 0 r 0 i a.meter b.meter c.meter result first.went second.went;
}

-- no step yet
pub step_start : {T : Type 0} (a : DiskState) (x : T) → Step 0 a a (Ok x)
step_start a x = record {
  still = record { seen = refl; images = λ c left. left; kept = λ c left. left };
  time = record { tells = refl; tells_since = refl; later = omega arith; nothing_else = λ t c le left. inl left; keeps = λ told t c le left. left };
  steady = record { size = refl; can_cut = refl; faults = omega arith };
  went = (refl, uncut_start a.meter);
}

-- the same calls, which gave something else
pub step_as : {T U : Type 0} (r : ℕ) (a b : DiskState) (x : T) (y : U) → Step r a b (Ok x) → Step r a b (Ok y)
step_as r a b x y step = record { still = step.still; time = step.time; steady = step.steady; went = step.went }

-- the step that stopped it
pub step_stopped : {T U : Type 0} (r i : ℕ) (a b : DiskState) (f : BootFault) → Step {T = T} r a b (Err f) → Step {T = U} i a b (Err f)
step_stopped r i a b f step = record { still = step.still; time = step.time; steady = step.steady; went = step.went }

-- what a step read stopped it
pub step_found : {T U : Type 0} (r i : ℕ) (a b : DiskState) (x : T) (f : BootFault) → (IsOfDisk f → ⊥) → Step r a b (Ok x) → Step {T = U} i a b (Err f)
step_found r i a b x f of step = record { still = step.still; time = step.time; steady = step.steady; went = found f 0 r a.meter b.meter of step.went }

-- a fault that is passed on
pub passed_on : {T : Type 0} (P : Result T BootFault → Type 0) (result : Result T BootFault) (f : BootFault) → IsErrAnd result (λ e. e ≡ f) → P (Err f) → P result
passed_on P (Ok x) f is holds = absurd is
passed_on P (Err e) f is holds = subst (λ (y : BootFault). P (Err y)) (sym is) holds

-- or one of the disk's
pub passed_up : {T : Type 0} (P : Result T BootFault → Type 0) (result : Result T BootFault) (f : DiskFault) → IsErrAnd result (Gives f) → ((e : BootFault) → Gives f e → P (Err e)) → P result
passed_up P (Ok x) f gives holds = absurd gives
passed_up P (Err e) f gives holds = holds e gives

-- a read
pub read_steady : (a b : DiskState) (result : _) → AfterRead a.meter b.meter result → Steady a.meter b.meter
read_steady a b result after = record { size = after.call.size; can_cut = after.call.can_cut; faults = after.call.faults }

pub step_read : {T : Type 0} (at n : ℕ) (got : List ℕ) (a b : DiskState) (u : Unit {0}) (x : T) → Reads at n a b got (Ok u) → Step 1 a b (Ok x)
step_read at n got a b u x reads = record {
  still = reads.still;
  time = reads.time;
  steady = read_steady a b (Ok u) reads.meter;
  went = (ok_is_calm _ a.meter b.meter u reads.meter.call, uncut_read 0 0 a.meter a.meter b.meter _ (uncut_start a.meter) (ok_is_uncut _ a.meter b.meter u reads.meter.call) reads.meter);
}

pub read_stopped : (f : DiskFault) (e : BootFault) (a b : Meter) → AfterRead a b (Err f) → Gives f e → Stopped 0 a b e
read_stopped fault.Failed e a b after gives =
    subst (Stopped 0 a b) (sym (gives.0 refl)) (
      failed_rose _ a b after.call,
      (0, 1, omega arith, uncut_read 0 0 a a b _ (uncut_start a) (failed_is_uncut _ a b after.call) after),
    )
read_stopped fault.Cut e a b after gives =
    subst (Stopped 0 a b) (sym (gives.1 refl)) (λ on. (
      0,
      1,
      omega arith,
      cut_in_read 0 0 a a b _ (uncut_start a) (cut_comes _ a b on after.call) after,
    ))

-- a read that was refused
pub step_unread : {T : Type 0} (r at n : ℕ) (got : List ℕ) (a b : DiskState) (f : DiskFault) (e : BootFault) → Reads at n a b got (Err f) → Gives f e → Step {T = T} r a b (Err e)
step_unread r at n got a b f e reads gives = record {
  still = reads.still;
  time = reads.time;
  steady = read_steady a b (Err f) reads.meter;
  went = read_stopped f e a.meter b.meter reads.meter gives;
}

-- the only image stays the only one
pub only_still : (a b : DiskState) → Still a b → Only a.seen a.images → Only b.seen b.images
only_still a b still only c left = only c (still.images c left) ∙ sym still.seen

-- a cell that was not opened, by the disk or because of twins
pub unopened : (number : ℕ) (place : CellPlace) (a b : DiskState) (e : CellFault) → NotOpened place a b e → Stopped 0 a.meter b.meter (fault_of number e)
unopened number place a b cell_fault.Failed why = (why.0, (why.1.0, why.1.1, why.1.2, why.1.4))
unopened number place a b cell_fault.Cut why = λ on. (0, 2, omega arith, why on)
unopened number place a b (cell_fault.Twins g) why = (0, 2, omega arith, why.1)
unopened number place a b (cell_fault.Spent g) why = absurd why

-- the disk stopped it
pub by_disk : (found : Option BootFault) (f : BootFault) → IsOfDisk f → StoppedBy found f
by_disk found DiskFailed of = tt
by_disk found PowerOff of = tt
by_disk found (NotAStore byte) of = absurd of
by_disk found (UnknownVersion number) of = absurd of
by_disk found (BadCell number) of = absurd of
by_disk found (BadItem kind seq) of = absurd of

pub disk_gives : (f : DiskFault) (e : BootFault) → Gives f e → IsOfDisk e
disk_gives fault.Failed e gives = subst IsOfDisk (sym (gives.0 refl)) tt
disk_gives fault.Cut e gives = subst IsOfDisk (sym (gives.1 refl)) tt

-- a sync
pub keeps_sync : (a b : DiskState) (result : _) → IsSound a → Syncs a b result → Keeps a b
keeps_sync a b result sound syncs = record {
  seen = syncs.seen;
  tells = syncs.time.tells;
  images = first_call a b a.images sound (λ c left. left) syncs.time (λ c left. syncs.images c left);
  steady = record { size = syncs.meter.call.size; can_cut = syncs.meter.call.can_cut; faults = syncs.meter.call.faults };
}

-- and reads after it
pub keeps_on : {T : Type 0} (r : ℕ) (a b c : DiskState) (result : Result T BootFault) → Keeps a b → Step r b c result → Keeps a c
keeps_on r a b c result kept step = record {
  seen = step.still.seen ∙ kept.seen;
  tells = step.time.tells ∙ kept.tells;
  images = goes_on a b c a.images kept.images step.time (λ d left. kept.images.now d (step.still.images d left));
  steady = steady_trans a.meter b.meter c.meter kept.steady step.steady;
}

pub quiet_sync : (a b : Meter) (u : Unit {0}) → AfterChange a b (Ok u) → Quietly 1 0 a b
quiet_sync a b u after = (ok_is_calm _ a b u after.call, uncut_change 0 0 a a b _ (uncut_start a) (ok_is_uncut _ a b u after.call) after)

-- a write or a sync that was refused
pub change_stopped : (f : DiskFault) (e : BootFault) (a b : Meter) → AfterChange a b (Err f) → Gives f e → Stopped 1 a b e
change_stopped fault.Failed e a b after gives =
    subst (Stopped 1 a b) (sym (gives.0 refl)) (
      failed_rose _ a b after.call,
      (1, 0, omega arith, uncut_change 0 0 a a b _ (uncut_start a) (failed_is_uncut _ a b after.call) after),
    )
change_stopped fault.Cut e a b after gives =
    subst (Stopped 1 a b) (sym (gives.1 refl)) (λ on. (
      1,
      0,
      omega arith,
      cut_in_change 0 0 a a b _ (uncut_start a) (cut_comes _ a b on after.call) after,
    ))

made_wider : (j k : ℕ) (a b : Meter) → j ≤ k → Made j a b → Made k a b
made_wider j k a b low made = (made.0, made.1, omega (arith, low, made.2), made.3)

-- stopped by at most j calls is stopped by at most k
pub stopped_wider : (f : BootFault) (j k : ℕ) (a b : Meter) → j ≤ k → Stopped j a b f → Stopped k a b f
stopped_wider DiskFailed j k a b low stopped = (stopped.0, made_wider j k a b low stopped.1)
stopped_wider PowerOff j k a b low stopped = λ on.
    let cut = stopped on in
    (cut.0, cut.1, omega (arith, low, cut.2), cut.3)
stopped_wider (NotAStore byte) j k a b low stopped = made_wider j k a b low stopped
stopped_wider (UnknownVersion number) j k a b low stopped = made_wider j k a b low stopped
stopped_wider (BadCell number) j k a b low stopped = made_wider j k a b low stopped
stopped_wider (BadItem kind seq) j k a b low stopped = made_wider j k a b low stopped
