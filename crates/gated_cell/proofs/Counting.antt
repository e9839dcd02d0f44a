-- A write and then a sync, by the disk's counts.
use Rattle.std.specs.Prelude.{◌≡◌, ◌⊎◌, ◌≤◌, ℕ, Bool, true, false, is_ok, IsTrue, Result, Ok, Err, IfErr, IsErrAnd, IsErrOf}
use Rattle.std.proofs.Common.{refl, sym, ap, subst, inl, inr, arith, ◌∙◌}
use Rattle.std.proofs.lemmas.Bool.{false≢true, true≢false}
use Rattle.disk_model.specs.Disk.{Meter, AfterCall, AfterChange, AfterRead, Rose, next_call}
use Rattle.disk_model.specs.Meters.{Uncut, uncut_start, uncut_change, uncut_read, cut_in_change, cut_in_read, ok_is_uncut, failed_is_uncut, failed_rose, ok_is_calm, cut_comes, CutWithin, OneOfChanges, OneOfReads}
use Rattle.disk_model.specs.declared.disk.DiskFault.{DiskFault}
use Rattle.disk_model.specs.declared.disk.DiskFault.TheVariants as fault
use Rattle.gated_cell.specs.declared.fault.CellFault.{CellFault}
use Rattle.gated_cell.specs.declared.fault.CellFault.TheVariants as cell_fault
use Rattle.gated_cell.specs.Refusals.{Refused, NotClosed, Asks}

-- the cell's word for the disk's
abbrev pub Gives : DiskFault → CellFault → Type 0
Gives f e = (f ≡ fault.Failed → e ≡ cell_fault.Failed) × (f ≡ fault.Cut → e ≡ cell_fault.Cut)

-- Rose from an earlier count
rose_later : (a b c : Meter) → a.faults ≤ b.faults → Rose b.faults c.faults → Rose a.faults c.faults
rose_later a b c low rose = omega (arith, low, rose)

-- the disk refused the first write or sync
pub refused_first : (f : DiskFault) (e : CellFault) (old new : Meter) → AfterChange old new (Err f) → Gives f e → Refused 2 0 old new e
refused_first fault.Failed e old new after gives =
    subst (Refused 2 0 old new) (sym (gives.0 refl))
    (failed_rose _ old new after.call, (1, 0, omega arith, omega arith, uncut_change 0 0 old old new _ (uncut_start old) (failed_is_uncut _ old new after.call) after))
refused_first fault.Cut e old new after gives =
    subst (Refused 2 0 old new) (sym (gives.1 refl))
    (λ on. within (cut_in_change 0 0 old old new _ (uncut_start old) (cut_comes _ old new on after.call) after))
  where
    within : CutWithin 1 0 old new → CutWithin 2 0 old new
    within w = record { size = w.size; can_cut = w.can_cut; faults = w.faults; comes = w.comes; place = λ can on. wider (w.place can on) }
      where
        wider : OneOfChanges 1 old ⊎ OneOfReads 0 old → OneOfChanges 2 old ⊎ OneOfReads 0 old
        wider (inl one) = inl (one.0, omega (arith, one.1), one.2)
        wider (inr one) = inr one

made_one : (old mid : Meter) (u : Unit {0}) → AfterChange old mid (Ok u) → Uncut 1 0 old mid
made_one old mid u after = uncut_change 0 0 old old mid _ (uncut_start old) (ok_is_uncut _ old mid u after.call) after

-- or the second
pub refused_second : (f : DiskFault) (e : CellFault) (u : Unit {0}) (old mid new : Meter) → AfterChange old mid (Ok u) → AfterChange mid new (Err f) → Gives f e → Refused 2 0 old new e
refused_second fault.Failed e u old mid new first after gives =
    subst (Refused 2 0 old new) (sym (gives.0 refl)) (
      rose_later old mid new first.call.faults (failed_rose _ mid new after.call),
      (
        2,
        0,
        omega arith,
        omega arith,
        uncut_change 1 0 old mid new _ (made_one old mid u first) (failed_is_uncut _ mid new after.call) after,
      ),
    )
refused_second fault.Cut e u old mid new first after gives =
    subst (Refused 2 0 old new) (sym (gives.1 refl))
    (λ on. cut_in_change 1 0 old mid new _ (made_one old mid u first) (cut_comes _ mid new (still_on on) after.call) after)
  where
    still_on : IsTrue old.power → IsTrue mid.power
    still_on on = (ok_is_uncut _ old mid u first.call).power ∙ on

-- both were made
pub made_both : (old mid new : Meter) (u v : Unit {0}) → AfterChange old mid (Ok u) → AfterChange mid new (Ok v) → Uncut 2 0 old new
made_both old mid new u v first second = uncut_change 1 0 old mid new _ (made_one old mid u first) (ok_is_uncut _ mid new v second.call) second

-- and no fault was counted
pub calm_both : (old mid new : Meter) (u v : Unit {0}) → AfterChange old mid (Ok u) → AfterChange mid new (Ok v) → new.faults ≡ old.faults
calm_both old mid new u v first second = ok_is_calm _ mid new v second.call ∙ ok_is_calm _ old mid u first.call

-- the disk refused the first read
pub refused_read : (f : DiskFault) (e : CellFault) (old new : Meter) → AfterRead old new (Err f) → Gives f e → Refused 0 2 old new e
refused_read fault.Failed e old new after gives =
    subst (Refused 0 2 old new) (sym (gives.0 refl))
    (failed_rose _ old new after.call, (0, 1, omega arith, omega arith, uncut_read 0 0 old old new _ (uncut_start old) (failed_is_uncut _ old new after.call) after))
refused_read fault.Cut e old new after gives =
    subst (Refused 0 2 old new) (sym (gives.1 refl))
    (λ on. within (cut_in_read 0 0 old old new _ (uncut_start old) (cut_comes _ old new on after.call) after))
  where
    within : CutWithin 0 1 old new → CutWithin 0 2 old new
    within w = record { size = w.size; can_cut = w.can_cut; faults = w.faults; comes = w.comes; place = λ can on. wider (w.place can on) }
      where
        wider : OneOfChanges 0 old ⊎ OneOfReads 1 old → OneOfChanges 0 old ⊎ OneOfReads 2 old
        wider (inl one) = inl one
        wider (inr one) = inr (one.0, omega (arith, one.1), one.2)

read_one : (old mid : Meter) (u : Unit {0}) → AfterRead old mid (Ok u) → Uncut 0 1 old mid
read_one old mid u after = uncut_read 0 0 old old mid _ (uncut_start old) (ok_is_uncut _ old mid u after.call) after

-- or the second
pub refused_reread : (f : DiskFault) (e : CellFault) (u : Unit {0}) (old mid new : Meter) → AfterRead old mid (Ok u) → AfterRead mid new (Err f) → Gives f e → Refused 0 2 old new e
refused_reread fault.Failed e u old mid new first after gives =
    subst (Refused 0 2 old new) (sym (gives.0 refl)) (
      rose_later old mid new first.call.faults (failed_rose _ mid new after.call),
      (
        0,
        2,
        omega arith,
        omega arith,
        uncut_read 0 1 old mid new _ (read_one old mid u first) (failed_is_uncut _ mid new after.call) after,
      ),
    )
refused_reread fault.Cut e u old mid new first after gives =
    subst (Refused 0 2 old new) (sym (gives.1 refl))
    (λ on. cut_in_read 0 1 old mid new _ (read_one old mid u first) (cut_comes _ mid new (still_on on) after.call) after)
  where
    still_on : IsTrue old.power → IsTrue mid.power
    still_on on = (ok_is_uncut _ old mid u first.call).power ∙ on

-- both were read
pub read_both : (old mid new : Meter) (u v : Unit {0}) → AfterRead old mid (Ok u) → AfterRead mid new (Ok v) → Uncut 0 2 old new
read_both old mid new u v first second = uncut_read 0 1 old mid new _ (read_one old mid u first) (ok_is_uncut _ mid new v second.call) second

-- and no fault was counted
pub calm_reads : (old mid new : Meter) (u v : Unit {0}) → AfterRead old mid (Ok u) → AfterRead mid new (Ok v) → new.faults ≡ old.faults
calm_reads old mid new u v first second = ok_is_calm _ mid new v second.call ∙ ok_is_calm _ old mid u first.call

-- a refusal that the cell's word for the disk's tells
pub if_err : {T : Type 0} (result : Result T CellFault) (f : DiskFault) (P : CellFault → Type 0) → IsErrAnd result (Gives f) → ((e : CellFault) → Gives f e → P e) → IfErr result P
if_err (Ok x) f P gives why = tt
if_err (Err e) f P gives why = why e gives

pub not_closed : (generation : ℕ) (old new : Meter) (e : CellFault) → Refused 2 0 old new e → NotClosed generation old new e
not_closed generation old new cell_fault.Failed refused = refused
not_closed generation old new cell_fault.Cut refused = refused
not_closed generation old new (cell_fault.Spent g) refused = absurd refused
not_closed generation old new (cell_fault.Twins g) refused = refused

abbrev is_cut : Result (Unit {0}) DiskFault → Bool
is_cut (Ok _) = false
is_cut (Err fault.Failed) = false
is_cut (Err fault.Cut) = true

-- with the power off no call is Ok
not_off : {T : Type 0} (named : Bool) (old new : Meter) (u : Unit {0}) (result : Result T CellFault) → AfterCall named old new (Ok u) → old.power ≡ false → IsErrOf result cell_fault.Cut
not_off named old new u result after power = absurd (true≢false (ap is_ok (after.off power).0))

-- and the answer is Cut
said_cut : {T : Type 0} (named : Bool) (old new : Meter) (f : DiskFault) (result : Result T CellFault) → AfterCall named old new (Err f) → IsErrAnd result (Gives f) → old.power ≡ false → IsErrOf result cell_fault.Cut
said_cut named old new f (Ok x) after gives power = absurd gives
said_cut named old new fault.Failed (Err e) after gives power = absurd (false≢true (ap is_cut (after.off power).0))
said_cut named old new fault.Cut (Err e) after gives power = ap (λ (x : CellFault). Err x) (gives.1 refl)

-- what is asked where the first write or sync is refused, where the second is, and where neither is
pub asks_first : {T : Type 0} (result : Result T CellFault) (f : DiskFault) (old new : Meter) → AfterChange old new (Err f) → IsErrAnd result (Gives f) → Asks 2 0 old new result
asks_first result f old new after gives = record { changes = (1, omega arith, after.changes); reads = (0, omega arith, after.reads); off = said_cut _ old new f result after.call gives }

pub asks_both : {T : Type 0} (result : Result T CellFault) (u : Unit {0}) (old mid new : Meter) (last : _) → AfterChange old mid (Ok u) → AfterChange mid new last → Asks 2 0 old new result
asks_both result u old mid new last first second = record {
  changes = (2, omega arith, second.changes ∙ ap next_call first.changes);
  reads = (0, omega arith, second.reads ∙ first.reads);
  off = not_off _ old mid u result first.call;
}

-- the same of reads
pub asks_read : {T : Type 0} (result : Result T CellFault) (f : DiskFault) (old new : Meter) → AfterRead old new (Err f) → IsErrAnd result (Gives f) → Asks 0 2 old new result
asks_read result f old new after gives = record { changes = (0, omega arith, after.changes); reads = (1, omega arith, after.reads); off = said_cut _ old new f result after.call gives }

pub asks_reread : {T : Type 0} (result : Result T CellFault) (u : Unit {0}) (old mid new : Meter) (last : _) → AfterRead old mid (Ok u) → AfterRead mid new last → Asks 0 2 old new result
asks_reread result u old mid new last first second = record {
  changes = (0, omega arith, second.changes ∙ first.changes);
  reads = (2, omega arith, second.reads ∙ ap next_call first.reads);
  off = not_off _ old mid u result first.call;
}
