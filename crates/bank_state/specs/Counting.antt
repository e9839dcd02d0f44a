-- Calls that come after others, by the disk's counts.
use Rattle.std.proofs.Common.{◌≡◌, ◌⊎◌, ◌+◌, ◌-◌, ◌≤◌, ℕ, zero, suc, false, IsTrue, Option, inl, inr, ⊎_elim, refl, ap, subst, ◌∙◌, arith}
use Rattle.std.specs.Prelude.{Result, Ok, Err, OnOk, IfErr, IsErrAnd, IsSome}
use Rattle.std.proofs.lemmas.Bool.{cases_lt}
use Rattle.disk_model.specs.declared.disk.CutAt.{CutAt}
use Rattle.disk_model.specs.Disk.{Meter, counted, next_call, names_change, names_read}
use Rattle.disk_model.specs.Meters.{Uncut, CutWithin, calls_on, NoneOfChanges, OneOfChanges, NoneOfReads, OneOfReads}
use Rattle.gated_cell.specs.declared.fault.CellFault.{CellFault}
use Rattle.gated_cell.specs.declared.fault.CellFault.TheVariants as cell_fault
use Rattle.gated_cell.specs.Refusals.{Refused, UncutWithin, Asks}
use Rattle.bank_state.specs.Swap.{NotDone}

pub calls_on_more : (n k j : ℕ) → calls_on (calls_on n k) j ≡ calls_on n (k + j)
calls_on_more n k zero =
    let same : k ≡ k + 0 = omega arith in
    ap (calls_on n) same
calls_on_more n k (suc j) =
    let same : suc (k + j) ≡ k + suc j = omega arith in
    ap next_call (calls_on_more n k j) ∙ ap (calls_on n) same

-- the number of a later call, counted from the begin
later : (n m k y x : ℕ) → m ≡ calls_on n k → x ≡ k + y → calls_on m (suc y) ≡ calls_on n (suc x)
later n m k y x after is =
    let same : k + suc y ≡ suc x = omega (arith, is) in
    ap (λ (s : ℕ). calls_on s (suc y)) after ∙ calls_on_more n k (suc y) ∙ ap (calls_on n) same

-- calls without a cut after others
pub uncut_on : (k r j i : ℕ) (a b c : Meter) → Uncut k r a b → Uncut j i b c → Uncut (k + j) (r + i) a c
uncut_on k r j i a b c first second = record {
  size = second.size ∙ first.size;
  can_cut = second.can_cut ∙ first.can_cut;
  faults = omega (arith, first.faults, second.faults);
  no_cut = record { cuts = second.no_cut.cuts ∙ first.no_cut.cuts; power = second.no_cut.power ∙ first.no_cut.power; armed = second.no_cut.armed ∙ first.no_cut.armed };
  changes = second.changes ∙ ap (λ (s : ℕ). calls_on s j) first.changes ∙ calls_on_more a.changes k j;
  reads = second.reads ∙ ap (λ (s : ℕ). calls_on s i) first.reads ∙ calls_on_more a.reads r i;
  passed = λ can on. (changes can on, reads can on);
}
  where
    changes : IsTrue a.can_cut → IsTrue a.power → NoneOfChanges (k + j) a
    changes can on x below = ⊎_elim (λ low. (first.passed can on).0 x low) (λ high. behind high (high_part x high)) (cases_lt x k)
      where
        high_part : (x : ℕ) → k ≤ x → (y : ℕ) × (x ≡ k + y)
        high_part x high = (x - k, omega (arith, high))

        behind : k ≤ x → (y : ℕ) × (x ≡ k + y) → names_change a.armed (calls_on a.changes (suc x)) ≡ false
        behind high part =
            let none = (second.passed (first.can_cut ∙ can) (first.no_cut.power ∙ on)).0 part.0 (omega (arith, below, part.1)) in
            subst (λ (m : ℕ). names_change a.armed m ≡ false) (later a.changes b.changes k part.0 x first.changes part.1)
            (subst (λ (o : Option CutAt). names_change o (calls_on b.changes (suc part.0)) ≡ false) first.no_cut.armed none)

    reads : IsTrue a.can_cut → IsTrue a.power → NoneOfReads (r + i) a
    reads can on x below = ⊎_elim (λ low. (first.passed can on).1 x low) (λ high. behind (high_part x high)) (cases_lt x r)
      where
        high_part : (x : ℕ) → r ≤ x → (y : ℕ) × (x ≡ r + y)
        high_part x high = (x - r, omega (arith, high))

        behind : (y : ℕ) × (x ≡ r + y) → names_read a.armed (calls_on a.reads (suc x)) ≡ false
        behind part =
            let none = (second.passed (first.can_cut ∙ can) (first.no_cut.power ∙ on)).1 part.0 (omega (arith, below, part.1)) in
            subst (λ (m : ℕ). names_read a.armed m ≡ false) (later a.reads b.reads r part.0 x first.reads part.1)
            (subst (λ (o : Option CutAt). names_read o (calls_on b.reads (suc part.0)) ≡ false) first.no_cut.armed none)

-- a cut inside one of calls after others
pub cut_on : (k r j i : ℕ) (a b c : Meter) → Uncut k r a b → CutWithin j i b c → CutWithin (k + j) (r + i) a c
cut_on k r j i a b c first cut = record {
  size = cut.size ∙ first.size;
  can_cut = cut.can_cut ∙ first.can_cut;
  faults = omega (arith, first.faults, cut.faults);
  comes = record {
    armed = subst (λ (o : Option CutAt). IsSome o) first.no_cut.armed cut.comes.armed;
    rose = cut.comes.rose ∙ ap counted first.no_cut.cuts;
    off = cut.comes.off;
    disarmed = cut.comes.disarmed;
  };
  place = λ can on. there (cut.place (first.can_cut ∙ can) (first.no_cut.power ∙ on));
}
  where
    there : OneOfChanges j b ⊎ OneOfReads i b → OneOfChanges (k + j) a ⊎ OneOfReads (r + i) a
    there (inl one) = inl (
      k + one.0,
      omega (arith, one.1),
      subst (λ (m : ℕ). IsTrue (names_change a.armed m)) (later a.changes b.changes k one.0 (k + one.0) first.changes refl)
          (subst (λ (o : Option CutAt). IsTrue (names_change o (calls_on b.changes (suc one.0)))) first.no_cut.armed one.2),
    )
    there (inr one) = inr (
      r + one.0,
      omega (arith, one.1),
      subst (λ (m : ℕ). IsTrue (names_read a.armed m)) (later a.reads b.reads r one.0 (r + one.0) first.reads refl)
          (subst (λ (o : Option CutAt). IsTrue (names_read o (calls_on b.reads (suc one.0)))) first.no_cut.armed one.2),
    )

-- a cut inside one of some calls is inside one of more
pub cut_wider : (k r m n : ℕ) (a b : Meter) → k ≤ m → r ≤ n → CutWithin k r a b → CutWithin m n a b
cut_wider k r m n a b more longer cut = record { size = cut.size; can_cut = cut.can_cut; faults = cut.faults; comes = cut.comes; place = λ can on. wider (cut.place can on) }
  where
    wider : OneOfChanges k a ⊎ OneOfReads r a → OneOfChanges m a ⊎ OneOfReads n a
    wider (inl one) = inl (one.0, omega (arith, one.1, more), one.2)
    wider (inr one) = inr (one.0, omega (arith, one.1, longer), one.2)

-- calls without a cut within more calls than there were
pub uncut_within_on : (k r j i m n : ℕ) (a b c : Meter) → k + j ≤ m → r + i ≤ n → Uncut k r a b → UncutWithin j i b c → UncutWithin m n a c
uncut_within_on k r j i m n a b c few short first rest = (k + rest.0, r + rest.1, omega (arith, few, rest.2), omega (arith, short, rest.3), uncut_on k r rest.0 rest.1 a b c first rest.4)

-- a refusal of calls after others
pub refused_on : (e : CellFault) (k r j i m n : ℕ) (a b c : Meter) → k + j ≤ m → r + i ≤ n → Uncut k r a b → Refused j i b c e → Refused m n a c e
refused_on cell_fault.Failed k r j i m n a b c few short first refused =
    let rest = refused.1 in (
      omega (arith, first.faults, refused.0),
      (
        k + rest.0,
        r + rest.1,
        omega (arith, few, rest.2),
        omega (arith, short, rest.3),
        uncut_on k r rest.0 rest.1 a b c first rest.4,
      ),
    )
refused_on cell_fault.Cut k r j i m n a b c few short first refused = λ on. cut_wider (k + j) (r + i) m n a c few short (cut_on k r j i a b c first (refused (first.no_cut.power ∙ on)))
refused_on (cell_fault.Spent g) k r j i m n a b c few short first refused = absurd refused
refused_on (cell_fault.Twins g) k r j i m n a b c few short first refused = absurd refused

-- calls after others are so many in all
pub asks_on : {T : Type 0} (k r j i m n : ℕ) (a b c : Meter) (result : Result T CellFault) → k + j ≤ m → r + i ≤ n → Uncut k r a b → Asks j i b c result → Asks m n a c result
asks_on k r j i m n a b c result few short first asks = record {
  changes = (k + asks.changes.0, omega (arith, few, asks.changes.1), asks.changes.2 ∙ ap (λ (s : ℕ). calls_on s asks.changes.0) first.changes ∙ calls_on_more a.changes k asks.changes.0);
  reads = (r + asks.reads.0, omega (arith, short, asks.reads.1), asks.reads.2 ∙ ap (λ (s : ℕ). calls_on s asks.reads.0) first.reads ∙ calls_on_more a.reads r asks.reads.0);
  off = λ is_off. asks.off (first.no_cut.power ∙ is_off);
}

-- what holds anyway, or where another thing does, holds of a success
pub on_ok_of : {T E P : Type 0} (r : Result T E) → P → OnOk r P
on_ok_of (Ok x) p = p
on_ok_of (Err e) p = tt

pub on_ok_map : {T E P Q : Type 0} (r : Result T E) → (P → Q) → OnOk r P → OnOk r Q
on_ok_map (Ok x) f p = f p
on_ok_map (Err e) f p = tt

pub if_err_map : {T E : Type 0} {P Q : E → Type 0} (r : Result T E) → ((e : E) → P e → Q e) → IfErr r P → IfErr r Q
if_err_map (Ok x) f p = tt
if_err_map (Err e) f p = f e p

-- why a change of six calls was not done, by the call that was refused after k others
pub not_done : (generation k j : ℕ) (a b c : Meter) (e : CellFault) → k + j ≤ 6 → Uncut k 0 a b → Refused j 0 b c e → NotDone generation a c e
not_done generation k j a b c cell_fault.Failed few first refused = refused_on cell_fault.Failed k 0 j 0 6 0 a b c few (omega arith) first refused
not_done generation k j a b c cell_fault.Cut few first refused = refused_on cell_fault.Cut k 0 j 0 6 0 a b c few (omega arith) first refused
not_done generation k j a b c (cell_fault.Spent g) few first refused = absurd refused
not_done generation k j a b c (cell_fault.Twins g) few first refused = absurd refused

-- an error that is passed on
pub err_is : {T E : Type 0} (r : Result T E) (f : E) → IsErrAnd r (λ e. e ≡ f) → r ≡ Err f
err_is (Ok x) f is = absurd is
err_is {T = T} {E = E} (Err e) f is = ap (λ (x : E). Err x) is
