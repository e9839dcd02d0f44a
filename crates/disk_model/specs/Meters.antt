-- How many calls a run of calls makes, and inside which of them a cut comes.
use Rattle.std.specs.Prelude.{◌≡◌, ◌⊎◌, ◌<◌, ◌≤◌, ◌+◌, ◌-◌, ◌^◌, ℕ, zero, suc, Bool, true, false, IsTrue, Option, IsSome, Result, Ok, Err, is_ok}
use Rattle.std.proofs.Common.{inl, inr, ⊎_elim, refl, sym, ◌∙◌, ap, subst, arith}
use Rattle.std.proofs.lemmas.Bool.{false≢true, true≢false, false_from_ne_true, true_from_ne_false, cases_eq, cases_lt}
use Rattle.disk_model.specs.Disk.{Meter, counted, Rose, next_call, CutComes, NoCut, AfterCall, AfterChange, AfterRead, names_change, names_read}
use Rattle.disk_model.specs.declared.disk.CutAt.{CutAt}
use Rattle.disk_model.specs.declared.disk.DiskFault.{DiskFault}
use Rattle.disk_model.specs.declared.disk.DiskFault.TheVariants as fault

-- the number of calls after k more
abbrev pub calls_on : ℕ → ℕ → ℕ
calls_on n zero = n
calls_on n (suc k) = next_call (calls_on n k)

-- below its last value a number of calls is not rounded
pub calls_on_is : (n k : ℕ) → n + k ≤ 2 ^ 32 → calls_on n k ≡ n + k
calls_on_is n zero low = omega arith
calls_on_is n (suc k) low = omega (arith, low, calls_on_is n k (omega (arith, low)))

-- the armed cut is at none of the next k writes and syncs
abbrev pub NoneOfChanges : ℕ → Meter → Type 0
NoneOfChanges k m = (j : ℕ) → j < k → names_change m.armed (calls_on m.changes (suc j)) ≡ false

-- the armed cut is at one of the next k writes and syncs
abbrev pub OneOfChanges : ℕ → Meter → Type 0
OneOfChanges k m = (j : ℕ) × (j < k) × IsTrue (names_change m.armed (calls_on m.changes (suc j)))

-- the armed cut is at none of the next r reads
abbrev pub NoneOfReads : ℕ → Meter → Type 0
NoneOfReads r m = (j : ℕ) → j < r → names_read m.armed (calls_on m.reads (suc j)) ≡ false

-- the armed cut is at one of the next r reads
abbrev pub OneOfReads : ℕ → Meter → Type 0
OneOfReads r m = (j : ℕ) × (j < r) × IsTrue (names_read m.armed (calls_on m.reads (suc j)))

-- k writes and syncs and r reads came, and no cut came inside them
pub record Uncut (k r : ℕ) (old new : Meter) : Type 0 where
  pub size : new.size ≡ old.size
  pub can_cut : new.can_cut ≡ old.can_cut
  pub faults : old.faults ≤ new.faults
  pub no_cut : NoCut old new
  pub changes : new.changes ≡ calls_on old.changes k
  pub reads : new.reads ≡ calls_on old.reads r
  -- where cuts are offered, none was armed there
  pub passed : IsTrue old.can_cut → IsTrue old.power → NoneOfChanges k old × NoneOfReads r old

-- the armed cut came inside one of at most k writes and syncs or r reads
pub record CutWithin (k r : ℕ) (old new : Meter) : Type 0 where
  pub size : new.size ≡ old.size
  pub can_cut : new.can_cut ≡ old.can_cut
  pub faults : old.faults ≤ new.faults
  pub comes : CutComes old new
  -- where cuts are offered, it was armed there
  pub place : IsTrue old.can_cut → IsTrue old.power → OneOfChanges k old ⊎ OneOfReads r old

-- a call that is Ok or Failed is not cut
pub ok_is_uncut : (named : Bool) (old new : Meter) (u : Unit {0}) → AfterCall named old new (Ok u) → NoCut old new
ok_is_uncut named old new u after = ⊎_elim (λ cut. absurd (true≢false (ap is_ok cut.1))) (λ none. none) after.comes

-- nor does a call that is Ok count a fault
pub ok_is_calm : (named : Bool) (old new : Meter) (u : Unit {0}) → AfterCall named old new (Ok u) → new.faults ≡ old.faults
ok_is_calm named old new u after = ⊎_elim (λ failed. absurd (true≢false (ap is_ok failed))) (λ same. same) after.calm

abbrev is_cut : Result (Unit {0}) DiskFault → Bool
is_cut (Ok _) = false
is_cut (Err fault.Failed) = false
is_cut (Err fault.Cut) = true

pub failed_is_uncut : (named : Bool) (old new : Meter) → AfterCall named old new (Err fault.Failed) → NoCut old new
failed_is_uncut named old new after = ⊎_elim (λ cut. absurd (false≢true (ap is_cut cut.1))) (λ none. none) after.comes

-- while the power is on, Cut is answered only where a cut comes
pub cut_comes : (named : Bool) (old new : Meter) → IsTrue old.power → AfterCall named old new (Err fault.Cut) → CutComes old new
cut_comes named old new on after = ⊎_elim (λ comes. comes) (λ off. absurd (false≢true (sym off ∙ on))) (after.cut refl)

-- a fault makes the count rise
pub failed_rose : (named : Bool) (old new : Meter) → AfterCall named old new (Err fault.Failed) → Rose old.faults new.faults
failed_rose named old new after = omega (arith, after.failed refl)

no_cut_trans : (a b c : Meter) → NoCut a b → NoCut b c → NoCut a c
no_cut_trans a b c first second = record { cuts = second.cuts ∙ first.cuts; power = second.power ∙ first.power; armed = second.armed ∙ first.armed }

comes_later : (a b c : Meter) → NoCut a b → CutComes b c → CutComes a c
comes_later a b c first comes = record {
  armed = subst (λ (o : Option CutAt). IsSome o) first.armed comes.armed;
  rose = comes.rose ∙ ap counted first.cuts;
  off = comes.off;
  disarmed = comes.disarmed;
}

-- a call behind which no cut came is not named
pub not_both : (named : Bool) (b c : Meter) (result : _) → AfterCall named b c result → IsTrue b.can_cut → IsTrue b.power → NoCut b c → named ≡ false
not_both named b c result after can on none = false_from_ne_true named (λ is. false≢true (sym ((after.exactly can on).0 is).off ∙ none.power ∙ on))

-- and one in which it came is
pub named_there : (named : Bool) (b c : Meter) (result : _) → AfterCall named b c result → IsTrue b.can_cut → IsTrue b.power → CutComes b c → IsTrue named
named_there named b c result after can on comes = true_from_ne_false named (λ is. false≢true (sym comes.off ∙ ((after.exactly can on).1 is).power ∙ on))

-- before the first call
pub uncut_start : (m : Meter) → Uncut 0 0 m m
uncut_start m = record {
  size = refl;
  can_cut = refl;
  faults = omega arith;
  no_cut = record { cuts = refl; power = refl; armed = refl };
  changes = refl;
  reads = refl;
  passed = λ can on. (λ j below. absurd (omega (arith, below)), λ j below. absurd (omega (arith, below)));
}

-- a write or a sync more
pub uncut_change : (k r : ℕ) (a b c : Meter) (result : _) → Uncut k r a b → NoCut b c → AfterChange b c result → Uncut (suc k) r a c
uncut_change k r a b c result so_far none after = record {
  size = after.call.size ∙ so_far.size;
  can_cut = after.call.can_cut ∙ so_far.can_cut;
  faults = omega (arith, so_far.faults, after.call.faults);
  no_cut = no_cut_trans a b c so_far.no_cut none;
  changes = after.changes ∙ ap next_call so_far.changes;
  reads = after.reads ∙ so_far.reads;
  passed = λ can on. (λ j below. changes can on j (split j below), (so_far.passed can on).1);
}
  where
    split : (j : ℕ) → j < suc k → (j < k) ⊎ (j ≡ k)
    split j below = ⊎_elim (λ same. inr same) (λ other. inl (omega (arith, below, other))) (cases_eq j k)

    last : IsTrue a.can_cut → IsTrue a.power → names_change a.armed (calls_on a.changes (suc k)) ≡ false
    last can on =
        let here : names_change b.armed (next_call b.changes) ≡ false = not_both _ b c result after.call (so_far.can_cut ∙ can) (so_far.no_cut.power ∙ on) none in
        subst (λ (o : Option CutAt). names_change o (calls_on a.changes (suc k)) ≡ false) so_far.no_cut.armed
        (subst (λ (n : ℕ). names_change b.armed (next_call n) ≡ false) so_far.changes here)

    changes : IsTrue a.can_cut → IsTrue a.power → (j : ℕ) → (j < k) ⊎ (j ≡ k) → names_change a.armed (calls_on a.changes (suc j)) ≡ false
    changes can on j (inl below) = (so_far.passed can on).0 j below
    changes can on j (inr same) = subst (λ (i : ℕ). names_change a.armed (calls_on a.changes (suc i)) ≡ false) (sym same) (last can on)

-- a read more
pub uncut_read : (k r : ℕ) (a b c : Meter) (result : _) → Uncut k r a b → NoCut b c → AfterRead b c result → Uncut k (suc r) a c
uncut_read k r a b c result so_far none after = record {
  size = after.call.size ∙ so_far.size;
  can_cut = after.call.can_cut ∙ so_far.can_cut;
  faults = omega (arith, so_far.faults, after.call.faults);
  no_cut = no_cut_trans a b c so_far.no_cut none;
  changes = after.changes ∙ so_far.changes;
  reads = after.reads ∙ ap next_call so_far.reads;
  passed = λ can on. ((so_far.passed can on).0, λ j below. reads can on j (split j below));
}
  where
    split : (j : ℕ) → j < suc r → (j < r) ⊎ (j ≡ r)
    split j below = ⊎_elim (λ same. inr same) (λ other. inl (omega (arith, below, other))) (cases_eq j r)

    last : IsTrue a.can_cut → IsTrue a.power → names_read a.armed (calls_on a.reads (suc r)) ≡ false
    last can on =
        let here : names_read b.armed (next_call b.reads) ≡ false = not_both _ b c result after.call (so_far.can_cut ∙ can) (so_far.no_cut.power ∙ on) none in
        subst (λ (o : Option CutAt). names_read o (calls_on a.reads (suc r)) ≡ false) so_far.no_cut.armed
        (subst (λ (n : ℕ). names_read b.armed (next_call n) ≡ false) so_far.reads here)

    reads : IsTrue a.can_cut → IsTrue a.power → (j : ℕ) → (j < r) ⊎ (j ≡ r) → names_read a.armed (calls_on a.reads (suc j)) ≡ false
    reads can on j (inl below) = (so_far.passed can on).1 j below
    reads can on j (inr same) = subst (λ (i : ℕ). names_read a.armed (calls_on a.reads (suc i)) ≡ false) (sym same) (last can on)

-- the cut comes inside the next write or sync
pub cut_in_change : (k r : ℕ) (a b c : Meter) (result : _) → Uncut k r a b → CutComes b c → AfterChange b c result → CutWithin (suc k) r a c
cut_in_change k r a b c result so_far comes after = record {
  size = after.call.size ∙ so_far.size;
  can_cut = after.call.can_cut ∙ so_far.can_cut;
  faults = omega (arith, so_far.faults, after.call.faults);
  comes = comes_later a b c so_far.no_cut comes;
  place = λ can on. inl (k, omega arith, here can on);
}
  where
    here : IsTrue a.can_cut → IsTrue a.power → IsTrue (names_change a.armed (calls_on a.changes (suc k)))
    here can on =
        let there : IsTrue (names_change b.armed (next_call b.changes)) = named_there _ b c result after.call (so_far.can_cut ∙ can) (so_far.no_cut.power ∙ on) comes in
        subst (λ (o : Option CutAt). IsTrue (names_change o (calls_on a.changes (suc k)))) so_far.no_cut.armed
        (subst (λ (n : ℕ). IsTrue (names_change b.armed (next_call n))) so_far.changes there)

-- the cut comes inside the next read
pub cut_in_read : (k r : ℕ) (a b c : Meter) (result : _) → Uncut k r a b → CutComes b c → AfterRead b c result → CutWithin k (suc r) a c
cut_in_read k r a b c result so_far comes after = record {
  size = after.call.size ∙ so_far.size;
  can_cut = after.call.can_cut ∙ so_far.can_cut;
  faults = omega (arith, so_far.faults, after.call.faults);
  comes = comes_later a b c so_far.no_cut comes;
  place = λ can on. inr (r, omega arith, here can on);
}
  where
    here : IsTrue a.can_cut → IsTrue a.power → IsTrue (names_read a.armed (calls_on a.reads (suc r)))
    here can on =
        let there : IsTrue (names_read b.armed (next_call b.reads)) = named_there _ b c result after.call (so_far.can_cut ∙ can) (so_far.no_cut.power ∙ on) comes in
        subst (λ (o : Option CutAt). IsTrue (names_read o (calls_on a.reads (suc r)))) so_far.no_cut.armed
        (subst (λ (n : ℕ). IsTrue (names_read b.armed (next_call n))) so_far.reads there)

-- the number of calls after k more and then j
pub calls_on_more : (n k j : ℕ) → calls_on (calls_on n k) j ≡ calls_on n (k + j)
calls_on_more n k zero =
    let same : k ≡ k + 0 = omega arith in
    ap (calls_on n) same
calls_on_more n k (suc j) =
    let same : suc (k + j) ≡ k + suc j = omega arith in
    ap next_call (calls_on_more n k j) ∙ ap (calls_on n) same

-- the number of a later call, counted from the beginning
later : (n m k y x : ℕ) → m ≡ calls_on n k → x ≡ k + y → calls_on m (suc y) ≡ calls_on n (suc x)
later n m k y x after is =
    let same : k + suc y ≡ suc x = omega (arith, is) in
    ap (λ (s : ℕ). calls_on s (suc y)) after ∙ calls_on_more n k (suc y) ∙ ap (calls_on n) same

-- calls without a cut after others
pub uncut_on : (k r j i : ℕ) (a b c : Meter) → Uncut k r a b → Uncut j i b c → Uncut (k + j) (r + i) a c
uncut_on k r j i a b c first second = record {
  size = second.size ∙ first.size;
  can_cut = second.can_cut ∙ first.can_cut;
  faults = omega (arith, first.faults, second.faults);
  no_cut = record { cuts = second.no_cut.cuts ∙ first.no_cut.cuts; power = second.no_cut.power ∙ first.no_cut.power; armed = second.no_cut.armed ∙ first.no_cut.armed };
  changes = second.changes ∙ ap (λ (s : ℕ). calls_on s j) first.changes ∙ calls_on_more a.changes k j;
  reads = second.reads ∙ ap (λ (s : ℕ). calls_on s i) first.reads ∙ calls_on_more a.reads r i;
  passed = λ can on. (changes can on, reads can on);
}
  where
    changes : IsTrue a.can_cut → IsTrue a.power → NoneOfChanges (k + j) a
    changes can on x below = ⊎_elim (λ low. (first.passed can on).0 x low) (λ high. behind high (high_part x high)) (cases_lt x k)
      where
        high_part : (x : ℕ) → k ≤ x → (y : ℕ) × (x ≡ k + y)
        high_part x high = (x - k, omega (arith, high))

        behind : k ≤ x → (y : ℕ) × (x ≡ k + y) → names_change a.armed (calls_on a.changes (suc x)) ≡ false
        behind high part =
            let none = (second.passed (first.can_cut ∙ can) (first.no_cut.power ∙ on)).0 part.0 (omega (arith, below, part.1)) in
            subst (λ (m : ℕ). names_change a.armed m ≡ false) (later a.changes b.changes k part.0 x first.changes part.1)
            (subst (λ (o : Option CutAt). names_change o (calls_on b.changes (suc part.0)) ≡ false) first.no_cut.armed none)

    reads : IsTrue a.can_cut → IsTrue a.power → NoneOfReads (r + i) a
    reads can on x below = ⊎_elim (λ low. (first.passed can on).1 x low) (λ high. behind (high_part x high)) (cases_lt x r)
      where
        high_part : (x : ℕ) → r ≤ x → (y : ℕ) × (x ≡ r + y)
        high_part x high = (x - r, omega (arith, high))

        behind : (y : ℕ) × (x ≡ r + y) → names_read a.armed (calls_on a.reads (suc x)) ≡ false
        behind part =
            let none = (second.passed (first.can_cut ∙ can) (first.no_cut.power ∙ on)).1 part.0 (omega (arith, below, part.1)) in
            subst (λ (m : ℕ). names_read a.armed m ≡ false) (later a.reads b.reads r part.0 x first.reads part.1)
            (subst (λ (o : Option CutAt). names_read o (calls_on b.reads (suc part.0)) ≡ false) first.no_cut.armed none)

-- a cut inside one of calls after others
pub cut_on : (k r j i : ℕ) (a b c : Meter) → Uncut k r a b → CutWithin j i b c → CutWithin (k + j) (r + i) a c
cut_on k r j i a b c first cut = record {
  size = cut.size ∙ first.size;
  can_cut = cut.can_cut ∙ first.can_cut;
  faults = omega (arith, first.faults, cut.faults);
  comes = record {
    armed = subst (λ (o : Option CutAt). IsSome o) first.no_cut.armed cut.comes.armed;
    rose = cut.comes.rose ∙ ap counted first.no_cut.cuts;
    off = cut.comes.off;
    disarmed = cut.comes.disarmed;
  };
  place = λ can on. there (cut.place (first.can_cut ∙ can) (first.no_cut.power ∙ on));
}
  where
    there : OneOfChanges j b ⊎ OneOfReads i b → OneOfChanges (k + j) a ⊎ OneOfReads (r + i) a
    there (inl one) = inl (
      k + one.0,
      omega (arith, one.1),
      subst (λ (m : ℕ). IsTrue (names_change a.armed m)) (later a.changes b.changes k one.0 (k + one.0) first.changes refl)
          (subst (λ (o : Option CutAt). IsTrue (names_change o (calls_on b.changes (suc one.0)))) first.no_cut.armed one.2),
    )
    there (inr one) = inr (
      r + one.0,
      omega (arith, one.1),
      subst (λ (m : ℕ). IsTrue (names_read a.armed m)) (later a.reads b.reads r one.0 (r + one.0) first.reads refl)
          (subst (λ (o : Option CutAt). IsTrue (names_read o (calls_on b.reads (suc one.0)))) first.no_cut.armed one.2),
    )

-- a cut inside one of some calls is inside one of more
pub cut_wider : (k r m n : ℕ) (a b : Meter) → k ≤ m → r ≤ n → CutWithin k r a b → CutWithin m n a b
cut_wider k r m n a b more longer cut = record { size = cut.size; can_cut = cut.can_cut; faults = cut.faults; comes = cut.comes; place = λ can on. wider (cut.place can on) }
  where
    wider : OneOfChanges k a ⊎ OneOfReads r a → OneOfChanges m a ⊎ OneOfReads n a
    wider (inl one) = inl (one.0, omega (arith, one.1, more), one.2)
    wider (inr one) = inr (one.0, omega (arith, one.1, longer), one.2)
