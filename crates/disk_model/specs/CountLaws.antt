-- What follows for the counts of a disk from the calls that are made of it.
use Rattle.std.specs.Prelude.{◌≡◌, ◌⊎◌, ◌↔◌, ◌<◌, ◌≤◌, ◌==◌, ◌+◌, ◌-◌, ◌^◌, min, if◌then◌else◌, ℕ, zero, suc, Bool, true, false, IsTrue, List, [], ◌∷◌, Option, None, Some, IfSome, is_some, Result, Ok, Err, IsErrOf}
use Rattle.std.proofs.Common.{inl, inr, ⊎_elim, refl, sym, ◌∙◌, ap, subst, arith}
use Rattle.std.proofs.lemmas.Bool.{false≢true, true≢false, eqb-true, ne_eqb, eq-eqb, cases_eq, cases_lt}
use Rattle.disk_model.specs.Disk.{DiskState, Arms, Meter, counted, next_call, CutComes, NoCut, AfterCall, names_change, names_read}
use Rattle.disk_model.specs.Meters.{Uncut, CutWithin, calls_on, OneOfChanges, OneOfReads, ok_is_uncut, ok_is_calm, failed_is_uncut, cut_comes, uncut_start, uncut_change, uncut_read, cut_in_change, cut_in_read, uncut_on, cut_on, cut_wider, named_there, calls_on_more}
use Rattle.disk_model.specs.Counts.{Call, ChangeCall, ReadCall, ArmCall, RestartCall, Made, Calls, answered, meter_after, meter_after_all, changes_in, reads_in, is_service, arms_none, is_cut, number_of, names, faults_of, faults_in, power_after, cuts_of, cuts_in, raised, IsArmed, IsPast, IsInside, Tallied, StaysOn, BeginsAnew}
use Rattle.disk_model.specs.declared.disk.CutAt.{CutAt}
use Rattle.disk_model.specs.declared.disk.CutAt.TheVariants as cut
use Rattle.disk_model.specs.declared.disk.DiskFault.{DiskFault}
use Rattle.disk_model.specs.declared.disk.DiskFault.TheVariants as fault

-- a meter that differs from another in its numbers alone, after an answer
by_answer : (named : Bool) (old new : Meter) (result : Result (Unit {0}) DiskFault) → AfterCall named old new result → new ≡ answered result (record old { changes = new.changes; reads = new.reads })
by_answer named old new (Ok u) after =
    let none = ok_is_uncut named old new u after in
    let calm = ok_is_calm named old new u after in
    λ i. record { size = after.size i; can_cut = after.can_cut i; faults = calm i; cuts = none.cuts i; power = none.power i; armed = none.armed i; changes = new.changes; reads = new.reads }
by_answer named old new (Err fault.Failed) after =
    let none = failed_is_uncut named old new after in
    let rose = after.failed refl in
    λ i. record { size = after.size i; can_cut = after.can_cut i; faults = rose i; cuts = none.cuts i; power = none.power i; armed = none.armed i; changes = new.changes; reads = new.reads }
by_answer named old new (Err fault.Cut) after = by_power old.power refl
  where
    calm : new.faults ≡ old.faults
    calm = ⊎_elim (λ failed. absurd (true≢false (ap is_cut failed))) (λ same. same) after.calm

    cut_left : Meter
    cut_left = record { size = old.size; can_cut = old.can_cut; faults = old.faults; cuts = counted old.cuts; power = false; armed = None; changes = new.changes; reads = new.reads }

    none_left : Meter
    none_left = record { size = old.size; can_cut = old.can_cut; faults = old.faults; cuts = old.cuts; power = old.power; armed = old.armed; changes = new.changes; reads = new.reads }

    by_power : (on : Bool) → old.power ≡ on → new ≡ (if old.power then cut_left else none_left)
    by_power true on =
        let comes : CutComes old new = cut_comes named old new on after in
        let here : new ≡ cut_left = λ i. record { size = after.size i; can_cut = after.can_cut i; faults = calm i; cuts = comes.rose i; power = comes.off i; armed = comes.disarmed i; changes = new.changes; reads = new.reads } in
        here ∙ sym (ap (λ (b : Bool). if b then cut_left else none_left) on)
    by_power false off =
        let none : NoCut old new = (after.off off).1 in
        let here : new ≡ none_left = λ i. record { size = after.size i; can_cut = after.can_cut i; faults = calm i; cuts = none.cuts i; power = none.power i; armed = none.armed i; changes = new.changes; reads = new.reads } in
        here ∙ sym (ap (λ (b : Bool). if b then cut_left else none_left) off)

-- what one call leaves
pub meter_after_one : (call : Call) (old new : Meter) → Made old call new → new ≡ meter_after call old
meter_after_one (ChangeCall result) old new made =
    by_answer _ old new result made.call ∙ (λ i. answered result (record old { changes = made.changes i; reads = made.reads i }))
meter_after_one (ReadCall result) old new made =
    by_answer _ old new result made.call ∙ (λ i. answered result (record old { changes = made.changes i; reads = made.reads i }))
meter_after_one (ArmCall cut) old new made = made
meter_after_one RestartCall old new made = made

-- what calls leave
pub meter_after_calls : (calls : List Call) (old new : Meter) → Calls old calls new → new ≡ meter_after_all calls old
meter_after_calls [] old new is = is
meter_after_calls (call ∷ calls) old new (mid, made, rest) = meter_after_calls calls mid new rest ∙ ap (meter_after_all calls) (meter_after_one call old mid made)

-- while none is armed, a call on power is not cut
uncut_unarmed : (named : Bool) (old new : Meter) (result : Result (Unit {0}) DiskFault) → old.armed ≡ None → AfterCall named old new result → NoCut old new
uncut_unarmed named old new result unarmed after = ⊎_elim (λ cut. absurd (false≢true (ap is_some (sym unarmed) ∙ armed cut.0))) (λ none. none) after.comes
  where
    armed : CutComes old new → is_some old.armed ≡ true
    armed comes = comes.armed

not_cut : (named : Bool) (old new : Meter) (result : Result (Unit {0}) DiskFault) → IsTrue old.power → old.armed ≡ None → AfterCall named old new result → is_cut result ≡ false
not_cut named old new (Ok u) on unarmed after = refl
not_cut named old new (Err fault.Failed) on unarmed after = refl
not_cut named old new (Err fault.Cut) on unarmed after =
    let comes : CutComes old new = cut_comes named old new on after in
    absurd (false≢true (sym comes.off ∙ (uncut_unarmed named old new (Err fault.Cut) unarmed after).power ∙ on))

-- while none is armed and the power is on, no cut comes
pub stays_on : (calls : List Call) (old new : Meter) → IsTrue old.power → old.armed ≡ None → IsTrue (arms_none calls) → Calls old calls new → StaysOn old calls new
stays_on [] old new on unarmed none is = record { cuts = ap (λ (m : Meter). m.cuts) is; power = ap (λ (m : Meter). m.power) is ∙ on; armed = ap (λ (m : Meter). m.armed) is ∙ unarmed; answers = tt }
stays_on (ChangeCall result ∷ calls) old new on unarmed none (mid, made, rest) =
    let first : NoCut old mid = uncut_unarmed _ old mid result unarmed made.call in
    let later : StaysOn mid calls new = stays_on calls mid new (first.power ∙ on) (first.armed ∙ unarmed) none rest in
    record { cuts = later.cuts ∙ first.cuts; power = later.power; armed = later.armed; answers = (not_cut _ old mid result on unarmed made.call, later.answers) }
stays_on (ReadCall result ∷ calls) old new on unarmed none (mid, made, rest) =
    let first : NoCut old mid = uncut_unarmed _ old mid result unarmed made.call in
    let later : StaysOn mid calls new = stays_on calls mid new (first.power ∙ on) (first.armed ∙ unarmed) none rest in
    record { cuts = later.cuts ∙ first.cuts; power = later.power; armed = later.armed; answers = (not_cut _ old mid result on unarmed made.call, later.answers) }
stays_on (ArmCall None ∷ calls) old new on unarmed none (mid, made, rest) =
    let later : StaysOn mid calls new = stays_on calls mid new (ap (λ (m : Meter). m.power) made ∙ on) (ap (λ (m : Meter). m.armed) made) none rest in
    record { cuts = later.cuts ∙ ap (λ (m : Meter). m.cuts) made; power = later.power; armed = later.armed; answers = later.answers }
stays_on (ArmCall (Some c) ∷ calls) old new on unarmed none (mid, made, rest) = absurd (false≢true none)
stays_on (RestartCall ∷ calls) old new on unarmed none (mid, made, rest) =
    let later : StaysOn mid calls new = stays_on calls mid new (ap (λ (m : Meter). m.power) made) (ap (λ (m : Meter). m.armed) made ∙ unarmed) none rest in
    record { cuts = later.cuts ∙ ap (λ (m : Meter). m.cuts) made; power = later.power; armed = later.armed; answers = later.answers }

-- with the power off no cut comes, and the numbers of faults never fall
record StaysOff (old new : Meter) : Type 0 where
  pub size : new.size ≡ old.size
  pub can_cut : new.can_cut ≡ old.can_cut
  pub faults : old.faults ≤ new.faults
  pub none : NoCut old new

off_on : (named : Bool) (a b c : Meter) (result : Result (Unit {0}) DiskFault) → a.power ≡ false → AfterCall named a b result → StaysOff b c → StaysOff a c
off_on named a b c result off after later =
    let none : NoCut a b = (after.off off).1 in
    record {
      size = later.size ∙ after.size;
      can_cut = later.can_cut ∙ after.can_cut;
      faults = omega (arith, later.faults, after.faults);
      none = record { cuts = later.none.cuts ∙ none.cuts; power = later.none.power ∙ none.power; armed = later.none.armed ∙ none.armed };
    }

stays_off : (calls : List Call) (old new : Meter) → old.power ≡ false → IsTrue (is_service calls) → Calls old calls new → StaysOff old new
stays_off [] old new off service is = record {
  size = ap (λ (m : Meter). m.size) is;
  can_cut = ap (λ (m : Meter). m.can_cut) is;
  faults = omega (arith, ap (λ (m : Meter). m.faults) is);
  none = record { cuts = ap (λ (m : Meter). m.cuts) is; power = ap (λ (m : Meter). m.power) is; armed = ap (λ (m : Meter). m.armed) is };
}
stays_off (ChangeCall result ∷ calls) old new off service (mid, made, rest) = off_on _ old mid new result off made.call (stays_off calls mid new ((made.call.off off).1.power ∙ off) service rest)
stays_off (ReadCall result ∷ calls) old new off service (mid, made, rest) = off_on _ old mid new result off made.call (stays_off calls mid new ((made.call.off off).1.power ∙ off) service rest)
stays_off (ArmCall c ∷ calls) old new off service rest = absurd (false≢true service)
stays_off (RestartCall ∷ calls) old new off service rest = absurd (false≢true service)

-- numbers that are the same
uncut_is : (k r j i : ℕ) (a b : Meter) → k ≡ j → r ≡ i → Uncut k r a b → Uncut j i a b
uncut_is k r j i a b same long uncut = subst (λ (n : ℕ). Uncut n i a b) same (subst (λ (n : ℕ). Uncut k n a b) long uncut)

-- a cut came, and then the power is off
cut_stays : (k r j i : ℕ) (a b c : Meter) → k ≤ j → r ≤ i → CutWithin k r a b → StaysOff b c → CutWithin j i a c
cut_stays k r j i a b c more longer within off = cut_wider k r j i a c more longer (record {
  size = off.size ∙ within.size;
  can_cut = off.can_cut ∙ within.can_cut;
  faults = omega (arith, within.faults, off.faults);
  comes = record { armed = within.comes.armed; rose = off.none.cuts ∙ within.comes.rose; off = off.none.power ∙ within.comes.off; disarmed = off.none.armed ∙ within.comes.disarmed };
  place = within.place;
})

-- reads, writes and syncs that begin on power are uncut, or the armed cut came inside one of them
pub service : (calls : List Call) (old new : Meter) → IsTrue old.power → IsTrue (is_service calls) → Calls old calls new → Uncut (changes_in calls) (reads_in calls) old new ⊎ CutWithin (changes_in calls) (reads_in calls) old new
service [] old new on all is = inl (subst (λ (m : Meter). Uncut 0 0 old m) (sym is) (uncut_start old))
service (ChangeCall result ∷ calls) old new on all (mid, made, rest) = ⊎_elim cut (uncut (λ still. service calls mid new still all rest)) made.call.comes
  where
    k : ℕ
    k = changes_in calls

    r : ℕ
    r = reads_in calls

    cut : CutComes old mid × IsErrOf result fault.Cut → Uncut (suc k) r old new ⊎ CutWithin (suc k) r old new
    cut comes = inr (cut_stays 1 0 (suc k) r old mid new (omega arith) (omega arith) (cut_in_change 0 0 old old mid result (uncut_start old) comes.0 made) (stays_off calls mid new comes.0.off all rest))

    uncut : (IsTrue mid.power → Uncut k r mid new ⊎ CutWithin k r mid new) → NoCut old mid → Uncut (suc k) r old new ⊎ CutWithin (suc k) r old new
    uncut more none =
        let first : Uncut 1 0 old mid = uncut_change 0 0 old old mid result (uncut_start old) none made in
        ⊎_elim (λ later. inl (uncut_is (1 + k) (0 + r) (suc k) r old new (omega arith) (omega arith) (uncut_on 1 0 k r old mid new first later)))
        (λ later. inr (cut_wider (1 + k) (0 + r) (suc k) r old new (omega arith) (omega arith) (cut_on 1 0 k r old mid new first later)))
        (more (none.power ∙ on))
service (ReadCall result ∷ calls) old new on all (mid, made, rest) = ⊎_elim cut (uncut (λ still. service calls mid new still all rest)) made.call.comes
  where
    k : ℕ
    k = changes_in calls

    r : ℕ
    r = reads_in calls

    cut : CutComes old mid × IsErrOf result fault.Cut → Uncut k (suc r) old new ⊎ CutWithin k (suc r) old new
    cut comes = inr (cut_stays 0 1 k (suc r) old mid new (omega arith) (omega arith) (cut_in_read 0 0 old old mid result (uncut_start old) comes.0 made) (stays_off calls mid new comes.0.off all rest))

    uncut : (IsTrue mid.power → Uncut k r mid new ⊎ CutWithin k r mid new) → NoCut old mid → Uncut k (suc r) old new ⊎ CutWithin k (suc r) old new
    uncut more none =
        let first : Uncut 0 1 old mid = uncut_read 0 0 old old mid result (uncut_start old) none made in
        ⊎_elim (λ later. inl (uncut_is (0 + k) (1 + r) k (suc r) old new (omega arith) (omega arith) (uncut_on 0 1 k r old mid new first later)))
        (λ later. inr (cut_wider (0 + k) (1 + r) k (suc r) old new (omega arith) (omega arith) (cut_on 0 1 k r old mid new first later)))
        (more (none.power ∙ on))
service (ArmCall c ∷ calls) old new on all rest = absurd (false≢true all)
service (RestartCall ∷ calls) old new on all rest = absurd (false≢true all)

-- the number of calls from 0 on
calls_from_none : (n k : ℕ) → n ≡ 0 → calls_on n k ≡ min k (2 ^ 32)
calls_from_none n zero none = omega (arith, none)
calls_from_none n (suc k) none = omega (arith, calls_from_none n k none)

-- a number of 32 bits is not that of a rounded call
same_number : (k n m : ℕ) → k < 2 ^ 32 → m ≡ min n (2 ^ 32) → (k == m) ≡ (k == n)
same_number k n m small is = ⊎_elim equal other (cases_eq k n)
  where
    equal : k ≡ n → (k == m) ≡ (k == n)
    equal same =
        let rest : m ≡ n = omega (arith, is, same, small) in
        ap (λ (x : ℕ). k == x) rest

    other : (k ≡ n → ⊥) → (k == m) ≡ (k == n)
    other apart = ne_eqb k m (λ same. apart (omega (arith, same, is, small))) ∙ sym (ne_eqb k n apart)

same_change : (o : Option CutAt) (n m : ℕ) → IfSome o (λ c. number_of c < 2 ^ 32) → m ≡ min n (2 ^ 32) → names_change o m ≡ names_change o n
same_change None n m small is = refl
same_change (Some (cut.Change k t)) n m small is = same_number k n m small is
same_change (Some (cut.Read k t)) n m small is = refl

same_read : (o : Option CutAt) (n m : ℕ) → IfSome o (λ c. number_of c < 2 ^ 32) → m ≡ min n (2 ^ 32) → names_read o m ≡ names_read o n
same_read None n m small is = refl
same_read (Some (cut.Change k t)) n m small is = refl
same_read (Some (cut.Read k t)) n m small is = same_number k n m small is

-- a cut names one call
change_once : (o : Option CutAt) (i j : ℕ) → IsTrue (names_change o i) → IsTrue (names_change o j) → i ≡ j
change_once None i j first second = absurd (false≢true first)
change_once (Some (cut.Change k t)) i j first second = sym (eqb-true k i first) ∙ eqb-true k j second
change_once (Some (cut.Read k t)) i j first second = absurd (false≢true first)

read_once : (o : Option CutAt) (i j : ℕ) → IsTrue (names_read o i) → IsTrue (names_read o j) → i ≡ j
read_once None i j first second = absurd (false≢true first)
read_once (Some (cut.Change k t)) i j first second = absurd (false≢true first)
read_once (Some (cut.Read k t)) i j first second = sym (eqb-true k i first) ∙ eqb-true k j second

one_kind : (o : Option CutAt) (i j : ℕ) → IsTrue (names_change o i) → IsTrue (names_read o j) → ⊥
one_kind None i j first second = false≢true first
one_kind (Some (cut.Change k t)) i j first second = false≢true second
one_kind (Some (cut.Read k t)) i j first second = false≢true first

-- the cut that is armed comes exactly inside the call that it names
pub named_exactly : (calls : List Call) (call : Call) (old mid new : Meter) → IsArmed old → IsTrue (is_service calls) → Calls old calls mid → Made mid call new
    → CutComes mid new ↔ IsTrue (names old.armed (changes_in calls) (reads_in calls) call)
named_exactly calls call old mid new armed all made last = ⊎_elim (uncut call last) (λ within. (λ comes. absurd (after_cut within comes), λ named. absurd (twice call within named))) (service calls old mid armed.power all made)
  where
    k : ℕ
    k = changes_in calls

    r : ℕ
    r = reads_in calls

    is_change : (o : Option CutAt) → IfSome o (λ c. number_of c < 2 ^ 32) → (n m : ℕ) → n ≡ calls_on old.changes m → names_change o n ≡ names_change o m
    is_change o small n m is = same_change o m n small (is ∙ calls_from_none old.changes m armed.changes)

    is_read : (o : Option CutAt) → IfSome o (λ c. number_of c < 2 ^ 32) → (n m : ℕ) → n ≡ calls_on old.reads m → names_read o n ≡ names_read o m
    is_read o small n m is = same_read o m n small (is ∙ calls_from_none old.reads m armed.reads)

    uncut : (call : Call) → Made mid call new → Uncut k r old mid → CutComes mid new ↔ IsTrue (names old.armed k r call)
    uncut (ChangeCall result) made so_far =
        let can : IsTrue mid.can_cut = so_far.can_cut ∙ armed.can_cut in
        let on : IsTrue mid.power = so_far.no_cut.power ∙ armed.power in
        let same : names_change mid.armed (next_call mid.changes) ≡ names_change old.armed (suc k) =
        ap (λ (o : Option CutAt). names_change o (next_call mid.changes)) so_far.no_cut.armed ∙ is_change old.armed armed.small (next_call mid.changes) (suc k) (ap next_call so_far.changes) in
        (λ comes. sym same ∙ named_there _ mid new result made.call can on comes, λ named. (made.call.exactly can on).0 (same ∙ named))
    uncut (ReadCall result) made so_far =
        let can : IsTrue mid.can_cut = so_far.can_cut ∙ armed.can_cut in
        let on : IsTrue mid.power = so_far.no_cut.power ∙ armed.power in
        let same : names_read mid.armed (next_call mid.reads) ≡ names_read old.armed (suc r) =
        ap (λ (o : Option CutAt). names_read o (next_call mid.reads)) so_far.no_cut.armed ∙ is_read old.armed armed.small (next_call mid.reads) (suc r) (ap next_call so_far.reads) in
        (λ comes. sym same ∙ named_there _ mid new result made.call can on comes, λ named. (made.call.exactly can on).0 (same ∙ named))
    uncut (ArmCall c) made so_far = (λ comes. absurd (false≢true (sym comes.off ∙ ap (λ (m : Meter). m.power) made ∙ so_far.no_cut.power ∙ armed.power)), λ named. absurd (false≢true named))
    uncut RestartCall made so_far = (λ comes. absurd (false≢true (sym comes.off ∙ ap (λ (m : Meter). m.power) made)), λ named. absurd (false≢true named))

    after_cut : CutWithin k r old mid → CutComes mid new → ⊥
    after_cut within comes = false≢true (ap is_some (sym within.comes.disarmed) ∙ comes.armed)

    in_changes : (call : Call) → OneOfChanges k old → IsTrue (names old.armed k r call) → ⊥
    in_changes (ChangeCall result) one named = absurd (omega (arith, one.1, change_once old.armed (suc one.0) (suc k) (sym (is_change old.armed armed.small (calls_on old.changes (suc one.0)) (suc one.0) refl) ∙ one.2) named))
    in_changes (ReadCall result) one named = one_kind old.armed (calls_on old.changes (suc one.0)) (suc r) one.2 named
    in_changes (ArmCall c) one named = false≢true named
    in_changes RestartCall one named = false≢true named

    in_reads : (call : Call) → OneOfReads r old → IsTrue (names old.armed k r call) → ⊥
    in_reads (ChangeCall result) one named = one_kind old.armed (suc k) (calls_on old.reads (suc one.0)) named one.2
    in_reads (ReadCall result) one named = absurd (omega (arith, one.1, read_once old.armed (suc one.0) (suc r) (sym (is_read old.armed armed.small (calls_on old.reads (suc one.0)) (suc one.0) refl) ∙ one.2) named))
    in_reads (ArmCall c) one named = false≢true named
    in_reads RestartCall one named = false≢true named

    twice : (call : Call) → CutWithin k r old mid → IsTrue (names old.armed k r call) → ⊥
    twice call within named = ⊎_elim (λ one. in_changes call one named) (λ one. in_reads call one named) (within.place armed.can_cut armed.power)

-- the number of a call behind the `arm`
change_number : (m : Meter) → IsArmed m → (j : ℕ) → names_change m.armed (calls_on m.changes j) ≡ names_change m.armed j
change_number m armed j = same_change m.armed j (calls_on m.changes j) armed.small (calls_from_none m.changes j armed.changes)

read_number : (m : Meter) → IsArmed m → (j : ℕ) → names_read m.armed (calls_on m.reads j) ≡ names_read m.armed j
read_number m armed j = same_read m.armed j (calls_on m.reads j) armed.small (calls_from_none m.reads j armed.reads)

-- so many calls without a cut do not reach the one that is named
pub uncut_is_past : (k r : ℕ) (old new : Meter) → IsArmed old → Uncut k r old new → IsPast old.armed k r
uncut_is_past k r old new armed uncut = go old.armed refl
  where
    below : (n : ℕ) → (n ≡ 0 → ⊥) → suc (n - 1) ≡ n
    below n some = omega (arith, some)

    go : (o : Option CutAt) → old.armed ≡ o → IsPast o k r
    go None is = tt
    go (Some (cut.Change n t)) is = ⊎_elim (λ none. inl none) (λ some. ⊎_elim (λ low. inr low) (λ high. absurd (reached some high)) (cases_lt k n)) (cases_eq n 0)
      where
        reached : (n ≡ 0 → ⊥) → n ≤ k → ⊥
        reached some high =
            let none = (uncut.passed armed.can_cut armed.power).0 (n - 1) (omega (arith, some, high)) in
            false≢true (sym none ∙ change_number old armed (suc (n - 1)) ∙ ap (λ (o : Option CutAt). names_change o (suc (n - 1))) is ∙ eq-eqb n (suc (n - 1)) (sym (below n some)))
    go (Some (cut.Read n t)) is = ⊎_elim (λ none. inl none) (λ some. ⊎_elim (λ low. inr low) (λ high. absurd (reached some high)) (cases_lt r n)) (cases_eq n 0)
      where
        reached : (n ≡ 0 → ⊥) → n ≤ r → ⊥
        reached some high =
            let none = (uncut.passed armed.can_cut armed.power).1 (n - 1) (omega (arith, some, high)) in
            false≢true (sym none ∙ read_number old armed (suc (n - 1)) ∙ ap (λ (o : Option CutAt). names_read o (suc (n - 1))) is ∙ eq-eqb n (suc (n - 1)) (sym (below n some)))

-- and with a cut they do
pub cut_is_inside : (k r : ℕ) (old new : Meter) → IsArmed old → CutWithin k r old new → IsInside old.armed k r
cut_is_inside k r old new armed within = go old.armed refl (within.place armed.can_cut armed.power)
  where
    by_change : (o : Option CutAt) → old.armed ≡ o → (one : OneOfChanges k old) → IsTrue (names_change o (suc one.0))
    by_change o is one = sym (ap (λ (p : Option CutAt). names_change p (suc one.0)) is) ∙ sym (change_number old armed (suc one.0)) ∙ one.2

    by_read : (o : Option CutAt) → old.armed ≡ o → (one : OneOfReads r old) → IsTrue (names_read o (suc one.0))
    by_read o is one = sym (ap (λ (p : Option CutAt). names_read p (suc one.0)) is) ∙ sym (read_number old armed (suc one.0)) ∙ one.2

    go : (o : Option CutAt) → old.armed ≡ o → OneOfChanges k old ⊎ OneOfReads r old → IsInside o k r
    go None is (inl one) = false≢true (by_change None is one)
    go None is (inr one) = false≢true (by_read None is one)
    go (Some (cut.Change n t)) is (inl one) =
        let at : n ≡ suc one.0 = eqb-true n (suc one.0) (by_change (Some (cut.Change n t)) is one) in
        (omega (arith, at), omega (arith, at, one.1))
    go (Some (cut.Change n t)) is (inr one) = absurd (false≢true (by_read (Some (cut.Change n t)) is one))
    go (Some (cut.Read n t)) is (inl one) = absurd (false≢true (by_change (Some (cut.Read n t)) is one))
    go (Some (cut.Read n t)) is (inr one) =
        let at : n ≡ suc one.0 = eqb-true n (suc one.0) (by_read (Some (cut.Read n t)) is one) in
        (omega (arith, at), omega (arith, at, one.1))

-- one more, or none
raised_one : (more n : ℕ) → raised more (counted n) ≡ raised (1 + more) n
raised_one more n =
    let same : suc more ≡ 1 + more = omega arith in
    ap (λ (k : ℕ). raised k n) same

raised_none : (more n : ℕ) → raised more n ≡ raised (0 + more) n
raised_none more n =
    let same : more ≡ 0 + more = omega arith in
    ap (λ (k : ℕ). raised k n) same

-- an answer raises the faults where it is Failed
answered_faults : (result : Result (Unit {0}) DiskFault) (m : Meter) (more : ℕ) → raised more (answered result m).faults ≡ raised (faults_of result + more) m.faults
answered_faults (Ok u) m more = raised_none more m.faults
answered_faults (Err fault.Failed) m more = raised_one more m.faults
answered_faults (Err fault.Cut) m more = by_power m.power refl ∙ raised_none more m.faults
  where
    by_power : (on : Bool) → m.power ≡ on → raised more (answered (Err fault.Cut) m).faults ≡ raised more m.faults
    by_power true on = ap (λ (b : Bool). raised more (if b then record m { cuts = counted m.cuts; power = false; armed = None } else m).faults) on
    by_power false off = ap (λ (b : Bool). raised more (if b then record m { cuts = counted m.cuts; power = false; armed = None } else m).faults) off

all_faults : (calls : List Call) (m : Meter) → (meter_after_all calls m).faults ≡ raised (faults_in calls) m.faults
all_faults [] m = refl
all_faults (ChangeCall result ∷ calls) m = all_faults calls (meter_after (ChangeCall result) m) ∙ answered_faults result (record m { changes = next_call m.changes }) (faults_in calls)
all_faults (ReadCall result ∷ calls) m = all_faults calls (meter_after (ReadCall result) m) ∙ answered_faults result (record m { reads = next_call m.reads }) (faults_in calls)
all_faults (ArmCall c ∷ calls) m = all_faults calls (meter_after (ArmCall c) m)
all_faults (RestartCall ∷ calls) m = all_faults calls (meter_after RestartCall m)

-- and the cuts where it is Cut on power
answered_cuts : (result : Result (Unit {0}) DiskFault) (m : Meter) (calls : List Call)
    → raised (cuts_in (answered result m).power calls) (answered result m).cuts ≡ raised (cuts_of m.power result + cuts_in (power_after m.power result) calls) m.cuts
answered_cuts result m calls = go result m.power refl
  where
    left : Bool → ℕ
    left b = raised (cuts_in (if b then record m { cuts = counted m.cuts; power = false; armed = None } else m).power calls) (if b then record m { cuts = counted m.cuts; power = false; armed = None } else m).cuts

    go : (result : Result (Unit {0}) DiskFault) (on : Bool) → m.power ≡ on
        → raised (cuts_in (answered result m).power calls) (answered result m).cuts ≡ raised (cuts_of m.power result + cuts_in (power_after m.power result) calls) m.cuts
    go (Ok u) on is = ap (λ (k : ℕ). raised k m.cuts) (none_of m.power)
      where
        none_of : (b : Bool) → cuts_in b calls ≡ cuts_of b (Ok u) + cuts_in b calls
        none_of true = omega arith
        none_of false = omega arith
    go (Err fault.Failed) on is = ap (λ (k : ℕ). raised k m.cuts) (none_of m.power)
      where
        none_of : (b : Bool) → cuts_in b calls ≡ cuts_of b (Err fault.Failed) + cuts_in b calls
        none_of true = omega arith
        none_of false = omega arith
    go (Err fault.Cut) true is = ap left is ∙ raised_one (cuts_in false calls) m.cuts ∙ sym (ap (λ (b : Bool). raised (cuts_of b (Err fault.Cut) + cuts_in false calls) m.cuts) is)
    go (Err fault.Cut) false is = ap left is ∙ ap (λ (b : Bool). raised (cuts_in b calls) m.cuts) is ∙ raised_none (cuts_in false calls) m.cuts ∙ sym (ap (λ (b : Bool). raised (cuts_of b (Err fault.Cut) + cuts_in false calls) m.cuts) is)

all_cuts : (calls : List Call) (m : Meter) → (meter_after_all calls m).cuts ≡ raised (cuts_in m.power calls) m.cuts
all_cuts [] m = refl
all_cuts (ChangeCall result ∷ calls) m = all_cuts calls (meter_after (ChangeCall result) m) ∙ answered_cuts result (record m { changes = next_call m.changes }) calls
all_cuts (ReadCall result ∷ calls) m = all_cuts calls (meter_after (ReadCall result) m) ∙ answered_cuts result (record m { reads = next_call m.reads }) calls
all_cuts (ArmCall c ∷ calls) m = all_cuts calls (meter_after (ArmCall c) m)
all_cuts (RestartCall ∷ calls) m = all_cuts calls (meter_after RestartCall m)

-- an answer counts no call
answered_numbers : (result : Result (Unit {0}) DiskFault) (m : Meter) → ((answered result m).changes ≡ m.changes) × ((answered result m).reads ≡ m.reads)
answered_numbers (Ok u) m = (refl, refl)
answered_numbers (Err fault.Failed) m = (refl, refl)
answered_numbers (Err fault.Cut) m = go m.power
  where
    go : (b : Bool) → ((if b then record m { cuts = counted m.cuts; power = false; armed = None } else m).changes ≡ m.changes) × ((if b then record m { cuts = counted m.cuts; power = false; armed = None } else m).reads ≡ m.reads)
    go true = (refl, refl)
    go false = (refl, refl)

next_first : (n k : ℕ) → calls_on (next_call n) k ≡ calls_on n (suc k)
next_first n k =
    let same : 1 + k ≡ suc k = omega arith in
    calls_on_more n 1 k ∙ ap (calls_on n) same

all_numbers : (calls : List Call) (m : Meter) → IsTrue (is_service calls)
    → ((meter_after_all calls m).changes ≡ calls_on m.changes (changes_in calls)) × ((meter_after_all calls m).reads ≡ calls_on m.reads (reads_in calls))
all_numbers [] m all = (refl, refl)
all_numbers (ChangeCall result ∷ calls) m all =
    let rest = all_numbers calls (meter_after (ChangeCall result) m) all in
    let same = answered_numbers result (record m { changes = next_call m.changes }) in (
      rest.0 ∙ ap (λ (n : ℕ). calls_on n (changes_in calls)) same.0 ∙ next_first m.changes (changes_in calls),
      rest.1 ∙ ap (λ (n : ℕ). calls_on n (reads_in calls)) same.1,
    )
all_numbers (ReadCall result ∷ calls) m all =
    let rest = all_numbers calls (meter_after (ReadCall result) m) all in
    let same = answered_numbers result (record m { reads = next_call m.reads }) in (
      rest.0 ∙ ap (λ (n : ℕ). calls_on n (changes_in calls)) same.0,
      rest.1 ∙ ap (λ (n : ℕ). calls_on n (reads_in calls)) same.1 ∙ next_first m.reads (reads_in calls),
    )
all_numbers (ArmCall c ∷ calls) m all = absurd (false≢true all)
all_numbers (RestartCall ∷ calls) m all = absurd (false≢true all)

-- how often each count rose
pub tallied : (calls : List Call) (old new : Meter) → Calls old calls new → Tallied old calls new
tallied calls old new made =
    let is : new ≡ meter_after_all calls old = meter_after_calls calls old new made in
    record {
      faults = ap (λ (m : Meter). m.faults) is ∙ all_faults calls old;
      cuts = ap (λ (m : Meter). m.cuts) is ∙ all_cuts calls old;
      changes = λ all. ap (λ (m : Meter). m.changes) is ∙ (all_numbers calls old all).0;
      reads = λ all. ap (λ (m : Meter). m.reads) is ∙ (all_numbers calls old all).1;
    }

pub begins_anew : (armed : Option CutAt) (old new : DiskState) → Arms armed old new → BeginsAnew armed old new
begins_anew armed old new arms = record {
  changes = ap (λ (m : Meter). m.changes) arms.meter;
  reads = ap (λ (m : Meter). m.reads) arms.meter;
  armed = ap (λ (m : Meter). m.armed) arms.meter;
  power = ap (λ (m : Meter). m.power) arms.meter;
  faults = ap (λ (m : Meter). m.faults) arms.meter;
  cuts = ap (λ (m : Meter). m.cuts) arms.meter;
  still = arms.still;
}

-- a disk on power that can be cut is armed with this cut
pub arms_is_armed : (armed : Option CutAt) (old new : DiskState) → Arms armed old new → IsTrue old.meter.can_cut → IsTrue old.meter.power → IfSome armed (λ c. number_of c < 2 ^ 32) → IsArmed new.meter
arms_is_armed armed old new arms can on small = record {
  can_cut = ap (λ (m : Meter). m.can_cut) arms.meter ∙ can;
  power = ap (λ (m : Meter). m.power) arms.meter ∙ on;
  changes = ap (λ (m : Meter). m.changes) arms.meter;
  reads = ap (λ (m : Meter). m.reads) arms.meter;
  small = subst (λ (o : Option CutAt). IfSome o (λ c. number_of c < 2 ^ 32)) (sym (ap (λ (m : Meter). m.armed) arms.meter)) small;
}
