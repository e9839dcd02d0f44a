-- The steps of a migration: what each leaves of what was put before it, and what the images of the whole stand for.
use Rattle.std.specs.Prelude.{◌≡◌, ◌⊎◌, ◌+◌, ◌*◌, ◌-◌, ◌≤◌, ℕ, Bool, IsTrue, List, Option}
use Rattle.std.proofs.Common.{sym, subst, inl, ⊎_elim, arith, ◌∙◌}
use Rattle.mission_model.specs.declared.counts.Mark.{Mark}
use Rattle.mission_model.specs.declared.limits.TheConstants.{STORE_BYTES}
use Rattle.mission_model.specs.declared.plan.PlanHead.{PlanHead}
use Rattle.mission_model.specs.declared.plan.PlanType.{PlanType}
use Rattle.mission_model.specs.declared.plan.PlanType.TheVariants.{Mission, Fence, Safe}
use Rattle.mission_model.specs.PlainMark.{PlainMark}
use Rattle.disk_model.specs.Bytes.{Torn}
use Rattle.disk_model.specs.Disk.{DiskState, IsSound, Only, Syncs}
use Rattle.disk_model.specs.Every.{Every, Run, Image, run_run, run_sync}
use Rattle.disk_model.specs.Moments.{LeavesOnly, leaves_weaker}
use Rattle.disk_model.specs.Places.{field_apart}
use Rattle.gated_cell.specs.declared.cell.GatedCell.{GatedCell}
use Rattle.gated_cell.specs.declared.place.CellPlace.{CellPlace}
use Rattle.gated_cell.specs.Beside.{Stays, held_beside, stays_run}
use Rattle.gated_cell.specs.Cell.{Held, InForce, held, Known, in_force, spare_of}
use Rattle.gated_cell.specs.Slots.{fits_held}
use Rattle.dataman_layout.specs.Compat.{compat_bytes}
use Rattle.dataman_layout.specs.CompatLaws.{record-compat_bytes}
use Rattle.dataman_layout.specs.declared.layout.Layout.{Layout}
use Rattle.dataman_layout.specs.declared.layout.Layout.TheVariants.{One, Two}
use Rattle.dataman_layout.specs.Layouts.{limit_in}
use Rattle.dataman_layout.specs.Mark.{plain_marks}
use Rattle.dataman_layout.specs.Places.{Part, State, TheMark, Bank, place_of, size_of, length_in, rank, record_at}
use Rattle.dataman_layout.specs.PlaceLaws.{part_within, parts_apart, record_within, record_apart, behind_one}
use Rattle.bank_state.specs.Running.{run_trans}
use Rattle.bank_state.specs.StandsFor.{compat_place, state_cell, IsLayout, StandsIn}
use Rattle.bank_state.specs.Swap.{next_with, IsBut, Swaps}
use Rattle.recovery.specs.declared.cells.States.{States}
use Rattle.recovery.specs.Found.{AllRead, AreStates, banks_among}
use Rattle.recovery.specs.Migration.{HasNewState, HasNewMark, AreCopied, AreAllCopied, HaveNewStates, IsPutBehind, RunsBehind, IsCarried, Moved}
use Rattle.recovery.proofs.Behind.{Behind, behind_of, stands_of, behind_stays, off_one, compat_off_one, compat_off_two}
use Rattle.recovery.proofs.Copying.{Anything, run_wider}
use Rattle.recovery.proofs.Moved.{plans_found, mark_found, behind_read, behind_put}

-- a part of layout 2 but its compat cell stands behind layout 1
pub run_behind : (part : Part) (old new : DiskState) → (rank part ≡ 0 → ⊥) → Run (place_of Two part) (size_of Two part) Anything old new → RunsBehind old new
run_behind part old new other run =
    run_wider (place_of Two part) (size_of Two part) (length_in One) (STORE_BYTES - length_in One) old new (behind_one part other) (omega (arith, part_within Two part)) run

pub behind_on : (a b c : DiskState) → RunsBehind a b → RunsBehind b c → RunsBehind a c
behind_on a b c first second = run_trans (length_in One) (STORE_BYTES - length_in One) Anything a b c first second

more_limit : (kind : PlanType) → limit_in One kind ≤ limit_in Two kind
more_limit Mission = omega arith
more_limit Fence = omega arith
more_limit Safe = omega arith

-- Records that were copied stay under a write of another part of layout 2
pub copied_stay : (kind : PlanType) (bank n : ℕ) (part : Part) (old mid new : List ℕ) → n ≤ limit_in One kind → (rank (Bank kind 0) ≡ rank part → ⊥) → Torn (place_of Two part) (size_of Two part) mid new → AreCopied kind bank n old mid → AreCopied kind bank n old new
copied_stay kind bank n part old mid new low other torn copied seq below = record {
  bytes =
      field_apart (record_at Two kind 0 seq) 48 (place_of Two part) (size_of Two part) mid new (record_apart Two kind 0 seq part (omega (arith, below, low, more_limit kind)) other) torn ∙ (copied seq below).bytes;
}

-- and they were there before writes behind layout 1
pub copied_from : (kind : PlanType) (bank n : ℕ) (old mid new : List ℕ) → n ≤ limit_in One kind → Torn (length_in One) (STORE_BYTES - length_in One) old mid → AreCopied kind bank n mid new → AreCopied kind bank n old new
copied_from kind bank n old mid new low torn copied seq below = record {
  bytes =
      (copied seq below).bytes
      ∙ field_apart (record_at One kind bank seq) 48 (length_in One) (STORE_BYTES - length_in One) old mid
      (inl (omega (arith, (record_within One kind bank seq (omega (arith, below, low))).1, part_within One (Bank kind bank)))) torn;
}

-- so do a state
pub state_stays : (kind : PlanType) (head : PlanHead) (part : Part) (mid new : List ℕ) → (rank (State kind) ≡ rank part → ⊥) → Torn (place_of Two part) (size_of Two part) mid new → HasNewState kind head mid → HasNewState kind head new
state_stays kind head part mid new other torn has = record {
  payload = has.payload;
  is = record {
    slot = has.is.slot;
    bytes = field_apart (state_cell Two kind).at 32 (place_of Two part) (size_of Two part) mid new (parts_apart Two (State kind) part other) torn ∙ has.is.bytes;
  };
  named = has.named;
}

told_back : (at n : ℕ) (Q : List ℕ → Type 0) (old new : DiskState) → Run at n Q old new → IsTrue new.tells → IsTrue old.tells
told_back at n Q old new run told = subst (λ (b : Bool). IsTrue b) run.tells told

-- the limits of the plans that states name
pub count_low : (states : States) → AreStates One states → (kind : PlanType) → (banks_among states kind).head.count ≤ limit_in One kind
count_low states are Mission = are.mission.count
count_low states are Fence = are.fence.count
count_low states are Safe = are.safe.count

-- The records of three plans, copied one plan after another
pub first_plan_behind : (a b : DiskState) → Run (place_of Two (Bank Mission 0)) (size_of Two (Bank Mission 0)) Anything a b → RunsBehind a b
first_plan_behind a b run = run_behind (Bank Mission 0) a b (λ same. absurd (omega (arith, same))) run

module _ (a b c : DiskState) (run1 : Run (place_of Two (Bank Mission 0)) (size_of Two (Bank Mission 0)) Anything a b) (run2 : Run (place_of Two (Bank Fence 0)) (size_of Two (Bank Fence 0)) Anything b c) where
  pub two_plans_behind : RunsBehind a c
  two_plans_behind = behind_on a b c (first_plan_behind a b run1) (run_behind (Bank Fence 0) b c (λ same. absurd (omega (arith, same))) run2)

  module _ (d : DiskState) (run3 : Run (place_of Two (Bank Safe 0)) (size_of Two (Bank Safe 0)) Anything c d) where
    pub plans_behind : RunsBehind a d
    plans_behind = behind_on a c d two_plans_behind (run_behind (Bank Safe 0) c d (λ same. absurd (omega (arith, same))) run3)

    pub all_copied : (states : States) → AreStates One states → (IsTrue b.tells → AreCopied Mission states.mission.bank states.mission.head.count a.seen b.seen)
        → (IsTrue c.tells → AreCopied Fence states.fence.bank states.fence.head.count b.seen c.seen) → (IsTrue d.tells → AreCopied Safe states.safe.bank states.safe.head.count c.seen d.seen)
        → IsTrue d.tells → AreAllCopied states a.seen d.seen
    all_copied states are copied1 copied2 copied3 told = each
      where
        told_c : IsTrue c.tells
        told_c = told_back _ _ Anything c d run3 told

        told_b : IsTrue b.tells
        told_b = told_back _ _ Anything b c run2 told_c

        each : (kind : PlanType) → AreCopied kind (banks_among states kind).bank (banks_among states kind).head.count a.seen d.seen
        each Mission =
            copied_stay Mission states.mission.bank states.mission.head.count (Bank Safe 0) a.seen c.seen d.seen are.mission.count (λ same. absurd (omega (arith, same))) (run3.reads told)
            (copied_stay Mission states.mission.bank states.mission.head.count (Bank Fence 0) a.seen b.seen c.seen are.mission.count (λ same. absurd (omega (arith, same))) (run2.reads told_c) (copied1 told_b))
        each Fence =
            copied_stay Fence states.fence.bank states.fence.head.count (Bank Safe 0) a.seen c.seen d.seen are.fence.count (λ same. absurd (omega (arith, same))) (run3.reads told)
            (copied_from Fence states.fence.bank states.fence.head.count a.seen b.seen c.seen are.fence.count ((first_plan_behind a b run1).reads told_b) (copied2 told_c))
        each Safe = copied_from Safe states.safe.bank states.safe.head.count a.seen c.seen d.seen are.safe.count (two_plans_behind.reads told_c) (copied3 told)

-- all records stay under the write of a state or of the mark
all_stay : (states : States) (part : Part) (old mid new : List ℕ) → AreStates One states → ((kind : PlanType) → rank (Bank kind 0) ≡ rank part → ⊥) → Torn (place_of Two part) (size_of Two part) mid new → AreAllCopied states old mid → AreAllCopied states old new
all_stay states part old mid new are other torn copied kind = copied_stay kind (banks_among states kind).bank (banks_among states kind).head.count part old mid new (count_low states are kind) (other kind) torn (copied kind)

not_state : (kind other : PlanType) → rank (Bank kind 0) ≡ rank (State other) → ⊥
not_state kind Mission same = absurd (omega (arith, same))
not_state kind Fence same = absurd (omega (arith, same))
not_state kind Safe same = absurd (omega (arith, same))

not_mark : (kind : PlanType) → rank (Bank kind 0) ≡ rank TheMark → ⊥
not_mark kind same = absurd (omega (arith, same))

-- The states of three plans, written one after another
pub first_state_behind : (a b : DiskState) → Run (place_of Two (State Mission)) (size_of Two (State Mission)) Anything a b → RunsBehind a b
first_state_behind a b run = run_behind (State Mission) a b (λ same. absurd (omega (arith, same))) run

module _ (a b c : DiskState) (run1 : Run (place_of Two (State Mission)) (size_of Two (State Mission)) Anything a b) (run2 : Run (place_of Two (State Fence)) (size_of Two (State Fence)) Anything b c) where
  pub two_states : RunsBehind a c
  two_states = behind_on a b c (first_state_behind a b run1) (run_behind (State Fence) b c (λ same. absurd (omega (arith, same))) run2)

  module _ (d : DiskState) (run3 : Run (place_of Two (State Safe)) (size_of Two (State Safe)) Anything c d) where
    pub three_states : RunsBehind a d
    three_states = behind_on a c d two_states (run_behind (State Safe) c d (λ same. absurd (omega (arith, same))) run3)

    told_2 : IsTrue d.tells → IsTrue c.tells
    told_2 told = told_back _ _ Anything c d run3 told

    told_1 : IsTrue d.tells → IsTrue b.tells
    told_1 told = told_back _ _ Anything b c run2 (told_2 told)

    pub all_states : (states : States) → (IsTrue b.tells → HasNewState Mission states.mission.head b.seen) → (IsTrue c.tells → HasNewState Fence states.fence.head c.seen)
        → (IsTrue d.tells → HasNewState Safe states.safe.head d.seen) → IsTrue d.tells → HaveNewStates states d.seen
    all_states states state1 state2 state3 told = each
      where
        each : (kind : PlanType) → HasNewState kind (banks_among states kind).head d.seen
        each Mission =
            state_stays Mission states.mission.head (State Safe) c.seen d.seen (λ same. absurd (omega (arith, same))) (run3.reads told)
            (state_stays Mission states.mission.head (State Fence) b.seen c.seen (λ same. absurd (omega (arith, same))) (run2.reads (told_2 told)) (state1 (told_1 told)))
        each Fence = state_stays Fence states.fence.head (State Safe) c.seen d.seen (λ same. absurd (omega (arith, same))) (run3.reads told) (state2 (told_2 told))
        each Safe = state3 told

    pub states_leave : (states : States) → AreStates One states → (old : List ℕ) → IsTrue d.tells → AreAllCopied states old a.seen → AreAllCopied states old d.seen
    states_leave states are old told copied =
        all_stay states (State Safe) old c.seen d.seen are (λ kind. not_state kind Safe) (run3.reads told)
        (all_stay states (State Fence) old b.seen c.seen are (λ kind. not_state kind Fence) (run2.reads (told_2 told))
        (all_stay states (State Mission) old a.seen b.seen are (λ kind. not_state kind Mission) (run1.reads (told_1 told)) copied))

any : (z : DiskState) → Every Anything z
any z = record { reads = λ told. tt; images = λ x left. tt }

-- All that is put behind: the records, the states, the mark, and a sync
module _ (a b c d : DiskState) (run1 : RunsBehind a b) (run2 : RunsBehind b c) (run3 : Run (place_of Two TheMark) (size_of Two TheMark) Anything c d) where
  pub marked_behind : RunsBehind a d
  marked_behind = behind_on a c d (behind_on a b c run1 run2) (run_behind TheMark c d (λ same. absurd (omega (arith, same))) run3)

  module _ (z : DiskState) (result : _) (syncs : Syncs d z result) where
    pub synced_behind : RunsBehind a z
    synced_behind = run_sync (length_in One) (STORE_BYTES - length_in One) Anything a d z result syncs (any z) marked_behind

    pub put_there : (states : States) (mark : Option PlainMark) → AreStates One states → (IsTrue b.tells → AreAllCopied states a.seen b.seen) → ((old : List ℕ) → IsTrue c.tells → AreAllCopied states old b.seen → AreAllCopied states old c.seen)
        → (IsTrue c.tells → HaveNewStates states c.seen) → (IsTrue d.tells → HasNewMark mark d.seen) → IsTrue z.tells → IsPutBehind states mark a.seen z.seen
    put_there states mark are copied left named marked told =
        let told_d : IsTrue d.tells = subst (λ (x : Bool). IsTrue x) syncs.time.tells told in
        let told_c = told_back _ _ Anything c d run3 told_d in
        let told_b = told_back _ _ Anything b c run2 told_c in
        subst (λ (l : List ℕ). IsPutBehind states mark a.seen l) (sym syncs.seen) (record {
          items = all_stay states TheMark a.seen c.seen d.seen are not_mark (run3.reads told_d) (left a.seen told_c (copied told_b));
          states = λ kind. state_stays kind (banks_among states kind).head TheMark c.seen d.seen (state_not_mark kind) (run3.reads told_d) (named told_c kind);
          mark = marked told_d;
        })
      where
        state_not_mark : (kind : PlanType) → rank (State kind) ≡ rank TheMark → ⊥
        state_not_mark Mission same = absurd (omega (arith, same))
        state_not_mark Fence same = absurd (omega (arith, same))
        state_not_mark Safe same = absurd (omega (arith, same))

-- The whole move: `a` before it, `b` once all was put behind layout 1 and synced, `z` at the end
module _ (states : States) (mark : Option Mark) (mark_cell cell : GatedCell) (a : DiskState) (sound_a : IsSound a) (only_a : Only a.seen a.images) (is_place : cell.place ≡ compat_place)
    (one : IsTrue a.tells → IsLayout One (held compat_place a.seen)) (are : AreStates One states) (read : IsTrue a.tells → AllRead One a.seen states mark_cell mark) where
  was : IsTrue a.tells → StandsIn One a.seen (plans_found One states a.seen) (mark_found states mark)
  was told = stands_of One a.seen (plans_found One states a.seen) (mark_found states mark) (one told) (behind_read One a.seen states mark_cell mark are (read told))

  -- the compat cell stays before the first writes that are behind layout 1
  compat_stays : (d c : List ℕ) → Torn (length_in One) (STORE_BYTES - length_in One) d c → held compat_place c ≡ held compat_place d
  compat_stays d c torn = held_beside compat_place (length_in One) (STORE_BYTES - length_in One) d c (omega arith) (inl (omega arith)) torn

  one_stays : (c : List ℕ) → IsTrue a.tells → Torn (length_in One) (STORE_BYTES - length_in One) a.seen c → StandsIn One c (plans_found One states a.seen) (mark_found states mark)
  one_stays c told torn =
      stands_of One c (plans_found One states a.seen) (mark_found states mark) (subst (λ (h : Held). IsLayout One h) (sym (compat_stays a.seen c torn)) (one told))
      (behind_stays One (length_in One) (STORE_BYTES - length_in One) a.seen c (off_one (length_in One) (STORE_BYTES - length_in One) (omega arith)) torn (plans_found One states a.seen) (mark_found states mark)
      (behind_read One a.seen states mark_cell mark are (read told)))

  carried : (layout : Layout) (c : List ℕ) → IsTrue a.tells → StandsIn layout c (plans_found One states a.seen) (mark_found states mark) → IsCarried a c
  carried layout c told stands = (
    a.seen,
    sound_a.seen_is_left told,
    record { plans = plans_found One states a.seen; mark = mark_found states mark; was = was told; is = (layout, stands) },
  )

  -- while all is put behind it
  pub images_behind : (b : DiskState) → RunsBehind a b → LeavesOnly a b (IsCarried a)
  images_behind b run = leaves_weaker a b (Image (length_in One) (STORE_BYTES - length_in One) a Anything) (IsCarried a) here run.moments
    where
      here : (c : List ℕ) → Image (length_in One) (STORE_BYTES - length_in One) a Anything c → IsCarried a c
      here c image =
          let told = sound_a.told image.from.0 image.from.1 in
          carried One c told (one_stays c told (subst (λ (d : List ℕ). Torn (length_in One) (STORE_BYTES - length_in One) d c) (only_a image.from.0 image.from.1) image.from.2))

  -- the cell is still known
  pub known_behind : (b : DiskState) → IsSound b → RunsBehind a b → Known cell a → Stays cell a b
  known_behind b sound run known =
      stays_run cell (length_in One) (STORE_BYTES - length_in One) Anything a b (subst (λ (p : CellPlace). 9 ≤ p.slot_bytes) (sym is_place) (omega arith))
      (subst (λ (p : CellPlace). (p.at + 2 * p.slot_bytes ≤ length_in One) ⊎ (length_in One + (STORE_BYTES - length_in One) ≤ p.at)) (sym is_place) (inl (omega arith))) sound run known

  module _ (b z : DiskState) (sound_b : IsSound b) (only_b : Only b.seen b.images) (run1 : RunsBehind a b) (put : IsTrue b.tells → IsPutBehind states (plain_marks mark) a.seen b.seen) (known : Known cell b)
      (swaps : Run cell.place.at (2 * cell.place.slot_bytes) (Swaps cell (compat_bytes 2) b) b z) where
    told_a : IsTrue b.tells → IsTrue a.tells
    told_a told = subst (λ (x : Bool). IsTrue x) run1.tells told

    swaps_here : Run 0 32 (Swaps cell (compat_bytes 2) b) b z
    swaps_here = subst (λ (p : CellPlace). Run p.at (2 * p.slot_bytes) (Swaps cell (compat_bytes 2) b) b z) is_place swaps

    at_b : IsTrue b.tells → held compat_place b.seen ≡ in_force cell b
    at_b told = subst (λ (p : CellPlace). held p b.seen ≡ in_force cell b) is_place (fits_held cell _ b.seen (known.reads told))

    two_of : (second : Bool) (generation : ℕ) → IsLayout Two (InForce second generation (compat_bytes 2))
    two_of second generation = record-compat_bytes 2 (omega arith)

    one_behind : IsTrue b.tells → (c : List ℕ) → Torn 0 32 b.seen c → Behind One c (plans_found One states a.seen) (mark_found states mark)
    one_behind told c torn =
        behind_stays One 0 32 b.seen c compat_off_one torn (plans_found One states a.seen) (mark_found states mark) (behind_of One b.seen (plans_found One states a.seen) (mark_found states mark) (one_stays b.seen (told_a told) (run1.reads told)))

    two_behind_it : IsTrue b.tells → (c : List ℕ) → Torn 0 32 b.seen c → Behind Two c (plans_found One states a.seen) (mark_found states mark)
    two_behind_it told c torn =
        behind_stays Two 0 32 b.seen c compat_off_two torn (plans_found One states a.seen) (mark_found states mark) (behind_put states mark mark_cell a.seen b.seen are (read (told_a told)) (put told))

    pub stands_two : IsTrue b.tells → (c : List ℕ) → Torn 0 32 b.seen c → held compat_place c ≡ next_with cell (compat_bytes 2) → StandsIn Two c (plans_found One states a.seen) (mark_found states mark)
    stands_two told c torn is =
        stands_of Two c (plans_found One states a.seen) (mark_found states mark) (subst (λ (h : Held). IsLayout Two h) (sym is) (two_of (spare_of cell.in_force) (cell.generation + 1))) (two_behind_it told c torn)

    here_now : (c : List ℕ) → Image 0 32 b (Swaps cell (compat_bytes 2) b) c → IsCarried a c
    here_now c image = ⊎_elim old_is new_is (subst (λ (p : CellPlace). (held p c ≡ in_force cell b) ⊎ ((held p c ≡ next_with cell (compat_bytes 2)) × IsBut cell b c)) is_place image.holds)
      where
        told : IsTrue b.tells
        told = sound_b.told image.from.0 image.from.1

        torn : Torn 0 32 b.seen c
        torn = subst (λ (d : List ℕ). Torn 0 32 d c) (only_b image.from.0 image.from.1) image.from.2

        old_is : held compat_place c ≡ in_force cell b → IsCarried a c
        old_is is =
            let first = one_stays b.seen (told_a told) (run1.reads told) in
            carried One c (told_a told)
            (stands_of One c (plans_found One states a.seen) (mark_found states mark) (subst (λ (h : Held). IsLayout One h) (at_b told ∙ sym is) first.layout) (one_behind told c torn))

        new_is : (held compat_place c ≡ next_with cell (compat_bytes 2)) × IsBut cell b c → IsCarried a c
        new_is both = carried Two c (told_a told) (stands_two told c torn both.0)

    pub images_moved : LeavesOnly a z (IsCarried a)
    images_moved = run_run 0 32 (Swaps cell (compat_bytes 2) b) (IsCarried a) a b z (images_behind b run1) swaps_here here_now

    pub moved_there : (IsTrue z.tells → held compat_place z.seen ≡ next_with cell (compat_bytes 2)) → IsTrue z.tells → Moved a.seen z.seen
    moved_there two told =
        let told_b = subst (λ (x : Bool). IsTrue x) swaps.tells told in
        record {
          plans = plans_found One states a.seen;
          mark = mark_found states mark;
          was = was (told_a told_b);
          is = stands_two told_b z.seen (swaps_here.reads told) (two told);
        }
