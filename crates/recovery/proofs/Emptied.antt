-- A store that is new: what its cells hold, and the writes that make it.
use Rattle.std.specs.Prelude.{◌≡◌, ◌⊎◌, ◌+◌, ◌*◌, ◌-◌, ◌<◌, ◌≤◌, ◌==◌, ℕ, zero, suc, Bool, List, [], ◌∷◌, length, get_or, take, drop, Some, None, IsTrue, slice_get, Ok}
use Rattle.std.proofs.Common.{refl, sym, ap, subst, inl, inr, arith, ◌∙◌}
use Rattle.std.specs.Int.{from_le_bytes, w64}
use Rattle.mission_model.specs.declared.plan.Item.{Item}
use Rattle.mission_model.specs.declared.plan.PlanType.{PlanType}
use Rattle.mission_model.specs.declared.plan.PlanType.TheVariants.{Mission, Fence, Safe}
use Rattle.disk_model.specs.Bytes.{field, Outside, Torn}
use Rattle.disk_model.specs.Disk.{DiskState, IsSound, Only, Writes, Syncs}
use Rattle.disk_model.specs.Every.{told_before}
use Rattle.disk_model.specs.Moments.{LeavesOnly, started, goes_on, runs_on, leaves_weaker}
use Rattle.disk_model.specs.Places.{get_or-field, field_apart}
use Rattle.gated_cell.specs.declared.place.CellPlace.{CellPlace}
use Rattle.gated_cell.specs.Cell.{Held, Empty, held, choose, is_open, generation_at, payload_at}
use Rattle.dataman_layout.specs.declared.layout.Layout.TheVariants.{Two}
use Rattle.dataman_layout.specs.Compat.{compat_bytes}
use Rattle.dataman_layout.specs.Fields.{number_bytes, number_at}
use Rattle.dataman_layout.specs.Places.{type_rank}
use Rattle.dataman_layout.specs.State.{state_bytes}
use Rattle.plan_store.specs.StoreState.{StoredPlan, first_mark}
use Rattle.bank_state.specs.Plans.{plan_among}
use Rattle.bank_state.specs.StandsFor.{compat_place, state_place, IsThisLayout, Names, HasPlanIn, HasMark, StandsIn}
use Rattle.recovery.specs.Empty.{empty_front, empty_cells, cells_at, IsEmpty, IsBehind, IsBegun, IsOffCells, ButCells, WritesCells, empty_plan, empty_plans}
use Rattle.recovery.specs.Steps.{Keeps}

-- n bytes from `at` on are of the cells
abbrev pub InCells : ℕ → ℕ → Type 0
InCells at n = (at + n ≤ 32) ⊎ ((cells_at ≤ at) × (at + n ≤ cells_at + 384))

off_outside : (at n k : ℕ) → InCells at n → IsOffCells k → Outside at n k
off_outside at n k (inl front) (behind, side) = inr (omega (arith, front, behind))
off_outside at n k (inr within) (behind, inl before) = inl (omega (arith, within.0, before))
off_outside at n k (inr within) (behind, inr past) = inr (omega (arith, within.1, past))

but_none : (c : List ℕ) → ButCells c c
but_none c = record { size = refl; others = λ k off. refl }

but_trans : (a b c : List ℕ) → ButCells a b → ButCells b c → ButCells a c
but_trans a b c first second = record { size = second.size ∙ first.size; others = λ k off. second.others k off ∙ first.others k off }

torn_but : (at n : ℕ) (a b : List ℕ) → InCells at n → Torn at n a b → ButCells a b
torn_but at n a b within torn = record { size = torn.size; others = λ k off. torn.others k (off_outside at n k within off) }

-- an image of one from before, but for the cells
abbrev pub FromCells : DiskState → List ℕ → Type 0
FromCells a c = (d : List ℕ) × a.images d × ButCells d c

pub cells_start : (a : DiskState) → IsSound a → WritesCells a a
cells_start a sound = record {
  images = started a (FromCells a) sound (λ c left. (c, left, but_none c));
  reads = λ told. but_none a.seen;
  tells = refl;
  steady = record { size = refl; can_cut = refl; faults = omega arith };
}

pub cells_write : (at : ℕ) (bytes : List ℕ) (a b z : DiskState) (result : _) → InCells at (length bytes) → WritesCells a b → Writes at bytes b z result → WritesCells a z
cells_write at bytes a b z result within so_far writes = record {
  images = goes_on a b z (FromCells a) so_far.images writes.time each;
  reads = λ told. but_trans a.seen b.seen z.seen (so_far.reads (told_before b z writes.time told)) (torn_but at (length bytes) b.seen z.seen within (writes.torn (told_before b z writes.time told)));
  tells = writes.time.tells ∙ so_far.tells;
  steady = record {
    size = writes.meter.call.size ∙ so_far.steady.size;
    can_cut = writes.meter.call.can_cut ∙ so_far.steady.can_cut;
    faults = omega (arith, so_far.steady.faults, writes.meter.call.faults);
  };
}
  where
    each : (c : List ℕ) → z.images c → FromCells a c
    each c left =
        let from = writes.images c left in
        let start = so_far.images.now from.0 from.1 in
        (start.0, start.1, but_trans start.0 from.0 c start.2 (torn_but at (length bytes) from.0 c within from.2))

pub cells_sync : (a b z : DiskState) (result : _) → WritesCells a b → Syncs b z result → WritesCells a z
cells_sync a b z result so_far syncs = record {
  images = goes_on a b z (FromCells a) so_far.images syncs.time (λ c left. so_far.images.now c (syncs.images c left));
  reads = λ told. subst (λ (l : List ℕ). ButCells a.seen l) (sym syncs.seen) (so_far.reads (told_before b z syncs.time told));
  tells = syncs.time.tells ∙ so_far.tells;
  steady = record {
    size = syncs.meter.call.size ∙ so_far.steady.size;
    can_cut = syncs.meter.call.can_cut ∙ so_far.steady.can_cut;
    faults = omega (arith, so_far.steady.faults, syncs.meter.call.faults);
  };
}

pub cells_keeps : (a b : DiskState) → Keeps a b → WritesCells a b
cells_keeps a b kept = record {
  images = leaves_weaker a b a.images (FromCells a) (λ c left. (c, left, but_none c)) kept.images;
  reads = λ told. subst (λ (l : List ℕ). ButCells a.seen l) (sym kept.seen) (but_none a.seen);
  tells = kept.tells;
  steady = kept.steady;
}

pub cells_then : (a b z : DiskState) → WritesCells a b → WritesCells b z → WritesCells a z
cells_then a b z first second = record {
  images = runs_on a b z (FromCells a) first.images (leaves_weaker b z (FromCells b) (FromCells a) each second.images);
  reads = λ told. but_trans a.seen b.seen z.seen (first.reads (subst (λ (x : Bool). IsTrue x) second.tells told)) (second.reads told);
  tells = second.tells ∙ first.tells;
  steady = record {
    size = second.steady.size ∙ first.steady.size;
    can_cut = second.steady.can_cut ∙ first.steady.can_cut;
    faults = omega (arith, first.steady.faults, second.steady.faults);
  };
}
  where
    each : (c : List ℕ) → FromCells b c → FromCells a c
    each c from =
        let start = first.images.now from.0 from.1 in
        (start.0, start.1, but_trans start.0 from.0 c start.2 from.2)

-- what each image has, after a write that keeps it, and after a sync
leaves_write : (P : List ℕ → Type 0) (at : ℕ) (bytes : List ℕ) (a b z : DiskState) (result : _) → ((d c : List ℕ) → Torn at (length bytes) d c → P d → P c) → LeavesOnly a b P → Writes at bytes b z result → LeavesOnly a z P
leaves_write P at bytes a b z result keeps so_far writes = goes_on a b z P so_far writes.time (λ c left. let from = writes.images c left in keeps from.0 c from.2 (so_far.now from.0 from.1))

leaves_sync : (P : List ℕ → Type 0) (a b z : DiskState) (result : _) → LeavesOnly a b P → Syncs b z result → LeavesOnly a z P
leaves_sync P a b z result so_far syncs = goes_on a b z P so_far syncs.time (λ c left. so_far.now c (syncs.images c left))

-- All bytes of the cells but the first are written, and it stays 0.
module _ (a : DiskState) (sound : IsSound a) (only : Only a.seen a.images) (unused : IsTrue a.tells → get_or a.seen 0 0 ≡ 0) where
  abbrev IsUnused : List ℕ → Type 0
  IsUnused c = get_or c 0 0 ≡ 0

  stays_unused : (at n : ℕ) (d c : List ℕ) → 1 ≤ at → Torn at n d c → IsUnused d → IsUnused c
  stays_unused at n d c low torn was = torn.others 0 (inl (omega (arith, low))) ∙ was

  at_first : LeavesOnly a a IsUnused
  at_first = started a IsUnused sound (λ c left. ap (λ (l : List ℕ). get_or l 0 0) (only c left) ∙ unused (sound.told c left))

  module _ (front cells : List ℕ) (b : DiskState) (wrote : _) (writes : Writes 1 front a b wrote) where
    front_there : LeavesOnly a b IsUnused
    front_there = leaves_write IsUnused 1 front a a b wrote (λ d c torn was. stays_unused 1 (length front) d c (omega arith) torn was) at_first writes

    pub begun_front : LeavesOnly a b IsBegun
    begun_front = leaves_weaker a b IsUnused IsBegun (λ c was. inl was) front_there

    pub within_front : length front ≡ 31 → WritesCells a b
    within_front long = cells_write 1 front a a b wrote (inl (omega (arith, long))) (cells_start a sound) writes

    module _ (d : DiskState) (put : _) (puts : Writes cells_at cells b d put) where
      cells_there : LeavesOnly a d IsUnused
      cells_there = leaves_write IsUnused cells_at cells a b d put (λ x c torn was. stays_unused cells_at (length cells) x c (omega arith) torn was) front_there puts

      pub begun_cells : LeavesOnly a d IsBegun
      begun_cells = leaves_weaker a d IsUnused IsBegun (λ c was. inl was) cells_there

      pub within_cells : length front ≡ 31 → length cells ≡ 384 → WritesCells a d
      within_cells short long = cells_write cells_at cells a b d put (inr (omega arith, omega (arith, long))) (within_front short) puts

      module _ (z : DiskState) (synced : _) (syncs : Syncs d z synced) where
        pub begun_sync : LeavesOnly a z IsBegun
        begun_sync = leaves_weaker a z IsUnused IsBegun (λ c was. inl was) (leaves_sync IsUnused a d z synced cells_there syncs)

        pub within_sync : length front ≡ 31 → length cells ≡ 384 → WritesCells a z
        within_sync short long = cells_sync a d z synced (within_cells short long) syncs

-- and are there after the sync
pub cells_held : (front cells : List ℕ) (a b d z : DiskState) (u v w : Unit {0}) → length front ≡ 31 → length cells ≡ 384 → Writes 1 front a b (Ok u) → Writes cells_at cells b d (Ok v) → Syncs d z (Ok w) → IsTrue z.tells
    → front ≡ drop 1 empty_front → cells ≡ empty_cells → IsBehind z.seen
cells_held front cells a b d z u v w short long writes puts syncs told first_is second_is =
    let told_d = told_before d z syncs.time told in
    let told_b = told_before b d puts.time told_d in
    let told_a = told_before a b writes.time told_b in
    let first = writes.written told_a in
    let second = puts.written told_b in
    record {
      front = ap (λ (l : List ℕ). field 1 31 l) syncs.seen ∙ field_apart 1 31 cells_at (length cells) b.seen d.seen (inl (omega arith)) second.others ∙ ap (λ (n : ℕ). field 1 n b.seen) (sym short) ∙ first.here ∙ first_is;
      cells = ap (λ (l : List ℕ). field cells_at 384 l) syncs.seen ∙ ap (λ (n : ℕ). field cells_at n d.seen) (sym long) ∙ second.here ∙ second_is;
    }

stay_there : (d c : List ℕ) → Torn 0 1 d c → IsBehind d → IsBehind c
stay_there d c torn was = record {
  front = field_apart 1 31 0 1 d c (inr (omega arith)) torn ∙ was.front;
  cells = field_apart cells_at 384 0 1 d c (inr (omega arith)) torn ∙ was.cells;
}

-- The first byte is written, and the others stay.
module _ (a : DiskState) (sound : IsSound a) (only : Only a.seen a.images) (behind : IsTrue a.tells → IsBehind a.seen) (b : DiskState) (wrote : _) (writes : Writes 0 (165 ∷ []) a b wrote) where
  there_now : LeavesOnly a b IsBehind
  there_now = leaves_write IsBehind 0 (165 ∷ []) a a b wrote stay_there (started a IsBehind sound (λ c left. subst IsBehind (sym (only c left)) (behind (sound.told c left)))) writes

  pub begun_first : LeavesOnly a b IsBegun
  begun_first = leaves_weaker a b IsBehind IsBegun (λ c was. inr was) there_now

  pub within_first : WritesCells a b
  within_first = cells_write 0 (165 ∷ []) a a b wrote (inl (omega arith)) (cells_start a sound) writes

  module _ (z : DiskState) (synced : _) (syncs : Syncs b z synced) where
    pub begun_last : LeavesOnly a z IsBegun
    begun_last = leaves_weaker a z IsBehind IsBegun (λ c was. inr was) (leaves_sync IsBehind a b z synced there_now syncs)

    pub within_last : WritesCells a z
    within_last = cells_sync a b z synced within_first syncs

-- a first byte before the others
join : (n : ℕ) (image : List ℕ) (x : ℕ) (xs : List ℕ) → field 0 1 image ≡ x ∷ [] → field 1 n image ≡ xs → field 0 (suc n) image ≡ x ∷ xs
join n image x xs first rest = (λ i. get_or (first i) 0 0 ∷ rest i)

-- the bytes that are written
pub front_rest : (bytes : List ℕ) → bytes ≡ empty_front → take 31 (drop 1 bytes) ≡ drop 1 empty_front
unfolding compat_bytes number_bytes
front_rest bytes is = ap (λ (l : List ℕ). take 31 (drop 1 l)) is

pub front_long : (bytes : List ℕ) → bytes ≡ empty_front → length (take 31 (drop 1 bytes)) ≡ 31
unfolding compat_bytes number_bytes
front_long bytes is = ap (λ (l : List ℕ). length (take 31 (drop 1 l))) is

pub cells_long : (bytes : List ℕ) → bytes ≡ empty_cells → length bytes ≡ 384
unfolding state_bytes number_bytes
cells_long bytes is = ap (λ (l : List ℕ). length l) is

front_whole : 165 ∷ drop 1 empty_front ≡ empty_front
unfolding compat_bytes number_bytes
front_whole = refl

pub all_held : (a b z : DiskState) (u v : Unit {0}) → (IsTrue a.tells → IsBehind a.seen) → Writes 0 (165 ∷ []) a b (Ok u) → Syncs b z (Ok v) → IsTrue z.tells → IsEmpty z.seen
all_held a b z u v behind writes syncs told =
    let told_b = told_before b z syncs.time told in
    let told_a = told_before a b writes.time told_b in
    let first = writes.written told_a in
    subst IsEmpty (sym syncs.seen) (record {
      front = join 31 b.seen 165 (drop 1 empty_front) first.here (field_apart 1 31 0 1 a.seen b.seen (inr (omega arith)) first.others ∙ (behind told_a).front) ∙ front_whole;
      cells = field_apart cells_at 384 0 1 a.seen b.seen (inr (omega arith)) first.others ∙ (behind told_a).cells;
    })

-- bytes that stand at one place of a list and at another of another
module _ (image bytes : List ℕ) where
  field_moved : (m at to : ℕ) → ((k : ℕ) → k < m → get_or image (at + k) 0 ≡ get_or bytes (to + k) 0) → field at m image ≡ field to m bytes
  field_moved zero at to same = refl
  field_moved (suc m) at to same =
      let here_at : at + 0 ≡ at = omega arith in
      let here_to : to + 0 ≡ to = omega arith in
      let first : get_or image at 0 ≡ get_or bytes to 0 = ap (λ (n : ℕ). get_or image n 0) (sym here_at) ∙ same 0 (omega arith) ∙ ap (λ (n : ℕ). get_or bytes n 0) here_to in
      let rest = field_moved m (suc at) (suc to) later in
      λ i. first i ∷ rest i
    where
      later : (k : ℕ) → k < m → get_or image (suc at + k) 0 ≡ get_or bytes (suc to + k) 0
      later k below =
          let step_at : suc at + k ≡ at + suc k = omega arith in
          let step_to : to + suc k ≡ suc to + k = omega arith in
          ap (λ (n : ℕ). get_or image n 0) step_at ∙ same (suc k) (omega (arith, below)) ∙ ap (λ (n : ℕ). get_or bytes n 0) step_to

  -- a cell in those bytes
  module _ (at to n : ℕ) (nine : 9 ≤ n) (same : (k : ℕ) → k < 2 * n → get_or image (at + k) 0 ≡ get_or bytes (to + k) 0) where
    byte_moved : (s j : ℕ) → s + j < 2 * n → get_or image (at + s + j) 0 ≡ get_or bytes (to + s + j) 0
    byte_moved s j low =
        let first : at + s + j ≡ at + (s + j) = omega arith in
        let second : to + (s + j) ≡ to + s + j = omega arith in
        ap (λ (k : ℕ). get_or image k 0) first ∙ same (s + j) low ∙ ap (λ (k : ℕ). get_or bytes k 0) second

    field_in : (s j m : ℕ) → s + j + m ≤ 2 * n → field (at + s + j) m image ≡ field (to + s + j) m bytes
    field_in s j m low = field_moved m (at + s + j) (to + s + j) each
      where
        each : (k : ℕ) → k < m → get_or image (at + s + j + k) 0 ≡ get_or bytes (to + s + j + k) 0
        each k below =
            let first : at + s + j + k ≡ at + s + (j + k) = omega arith in
            let second : to + s + (j + k) ≡ to + s + j + k = omega arith in
            ap (λ (i : ℕ). get_or image i 0) first ∙ byte_moved s (j + k) (omega (arith, low, below)) ∙ ap (λ (i : ℕ). get_or bytes i 0) second

    abbrev at_place : ℕ → CellPlace
    at_place place = record { at = place; slot_bytes = n }

    gate_moved : (s : ℕ) → s + 9 ≤ 2 * n → is_open (at + s) image ≡ is_open (to + s) bytes
    gate_moved s low =
        let first : at + s ≡ at + s + 0 = omega arith in
        let second : to + s + 0 ≡ to + s = omega arith in
        ap (λ (b : ℕ). b == 165) (ap (λ (k : ℕ). get_or image k 0) first ∙ byte_moved s 0 (omega (arith, low)) ∙ ap (λ (k : ℕ). get_or bytes k 0) second)

    generation_moved : (s : ℕ) → s + 9 ≤ 2 * n → generation_at (at + s) image ≡ generation_at (to + s) bytes
    generation_moved s low = ap (λ (l : List ℕ). from_le_bytes w64 l) (field_in s 1 8 (omega (arith, low)))

    payload_moved : (s : ℕ) → s + n ≤ 2 * n → payload_at (at_place at) (at + s) image ≡ payload_at (at_place to) (to + s) bytes
    payload_moved s low = field_in s 9 (n - 9) (omega (arith, low, nine))

    pub held_moved : held (at_place at) image ≡ held (at_place to) bytes
    held_moved =
        let first_at : at ≡ at + 0 = omega arith in
        let first_to : to + 0 ≡ to = omega arith in
        let gate : is_open at image ≡ is_open to bytes = ap (λ (k : ℕ). is_open k image) first_at ∙ gate_moved 0 (omega (arith, nine)) ∙ ap (λ (k : ℕ). is_open k bytes) first_to in
        let generation : generation_at at image ≡ generation_at to bytes = ap (λ (k : ℕ). generation_at k image) first_at ∙ generation_moved 0 (omega (arith, nine)) ∙ ap (λ (k : ℕ). generation_at k bytes) first_to in
        let payload : payload_at (at_place at) at image ≡ payload_at (at_place to) to bytes =
        ap (λ (k : ℕ). payload_at (at_place at) k image) first_at ∙ payload_moved 0 (omega arith) ∙ ap (λ (k : ℕ). payload_at (at_place to) k bytes) first_to in
        λ i. choose (gate i) (gate_moved n (omega (arith, nine)) i) (generation i) (generation_moved n (omega (arith, nine)) i) (payload i) (payload_moved n (omega arith) i)

-- a cell of a list of bytes that stands at a place of an image
pub held_in : (image bytes : List ℕ) (begin total to n : ℕ) → field begin total image ≡ bytes → 9 ≤ n → to + 2 * n ≤ total → held (record { at = begin + to; slot_bytes = n }) image ≡ held (record { at = to; slot_bytes = n }) bytes
held_in image bytes begin total to n is nine low = held_moved image bytes (begin + to) to n nine each
  where
    each : (k : ℕ) → k < 2 * n → get_or image (begin + to + k) 0 ≡ get_or bytes (to + k) 0
    each k below =
        let place : begin + to + k ≡ begin + (to + k) = omega arith in
        ap (λ (j : ℕ). get_or image j 0) place ∙ sym (get_or-field image total begin (to + k) (omega (arith, low, below))) ∙ ap (λ (l : List ℕ). get_or l (to + k) 0) is

-- its compat cell
compat_held : IsThisLayout (held compat_place empty_front)
unfolding compat_bytes number_bytes number_at
compat_held = record { size = refl; version = refl; rest = refl }

-- its state cells
abbrev cell_in : PlanType → CellPlace
cell_in kind = record { at = 32 * type_rank kind; slot_bytes = 16 }

state_held : (kind : PlanType) → Names kind 0 (record { id = 0; count = 0 }) (held (cell_in kind) empty_cells)
unfolding state_bytes number_bytes number_at
state_held Mission = record { size = refl; bank = refl; id = refl; count = refl; low = omega arith; within = omega arith }
state_held Fence = record { size = refl; bank = refl; id = refl; count = refl; low = omega arith; within = omega arith }
state_held Safe = record { size = refl; bank = refl; id = refl; count = refl; low = omega arith; within = omega arith }

-- its mark cell
mark_held : held (record { at = 96; slot_bytes = 144 }) empty_cells ≡ Empty
unfolding state_bytes number_bytes
mark_held = refl

empty_among : (kind : PlanType) → plan_among empty_plans kind ≡ empty_plan
empty_among Mission = refl
empty_among Fence = refl
empty_among Safe = refl

no_item : (seq : ℕ) (item : Item) → slice_get [] seq ≡ Some item → ⊥
no_item zero item at = absurd cc
no_item (suc seq) item at = absurd cc

empty_has : (kind : PlanType) (image : List ℕ) → held (state_place kind) image ≡ held (cell_in kind) empty_cells → HasPlanIn Two kind empty_plan image
empty_has kind image same = record {
  bank = 0;
  named = subst (λ (h : Held). Names kind 0 (record { id = 0; count = 0 }) h) (sym same) (state_held kind);
  items = λ seq item at. absurd (no_item seq item at);
  valid = record { within = omega arith; accepted = λ seq item at. absurd (no_item seq item at) };
}

state_moved : (kind : PlanType) (image : List ℕ) → field cells_at 384 image ≡ empty_cells → held (state_place kind) image ≡ held (cell_in kind) empty_cells
state_moved Mission image is = held_in image empty_cells cells_at 384 0 16 is (omega arith) (omega arith)
state_moved Fence image is = held_in image empty_cells cells_at 384 32 16 is (omega arith) (omega arith)
state_moved Safe image is = held_in image empty_cells cells_at 384 64 16 is (omega arith) (omega arith)

-- so it stands for three empty plans, and no stored mark
pub stands_empty : (image : List ℕ) → IsEmpty image → StandsIn Two image empty_plans (first_mark 0)
stands_empty image is = record {
  layout = subst (λ (h : Held). IsThisLayout h) (sym (held_in image empty_front 0 32 0 16 is.front (omega arith) (omega arith))) compat_held;
  each = λ kind. subst (λ (p : StoredPlan). HasPlanIn Two kind p image) (sym (empty_among kind)) (empty_has kind image (state_moved kind image is.cells));
  stored = None;
  has = subst (λ (h : Held). HasMark empty_plan None h) (sym (held_in image empty_cells cells_at 384 96 144 is.cells (omega arith) (omega arith) ∙ mark_held)) refl;
  is = refl;
}
