-- What the bytes of both slots tell of a cell.
use Rattle.std.specs.Prelude.{◌≡◌, ◌≢◌, ℕ, zero, suc, ◌+◌, ◌-◌, ◌*◌, ◌<◌, ◌≤◌, ◌==◌, nat_lt, Bool, true, false, IsTrue, List, ◌∷◌, get_or, take, drop, Some, if◌then◌else◌}
use Rattle.std.specs.Int.{from_le_bytes, w64}
use Rattle.std.proofs.Common.{refl, sym, ◌∙◌, ap, subst, arith}
use Rattle.std.proofs.lemmas.Bool.Decides.{nat_tests}
use Rattle.disk_model.specs.Bytes.{field}
use Rattle.disk_model.specs.Disk.{DiskState, IsSound, Still, Elapses}
use Rattle.disk_model.specs.Every.{Every, every_still}
use Rattle.disk_model.specs.Places.{get_or-field, field_take, field_drop}
use Rattle.gated_cell.specs.declared.place.CellPlace.{CellPlace}
use Rattle.gated_cell.specs.declared.cell.GatedCell.{GatedCell}
use Rattle.gated_cell.specs.Cell.{Twins, slot_at, is_open, generation_at, payload_at, held, choose, Fits, stored, Known, Settled, chosen, holds_in}
use Rattle.gated_cell.specs.declared.fault.CellFault.{CellFault}
use Rattle.gated_cell.specs.declared.fault.CellFault.TheVariants as cell_fault
use Rattle.gated_cell.specs.Refusals.{Refused, NotOpened}
use Rattle.gated_cell.specs.Slots.{SlotStays, fits_same, fits_held, known_again}

-- a field of a field
field_in : (bytes : List ℕ) (m a n at : ℕ) → a + m ≤ n → field a m (field at n bytes) ≡ field (at + a) m bytes
field_in bytes zero a n at fits = refl
field_in bytes (suc m) a n at fits =
    let first : get_or (field at n bytes) a 0 ≡ get_or bytes (at + a) 0 = get_or-field bytes n at a (omega (arith, fits)) in
    let step : at + suc a ≡ suc (at + a) = omega arith in
    let rest : field (suc a) m (field at n bytes) ≡ field (suc (at + a)) m bytes = field_in bytes m (suc a) n at (omega (arith, fits)) ∙ ap (λ (k : ℕ). field k m bytes) step in
    λ i. first i ∷ rest i

-- the gate, the generation and the payload in the bytes of a slot
pub gate_in : (s n : ℕ) (image : List ℕ) → 9 ≤ n → (get_or (field s n image) 0 0 == 165) ≡ is_open s image
gate_in s n image nine =
    let step : s + 0 ≡ s = omega arith in
    ap (λ (b : ℕ). b == 165) (get_or-field image n s 0 (omega (arith, nine)) ∙ ap (λ (k : ℕ). get_or image k 0) step)

pub generation_of : (s n : ℕ) (image : List ℕ) → 9 ≤ n → from_le_bytes w64 (field 1 8 (field s n image)) ≡ generation_at s image
generation_of s n image nine = ap (λ (l : List ℕ). from_le_bytes w64 l) (field_in image 8 1 n s (omega (arith, nine)))

pub payload_in : (place : CellPlace) (s : ℕ) (image : List ℕ) → 9 ≤ place.slot_bytes → drop 9 (field s place.slot_bytes image) ≡ payload_at place s image
payload_in place s image nine = sym (field_drop image 9 (place.slot_bytes - 9) s place.slot_bytes (s + 9) (omega (arith, nine)) refl)

-- two images with the same bytes in a slot
slot_same : (place : CellPlace) (s : ℕ) (old new : List ℕ) → 9 ≤ place.slot_bytes → field s place.slot_bytes new ≡ field s place.slot_bytes old → SlotStays place s old new
slot_same place s old new nine same = record {
  gate = sym (gate_in s place.slot_bytes new nine) ∙ ap (λ (l : List ℕ). get_or l 0 0 == 165) same ∙ gate_in s place.slot_bytes old nine;
  generation = sym (generation_of s place.slot_bytes new nine) ∙ ap (λ (l : List ℕ). from_le_bytes w64 (field 1 8 l)) same ∙ generation_of s place.slot_bytes old nine;
  payload = sym (payload_in place s new nine) ∙ ap (λ (l : List ℕ). drop 9 l) same ∙ payload_in place s old nine;
}

-- or in both
both_same : (place : CellPlace) (old new : List ℕ) → 9 ≤ place.slot_bytes → field place.at (2 * place.slot_bytes) new ≡ field place.at (2 * place.slot_bytes) old → (second : Bool) → SlotStays place (slot_at place second) old new
both_same place old new nine same false =
    let n = place.slot_bytes in
    slot_same place place.at old new nine
    (field_take new n n place.at (2 * n) (omega arith) ∙ ap (λ (l : List ℕ). take n l) same ∙ sym (field_take old n n place.at (2 * n) (omega arith)))
both_same place old new nine same true =
    let n = place.slot_bytes in
    slot_same place (place.at + n) old new nine
    (field_drop new n n place.at (2 * n) (place.at + n) (omega arith) refl ∙ ap (λ (l : List ℕ). drop n l) same ∙ sym (field_drop old n n place.at (2 * n) (place.at + n) (omega arith) refl))

lower : (g h : ℕ) → nat_lt h g ≡ true → h < g
lower g h test = grind (arith, nat_tests)

higher : (g h : ℕ) → nat_lt h g ≡ false → g ≢ h → g < h
higher g h test differ = grind (arith, nat_tests)

-- the cell that is chosen by both slots is as the image has them
both_open : (place : CellPlace) (o : Bool) (g h : ℕ) (image : List ℕ) → nat_lt h g ≡ o
    → is_open (slot_at place false) image ≡ true → is_open (slot_at place true) image ≡ true → generation_at (slot_at place false) image ≡ g → generation_at (slot_at place true) image ≡ h → g ≢ h
    → (cell : GatedCell)
    → cell ≡ (if o then record { place = place; in_force = Some false; generation = g; spare_closed = false; doubt = false } else record { place = place; in_force = Some true; generation = h; spare_closed = false; doubt = false })
    → Fits cell (stored cell image) image
both_open place true g h image test a b eg eh differ cell is =
    subst (λ (x : GatedCell). Fits x (stored x image) image) (sym is) (record { force = (a, eg, refl); spare = omega (arith, eh, lower g h test) })
both_open place false g h image test a b eg eh differ cell is =
    subst (λ (x : GatedCell). Fits x (stored x image) image) (sym is) (record { force = (b, eh, refl); spare = omega (arith, eg, higher g h test differ) })

pub chosen_fits : (place : CellPlace) (a b : Bool) (g h : ℕ) (image : List ℕ)
    → is_open (slot_at place false) image ≡ a → is_open (slot_at place true) image ≡ b → generation_at (slot_at place false) image ≡ g → generation_at (slot_at place true) image ≡ h → (IsTrue a → IsTrue b → g ≢ h)
    → Fits (chosen place a b g h) (stored (chosen place a b g h) image) image
chosen_fits place false false g h image ea eb eg eh differ = record { force = (eb, refl); spare = ea }
chosen_fits place true false g h image ea eb eg eh differ = record { force = (ea, eg, refl); spare = eb }
chosen_fits place false true g h image ea eb eg eh differ = record { force = (eb, eh, refl); spare = ea }
chosen_fits place true true g h image ea eb eg eh differ = both_open place (nat_lt h g) g h image refl ea eb eg eh (differ refl refl) (chosen place true true g h) refl

-- two open slots of one generation are twins
twins_held : (place : CellPlace) (g : ℕ) (image : List ℕ) → is_open (slot_at place false) image ≡ true → is_open (slot_at place true) image ≡ true → generation_at (slot_at place false) image ≡ g → generation_at (slot_at place true) image ≡ g
    → held place image ≡ Twins g
twins_held place g image a b eg eh = (λ i. choose (a i) (b i) (eg i) (eh i) (payload_at place (slot_at place false) image) (payload_at place (slot_at place true) image)) ∙ grind (arith, nat_tests)

read_as : (at n m : ℕ) (image got : List ℕ) → n ≡ m → got ≡ field at n image → got ≡ field at m image
read_as at n m image got same read = read ∙ ap (λ (k : ℕ). field at k image) same

-- what both reads and the tests of their bytes tell of an image
pub record Found (place : CellPlace) (a b : Bool) (g h : ℕ) (image : List ℕ) : Type 0 where
  pub first : is_open (slot_at place false) image ≡ a
  pub second : is_open (slot_at place true) image ≡ b
  pub first_generation : generation_at (slot_at place false) image ≡ g
  pub second_generation : generation_at (slot_at place true) image ≡ h

pub found : (place : CellPlace) (n m : ℕ) (a b : Bool) (g h : ℕ) (image later first second : List ℕ) → 9 ≤ place.slot_bytes → n ≡ place.slot_bytes → m ≡ place.slot_bytes → later ≡ image
    → first ≡ field place.at n image → second ≡ field (place.at + place.slot_bytes) m later
    → a ≡ (get_or first 0 0 == 165) → g ≡ from_le_bytes w64 (field 1 8 first) → b ≡ (get_or second 0 0 == 165) → h ≡ from_le_bytes w64 (field 1 8 second) → Found place a b g h image
found place n m a b g h image later first second nine en em same read reread ea eg eb eh =
    let one : first ≡ field place.at place.slot_bytes image = read_as place.at n place.slot_bytes image first en read in
    let two : second ≡ field (place.at + place.slot_bytes) place.slot_bytes image =
    read_as (place.at + place.slot_bytes) m place.slot_bytes image second em (reread ∙ ap (λ (l : List ℕ). field (place.at + place.slot_bytes) m l) same) in
    record {
      first = sym (ea ∙ ap (λ (l : List ℕ). get_or l 0 0 == 165) one ∙ gate_in place.at place.slot_bytes image nine);
      second = sym (eb ∙ ap (λ (l : List ℕ). get_or l 0 0 == 165) two ∙ gate_in (place.at + place.slot_bytes) place.slot_bytes image nine);
      first_generation = sym (eg ∙ ap (λ (l : List ℕ). from_le_bytes w64 (field 1 8 l)) one ∙ generation_of place.at place.slot_bytes image nine);
      second_generation = sym (eh ∙ ap (λ (l : List ℕ). from_le_bytes w64 (field 1 8 l)) two ∙ generation_of (place.at + place.slot_bytes) place.slot_bytes image nine);
    }

pub found_twins : (place : CellPlace) (a b : Bool) (g h : ℕ) (image : List ℕ) → Found place a b g h image → IsTrue a × IsTrue b × (g ≡ h) → held place image ≡ Twins g
found_twins place a b g h image is twins = twins_held place g image (is.first ∙ twins.0) (is.second ∙ twins.1) is.first_generation (is.second_generation ∙ sym twins.2)

pub found_fits : (place : CellPlace) (a b : Bool) (g h : ℕ) (image : List ℕ) (cell : GatedCell) → Found place a b g h image → (IsTrue a × IsTrue b × (g ≡ h) → ⊥) → cell ≡ chosen place a b g h → Fits cell (stored cell image) image
found_fits place a b g h image cell is differ chose =
    subst (λ (x : GatedCell). Fits x (stored x image) image) (sym chose)
    (chosen_fits place a b g h image is.first is.second is.first_generation is.second_generation (λ open_a open_b same. differ (open_a, open_b, same)))

-- each image has the slots that were read
pub settled_known : (cell : GatedCell) (old mid new : DiskState) → 9 ≤ cell.place.slot_bytes → IsSound old → IsSound new → Settled cell.place old → Still old mid → Elapses old mid → Still mid new → Elapses mid new
    → (IsTrue old.tells → Fits cell (stored cell old.seen) old.seen) → Known cell new
settled_known cell old mid new nine sound later settled still time still_on time_on fits =
    known_again cell (stored cell old.seen) new later
    (every_still (Fits cell (stored cell old.seen)) mid new still_on time_on (every_still (Fits cell (stored cell old.seen)) old mid still time here))
  where
    here : Every (Fits cell (stored cell old.seen)) old
    here = record {
      reads = fits;
      images = λ c left. fits_same cell (stored cell old.seen) old.seen c (both_same cell.place old.seen c nine (settled c left)) (fits (sound.told c left));
    }

pub settled_held : (cell : GatedCell) (image later : List ℕ) → later ≡ image → Fits cell (stored cell image) image → held cell.place image ≡ holds_in cell.in_force cell.generation (stored cell later)
settled_held cell image later same fits = fits_held cell (stored cell image) image fits ∙ ap (λ (l : List ℕ). holds_in cell.in_force cell.generation (stored cell l)) (sym same)

pub not_opened : (place : CellPlace) (old new : DiskState) (e : CellFault) → Refused 0 2 old.meter new.meter e → NotOpened place old new e
not_opened place old new cell_fault.Failed refused = refused
not_opened place old new cell_fault.Cut refused = refused
not_opened place old new (cell_fault.Spent g) refused = refused
not_opened place old new (cell_fault.Twins g) refused = absurd refused
