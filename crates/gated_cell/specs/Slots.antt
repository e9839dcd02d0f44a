-- What a write to one slot leaves of a cell.
use Rattle.std.specs.Prelude.{Result, Ok, Err, OnErr, ◌≡◌, ◌⊎◌, ℕ, ◌+◌, ◌-◌, ◌^◌, ◌<◌, ◌≤◌, ◌==◌, Bool, true, false, not, List, [], ◌∷◌, ◌++◌, take, drop, length, get_or, Option, Some, None, is_none, if◌then◌else◌}
use Rattle.std.specs.Int.{from_le_bytes, to_le_bytes, w64}
use Rattle.std.proofs.lemmas.Nat.{from_le_bytes-to_le_bytes_8}
use Rattle.std.proofs.lemmas.List.{take_at, drop_at}
use Rattle.std.proofs.Common.{inl, inr, ⊎_elim, refl, sym, ◌∙◌, ap, subst, arith, length-append}
use Rattle.std.proofs.lemmas.Bool.Decides.{nat_tests}
use Rattle.disk_model.specs.Bytes.{field, Torn, Holds}
use Rattle.disk_model.specs.Disk.{DiskState, IsSound}
use Rattle.disk_model.specs.Every.{Every}
use Rattle.disk_model.specs.Places.{Apart, field_apart, field_take, field_drop, torn_wider}
use Rattle.gated_cell.specs.declared.place.CellPlace.{CellPlace}
use Rattle.gated_cell.specs.declared.cell.GatedCell.{GatedCell}
use Rattle.gated_cell.specs.Cell.{InForce, slot_at, is_open, generation_at, payload_at, choose, held, spare_of, spare_at, HasForce, HasSpare, Fits, holds_in, says, stored_in, stored, Known, HasNext, IsEither, Doubtful, staged, opened}

choose_first : (b : Bool) (g h : ℕ) (p q : List ℕ) → (b ≡ false) ⊎ (h < g) → choose true b g h p q ≡ InForce false g p
choose_first false g h p q which = refl
choose_first true g h p q (inl shut) = absurd (cc shut)
choose_first true g h p q (inr older) = grind (arith, nat_tests)

choose_second : (b : Bool) (g h : ℕ) (p q : List ℕ) → (b ≡ false) ⊎ (g < h) → choose b true g h p q ≡ InForce true h q
choose_second false g h p q which = refl
choose_second true g h p q (inl shut) = absurd (cc shut)
choose_second true g h p q (inr older) = grind (arith, nat_tests)

-- the spare slot is closed or older
spare_loses : (at : ℕ) (closed : Bool) (generation : ℕ) (image : List ℕ) → HasSpare at closed generation image → (is_open at image ≡ false) ⊎ (generation_at at image < generation)
spare_loses at true generation image shut = inl shut
spare_loses at false generation image older = inr older

-- an image that fits holds what the cell says
held_is : (place : CellPlace) (in_force : Option Bool) (generation : ℕ) (closed : Bool) (payload image : List ℕ)
    → HasForce place in_force generation payload image → HasSpare (slot_at place (spare_of in_force)) closed generation image
    → held place image ≡ holds_in in_force generation payload
held_is place None generation true payload image force spare =
    let a = slot_at place false in
    let b = slot_at place true in
    ap (λ (x : Bool). choose x (is_open b image) (generation_at a image) (generation_at b image) (payload_at place a image) (payload_at place b image)) spare
    ∙ ap (λ (x : Bool). choose false x (generation_at a image) (generation_at b image) (payload_at place a image) (payload_at place b image)) force.0
held_is place None generation false payload image force spare = absurd (omega (arith, force.1, spare))
held_is place (Some false) generation closed payload image force spare =
    let a = slot_at place false in
    let b = slot_at place true in
    let which = subst (λ (n : ℕ). (is_open b image ≡ false) ⊎ (generation_at b image < n)) (sym force.1) (spare_loses b closed generation image spare) in
    ap (λ (x : Bool). choose x (is_open b image) (generation_at a image) (generation_at b image) (payload_at place a image) (payload_at place b image)) force.0
    ∙ choose_first (is_open b image) (generation_at a image) (generation_at b image) (payload_at place a image) (payload_at place b image) which
    ∙ (λ i. InForce false (force.1 i) (force.2 i))
held_is place (Some true) generation closed payload image force spare =
    let a = slot_at place false in
    let b = slot_at place true in
    let which = subst (λ (n : ℕ). (is_open a image ≡ false) ⊎ (generation_at a image < n)) (sym force.1) (spare_loses a closed generation image spare) in
    ap (λ (x : Bool). choose (is_open a image) x (generation_at a image) (generation_at b image) (payload_at place a image) (payload_at place b image)) force.0
    ∙ choose_second (is_open a image) (generation_at a image) (generation_at b image) (payload_at place a image) (payload_at place b image) which
    ∙ (λ i. InForce true (force.1 i) (force.2 i))

-- so does one that fits the cell
pub fits_held : (cell : GatedCell) (payload image : List ℕ) → Fits cell payload image → held cell.place image ≡ says cell payload
fits_held cell payload image fits = held_is cell.place cell.in_force cell.generation cell.spare_closed payload image fits.force fits.spare

-- a slot that a write is apart from stays
pub record SlotStays (place : CellPlace) (at : ℕ) (old new : List ℕ) : Type 0 where
  pub gate : is_open at new ≡ is_open at old
  pub generation : generation_at at new ≡ generation_at at old
  pub payload : payload_at place at new ≡ payload_at place at old

-- as a write apart from it leaves it
pub slot_stays : (place : CellPlace) (s at n : ℕ) (old new : List ℕ) → 9 ≤ place.slot_bytes → Apart s place.slot_bytes at n → Torn at n old new → SlotStays place s old new
slot_stays place s at n old new nine apart torn = record {
  gate = ap (λ (b : ℕ). b == 165) (torn.others s (gate_outside apart));
  generation = ap (λ (l : List ℕ). from_le_bytes w64 l) (field_apart (s + 1) 8 at n old new (generation_apart apart) torn);
  payload = field_apart (s + 9) (place.slot_bytes - 9) at n old new (payload_apart apart) torn;
}
  where
    gate_outside : Apart s place.slot_bytes at n → (s < at) ⊎ (at + n ≤ s)
    gate_outside (inl before) = inl (omega arith)
    gate_outside (inr behind) = inr (omega arith)

    generation_apart : Apart s place.slot_bytes at n → Apart (s + 1) 8 at n
    generation_apart (inl before) = inl (omega arith)
    generation_apart (inr behind) = inr (omega arith)

    payload_apart : Apart s place.slot_bytes at n → Apart (s + 9) (place.slot_bytes - 9) at n
    payload_apart (inl before) = inl (omega arith)
    payload_apart (inr behind) = inr (omega arith)

-- the two slots are apart
pub slots_apart : (place : CellPlace) (second : Bool) → Apart (slot_at place second) place.slot_bytes (slot_at place (not second)) place.slot_bytes
slots_apart place false = inl (omega arith)
slots_apart place true = inr (omega arith)

-- a write to the spare slot leaves the one in force
pub force_stays : (place : CellPlace) (in_force : Option Bool) (generation : ℕ) (payload old new : List ℕ) → 9 ≤ place.slot_bytes
    → Torn (slot_at place (spare_of in_force)) place.slot_bytes old new → HasForce place in_force generation payload old → HasForce place in_force generation payload new
force_stays place None generation payload old new nine torn force =
    ((slot_stays place (slot_at place true) (slot_at place false) place.slot_bytes old new nine (slots_apart place true) torn).gate ∙ force.0, force.1)
force_stays place (Some second) generation payload old new nine torn force =
    let stays = slot_stays place (slot_at place second) (slot_at place (not second)) place.slot_bytes old new nine (slots_apart place second) torn in
    (stays.gate ∙ force.0, stays.generation ∙ force.1, stays.payload ∙ force.2)

-- what closes the spare gate: no byte where it is closed
abbrev pub shut_bytes : Bool → List ℕ
shut_bytes closed = if closed then [] else 0 ∷ []

spare_stays_shut : (at : ℕ) (closed : Bool) (generation : ℕ) (old new : List ℕ) → Torn at (length (shut_bytes closed)) old new → HasSpare at closed generation old → HasSpare at closed generation new
spare_stays_shut at true generation old new torn spare = ap (λ (b : ℕ). b == 165) (torn.others at (inr (omega arith))) ∙ spare
spare_stays_shut at false generation old new torn spare =
    let same : generation_at at new ≡ generation_at at old = ap (λ (l : List ℕ). from_le_bytes w64 l) (field_apart (at + 1) 8 at 1 old new (inr (omega arith)) torn) in
    omega (arith, same, spare)

spare_is_shut : (at : ℕ) (closed : Bool) (generation : ℕ) (old new : List ℕ) → Holds at (shut_bytes closed) old new → HasSpare at closed generation old → is_open at new ≡ false
spare_is_shut at true generation old new holds spare = ap (λ (b : ℕ). b == 165) (holds.others.others at (inr (omega arith))) ∙ spare
spare_is_shut at false generation old new holds spare = ap (λ (l : List ℕ). get_or l 0 0 == 165) holds.here

-- at most one byte closes a gate
pub shut_short : (closed : Bool) → length (shut_bytes closed) ≤ 1
shut_short true = omega arith
shut_short false = omega arith

-- the write that shuts the gate, cut short or whole
pub fits_shutting : (cell : GatedCell) (payload old new : List ℕ) → 9 ≤ cell.place.slot_bytes → Torn (spare_at cell) (length (shut_bytes cell.spare_closed)) old new → Fits cell payload old → Fits cell payload new
fits_shutting cell payload old new nine torn fits = record {
  force = force_stays cell.place cell.in_force cell.generation payload old new nine (torn_wider (spare_at cell) (length (shut_bytes cell.spare_closed)) (spare_at cell) cell.place.slot_bytes old new (omega arith) (omega (arith, shut_short cell.spare_closed, nine)) torn) fits.force;
  spare = spare_stays_shut (spare_at cell) cell.spare_closed cell.generation old new torn fits.spare;
}

-- the gate is closed once that write is whole
pub fits_shut : (cell : GatedCell) (payload old new : List ℕ) → 9 ≤ cell.place.slot_bytes → Holds (spare_at cell) (shut_bytes cell.spare_closed) old new → Fits cell payload old → Fits (record cell { spare_closed = true }) payload new
fits_shut cell payload old new nine holds fits = record {
  force = (fits_shutting cell payload old new nine holds.others fits).force;
  spare = spare_is_shut (spare_at cell) cell.spare_closed cell.generation old new holds fits.spare;
}

force_stored : (place : CellPlace) (in_force : Option Bool) (generation : ℕ) (payload image c : List ℕ) → HasForce place in_force generation payload image
    → HasForce place in_force generation payload c → HasForce place in_force generation (stored_in place in_force image) c
force_stored place None generation payload image c seen force = force
force_stored place (Some second) generation payload image c seen force = (force.0, force.1, force.2 ∙ sym seen.2)

-- an image fits with the payload that another has in force
pub fits_stored : (cell : GatedCell) (payload image c : List ℕ) → Fits cell payload image → Fits cell payload c → Fits cell (stored cell image) c
fits_stored cell payload image c seen fits = record { force = force_stored cell.place cell.in_force cell.generation payload image c seen.force fits.force; spare = fits.spare }

-- what is known under one name of the payload is known under the other
pub known_again : (cell : GatedCell) (payload : List ℕ) (disk : DiskState) → IsSound disk → Every (Fits cell payload) disk → Known cell disk
known_again cell payload disk sound every = record {
  reads = λ told. fits_stored cell payload disk.seen disk.seen (every.reads told) (every.reads told);
  images = λ c left. fits_stored cell payload disk.seen c (every.reads (sound.told c left)) (every.images c left);
}

pub says_stored : (place : CellPlace) (in_force : Option Bool) (generation : ℕ) (payload image : List ℕ) → HasForce place in_force generation payload image
    → holds_in in_force generation (stored_in place in_force image) ≡ holds_in in_force generation payload
says_stored place None generation payload image force = refl
says_stored place (Some second) generation payload image force = ap (λ (p : List ℕ). InForce second generation p) force.2

-- the payload that an image has in force is the one that it fits with
pub fits_says : (cell : GatedCell) (payload image : List ℕ) → Fits cell payload image → says cell (stored cell image) ≡ says cell payload
fits_says cell payload image fits = says_stored cell.place cell.in_force cell.generation payload image fits.force

-- what is read and each image hold what the cell says
pub every_held : (cell : GatedCell) (payload : List ℕ) (disk : DiskState) → Every (Fits cell payload) disk → Every (λ c. held cell.place c ≡ says cell payload) disk
every_held cell payload disk every = record { reads = λ told. fits_held cell payload disk.seen (every.reads told); images = λ c left. fits_held cell payload c (every.images c left) }

-- the bytes of the next generation and payload, behind the closed gate, whole or not
pub fits_behind : (cell : GatedCell) (payload : List ℕ) (n : ℕ) (old new : List ℕ) → 9 ≤ cell.place.slot_bytes → n + 1 ≡ cell.place.slot_bytes → cell.spare_closed ≡ true
    → Torn (spare_at cell + 1) n old new → Fits cell payload old → Fits cell payload new
fits_behind cell payload n old new nine long closed torn fits = record {
  force = force_stays cell.place cell.in_force cell.generation payload old new nine (torn_wider (spare_at cell + 1) n (spare_at cell) cell.place.slot_bytes old new (omega arith) (omega (arith, long)) torn) fits.force;
  spare = subst (λ (b : Bool). HasSpare (spare_at cell) b cell.generation new) (sym closed)
      (ap (λ (b : ℕ). b == 165) (torn.others (spare_at cell) (inl (omega arith))) ∙ subst (λ (b : Bool). HasSpare (spare_at cell) b cell.generation old) closed fits.spare);
}

-- the next generation and payload are written whole
pub has_next : (cell : GatedCell) (next old new : List ℕ) → 9 ≤ cell.place.slot_bytes → length next ≡ cell.place.slot_bytes - 9 → cell.generation + 1 < 2 ^ 64
    → Holds (spare_at cell + 1) (to_le_bytes w64 (cell.generation + 1) ++ next) old new → HasNext cell next new
has_next cell next old new nine long fits holds =
    let g = cell.generation + 1 in
    let at = spare_at cell in
    let size : length (to_le_bytes w64 g ++ next) ≡ 8 + (cell.place.slot_bytes - 9) = length-append (to_le_bytes w64 g) next ∙ ap (λ (n : ℕ). 8 + n) long in
    let front : field (at + 1) 8 new ≡ to_le_bytes w64 g =
    field_take new 8 (cell.place.slot_bytes - 9) (at + 1) (length (to_le_bytes w64 g ++ next)) size ∙ ap (λ (l : List ℕ). take 8 l) holds.here ∙ take_at (to_le_bytes w64 g) next 8 refl in
    let back : field (at + 9) (cell.place.slot_bytes - 9) new ≡ next =
    field_drop new 8 (cell.place.slot_bytes - 9) (at + 1) (length (to_le_bytes w64 g ++ next)) (at + 9) size (omega arith) ∙ ap (λ (l : List ℕ). drop 8 l) holds.here ∙ drop_at (to_le_bytes w64 g) next 8 refl in
    record { generation = ap (λ (l : List ℕ). from_le_bytes w64 l) front ∙ from_le_bytes-to_le_bytes_8 g fits; payload = back }

-- a write to the spare gate leaves the next payload
next_stays : (cell : GatedCell) (next old new : List ℕ) → 9 ≤ cell.place.slot_bytes → Torn (spare_at cell) 1 old new → HasNext cell next old → HasNext cell next new
next_stays cell next old new nine torn has = record {
  generation = ap (λ (l : List ℕ). from_le_bytes w64 l) (field_apart (spare_at cell + 1) 8 (spare_at cell) 1 old new (inr (omega arith)) torn) ∙ has.generation;
  payload = field_apart (spare_at cell + 9) (cell.place.slot_bytes - 9) (spare_at cell) 1 old new (inr (omega arith)) torn ∙ has.payload;
}

-- a write of the spare gate, whole or not
pub either_gate : (cell : GatedCell) (payload next old new : List ℕ) → 9 ≤ cell.place.slot_bytes → Torn (spare_at cell) 1 old new → IsEither cell payload next old → IsEither cell payload next new
either_gate cell payload next old new nine torn either = record {
  force = force_stays cell.place cell.in_force cell.generation payload old new nine (torn_wider (spare_at cell) 1 (spare_at cell) cell.place.slot_bytes old new (omega arith) (omega arith) torn) either.force;
  spare = next_stays cell next old new nine torn either.spare;
}

-- both gates open, and one slot newer
both_second : (place : CellPlace) (image : List ℕ) → is_open (slot_at place false) image ≡ true → is_open (slot_at place true) image ≡ true → generation_at (slot_at place false) image < generation_at (slot_at place true) image
    → held place image ≡ InForce true (generation_at (slot_at place true) image) (payload_at place (slot_at place true) image)
both_second place image first second older =
    let a = slot_at place false in
    let b = slot_at place true in
    ap (λ (x : Bool). choose (is_open a image) x (generation_at a image) (generation_at b image) (payload_at place a image) (payload_at place b image)) second
    ∙ choose_second (is_open a image) (generation_at a image) (generation_at b image) (payload_at place a image) (payload_at place b image) (inr older)

first_held : (place : CellPlace) (image : List ℕ) → is_open (slot_at place false) image ≡ true → (is_open (slot_at place true) image ≡ false) ⊎ (generation_at (slot_at place true) image < generation_at (slot_at place false) image)
    → held place image ≡ InForce false (generation_at (slot_at place false) image) (payload_at place (slot_at place false) image)
first_held place image first which =
    let a = slot_at place false in
    let b = slot_at place true in
    ap (λ (x : Bool). choose x (is_open b image) (generation_at a image) (generation_at b image) (payload_at place a image) (payload_at place b image)) first
    ∙ choose_first (is_open b image) (generation_at a image) (generation_at b image) (payload_at place a image) (payload_at place b image) which

-- so with the gate open the next payload is in force
open_held : (place : CellPlace) (in_force : Option Bool) (generation : ℕ) (payload next image : List ℕ)
    → is_open (slot_at place (spare_of in_force)) image ≡ true → HasForce place in_force generation payload image
    → generation_at (slot_at place (spare_of in_force)) image ≡ generation + 1 → payload_at place (slot_at place (spare_of in_force)) image ≡ next
    → held place image ≡ InForce (spare_of in_force) (generation + 1) next
open_held place None generation payload next image gate force g p = first_held place image gate (inl force.0) ∙ (λ i. InForce false (g i) (p i))
open_held place (Some false) generation payload next image gate force g p = both_second place image force.0 gate (omega (arith, g, force.1)) ∙ (λ i. InForce true (g i) (p i))
open_held place (Some true) generation payload next image gate force g p = first_held place image gate (inr (omega (arith, g, force.1))) ∙ (λ i. InForce false (g i) (p i))

bool_cases : (b : Bool) → (b ≡ true) ⊎ (b ≡ false)
bool_cases true = inl refl
bool_cases false = inr refl

-- an image in doubt holds the old payload or the next
pub either_held : (cell : GatedCell) (payload next image : List ℕ) → IsEither cell payload next image
    → (held cell.place image ≡ says cell payload) ⊎ (held cell.place image ≡ InForce (spare_of cell.in_force) (cell.generation + 1) next)
either_held cell payload next image either = ⊎_elim
    (λ gate. inr (open_held cell.place cell.in_force cell.generation payload next image gate either.force either.spare.generation either.spare.payload))
    (λ gate. inl (held_is cell.place cell.in_force cell.generation true payload image either.force gate))
    (bool_cases (is_open (spare_at cell) image))

-- the next payload behind a closed gate
pub fits_either : (cell : GatedCell) (payload next image : List ℕ) → Fits cell payload image → HasNext cell next image → IsEither cell payload next image
fits_either cell payload next image fits has = record { force = fits.force; spare = has }

opened_spare : (place : CellPlace) (in_force : Option Bool) (generation : ℕ) (payload image : List ℕ) → HasForce place in_force generation payload image
    → HasSpare (slot_at place (not (spare_of in_force))) (is_none in_force) (generation + 1) image
opened_spare place None generation payload image force = force.0
opened_spare place (Some false) generation payload image force = omega (arith, force.1)
opened_spare place (Some true) generation payload image force = omega (arith, force.1)

-- the gate is written open
pub fits_opened : (cell : GatedCell) (payload next old new : List ℕ) → 9 ≤ cell.place.slot_bytes → Holds (spare_at cell) (165 ∷ []) old new → IsEither cell payload next old → Fits (opened cell) next new
fits_opened cell payload next old new nine holds either =
    let after = either_gate cell payload next old new nine holds.others either in
    record {
      force = (ap (λ (l : List ℕ). get_or l 0 0 == 165) holds.here, after.spare.generation, after.spare.payload);
      spare = opened_spare cell.place cell.in_force cell.generation payload new after.force;
    }

-- the doubtful gate is written shut
pub fits_resolved : (cell : GatedCell) (payload next old new : List ℕ) → 9 ≤ cell.place.slot_bytes → Holds (spare_at cell) (0 ∷ []) old new → IsEither cell payload next old
    → Fits (record cell { spare_closed = true; doubt = false }) payload new
fits_resolved cell payload next old new nine holds either = record {
  force = (either_gate cell payload next old new nine holds.others either).force;
  spare = ap (λ (l : List ℕ). get_or l 0 0 == 165) holds.here;
}

-- which of the two is named as the disk reads it
pub either_again : (cell : GatedCell) (doubt : Bool) (payload next : List ℕ) (disk : DiskState) → IsSound disk → Every (IsEither cell payload next) disk → Doubtful (record cell { doubt = doubt }) disk
either_again cell doubt payload next disk sound every = record {
  reads = λ told. again disk.seen (every.reads told) disk.seen (every.reads told);
  images = λ c left. again disk.seen (every.reads (sound.told c left)) c (every.images c left);
}
  where
    again : (image : List ℕ) → IsEither cell payload next image → (c : List ℕ) → IsEither cell payload next c → IsEither (record cell { doubt = doubt }) (stored cell image) (staged cell image) c
    again image seen c either = record {
      force = force_stored cell.place cell.in_force cell.generation payload image c seen.force either.force;
      spare = record { generation = either.spare.generation; payload = either.spare.payload ∙ sym seen.spare.payload };
    }

-- the doubt under the names of another disk
pub either_here : (cell : GatedCell) (payload next : List ℕ) (disk : DiskState) → IsSound disk → Every (IsEither cell payload next) disk → Doubtful cell disk
either_here cell payload next disk sound every = record {
  reads = λ told. again disk.seen (every.reads told) disk.seen (every.reads told);
  images = λ c left. again disk.seen (every.reads (sound.told c left)) c (every.images c left);
}
  where
    again : (image : List ℕ) → IsEither cell payload next image → (c : List ℕ) → IsEither cell payload next c → IsEither cell (stored cell image) (staged cell image) c
    again image seen c either = record {
      force = force_stored cell.place cell.in_force cell.generation payload image c seen.force either.force;
      spare = record { generation = either.spare.generation; payload = either.spare.payload ∙ sym seen.spare.payload };
    }

-- what holds anyway holds of a refusal
pub on_err_of : {T E P : Type 0} (r : Result T E) → P → OnErr r P
on_err_of (Ok x) p = tt
on_err_of (Err e) p = p

-- two images with the same slots
force_same : (place : CellPlace) (in_force : Option Bool) (generation : ℕ) (payload old new : List ℕ) → ((second : Bool) → SlotStays place (slot_at place second) old new)
    → HasForce place in_force generation payload old → HasForce place in_force generation payload new
force_same place None generation payload old new stays force = ((stays true).gate ∙ force.0, force.1)
force_same place (Some second) generation payload old new stays force = ((stays second).gate ∙ force.0, (stays second).generation ∙ force.1, (stays second).payload ∙ force.2)

spare_same : (at : ℕ) (closed : Bool) (generation : ℕ) (old new : List ℕ) → is_open at new ≡ is_open at old → generation_at at new ≡ generation_at at old → HasSpare at closed generation old → HasSpare at closed generation new
spare_same at true generation old new gate same spare = gate ∙ spare
spare_same at false generation old new gate same spare = omega (arith, same, spare)

-- an image with the same slots fits, too
pub fits_same : (cell : GatedCell) (payload old new : List ℕ) → ((second : Bool) → SlotStays cell.place (slot_at cell.place second) old new) → Fits cell payload old → Fits cell payload new
fits_same cell payload old new stays fits = record {
  force = force_same cell.place cell.in_force cell.generation payload old new stays fits.force;
  spare = spare_same (spare_at cell) cell.spare_closed cell.generation old new (stays (spare_of cell.in_force)).gate (stays (spare_of cell.in_force)).generation fits.spare;
}

-- and holds the same
pub held_same : (place : CellPlace) (old new : List ℕ) → ((second : Bool) → SlotStays place (slot_at place second) old new) → held place new ≡ held place old
held_same place old new stays =
    let a = stays false in
    let b = stays true in
    λ i. choose (a.gate i) (b.gate i) (a.generation i) (b.generation i) (a.payload i) (b.payload i)
