-- What two slots of an image hold, and what a cell knows of them.
use Rattle.std.specs.Prelude.{◌≡◌, ℕ, ◌+◌, ◌-◌, ◌*◌, ◌<◌, ◌==◌, nat_lt, Bool, true, false, not, List, [], drop, get_or, Option, Some, None, is_none, if◌then◌else◌}
use Rattle.std.specs.Int.{from_le_bytes, w64}
use Rattle.disk_model.specs.Bytes.{field}
use Rattle.disk_model.specs.Disk.{DiskState}
use Rattle.disk_model.specs.Every.{Every, Run}
use Rattle.gated_cell.specs.declared.place.CellPlace.{CellPlace}
use Rattle.gated_cell.specs.declared.cell.GatedCell.{GatedCell}

-- what is in force in a cell
pub data Held : Type 0 where
  Empty : Held
  Twins : (generation : ℕ) → Held
  InForce : (second : Bool) (generation : ℕ) (payload : List ℕ) → Held

-- where a slot begins
abbrev pub slot_at : CellPlace → Bool → ℕ
slot_at place false = place.at
slot_at place true = place.at + place.slot_bytes

-- the gate of the slot at a place is A5
abbrev pub is_open : ℕ → List ℕ → Bool
is_open at image = get_or image at 0 == 165

-- the generation of the slot at a place, eight bytes with the lowest first
abbrev pub generation_at : ℕ → List ℕ → ℕ
generation_at at image = from_le_bytes w64 (field (at + 1) 8 image)

-- the payload of the slot at a place, which is the rest of it
abbrev pub payload_at : CellPlace → ℕ → List ℕ → List ℕ
payload_at place at image = field (at + 9) (place.slot_bytes - 9) image

-- an open slot is in force; of two open ones that of the greater generation
abbrev pub choose : Bool → Bool → ℕ → ℕ → List ℕ → List ℕ → Held
choose false false g h p q = Empty
choose true false g h p q = InForce false g p
choose false true g h p q = InForce true h q
choose true true g h p q = if g == h then Twins g else (if nat_lt h g then InForce false g p else InForce true h q)

-- what is in force in the cell at a place of an image
abbrev pub held : CellPlace → List ℕ → Held
held place image =
    let a = slot_at place false in
    let b = slot_at place true in
    choose (is_open a image) (is_open b image) (generation_at a image) (generation_at b image) (payload_at place a image) (payload_at place b image)

-- the slot that is not in force
abbrev pub spare_of : Option Bool → Bool
spare_of None = false
spare_of (Some second) = not second

-- where the spare slot begins
abbrev pub spare_at : GatedCell → ℕ
spare_at cell = slot_at cell.place (spare_of cell.in_force)

-- the slot in force holds the cell's generation and this payload; with none both gates are closed
abbrev pub HasForce : CellPlace → Option Bool → ℕ → List ℕ → List ℕ → Type 0
HasForce place None generation payload image = (is_open (slot_at place true) image ≡ false) × (generation ≡ 0)
HasForce place (Some second) generation payload image =
    (is_open (slot_at place second) image ≡ true) × (generation_at (slot_at place second) image ≡ generation) × (payload_at place (slot_at place second) image ≡ payload)

-- the spare gate is closed, or its slot is older
abbrev pub HasSpare : ℕ → Bool → ℕ → List ℕ → Type 0
HasSpare at true generation image = is_open at image ≡ false
HasSpare at false generation image = generation_at at image < generation

-- the image is as the cell knows it
pub record Fits (cell : GatedCell) (payload : List ℕ) (image : List ℕ) : Type 0 where
  pub force : HasForce cell.place cell.in_force cell.generation payload image
  pub spare : HasSpare (spare_at cell) cell.spare_closed cell.generation image

-- the payload in force
abbrev pub stored_in : CellPlace → Option Bool → List ℕ → List ℕ
stored_in place None image = []
stored_in place (Some second) image = payload_at place (slot_at place second) image

-- the payload of the slot that the cell has in force, in this image
abbrev pub stored : GatedCell → List ℕ → List ℕ
stored cell image = stored_in cell.place cell.in_force image

-- what the cell says is in force
abbrev pub holds_in : Option Bool → ℕ → List ℕ → Held
holds_in None generation payload = Empty
holds_in (Some second) generation payload = InForce second generation payload

-- what is in force by the cell, with this payload
abbrev pub says : GatedCell → List ℕ → Held
says cell payload = holds_in cell.in_force cell.generation payload

-- what is in force, with the payload that the disk reads
abbrev pub in_force : GatedCell → DiskState → Held
in_force cell disk = says cell (stored cell disk.seen)

-- What is read and each image are as the cell knows them.
abbrev pub Known : GatedCell → DiskState → Type 0
Known cell disk = Every (Fits cell (stored cell disk.seen)) disk

-- the spare slot has the next generation and this payload
pub record HasNext (cell : GatedCell) (next image : List ℕ) : Type 0 where
  pub generation : generation_at (spare_at cell) image ≡ cell.generation + 1
  pub payload : payload_at cell.place (spare_at cell) image ≡ next

-- the payload of the spare slot
abbrev pub staged : GatedCell → List ℕ → List ℕ
staged cell image = payload_at cell.place (spare_at cell) image

-- the next payload stands behind the closed gate
abbrev pub Staged : GatedCell → DiskState → Type 0
Staged cell disk = Every (HasNext cell (staged cell disk.seen)) disk

-- the spare gate may be open or not, in front of the next payload
pub record IsEither (cell : GatedCell) (payload next image : List ℕ) : Type 0 where
  pub force : HasForce cell.place cell.in_force cell.generation payload image
  pub spare : HasNext cell next image

-- What is read and each image may hold the old payload or the next.
abbrev pub Doubtful : GatedCell → DiskState → Type 0
Doubtful cell disk = Every (IsEither cell (stored cell disk.seen) (staged cell disk.seen)) disk

-- what is in force once the gate is open
abbrev pub next_of : GatedCell → DiskState → Held
next_of cell disk = InForce (spare_of cell.in_force) (cell.generation + 1) (staged cell disk.seen)

-- what is in force, and what would be in force next, did not change
pub record SameChoice (cell : GatedCell) (old : DiskState) (now : GatedCell) (new : DiskState) : Type 0 where
  pub in_force : in_force now new ≡ in_force cell old
  pub next : next_of now new ≡ next_of cell old

-- the cell after it
abbrev pub opened : GatedCell → GatedCell
opened cell = record { place = cell.place; in_force = Some (spare_of cell.in_force); generation = cell.generation + 1; spare_closed = is_none cell.in_force; doubt = false }

-- A call of the cell. It leaves all but the cell's own bytes as they are, and at each moment images with what has P in force.
abbrev pub AtEachMoment : CellPlace → DiskState → DiskState → (Held → Type 0) → Type 0
AtEachMoment place old new P = Run place.at (2 * place.slot_bytes) (λ c. P (held place c)) old new

-- every image has in both slots the bytes that a read gives
abbrev pub Settled : CellPlace → DiskState → Type 0
Settled place disk = (c : List ℕ) → disk.images c → field place.at (2 * place.slot_bytes) c ≡ field place.at (2 * place.slot_bytes) disk.seen

-- the cell of two slots, by their gates and generations; of two open ones that of the greater generation is in force
abbrev pub chosen : CellPlace → Bool → Bool → ℕ → ℕ → GatedCell
chosen place false false g h = record { place = place; in_force = None; generation = 0; spare_closed = true; doubt = false }
chosen place true false g h = record { place = place; in_force = Some false; generation = g; spare_closed = true; doubt = false }
chosen place false true g h = record { place = place; in_force = Some true; generation = h; spare_closed = true; doubt = false }
chosen place true true g h =
    if nat_lt h g then record { place = place; in_force = Some false; generation = g; spare_closed = false; doubt = false }
    else record { place = place; in_force = Some true; generation = h; spare_closed = false; doubt = false }

-- a buffer after the payload in force was put into it, if one is
abbrev pub given_in : CellPlace → Option Bool → List ℕ → List ℕ → List ℕ
given_in place None buffer image = buffer
given_in place (Some second) buffer image = payload_at place (slot_at place second) image

-- the buffer of a cell that was opened over an image
abbrev pub given : GatedCell → List ℕ → List ℕ → List ℕ
given cell buffer image = given_in cell.place cell.in_force buffer image

-- the payload of the slot in force, by the bytes of both slots, and without one what a buffer had
abbrev pub payload_of : Option Bool → List ℕ → List ℕ → List ℕ → List ℕ
payload_of None first second buffer = buffer
payload_of (Some false) first second buffer = drop 9 first
payload_of (Some true) first second buffer = drop 9 second
