-- What a cell with new slots holds.
use Rattle.std.specs.Prelude.{◌≡◌, ◌+◌, ◌*◌, ◌-◌, ◌==◌, ℕ, zero, suc, true, false, List, ◌∷◌, ◌++◌, length, get_or, replicate}
use Rattle.std.proofs.Common.{refl, sym, ap, arith, ◌∙◌}
use Rattle.std.proofs.lemmas.List.{get_or_append_left, get_or-append-add}
use Rattle.std.specs.Int.{to_le_bytes, w64}
use Rattle.disk_model.specs.Bytes.{field}
use Rattle.disk_model.specs.Places.{is_field}
use Rattle.gated_cell.specs.declared.place.CellPlace.{CellPlace}
use Rattle.gated_cell.specs.Cell.{InForce, held, choose, is_open, generation_at, payload_at}
use Rattle.recovery.specs.Migration.{new_slots, HasNew}
use Rattle.recovery.proofs.Emptied.{held_in}

-- the bytes behind the first nine
behind : (payload rest : List ℕ) (k : ℕ) → get_or ((165 ∷ to_le_bytes w64 1 ++ payload) ++ rest) (9 + k) 0 ≡ get_or (payload ++ rest) k 0
behind payload rest k =
    let step : 9 + k ≡ suc (suc (suc (suc (suc (suc (suc (suc (suc k)))))))) = omega arith in
    ap (λ (n : ℕ). get_or ((165 ∷ to_le_bytes w64 1 ++ payload) ++ rest) n 0) step

payload_there : (payload rest : List ℕ) → field 9 (length payload) ((165 ∷ to_le_bytes w64 1 ++ payload) ++ rest) ≡ payload
payload_there payload rest = is_field ((165 ∷ to_le_bytes w64 1 ++ payload) ++ rest) payload 9 (λ k below. sym (behind payload rest k ∙ get_or_append_left payload rest 0 k below))

first_zero : (n : ℕ) → ◌≡◌ {A = ℕ} (get_or (replicate n 0) 0 0) 0
first_zero zero = refl
first_zero (suc n) = refl

-- the second gate is closed
second_gate : (payload : List ℕ) → get_or (new_slots payload) (9 + length payload) 0 ≡ 0
second_gate payload =
    let at : length payload ≡ length payload + 0 = omega arith in
    behind payload (replicate (9 + length payload) 0) (length payload) ∙ ap (λ (n : ℕ). get_or (payload ++ replicate (9 + length payload) 0) n 0) at
    ∙ get_or-append-add payload (replicate (9 + length payload) 0) 0 0 ∙ first_zero (9 + length payload)

-- new slots hold their payload
pub new_held : (payload : List ℕ) → held (record { at = 0; slot_bytes = 9 + length payload }) (new_slots payload) ≡ InForce false 1 payload
new_held payload =
    let image = new_slots payload in
    let size : 9 + length payload - 9 ≡ length payload = omega arith in
    let second : 0 + (9 + length payload) ≡ 9 + length payload = omega arith in
    let closed : is_open (0 + (9 + length payload)) image ≡ false = ap (λ (b : ℕ). b == 165) (ap (λ (n : ℕ). get_or image n 0) second ∙ second_gate payload) in
    let bytes : field 9 (9 + length payload - 9) image ≡ payload = ap (λ (n : ℕ). field 9 n image) size ∙ payload_there payload (replicate (9 + length payload) 0) in
    λ i. choose true (closed i) 1 (generation_at (0 + (9 + length payload)) image) (bytes i) (payload_at (record { at = 0; slot_bytes = 9 + length payload }) (0 + (9 + length payload)) image)

-- and so does the cell that has them
pub has_new : (place : CellPlace) (payload image : List ℕ) → HasNew place payload image → held place image ≡ InForce false 1 payload
has_new place payload image has =
    let size : place.slot_bytes ≡ 9 + length payload = omega (arith, has.slot) in
    let at : place.at ≡ place.at + 0 = omega arith in
    (λ i. held (record { at = at i; slot_bytes = size i }) image)
    ∙ held_in image (new_slots payload) place.at (2 * place.slot_bytes) 0 (9 + length payload) has.bytes (omega arith) (omega (arith, size)) ∙ new_held payload
