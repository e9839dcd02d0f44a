-- In each layout no two parts of the store overlap, and all lie within its length. Those of layout 2 stand behind layout 1.
use Rattle.std.proofs.Common.{◌≡◌, inl, inr, ⊎_elim, ℕ, zero, suc, ◌+◌, ◌<◌, ◌≤◌, true, List, [], ◌∷◌, length, get_or, nat_le, refl, arith}
use Rattle.std.proofs.lemmas.Bool.{cases_order}
use Rattle.std.proofs.lemmas.Bool.Decides.{nat_tests}
use Rattle.mission_model.specs.declared.plan.PlanType.{PlanType}
use Rattle.mission_model.specs.declared.plan.PlanType.TheVariants.{Mission, Fence, Safe}
use Rattle.mission_model.specs.declared.limits.TheConstants.{STORE_BYTES}
use Rattle.dataman_layout.specs.declared.layout.Layout.{Layout}
use Rattle.dataman_layout.specs.declared.layout.Layout.TheVariants.{One, Two}
use Rattle.dataman_layout.specs.FieldLaws.{both}
use Rattle.dataman_layout.specs.Layouts.{limit_in}
use Rattle.dataman_layout.specs.Places.{Part, Compat, State, TheMark, Bank, parts, rank, place_of, size_of, length_in, bank_at, record_at, in_order, IsApart}

-- the parts stand in order within the store's length
pub parts_in_order : (layout : Layout) → in_order layout 0 parts (length_in layout) ≡ true
parts_in_order One = refl
parts_in_order Two = refl

-- a store of either layout has this length at most
pub length_in-le : (layout : Layout) → length_in layout ≤ STORE_BYTES
length_in-le One = omega arith
length_in-le Two = omega arith

-- what is in order ends within the size
ends_within : (layout : Layout) (low : ℕ) (rest : List Part) (size : ℕ) → in_order layout low rest size ≡ true → low ≤ size
ends_within layout low [] size order = grind (arith, nat_tests, order)
ends_within layout low (part ∷ rest) size order =
    let first = both (nat_le low (place_of layout part)) (in_order layout (place_of layout part + size_of layout part) rest size) order in
    let above : low ≤ place_of layout part = grind (arith, nat_tests, first.0) in
    omega (arith, above, ends_within layout (place_of layout part + size_of layout part) rest size first.1)

-- a part of a list in order lies between its begin and the size
Between : Layout → ℕ → ℕ → Part → Type 0
Between layout low size part = (low ≤ place_of layout part) × (place_of layout part + size_of layout part ≤ size)

begins_behind : (layout : Layout) (low : ℕ) (rest : List Part) (size i : ℕ) → in_order layout low rest size ≡ true → i < length rest → Between layout low size (get_or rest i Compat)
unfolding Between
begins_behind layout low [] size i order within = absurd (omega arith)
begins_behind layout low (part ∷ rest) size zero order within =
    let first = both (nat_le low (place_of layout part)) (in_order layout (place_of layout part + size_of layout part) rest size) order in
    let above : low ≤ place_of layout part = grind (arith, nat_tests, first.0) in
    (above, ends_within layout (place_of layout part + size_of layout part) rest size first.1)
begins_behind layout low (part ∷ rest) size (suc i) order within =
    let first = both (nat_le low (place_of layout part)) (in_order layout (place_of layout part + size_of layout part) rest size) order in
    let above : low ≤ place_of layout part = grind (arith, nat_tests, first.0) in
    let later = begins_behind layout (place_of layout part + size_of layout part) rest size i first.1 (omega arith) in
    (omega (arith, above, later.0), later.1)

-- of two parts the later one begins where the earlier one ends, or behind it
one_behind : (layout : Layout) (low : ℕ) (rest : List Part) (size i j : ℕ) → in_order layout low rest size ≡ true → i < j → j < length rest
    → place_of layout (get_or rest i Compat) + size_of layout (get_or rest i Compat) ≤ place_of layout (get_or rest j Compat)
unfolding Between
one_behind layout low [] size i j order before within = absurd (omega arith)
one_behind layout low (part ∷ rest) size i zero order before within = absurd (omega arith)
one_behind layout low (part ∷ rest) size zero (suc j) order before within =
    let first = both (nat_le low (place_of layout part)) (in_order layout (place_of layout part + size_of layout part) rest size) order in
    (begins_behind layout (place_of layout part + size_of layout part) rest size j first.1 (omega arith)).0
one_behind layout low (part ∷ rest) size (suc i) (suc j) order before within =
    let first = both (nat_le low (place_of layout part)) (in_order layout (place_of layout part + size_of layout part) rest size) order in
    one_behind layout (place_of layout part + size_of layout part) rest size i j first.1 (omega arith) (omega arith)

rank-lt : (part : Part) → rank part < length parts
rank-lt Compat = omega arith
rank-lt (State Mission) = omega arith
rank-lt (State Fence) = omega arith
rank-lt (State Safe) = omega arith
rank-lt TheMark = omega arith
rank-lt (Bank Mission zero) = omega arith
rank-lt (Bank Mission (suc n)) = omega arith
rank-lt (Bank Fence zero) = omega arith
rank-lt (Bank Fence (suc n)) = omega arith
rank-lt (Bank Safe zero) = omega arith
rank-lt (Bank Safe (suc n)) = omega arith

-- a part stands where the one of its number does
at_rank : (layout : Layout) (part : Part) → (place_of layout (get_or parts (rank part) Compat) ≡ place_of layout part) × (size_of layout (get_or parts (rank part) Compat) ≡ size_of layout part)
at_rank layout Compat = (refl, refl)
at_rank layout (State Mission) = (refl, refl)
at_rank layout (State Fence) = (refl, refl)
at_rank layout (State Safe) = (refl, refl)
at_rank layout TheMark = (refl, refl)
at_rank One (Bank Mission zero) = (refl, refl)
at_rank One (Bank Mission (suc n)) = (refl, refl)
at_rank One (Bank Fence zero) = (refl, refl)
at_rank One (Bank Fence (suc n)) = (refl, refl)
at_rank One (Bank Safe zero) = (refl, refl)
at_rank One (Bank Safe (suc n)) = (refl, refl)
at_rank Two (Bank Mission zero) = (refl, refl)
at_rank Two (Bank Mission (suc n)) = (refl, refl)
at_rank Two (Bank Fence zero) = (refl, refl)
at_rank Two (Bank Fence (suc n)) = (refl, refl)
at_rank Two (Bank Safe zero) = (refl, refl)
at_rank Two (Bank Safe (suc n)) = (refl, refl)

-- each part lies within the store
pub part_within : (layout : Layout) (part : Part) → place_of layout part + size_of layout part ≤ length_in layout
unfolding Between
part_within layout part =
    let is = at_rank layout part in
    omega (arith, is.0, is.1, (begins_behind layout 0 parts (length_in layout) (rank part) (parts_in_order layout) (rank-lt part)).1)

-- the same of any store that is as long as one of layout 2
pub part_in_store : (layout : Layout) (part : Part) → place_of layout part + size_of layout part ≤ STORE_BYTES
part_in_store layout part = omega (arith, part_within layout part, length_in-le layout)

-- parts of different numbers do not overlap
pub parts_apart : (layout : Layout) (a b : Part) → (rank a ≡ rank b → ⊥) → IsApart (place_of layout a) (size_of layout a) (place_of layout b) (size_of layout b)
parts_apart layout a b other =
    let first = at_rank layout a in
    let second = at_rank layout b in
    ⊎_elim (λ same. absurd (other same)) (λ which. ⊎_elim
    (λ before. inl (omega (arith, first.0, first.1, second.0, one_behind layout 0 parts (length_in layout) (rank a) (rank b) (parts_in_order layout) before (rank-lt b))))
    (λ behind. inr (omega (arith, first.0, second.0, second.1, one_behind layout 0 parts (length_in layout) (rank b) (rank a) (parts_in_order layout) behind (rank-lt a)))) which) (cases_order (rank a) (rank b))

-- a record of a plan lies in its bank
pub record_within : (layout : Layout) (kind : PlanType) (bank k : ℕ) → k < limit_in layout kind
    → (bank_at layout kind bank ≤ record_at layout kind bank k) × (record_at layout kind bank k + 48 ≤ bank_at layout kind bank + size_of layout (Bank kind bank))
record_within layout kind bank k within = (omega arith, omega (arith, within))

-- and so in the store
pub record_in_store : (layout : Layout) (kind : PlanType) (bank k : ℕ) → k < limit_in layout kind → record_at layout kind bank k + 48 ≤ STORE_BYTES
record_in_store layout kind bank k within =
    let bound = part_in_store layout (Bank kind bank) in
    omega (arith, bound, (record_within layout kind bank k within).1)

-- records of one bank do not overlap
pub records_apart : (layout : Layout) (kind : PlanType) (bank j k : ℕ) → (j ≡ k → ⊥) → IsApart (record_at layout kind bank j) 48 (record_at layout kind bank k) 48
records_apart layout kind bank j k other = ⊎_elim (λ same. absurd (other same)) (λ which. ⊎_elim
    (λ before. inl (omega (arith, before))) (λ behind. inr (omega (arith, behind))) which) (cases_order j k)

-- nor do a record and another part
pub record_apart : (layout : Layout) (kind : PlanType) (bank k : ℕ) (part : Part) → k < limit_in layout kind → (rank (Bank kind bank) ≡ rank part → ⊥)
    → IsApart (record_at layout kind bank k) 48 (place_of layout part) (size_of layout part)
record_apart layout kind bank k part within other =
    let inside = record_within layout kind bank k within in
    ⊎_elim (λ before. inl (omega (arith, inside.1, before))) (λ behind. inr (omega (arith, inside.0, behind))) (parts_apart layout (Bank kind bank) part other)

-- but for the compat cell, layout 2 begins where layout 1 has ended
pub behind_one : (part : Part) → (rank part ≡ 0 → ⊥) → length_in One ≤ place_of Two part
behind_one Compat other = absurd (other refl)
behind_one (State Mission) other = omega arith
behind_one (State Fence) other = omega arith
behind_one (State Safe) other = omega arith
behind_one TheMark other = omega arith
behind_one (Bank Mission zero) other = omega arith
behind_one (Bank Mission (suc n)) other = omega arith
behind_one (Bank Fence zero) other = omega arith
behind_one (Bank Fence (suc n)) other = omega arith
behind_one (Bank Safe zero) other = omega arith
behind_one (Bank Safe (suc n)) other = omega arith
