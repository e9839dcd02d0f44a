-- What calls in one part of the store leave of the others.
use Rattle.std.proofs.Common.{◌≡◌, ◌⊎◌, ◌*◌, ◌-◌, ◌<◌, ◌≤◌, ℕ, zero, suc, true, List, [], ◌∷◌, ◌++◌, length, Some, slice_get, inl, inr, refl, ap, ◌∙◌, arith}
use Rattle.std.proofs.lemmas.List.{length_push}
use Rattle.mission_model.specs.declared.plan.PlanType.{PlanType}
use Rattle.mission_model.specs.declared.plan.PlanType.TheVariants.{Mission, Fence, Safe}
use Rattle.mission_model.specs.declared.plan.PlanHead.{PlanHead}
use Rattle.mission_model.specs.declared.plan.Item.{Item}
use Rattle.mission_model.specs.Command.{is_kind}
use Rattle.mission_model.specs.PlanCode.{limit_of}
use Rattle.disk_model.specs.Bytes.{Torn}
use Rattle.disk_model.specs.Places.{Apart, field_apart}
use Rattle.gated_cell.specs.declared.place.CellPlace.{CellPlace}
use Rattle.gated_cell.specs.Beside.{IsBeside}
use Rattle.dataman_layout.specs.Item.{item_in}
use Rattle.dataman_layout.specs.Places.{Part, Compat, State, TheMark, Bank, place_of, size_of, rank, type_rank, bank_rank, record_at}
use Rattle.dataman_layout.specs.declared.layout.Layout.{Layout}
use Rattle.dataman_layout.specs.declared.layout.Layout.TheVariants.{Two}
use Rattle.dataman_layout.specs.PlaceLaws.{parts_apart, record_within, record_apart}
use Rattle.plan_store.specs.StoreState.{StoredPlan}
use Rattle.bank_state.specs.Plans.{head_of}
use Rattle.bank_state.specs.StandsFor.{compat_place, state_place, mark_place, record_in, record_of, HasItems}
use Rattle.bank_state.specs.Ledger.{item_of, items_read, plan_read, items_in, plan_in}

-- types that differ
abbrev pub Differ : PlanType → PlanType → Type 0
Differ a b = type_rank a ≡ type_rank b → ⊥

rank_low : (kind : PlanType) → type_rank kind ≤ 2
rank_low Mission = omega arith
rank_low Fence = omega arith
rank_low Safe = omega arith

-- n bytes from `at` on are none of this part's
abbrev pub IsOff : ℕ → ℕ → Part → Type 0
IsOff at n part = Apart (place_of Two part) (size_of Two part) at n

-- nor of a record's in a bank
pub record_off : (kind : PlanType) (bank seq at n : ℕ) → seq < limit_of kind → IsOff at n (Bank kind bank) → Apart (record_at Two kind bank seq) 48 at n
record_off kind bank seq at n within (inl before) =
    let inside = record_within Two kind bank seq within in
    inl (omega (arith, inside.1, before))
record_off kind bank seq at n within (inr behind) =
    let inside = record_within Two kind bank seq within in
    inr (omega (arith, inside.0, behind))

-- a record apart from what was written is read as before
pub record_stays : (kind : PlanType) (bank seq at n : ℕ) (d c : List ℕ) → Apart (record_at Two kind bank seq) 48 at n → Torn at n d c → record_in kind bank seq c ≡ record_in kind bank seq d
record_stays kind bank seq at n d c apart torn = ap item_in (field_apart (record_at Two kind bank seq) 48 at n d c apart torn)

item_below : (items : List Item) (seq : ℕ) (item : Item) → slice_get items seq ≡ Some item → seq < length items
item_below [] seq item at = absurd (cc at)
item_below (x ∷ items) zero item at = omega arith
item_below (x ∷ items) (suc seq) item at = omega (arith, item_below items seq item at)

-- the items of a plan stay in their bank
pub items_stay : (kind : PlanType) (bank at n : ℕ) (plan : StoredPlan) (d c : List ℕ) → length plan.items ≤ limit_of kind → IsOff at n (Bank kind bank) → Torn at n d c → HasItems kind bank plan d → HasItems kind bank plan c
items_stay kind bank at n plan d c within off torn has = λ seq item is.
    let below : seq < limit_of kind = omega (arith, item_below plan.items seq item is, within) in
    record_stays kind bank seq at n d c (record_off kind bank seq at n below off) torn ∙ has seq item is

pub length-items_read : (layout : Layout) (kind : PlanType) (bank n : ℕ) (image : List ℕ) → length (items_read layout kind bank n image) ≡ n
length-items_read layout kind bank zero image = refl
length-items_read layout kind bank (suc n) image =
    omega (arith, length-items_read layout kind bank n image, length_push (items_read layout kind bank n image) (item_of (record_of layout kind bank n image)))

pub length-items_in : (kind : PlanType) (bank n : ℕ) (image : List ℕ) → length (items_in kind bank n image) ≡ n
length-items_in kind bank n image = length-items_read Two kind bank n image

-- a plan is read under its head
pub head_of-plan_read : (layout : Layout) (kind : PlanType) (bank : ℕ) (head : PlanHead) (image : List ℕ) → head_of (plan_read layout kind bank head image) ≡ head
head_of-plan_read layout kind bank head image = λ i. record { id = head.id; count = length-items_read layout kind bank head.count image i }

pub head_of-plan_in : (kind : PlanType) (bank : ℕ) (head : PlanHead) (image : List ℕ) → head_of (plan_in kind bank head image) ≡ head
head_of-plan_in kind bank head image = head_of-plan_read Two kind bank head image

-- records that are read as before make the same items
pub items_same : (kind : PlanType) (bank n : ℕ) (d c : List ℕ) → ((seq : ℕ) → seq < n → record_in kind bank seq c ≡ record_in kind bank seq d) → items_in kind bank n c ≡ items_in kind bank n d
items_same kind bank zero d c same = refl
items_same kind bank (suc n) d c same =
    let front : items_in kind bank n c ≡ items_in kind bank n d = items_same kind bank n d c (λ seq below. same seq (omega (arith, below))) in
    let last : record_in kind bank n c ≡ record_in kind bank n d = same n (omega arith) in
    λ i. front i ++ item_of (last i) ∷ []

pub plan_same : (kind : PlanType) (bank : ℕ) (head : PlanHead) (at n : ℕ) (d c : List ℕ) → head.count ≤ limit_of kind → IsOff at n (Bank kind bank) → Torn at n d c → plan_in kind bank head c ≡ plan_in kind bank head d
plan_same kind bank head at n d c within off torn =
    let items : items_in kind bank head.count c ≡ items_in kind bank head.count d =
    items_same kind bank head.count d c (λ seq below. record_stays kind bank seq at n d c (record_off kind bank seq at n (omega (arith, below, within)) off) torn) in
    λ i. record { id = head.id; items = items i }

-- a cell that stands in a part of the store
abbrev pub Fills : CellPlace → Part → Type 0
Fills place part = (place_of Two part ≡ place.at) × (size_of Two part ≡ 2 * place.slot_bytes)

pub compat_fills : Fills compat_place Compat
compat_fills = (refl, refl)

pub state_fills : (kind : PlanType) → Fills (state_place kind) (State kind)
state_fills kind = (refl, refl)

pub mark_fills : Fills mark_place TheMark
mark_fills = (refl, refl)

pub cell_beside : (place : CellPlace) (part : Part) (at n : ℕ) → Fills place part → IsOff at n part → IsBeside at n place
cell_beside place part at n fills (inl before) = inl (omega (arith, fills.0, fills.1, before))
cell_beside place part at n fills (inr behind) = inr (omega (arith, fills.0, behind))

-- the bytes of another part are off it
pub part_off : (place : CellPlace) (part other : Part) → Fills place part → (rank other ≡ rank part → ⊥) → IsOff place.at (2 * place.slot_bytes) other
part_off place part other fills differ = sides (parts_apart Two other part differ)
  where
    sides : Apart (place_of Two other) (size_of Two other) (place_of Two part) (size_of Two part) → IsOff place.at (2 * place.slot_bytes) other
    sides (inl before) = inl (omega (arith, fills.0, before))
    sides (inr behind) = inr (omega (arith, fills.0, fills.1, behind))

pub compat_not_state : (kind : PlanType) → rank Compat ≡ rank (State kind) → ⊥
compat_not_state kind same = omega (arith, same)

pub state_not_state : (a b : PlanType) → Differ a b → rank (State a) ≡ rank (State b) → ⊥
state_not_state a b differ same = differ (omega (arith, same))

pub mark_not_state : (kind : PlanType) → rank TheMark ≡ rank (State kind) → ⊥
mark_not_state kind same = omega (arith, same, rank_low kind)

pub state_not_mark : (kind : PlanType) → rank (State kind) ≡ rank TheMark → ⊥
state_not_mark kind same = omega (arith, same, rank_low kind)

pub bank_not_state : (a : PlanType) (bank : ℕ) (b : PlanType) → rank (Bank a bank) ≡ rank (State b) → ⊥
bank_not_state a bank b same = omega (arith, same, rank_low b)

pub bank_not_mark : (a : PlanType) (bank : ℕ) → rank (Bank a bank) ≡ rank TheMark → ⊥
bank_not_mark a bank same = omega (arith, same)

bank_rank_low : (bank : ℕ) → bank_rank bank ≤ 1
bank_rank_low zero = omega arith
bank_rank_low (suc n) = omega arith

pub bank_not_bank : (a : PlanType) (i : ℕ) (b : PlanType) (j : ℕ) → Differ a b → rank (Bank a i) ≡ rank (Bank b j) → ⊥
bank_not_bank a i b j differ same = differ (omega (arith, same, bank_rank_low i, bank_rank_low j))

-- the spare bank is not the bank in force
pub spare_not : (a : PlanType) (bank : ℕ) → bank < 2 → rank (Bank a bank) ≡ rank (Bank a (1 - bank)) → ⊥
spare_not a zero low same = absurd (omega (arith, same))
spare_not a (suc zero) low same = absurd (omega (arith, same))
spare_not a (suc (suc bank)) low same = absurd (omega (arith, low))

-- a record of one bank is off another part
pub record_is_off : (kind : PlanType) (bank seq : ℕ) (part : Part) → seq < limit_of kind → (rank (Bank kind bank) ≡ rank part → ⊥) → IsOff (record_at Two kind bank seq) 48 part
record_is_off kind bank seq part within differ = turned (record_apart Two kind bank seq part within differ)
  where
    turned : Apart (record_at Two kind bank seq) 48 (place_of Two part) (size_of Two part) → IsOff (record_at Two kind bank seq) 48 part
    turned (inl before) = inr before
    turned (inr behind) = inl behind

-- two types are the same or not
pub same_or_differ : (a b : PlanType) → (a ≡ b) ⊎ Differ a b
same_or_differ Mission Mission = inl refl
same_or_differ Mission Fence = inr (λ same. absurd (omega (arith, same)))
same_or_differ Mission Safe = inr (λ same. absurd (omega (arith, same)))
same_or_differ Fence Mission = inr (λ same. absurd (omega (arith, same)))
same_or_differ Fence Fence = inl refl
same_or_differ Fence Safe = inr (λ same. absurd (omega (arith, same)))
same_or_differ Safe Mission = inr (λ same. absurd (omega (arith, same)))
same_or_differ Safe Fence = inr (λ same. absurd (omega (arith, same)))
same_or_differ Safe Safe = inl refl

pub is_kind_same : (kind : PlanType) → is_kind kind kind ≡ true
is_kind_same Mission = refl
is_kind_same Fence = refl
is_kind_same Safe = refl

pub compat_not_bank : (kind : PlanType) (bank : ℕ) → rank (Bank kind bank) ≡ rank Compat → ⊥
compat_not_bank kind bank same = omega (arith, same)
