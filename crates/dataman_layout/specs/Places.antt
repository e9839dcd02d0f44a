-- Where the cells and the banks of the store stand in each layout, in one table.
use Rattle.std.specs.Prelude.{◌⊎◌, ℕ, zero, suc, ◌+◌, ◌*◌, ◌≤◌, Bool, ◌&&◌, List, [], ◌∷◌, nat_le}
use Rattle.mission_model.specs.declared.limits.TheConstants.{STORE_BYTES}
use Rattle.mission_model.specs.declared.plan.PlanType.{PlanType}
use Rattle.mission_model.specs.declared.plan.PlanType.TheVariants.{Mission, Fence, Safe}
use Rattle.dataman_layout.specs.declared.layout.Layout.{Layout}
use Rattle.dataman_layout.specs.declared.layout.Layout.TheVariants.{One, Two}
use Rattle.dataman_layout.specs.Layouts.{limit_in, most_pairs}

-- the parts of the store: three kinds of cells, and the banks 0 and 1 of each plan's type
pub data Part : Type 0 where
  Compat : Part
  State : (kind : PlanType) → Part
  TheMark : Part
  Bank : (kind : PlanType) (bank : ℕ) → Part

-- where a part begins
abbrev pub place_of : Layout → Part → ℕ
place_of One Compat = 0
place_of One (State Mission) = 32
place_of One (State Fence) = 64
place_of One (State Safe) = 96
place_of One TheMark = 128
place_of One (Bank Mission zero) = 512
place_of One (Bank Mission (suc n)) = 24512
place_of One (Bank Fence zero) = 48512
place_of One (Bank Fence (suc n)) = 51584
place_of One (Bank Safe zero) = 54656
place_of One (Bank Safe (suc n)) = 56192
place_of Two Compat = 0
place_of Two (State Mission) = 65536
place_of Two (State Fence) = 65568
place_of Two (State Safe) = 65600
place_of Two TheMark = 65632
place_of Two (Bank Mission zero) = 66048
place_of Two (Bank Mission (suc n)) = 162048
place_of Two (Bank Fence zero) = 258048
place_of Two (Bank Fence (suc n)) = 261120
place_of Two (Bank Safe zero) = 264192
place_of Two (Bank Safe (suc n)) = 265728

-- the bytes of a slot: a gate, eight bytes of generation, and seven of payload, or a mark's
abbrev pub slot_of : Layout → Part → ℕ
slot_of layout Compat = 16
slot_of layout (State kind) = 16
slot_of layout TheMark = 16 + 4 * most_pairs layout
slot_of layout (Bank kind bank) = 0

-- how many bytes a part has: the two slots of a cell, or as many records as a plan of the type has items at most
abbrev pub size_of : Layout → Part → ℕ
size_of layout Compat = 2 * 16
size_of layout (State kind) = 2 * 16
size_of layout TheMark = 2 * (16 + 4 * most_pairs layout)
size_of layout (Bank kind bank) = 48 * limit_in layout kind

-- how many bytes a store has
abbrev pub length_in : Layout → ℕ
length_in One = 57728
length_in Two = STORE_BYTES

-- where the state cell of a plan's type begins
abbrev pub state_at : Layout → PlanType → ℕ
state_at layout kind = place_of layout (State kind)

-- where the mark's cell begins, and the bytes of its slots
abbrev pub mark_at : Layout → ℕ
mark_at layout = place_of layout TheMark

abbrev pub mark_slot : Layout → ℕ
mark_slot layout = 16 + 4 * most_pairs layout

-- where a bank begins
abbrev pub bank_at : Layout → PlanType → ℕ → ℕ
bank_at layout kind bank = place_of layout (Bank kind bank)

-- where a record of a bank begins
abbrev pub record_at : Layout → PlanType → ℕ → ℕ → ℕ
record_at layout kind bank k = bank_at layout kind bank + 48 * k

-- the number of a plan's type
abbrev pub type_rank : PlanType → ℕ
type_rank Mission = 0
type_rank Fence = 1
type_rank Safe = 2

-- the first bank or the second
abbrev pub bank_rank : ℕ → ℕ
bank_rank zero = 0
bank_rank (suc n) = 1

-- the parts in the order in which they stand, and the number of each
abbrev pub parts : List Part
parts =
    Compat ∷ State Mission ∷ State Fence ∷ State Safe ∷ TheMark
    ∷ Bank Mission 0 ∷ Bank Mission 1 ∷ Bank Fence 0 ∷ Bank Fence 1 ∷ Bank Safe 0 ∷ Bank Safe 1 ∷ []

abbrev pub rank : Part → ℕ
rank Compat = 0
rank (State kind) = 1 + type_rank kind
rank TheMark = 4
rank (Bank kind bank) = 5 + 2 * type_rank kind + bank_rank bank

-- each part begins where the one before ends, or later, and the last ends within this many bytes
abbrev pub in_order : Layout → ℕ → List Part → ℕ → Bool
in_order layout low [] size = nat_le low size
in_order layout low (part ∷ rest) size = nat_le low (place_of layout part) && in_order layout (place_of layout part + size_of layout part) rest size

-- n bytes from `at` on and m from `a` on have no place in common
abbrev pub IsApart : ℕ → ℕ → ℕ → ℕ → Type 0
IsApart a m at n = (a + m ≤ at) ⊎ (at + n ≤ a)
