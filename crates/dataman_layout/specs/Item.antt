-- The record of an item in 48 bytes: its stamp, which is the plan's id, its seq and its plan's type, and the item.
use Rattle.std.specs.Prelude.{◌≡◌, ℕ, ℤ, pos, ◌+◌, ◌/◌, ◌%◌, ◌^◌, Bool, true, false, List, ◌++◌, length, drop, replicate, Option, Some, None, nat_lt, ◌==◌, if◌then◌else◌}
use Rattle.std.specs.Ordering.{int_eq}
use Rattle.mission_model.specs.declared.plan.PlanType.{PlanType}
use Rattle.mission_model.specs.declared.plan.PlanType.TheVariants.{Mission, Fence, Safe}
use Rattle.mission_model.specs.declared.plan.Param.{Param}
use Rattle.mission_model.specs.declared.plan.Param.TheVariants.{Unset, Milli}
use Rattle.mission_model.specs.declared.plan.Item.{Item}
use Rattle.dataman_layout.specs.declared.item.Record.{Record}
use Rattle.dataman_layout.specs.Fields.{number_bytes, number_at, signed_bytes, signed_at, is_zeros}

-- the number of a plan's type
abbrev pub kind_number : PlanType → ℕ
kind_number Mission = 0
kind_number Fence = 1
kind_number Safe = 2

-- whether a parameter is set
abbrev pub is_set : Param → Bool
is_set Unset = false
is_set (Milli milli) = true

-- the number of a parameter, 0 for one that is not set
abbrev pub milli_of : Param → ℤ
milli_of Unset = pos 0
milli_of (Milli milli) = milli

-- a flag is worth this much where it is set
abbrev pub worth : Bool → ℕ → ℕ
worth true bit = bit
worth false bit = 0

-- the flags: bit 0 for auto, bits 1 to 4 for the parameters that are set
abbrev pub flags_by : Bool → Bool → Bool → Bool → Bool → ℕ
flags_by auto p1 p2 p3 p4 = worth auto 1 + worth p1 2 + worth p2 4 + worth p3 8 + worth p4 16

-- the flags of an item
abbrev pub flags_of : Item → ℕ
flags_of item = flags_by item.auto (is_set item.p1) (is_set item.p2) (is_set item.p3) (is_set item.p4)

-- the bytes of an item's record, field by field
unfoldable pub item_bytes : PlanType → ℕ → ℕ → Item → List ℕ
item_bytes kind id seq item =
    number_bytes 4 id ++ number_bytes 2 seq ++ number_bytes 1 (kind_number kind) ++ number_bytes 1 (flags_of item)
    ++ number_bytes 2 item.frame ++ number_bytes 2 item.command
    ++ signed_bytes (milli_of item.p1) ++ signed_bytes (milli_of item.p2) ++ signed_bytes (milli_of item.p3) ++ signed_bytes (milli_of item.p4)
    ++ signed_bytes item.x ++ signed_bytes item.y ++ signed_bytes item.z
    ++ replicate 8 0

-- the bytes are the record's: the number of so many bytes at each place, and zeros at the end
pub record ItemRecord (bytes : List ℕ) (r : Record) : Type 0 where
  pub size : length bytes ≡ 48
  pub stamp : number_at 0 4 bytes ≡ r.id
  pub seq : number_at 4 2 bytes ≡ r.seq
  pub kind : number_at 6 1 bytes ≡ kind_number r.kind
  pub flags : number_at 7 1 bytes ≡ flags_of r.item
  pub frame : number_at 8 2 bytes ≡ r.item.frame
  pub command : number_at 10 2 bytes ≡ r.item.command
  pub p1 : signed_at 12 bytes ≡ milli_of r.item.p1
  pub p2 : signed_at 16 bytes ≡ milli_of r.item.p2
  pub p3 : signed_at 20 bytes ≡ milli_of r.item.p3
  pub p4 : signed_at 24 bytes ≡ milli_of r.item.p4
  pub x : signed_at 28 bytes ≡ r.item.x
  pub y : signed_at 32 bytes ≡ r.item.y
  pub z : signed_at 36 bytes ≡ r.item.z
  pub tail : is_zeros (drop 40 bytes) ≡ true

-- the plan's type of a number
abbrev pub kind_in : ℕ → Option PlanType
kind_in n = if n == 0 then Some Mission else (if n == 1 then Some Fence else (if n == 2 then Some Safe else None))

-- a bit of the flags
abbrev pub is_bit : ℕ → ℕ → Bool
is_bit k flags = flags / 2 ^ k % 2 == 1

-- the parameter of a flag and a number; one that is not set has the number 0
abbrev pub param_in : Bool → ℤ → Option Param
param_in true milli = Some (Milli milli)
param_in false milli = if int_eq milli (pos 0) then Some Unset else None

-- one reading after another, if the first gave something
infixl 10 ◌>>=◌
abbrev pub ◌>>=◌ : {A B : Type 0} → Option A → (A → Option B) → Option B
None >>= f = None
(Some x) >>= f = f x

-- the item of these parameters, with the other fields of a record
abbrev pub item_with : List ℕ → Param → Param → Param → Param → Item
item_with bytes p1 p2 p3 p4 = record {
  frame = number_at 8 2 bytes;
  command = number_at 10 2 bytes;
  p1 = p1;
  p2 = p2;
  p3 = p3;
  p4 = p4;
  x = signed_at 28 bytes;
  y = signed_at 32 bytes;
  z = signed_at 36 bytes;
  auto = is_bit 0 (number_at 7 1 bytes);
}

-- what a function makes of four values, if all are there and a test passes
abbrev pub of_four : {A B : Type 0} → Bool → Option A → Option A → Option A → Option A → (A → A → A → A → B) → Option B
of_four passes o1 o2 o3 o4 f = if passes then (o1 >>= λ p1. o2 >>= λ p2. o3 >>= λ p3. o4 >>= λ p4. Some (f p1 p2 p3 p4)) else None

-- the item in the bytes of a record, if they have one
unfoldable pub content_in : List ℕ → Option Item
content_in bytes =
    let flags = number_at 7 1 bytes in
    of_four (nat_lt flags 32) (param_in (is_bit 1 flags) (signed_at 12 bytes)) (param_in (is_bit 2 flags) (signed_at 16 bytes))
    (param_in (is_bit 3 flags) (signed_at 20 bytes)) (param_in (is_bit 4 flags) (signed_at 24 bytes)) (item_with bytes)

-- the record of these bytes, if they are one's
unfoldable pub item_in : List ℕ → Option Record
item_in bytes = do
  kind ← kind_in (number_at 6 1 bytes)
  item ← content_in bytes
  if is_zeros (drop 40 bytes) then Some (record { kind = kind; id = number_at 0 4 bytes; seq = number_at 4 2 bytes; item = item }) else None
