-- Bytes and records of items correspond one to one.
use Rattle.std.proofs.Common.{◌≡◌, ℕ, zero, suc, ℤ, pos, ◌==◌, ◌*◌, ◌/◌, ◌%◌, ◌^◌, ◌<◌, ◌≤◌, Bool, true, false, List, length, drop, replicate, Option, Some, None, nat_lt, refl, ap, ◌∙◌, arith, length-drop}
use Rattle.std.proofs.lemmas.Bool.Decides.{nat_tests, Decides-int_eq}
use Rattle.std.specs.Int.{w32}
use Rattle.std.specs.Int.RustNames.{FitsSigned}
use Rattle.std.specs.Ordering.{int_eq}
use Rattle.mission_model.specs.declared.plan.PlanType.{PlanType}
use Rattle.mission_model.specs.declared.plan.PlanType.TheVariants.{Mission, Fence, Safe}
use Rattle.mission_model.specs.declared.plan.Param.{Param}
use Rattle.mission_model.specs.declared.plan.Param.TheVariants.{Unset, Milli}
use Rattle.mission_model.specs.declared.plan.Item.{Item}
use Rattle.dataman_layout.specs.declared.item.Record.{Record}
use Rattle.dataman_layout.specs.Fields.{number_bytes, number_at, signed_at, is_zeros, IsBytes}
use Rattle.dataman_layout.specs.FieldLaws.{some_test, zeros_are, number_at-number_bytes, signed_at-signed_bytes, drop-field, drop-signed}
use Rattle.dataman_layout.specs.Item.{kind_number, is_set, milli_of, worth, flags_by, flags_of, item_bytes, ItemRecord, kind_in, is_bit, param_in, ◌>>=◌, item_with, of_four, content_in, item_in}

-- what the fields hold fits their types
pub record FitsItem (r : Record) : Type 0 where
  pub id : r.id < 2 ^ 32
  pub seq : r.seq < 2 ^ 16
  pub frame : r.item.frame < 2 ^ 16
  pub command : r.item.command < 2 ^ 16
  pub p1 : FitsSigned w32 (milli_of r.item.p1)
  pub p2 : FitsSigned w32 (milli_of r.item.p2)
  pub p3 : FitsSigned w32 (milli_of r.item.p3)
  pub p4 : FitsSigned w32 (milli_of r.item.p4)
  pub x : FitsSigned w32 r.item.x
  pub y : FitsSigned w32 r.item.y
  pub z : FitsSigned w32 r.item.z

-- the bytes of a record
abbrev pub bytes_of_record : Record → List ℕ
bytes_of_record r = item_bytes r.kind r.id r.seq r.item

-- a step of a reading that gave something
pub some_step : {A B : Type 0} (read : Option A) (f : A → Option B) (y : B) → (read >>= f) ≡ Some y → (x : A) × (read ≡ Some x) × (f x ≡ Some y)
some_step None f y e = absurd (cc e)
some_step (Some x) f y e = (x, refl, e)

-- the number of a type is that type's
pub kind_in-kind_number : (kind : PlanType) → kind_in (kind_number kind) ≡ Some kind
kind_in-kind_number Mission = refl
kind_in-kind_number Fence = refl
kind_in-kind_number Safe = refl

kind_number-lt : (kind : PlanType) → kind_number kind < 256
kind_number-lt Mission = omega arith
kind_number-lt Fence = omega arith
kind_number-lt Safe = omega arith

-- a number that is a type's is its number
kind_number-kind_in : (n : ℕ) (kind : PlanType) → kind_in n ≡ Some kind → n ≡ kind_number kind
kind_number-kind_in n Mission e = grind (arith, nat_tests)
kind_number-kind_in n Fence e = grind (arith, nat_tests)
kind_number-kind_in n Safe e = grind (arith, nat_tests)

-- a flag is worth its bit so often
worth-once : (flag : Bool) (bit : ℕ) → worth flag bit ≡ bit * worth flag 1
worth-once true bit = omega arith
worth-once false bit = omega arith

worth-le : (flag : Bool) → worth flag 1 ≤ 1
worth-le true = omega arith
worth-le false = omega arith

is_worth : (flag : Bool) (n : ℕ) → n ≡ worth flag 1 → (n == 1) ≡ flag
is_worth true n e = ap (λ (m : ℕ). m == 1) e
is_worth false n e = ap (λ (m : ℕ). m == 1) e

worth-test : (n bit : ℕ) → n < 2 → worth (n == 1) bit ≡ bit * n
worth-test zero bit below = omega arith
worth-test (suc zero) bit below = omega arith
worth-test (suc (suc n)) bit below = absurd (omega arith)

-- the flags of five bits
pub record IsFlags (flags : ℕ) (b0 b1 b2 b3 b4 : Bool) : Type 0 where
  pub below : flags < 32
  pub auto : is_bit 0 flags ≡ b0
  pub p1 : is_bit 1 flags ≡ b1
  pub p2 : is_bit 2 flags ≡ b2
  pub p3 : is_bit 3 flags ≡ b3
  pub p4 : is_bit 4 flags ≡ b4

flags_are : (b0 b1 b2 b3 b4 : Bool) → IsFlags (flags_by b0 b1 b2 b3 b4) b0 b1 b2 b3 b4
flags_are b0 b1 b2 b3 b4 =
    let n1 : worth b1 2 ≡ 2 * worth b1 1 = worth-once b1 2 in
    let n2 : worth b2 4 ≡ 4 * worth b2 1 = worth-once b2 4 in
    let n3 : worth b3 8 ≡ 8 * worth b3 1 = worth-once b3 8 in
    let n4 : worth b4 16 ≡ 16 * worth b4 1 = worth-once b4 16 in
    let l0 = worth-le b0 in
    let l1 = worth-le b1 in
    let l2 = worth-le b2 in
    let l3 = worth-le b3 in
    let l4 = worth-le b4 in
    record {
      below = omega arith;
      auto = is_worth b0 _ (omega arith);
      p1 = is_worth b1 _ (omega arith);
      p2 = is_worth b2 _ (omega arith);
      p3 = is_worth b3 _ (omega arith);
      p4 = is_worth b4 _ (omega arith);
    }

flags_from : (flags : ℕ) → flags < 32 → flags ≡ flags_by (is_bit 0 flags) (is_bit 1 flags) (is_bit 2 flags) (is_bit 3 flags) (is_bit 4 flags)
flags_from flags below =
    let w0 : worth (is_bit 0 flags) 1 ≡ 1 * (flags / 2 ^ 0 % 2) = worth-test (flags / 2 ^ 0 % 2) 1 (omega arith) in
    let w1 : worth (is_bit 1 flags) 2 ≡ 2 * (flags / 2 ^ 1 % 2) = worth-test (flags / 2 ^ 1 % 2) 2 (omega arith) in
    let w2 : worth (is_bit 2 flags) 4 ≡ 4 * (flags / 2 ^ 2 % 2) = worth-test (flags / 2 ^ 2 % 2) 4 (omega arith) in
    let w3 : worth (is_bit 3 flags) 8 ≡ 8 * (flags / 2 ^ 3 % 2) = worth-test (flags / 2 ^ 3 % 2) 8 (omega arith) in
    let w4 : worth (is_bit 4 flags) 16 ≡ 16 * (flags / 2 ^ 4 % 2) = worth-test (flags / 2 ^ 4 % 2) 16 (omega arith) in
    omega arith

-- a parameter of its flag and its number
param_in-param : (p : Param) → param_in (is_set p) (milli_of p) ≡ Some p
param_in-param Unset = refl
param_in-param (Milli milli) = refl

param-param_in : (flag : Bool) (milli : ℤ) (p : Param) → param_in flag milli ≡ Some p → (flag ≡ is_set p) × (milli ≡ milli_of p)
param-param_in true milli Unset e = absurd (cc e)
param-param_in true milli (Milli other) e = (refl, cc e)
param-param_in false milli p e =
    let parts = some_test (int_eq milli (pos 0)) (Some Unset) p e in
    let none : milli ≡ pos 0 = (Decides-int_eq milli (pos 0)).0 parts.0 in
    let same : Unset ≡ p = cc in
    (ap is_set same, none ∙ ap milli_of same)

-- the bytes of a record are the record's
pub record-item_bytes : (r : Record) → FitsItem r → ItemRecord (bytes_of_record r) r
unfolding item_bytes number_bytes
record-item_bytes r fits =
    let bytes = bytes_of_record r in
    let flags = (flags_are r.item.auto (is_set r.item.p1) (is_set r.item.p2) (is_set r.item.p3) (is_set r.item.p4)).below in
    record {
      size = refl;
      stamp = number_at-number_bytes 0 4 r.id bytes (omega (arith, fits.id)) refl;
      seq = number_at-number_bytes 4 2 r.seq bytes (omega (arith, fits.seq)) refl;
      kind = number_at-number_bytes 6 1 (kind_number r.kind) bytes (omega (arith, kind_number-lt r.kind)) refl;
      flags = number_at-number_bytes 7 1 (flags_of r.item) bytes (omega (arith, flags)) refl;
      frame = number_at-number_bytes 8 2 r.item.frame bytes (omega (arith, fits.frame)) refl;
      command = number_at-number_bytes 10 2 r.item.command bytes (omega (arith, fits.command)) refl;
      p1 = signed_at-signed_bytes 12 (milli_of r.item.p1) bytes fits.p1 refl;
      p2 = signed_at-signed_bytes 16 (milli_of r.item.p2) bytes fits.p2 refl;
      p3 = signed_at-signed_bytes 20 (milli_of r.item.p3) bytes fits.p3 refl;
      p4 = signed_at-signed_bytes 24 (milli_of r.item.p4) bytes fits.p4 refl;
      x = signed_at-signed_bytes 28 r.item.x bytes fits.x refl;
      y = signed_at-signed_bytes 32 r.item.y bytes fits.y refl;
      z = signed_at-signed_bytes 36 r.item.z bytes fits.z refl;
      tail = refl;
    }

-- bytes that are a record's are its bytes
pub item_bytes-record : (bytes : List ℕ) (r : Record) → IsBytes bytes → ItemRecord bytes r → bytes ≡ bytes_of_record r
unfolding item_bytes number_bytes
item_bytes-record bytes r low is =
    let size = is.size in
    let tail : drop 40 bytes ≡ replicate 8 0 = zeros_are (drop 40 bytes) 8 (omega (arith, length-drop 40 bytes)) is.tail in
    let from_z = drop-signed 36 40 r.item.z bytes _ low refl (omega arith) is.z tail in
    let from_y = drop-signed 32 36 r.item.y bytes _ low refl (omega arith) is.y from_z in
    let from_x = drop-signed 28 32 r.item.x bytes _ low refl (omega arith) is.x from_y in
    let from_p4 = drop-signed 24 28 (milli_of r.item.p4) bytes _ low refl (omega arith) is.p4 from_x in
    let from_p3 = drop-signed 20 24 (milli_of r.item.p3) bytes _ low refl (omega arith) is.p3 from_p4 in
    let from_p2 = drop-signed 16 20 (milli_of r.item.p2) bytes _ low refl (omega arith) is.p2 from_p3 in
    let from_p1 = drop-signed 12 16 (milli_of r.item.p1) bytes _ low refl (omega arith) is.p1 from_p2 in
    let from_command = drop-field 10 2 12 r.item.command bytes _ low refl (omega arith) is.command from_p1 in
    let from_frame = drop-field 8 2 10 r.item.frame bytes _ low refl (omega arith) is.frame from_command in
    let from_flags = drop-field 7 1 8 (flags_of r.item) bytes _ low refl (omega arith) is.flags from_frame in
    let from_kind = drop-field 6 1 7 (kind_number r.kind) bytes _ low refl (omega arith) is.kind from_flags in
    let from_seq = drop-field 4 2 6 r.seq bytes _ low refl (omega arith) is.seq from_kind in
    drop-field 0 4 4 r.id bytes _ low refl (omega arith) is.stamp from_seq

made_of_four : {A B : Type 0} (passes : Bool) (o1 o2 o3 o4 : Option A) (f : A → A → A → A → B) (p1 p2 p3 p4 : A)
    → passes ≡ true → o1 ≡ Some p1 → o2 ≡ Some p2 → o3 ≡ Some p3 → o4 ≡ Some p4 → of_four passes o1 o2 o3 o4 f ≡ Some (f p1 p2 p3 p4)
made_of_four passes o1 o2 o3 o4 f p1 p2 p3 p4 e0 e1 e2 e3 e4 = λ i. of_four (e0 i) (e1 i) (e2 i) (e3 i) (e4 i) f

record FourOf {A B : Type 0} (passes : Bool) (o1 o2 o3 o4 : Option A) (f : A → A → A → A → B) (y : B) : Type 0 where
  pub passed : passes ≡ true
  pub p1 : A
  pub p2 : A
  pub p3 : A
  pub p4 : A
  pub first : o1 ≡ Some p1
  pub second : o2 ≡ Some p2
  pub third : o3 ≡ Some p3
  pub fourth : o4 ≡ Some p4
  pub made : f p1 p2 p3 p4 ≡ y

parts_of_four : {A B : Type 0} (passes : Bool) (o1 o2 o3 o4 : Option A) (f : A → A → A → A → B) (y : B) → of_four passes o1 o2 o3 o4 f ≡ Some y → FourOf passes o1 o2 o3 o4 f y
parts_of_four false o1 o2 o3 o4 f y e = absurd (cc e)
parts_of_four true None o2 o3 o4 f y e = absurd (cc e)
parts_of_four true (Some p1) None o3 o4 f y e = absurd (cc e)
parts_of_four true (Some p1) (Some p2) None o4 f y e = absurd (cc e)
parts_of_four true (Some p1) (Some p2) (Some p3) None f y e = absurd (cc e)
parts_of_four true (Some p1) (Some p2) (Some p3) (Some p4) f y e =
    record { passed = refl; p1 = p1; p2 = p2; p3 = p3; p4 = p4; first = refl; second = refl; third = refl; fourth = refl; made = cc e }

-- the item of a record
content_in-record : (bytes : List ℕ) (r : Record) → ItemRecord bytes r → content_in bytes ≡ Some r.item
unfolding content_in
content_in-record bytes r is =
    let item = r.item in
    let flags = flags_are item.auto (is_set item.p1) (is_set item.p2) (is_set item.p3) (is_set item.p4) in
    let below : number_at 7 1 bytes < 32 = omega (arith, is.flags, flags.below) in
    let passes : nat_lt (number_at 7 1 bytes) 32 ≡ true = grind (arith, nat_tests) in
    let bit1 = ap (is_bit 1) is.flags ∙ flags.p1 in
    let bit2 = ap (is_bit 2) is.flags ∙ flags.p2 in
    let bit3 = ap (is_bit 3) is.flags ∙ flags.p3 in
    let bit4 = ap (is_bit 4) is.flags ∙ flags.p4 in
    let auto = ap (is_bit 0) is.flags ∙ flags.auto in
    made_of_four _ _ _ _ _ (item_with bytes) item.p1 item.p2 item.p3 item.p4 passes
    ((λ i. param_in (bit1 i) (is.p1 i)) ∙ param_in-param item.p1) ((λ i. param_in (bit2 i) (is.p2 i)) ∙ param_in-param item.p2)
    ((λ i. param_in (bit3 i) (is.p3 i)) ∙ param_in-param item.p3) ((λ i. param_in (bit4 i) (is.p4 i)) ∙ param_in-param item.p4)
    ∙ (λ i. Some (record { frame = is.frame i; command = is.command i; p1 = item.p1; p2 = item.p2; p3 = item.p3; p4 = item.p4; x = is.x i; y = is.y i; z = is.z i; auto = auto i }))

-- bytes that are a record's are read as it
pub item_in-record : (bytes : List ℕ) (r : Record) → ItemRecord bytes r → item_in bytes ≡ Some r
unfolding item_in
item_in-record bytes r is =
    let kind = ap kind_in is.kind ∙ kind_in-kind_number r.kind in
    let content = content_in-record bytes r is in
    rw (kind, content, is.tail) (λ i. Some (record { kind = r.kind; id = is.stamp i; seq = is.seq i; item = r.item }))

-- the fields of an item that bytes are read as
record IsContent (bytes : List ℕ) (item : Item) : Type 0 where
  pub flags : number_at 7 1 bytes ≡ flags_of item
  pub frame : number_at 8 2 bytes ≡ item.frame
  pub command : number_at 10 2 bytes ≡ item.command
  pub p1 : signed_at 12 bytes ≡ milli_of item.p1
  pub p2 : signed_at 16 bytes ≡ milli_of item.p2
  pub p3 : signed_at 20 bytes ≡ milli_of item.p3
  pub p4 : signed_at 24 bytes ≡ milli_of item.p4
  pub x : signed_at 28 bytes ≡ item.x
  pub y : signed_at 32 bytes ≡ item.y
  pub z : signed_at 36 bytes ≡ item.z

content_is : (bytes : List ℕ) (item : Item) → content_in bytes ≡ Some item → IsContent bytes item
unfolding content_in
content_is bytes item e =
    let flags = number_at 7 1 bytes in
    let four = parts_of_four (nat_lt flags 32) (param_in (is_bit 1 flags) (signed_at 12 bytes)) (param_in (is_bit 2 flags) (signed_at 16 bytes))
    (param_in (is_bit 3 flags) (signed_at 20 bytes)) (param_in (is_bit 4 flags) (signed_at 24 bytes)) (item_with bytes) item e in
    let below : flags < 32 = grind (arith, nat_tests, four.passed) in
    let p1 = param-param_in (is_bit 1 flags) (signed_at 12 bytes) four.p1 four.first in
    let p2 = param-param_in (is_bit 2 flags) (signed_at 16 bytes) four.p2 four.second in
    let p3 = param-param_in (is_bit 3 flags) (signed_at 20 bytes) four.p3 four.third in
    let p4 = param-param_in (is_bit 4 flags) (signed_at 24 bytes) four.p4 four.fourth in
    let same = four.made in
    record {
      flags = flags_from flags below ∙ (λ i. flags_by (is_bit 0 flags) (p1.0 i) (p2.0 i) (p3.0 i) (p4.0 i)) ∙ ap flags_of same;
      frame = ap (λ (a : Item). a.frame) same;
      command = ap (λ (a : Item). a.command) same;
      p1 = p1.1 ∙ ap (λ (a : Item). milli_of a.p1) same;
      p2 = p2.1 ∙ ap (λ (a : Item). milli_of a.p2) same;
      p3 = p3.1 ∙ ap (λ (a : Item). milli_of a.p3) same;
      p4 = p4.1 ∙ ap (λ (a : Item). milli_of a.p4) same;
      x = ap (λ (a : Item). a.x) same;
      y = ap (λ (a : Item). a.y) same;
      z = ap (λ (a : Item). a.z) same;
    }

-- what bytes are read as is their record
pub record-item_in : (bytes : List ℕ) (r : Record) → length bytes ≡ 48 → item_in bytes ≡ Some r → ItemRecord bytes r
unfolding item_in
record-item_in bytes r size e =
    let kind = some_step (kind_in (number_at 6 1 bytes)) _ r e in
    let item = some_step (content_in bytes) _ r kind.2 in
    let last = some_test (is_zeros (drop 40 bytes)) _ r item.2 in
    let same : record { kind = kind.0; id = number_at 0 4 bytes; seq = number_at 4 2 bytes; item = item.0 } ≡ r = cc last.1 in
    let content = content_is bytes r.item (item.1 ∙ ap (λ (a : Record). Some a.item) same) in
    record {
      size = size;
      stamp = ap (λ (a : Record). a.id) same;
      seq = ap (λ (a : Record). a.seq) same;
      kind = kind_number-kind_in (number_at 6 1 bytes) r.kind (kind.1 ∙ ap (λ (a : Record). Some a.kind) same);
      flags = content.flags;
      frame = content.frame;
      command = content.command;
      p1 = content.p1;
      p2 = content.p2;
      p3 = content.p3;
      p4 = content.p4;
      x = content.x;
      y = content.y;
      z = content.z;
      tail = last.0;
    }

-- the bytes of a record are read as it
pub item_in-item_bytes : (r : Record) → FitsItem r → item_in (bytes_of_record r) ≡ Some r
item_in-item_bytes r fits = item_in-record (bytes_of_record r) r (record-item_bytes r fits)

-- bytes are one record's at most
pub one_record : (bytes : List ℕ) (r s : Record) → ItemRecord bytes r → ItemRecord bytes s → r ≡ s
one_record bytes r s first second =
    let a = item_in-record bytes r first in
    let b = item_in-record bytes s second in
    cc
