-- How often the jumps of a mission repeat, as far as it is read.
use Rattle.std.specs.Prelude.{◌≡◌, ◌+◌, ◌<◌, ◌≤◌, ◌&&◌, ◌==◌, nat_le, nat_lt, ℕ, Bool, true, false, List, [], ◌∷◌, ◌++◌, length, is_some, slice_get, Option, Some, None, cond, if◌then◌else◌}
use Rattle.std.specs.List.{list_all}
use Rattle.std.proofs.Common.{refl, sym, ap, subst, inr, ⊎_elim, arith, ◌∙◌}
use Rattle.std.proofs.Math.Nat.{zero-add}
use Rattle.std.proofs.lemmas.Bool.{cases_eq, cases_lt}
use Rattle.std.proofs.lemmas.Bool.Decides.{nat_tests}
use Rattle.std.proofs.lemmas.List.Sums.{sum_by-append}
use Rattle.mission_model.specs.declared.command.Jump.{Jump}
use Rattle.mission_model.specs.declared.limits.TheConstants.{MAX_JUMPS}
use Rattle.mission_model.specs.declared.message.AckCode.{AckCode}
use Rattle.mission_model.specs.declared.message.AckCode.TheVariants.{NoSpace}
use Rattle.mission_model.specs.declared.plan.Item.{Item}
use Rattle.mission_model.specs.declared.plan.PlanType.TheVariants.{Mission}
use Rattle.mission_model.specs.Command.{jump_of}
use Rattle.mission_model.specs.ItemCode.{ItemCode}
use Rattle.mission_model.specs.Pairs.{Takes, rises_from, used_of, with_pair}
use Rattle.mission_model.specs.PlanCode.{PlanCode, jumps_in, jump_code_at, code_or}
use Rattle.recovery.specs.Faults.{allows, jump_in, counts_jump}
use Rattle.recovery.specs.Found.{repeats_by, noted}
use Rattle.recovery.proofs.Lists.{get_push, get_last, get_behind, length-push}

-- the number of a seq once it was set, and of the others
used_here : (pairs : List (ℕ × ℕ)) (seq number : ℕ) → used_of (with_pair pairs seq number) seq ≡ number
used_here [] seq number =
    let same : (seq == seq) ≡ true = grind (arith, nat_tests) in
    ap (λ (b : Bool). cond b number 0) same
used_here ((other, used) ∷ pairs) seq number = by_same (used_here pairs seq number) (other == seq) refl
  where
    same_seq : (seq == seq) ≡ true
    same_seq = grind (arith, nat_tests)

    by_less : used_of (with_pair pairs seq number) seq ≡ number → (c : Bool) → (other == seq) ≡ false → used_of (cond c ((seq, number) ∷ (other, used) ∷ pairs) ((other, used) ∷ with_pair pairs seq number)) seq ≡ number
    by_less rest true differ = ap (λ (b : Bool). cond b number (cond (other == seq) used (used_of pairs seq))) same_seq
    by_less rest false differ = ap (λ (b : Bool). cond b used (used_of (with_pair pairs seq number) seq)) differ ∙ rest

    by_same : used_of (with_pair pairs seq number) seq ≡ number → (b : Bool) → (other == seq) ≡ b
        → used_of (cond b ((seq, number) ∷ pairs) (cond (nat_lt seq other) ((seq, number) ∷ (other, used) ∷ pairs) ((other, used) ∷ with_pair pairs seq number))) seq ≡ number
    by_same rest true is = ap (λ (b : Bool). cond b number (used_of pairs seq)) same_seq
    by_same rest false is = by_less rest (nat_lt seq other) is

used_there : (pairs : List (ℕ × ℕ)) (seq number k : ℕ) → (k ≡ seq → ⊥) → used_of (with_pair pairs seq number) k ≡ used_of pairs k
used_there [] seq number k differ =
    let other : (seq == k) ≡ false = grind (arith, nat_tests, differ) in
    ap (λ (b : Bool). cond b number 0) other
used_there ((other, used) ∷ pairs) seq number k differ = by_same (used_there pairs seq number k differ) (other == seq) refl
  where
    apart : (seq == k) ≡ false
    apart = grind (arith, nat_tests, differ)

    by_less : used_of (with_pair pairs seq number) k ≡ used_of pairs k → (c : Bool) → used_of (cond c ((seq, number) ∷ (other, used) ∷ pairs) ((other, used) ∷ with_pair pairs seq number)) k ≡ cond (other == k) used (used_of pairs k)
    by_less rest true = ap (λ (b : Bool). cond b number (cond (other == k) used (used_of pairs k))) apart
    by_less rest false = ap (λ (n : ℕ). cond (other == k) used n) rest

    by_same : used_of (with_pair pairs seq number) k ≡ used_of pairs k → (b : Bool) → (other == seq) ≡ b
        → used_of (cond b ((seq, number) ∷ pairs) (cond (nat_lt seq other) ((seq, number) ∷ (other, used) ∷ pairs) ((other, used) ∷ with_pair pairs seq number))) k ≡ cond (other == k) used (used_of pairs k)
    by_same rest true is =
        let first : (other == k) ≡ false = grind (arith, nat_tests, is, differ) in
        ap (λ (b : Bool). cond b number (used_of pairs k)) apart ∙ sym (ap (λ (b : Bool). cond b used (used_of pairs k)) first)
    by_same rest false is = by_less rest (nat_lt seq other)

-- one pair more at most
length-with_pair : (pairs : List (ℕ × ℕ)) (seq number : ℕ) → length (with_pair pairs seq number) ≤ length pairs + 1
length-with_pair [] seq number = omega arith
length-with_pair ((other, used) ∷ pairs) seq number = by_same (length-with_pair pairs seq number) (other == seq)
  where
    by_less : length (with_pair pairs seq number) ≤ length pairs + 1 → (c : Bool) → length (cond c ((seq, number) ∷ (other, used) ∷ pairs) ((other, used) ∷ with_pair pairs seq number)) ≤ length ((other, used) ∷ pairs) + 1
    by_less rest true = omega arith
    by_less rest false = omega (arith, rest)

    by_same : length (with_pair pairs seq number) ≤ length pairs + 1 → (b : Bool) → length (cond b ((seq, number) ∷ pairs) (cond (nat_lt seq other) ((seq, number) ∷ (other, used) ∷ pairs) ((other, used) ∷ with_pair pairs seq number))) ≤ length ((other, used) ∷ pairs) + 1
    by_same rest true = omega arith
    by_same rest false = by_less rest (nat_lt seq other)

-- what was noted of a jump
noted_here : (pairs : List (ℕ × ℕ)) (seq : ℕ) (jump : Option Jump) → used_of pairs seq ≡ 0 → used_of (noted pairs seq jump) seq ≡ repeats_by jump
noted_here pairs seq None none = none
noted_here pairs seq (Some jump) none = by_number (jump.repeats == 0) refl
  where
    by_number : (b : Bool) → (jump.repeats == 0) ≡ b → used_of (cond b pairs (with_pair pairs seq jump.repeats)) seq ≡ jump.repeats
    by_number true is =
        let zero_is : jump.repeats ≡ 0 = grind (arith, nat_tests, is) in
        none ∙ sym zero_is
    by_number false is = used_here pairs seq jump.repeats

noted_there : (pairs : List (ℕ × ℕ)) (seq : ℕ) (jump : Option Jump) (k : ℕ) → (k ≡ seq → ⊥) → used_of (noted pairs seq jump) k ≡ used_of pairs k
noted_there pairs seq None k differ = refl
noted_there pairs seq (Some jump) k differ = by_number (jump.repeats == 0)
  where
    by_number : (b : Bool) → used_of (cond b pairs (with_pair pairs seq jump.repeats)) k ≡ used_of pairs k
    by_number true = refl
    by_number false = used_there pairs seq jump.repeats k differ

length-noted : (pairs : List (ℕ × ℕ)) (seq : ℕ) (jump : Option Jump) → length (noted pairs seq jump) ≤ length pairs + cond (is_some jump) 1 0
length-noted pairs seq None = omega arith
length-noted pairs seq (Some jump) = by_number (jump.repeats == 0)
  where
    by_number : (b : Bool) → length (cond b pairs (with_pair pairs seq jump.repeats)) ≤ length pairs + 1
    by_number true = omega arith
    by_number false = length-with_pair pairs seq jump.repeats

-- the jump of one item more
pub repeats-push : (items : List Item) (item : Item) (pairs : List (ℕ × ℕ)) (seq : ℕ) → length items ≡ seq → ((k : ℕ) → used_of pairs k ≡ repeats_by (jump_in (slice_get items k)))
    → (k : ℕ) → used_of (noted pairs seq (jump_of item)) k ≡ repeats_by (jump_in (slice_get (items ++ item ∷ []) k))
repeats-push items item pairs seq long has k = ⊎_elim here other (cases_eq k seq)
  where
    none_yet : used_of pairs seq ≡ 0
    none_yet = has seq ∙ ap (λ (o : Option Item). repeats_by (jump_in o)) (get_behind items seq (omega (arith, long)))

    here : k ≡ seq → used_of (noted pairs seq (jump_of item)) k ≡ repeats_by (jump_in (slice_get (items ++ item ∷ []) k))
    here same =
        subst (λ (n : ℕ). used_of (noted pairs seq (jump_of item)) n ≡ repeats_by (jump_in (slice_get (items ++ item ∷ []) n))) (sym same)
        (noted_here pairs seq (jump_of item) none_yet ∙ sym (ap (λ (o : Option Item). repeats_by (jump_in o)) (get_last items item seq (sym long))))

    behind : seq < k → slice_get items k ≡ slice_get (items ++ item ∷ []) k
    behind past = get_behind items k (omega (arith, past, long)) ∙ sym (get_behind (items ++ item ∷ []) k (omega (arith, past, long, length-push items item)))

    same_item : (k ≡ seq → ⊥) → slice_get items k ≡ slice_get (items ++ item ∷ []) k
    same_item differ = ⊎_elim (λ low. sym (get_push items item k (omega (arith, low, long)))) (λ high. behind (omega (arith, high, differ))) (cases_lt k seq)

    other : (k ≡ seq → ⊥) → used_of (noted pairs seq (jump_of item)) k ≡ repeats_by (jump_in (slice_get (items ++ item ∷ []) k))
    other differ = noted_there pairs seq (jump_of item) k differ ∙ has k ∙ ap (λ (o : Option Item). repeats_by (jump_in o)) (same_item differ)

jumps_in-push : (items : List Item) (item : Item) → jumps_in (items ++ item ∷ []) ≡ jumps_in items + cond (is_some (jump_of item)) 1 0
jumps_in-push items item = sum_by-append (λ x. if is_some (jump_of x) then 1 else 0) items (item ∷ []) ∙ ap (λ (n : ℕ). jumps_in items + n) (zero-add (if is_some (jump_of item) then 1 else 0))

pub few-push : (items : List Item) (item : Item) (pairs : List (ℕ × ℕ)) (seq : ℕ) → length pairs ≤ jumps_in items → length (noted pairs seq (jump_of item)) ≤ jumps_in (items ++ item ∷ [])
few-push items item pairs seq few = omega (arith, few, length-noted pairs seq (jump_of item), jumps_in-push items item)

-- a jump that the check of a mission takes finds room
code_none : (a b : Option AckCode) → code_or a b ≡ None → b ≡ None
code_none None b none = none
code_none (Some code) b none = absurd cc

room_left : (count place jumps : ℕ) (jump : Jump) → jump_code_at count place jumps (Some jump) ≡ None → jumps < MAX_JUMPS
room_left count place jumps jump none = by_room (nat_le MAX_JUMPS jumps) _ refl none
  where
    by_room : (b : Bool) (rest : Option AckCode) → nat_le MAX_JUMPS jumps ≡ b → cond b (Some NoSpace) rest ≡ None → jumps < MAX_JUMPS
    by_room true rest is none = absurd cc
    by_room false rest is none = grind (arith, nat_tests, is)

pub takes_jump : (count : ℕ) (items : List Item) (item : Item) (jump : Jump) (pairs : List (ℕ × ℕ)) (seq : ℕ) → PlanCode Mission count items item ≡ None → jump_of item ≡ Some jump → length pairs ≤ jumps_in items → Takes pairs seq
unfolding PlanCode
takes_jump count items item jump pairs seq none is few =
    let placed = code_none (ItemCode Mission item) (jump_code_at count (length items) (jumps_in items) (jump_of item)) none in
    let room = room_left count (length items) (jumps_in items) jump (ap (jump_code_at count (length items) (jumps_in items)) (sym is) ∙ placed) in
    inr (omega (arith, room, few))

-- so each item's jump is noted
pub kept_is : (count : ℕ) (items : List Item) (item : Item) (pairs kept : List (ℕ × ℕ)) (seq : ℕ) → PlanCode Mission count items item ≡ None → length pairs ≤ jumps_in items
    → (Takes pairs seq → kept ≡ noted pairs seq (jump_of item)) → (jump_of item ≡ None → kept ≡ pairs) → kept ≡ noted pairs seq (jump_of item)
kept_is count items item pairs kept seq none few takes else_ = by_jump (jump_of item) refl
  where
    by_jump : (o : Option Jump) → jump_of item ≡ o → kept ≡ noted pairs seq (jump_of item)
    by_jump None is = else_ is ∙ sym (ap (noted pairs seq) is)
    by_jump (Some jump) is = takes (takes_jump count items item jump pairs seq none is few)

-- pairs of used jumps are within the repeats exactly where each counts a jump
allows_is : (o : Option Jump) (used : ℕ) → 1 ≤ used → nat_le used (repeats_by o) ≡ allows o used
allows_is None used some =
    let over : nat_le used 0 ≡ false = grind (arith, nat_tests, some) in over
allows_is (Some jump) used some = refl

both_true : (a b : Bool) → (a && b) ≡ true → (a ≡ true) × (b ≡ true)
both_true true b is = (refl, is)
both_true false b is = absurd cc

pub same_tests : (items : List Item) (repeats : List (ℕ × ℕ)) (low : ℕ) (pairs : List (ℕ × ℕ)) → ((k : ℕ) → used_of repeats k ≡ repeats_by (jump_in (slice_get items k))) → rises_from low pairs ≡ true
    → list_all (λ pair. nat_le pair.1 (used_of repeats pair.0)) pairs ≡ list_all (counts_jump items) pairs
same_tests items repeats low [] has rise = refl
same_tests items repeats low ((seq, used) ∷ pairs) has rise =
    let parts = both_true (nat_le low seq && nat_le 1 used) (rises_from (seq + 1) pairs) rise in
    let first = both_true (nat_le low seq) (nat_le 1 used) parts.0 in
    let some : 1 ≤ used = grind (arith, nat_tests, first.1) in
    let here : nat_le used (used_of repeats seq) ≡ allows (jump_in (slice_get items seq)) used = ap (nat_le used) (has seq) ∙ allows_is (jump_in (slice_get items seq)) used some in
    let rest = same_tests items repeats (seq + 1) pairs has parts.1 in
    λ i. here i && rest i
