-- Bytes and states correspond one to one.
use Rattle.std.proofs.Common.{◌≡◌, ℕ, ◌^◌, ◌<◌, ◌≤◌, ◌&&◌, true, List, length, Option, Some, None, nat_lt, nat_le, unwrap_or, cond, refl, ap, ◌∙◌, arith}
use Rattle.std.proofs.lemmas.Bool.Decides.{nat_tests}
use Rattle.std.proofs.lemmas.List.{drop_all}
use Rattle.mission_model.specs.declared.plan.PlanHead.{PlanHead}
use Rattle.dataman_layout.specs.Fields.{number_bytes, number_at, IsBytes}
use Rattle.dataman_layout.specs.FieldLaws.{both, some_test, number_at-number_bytes, drop-field}
use Rattle.dataman_layout.specs.State.{state_bytes, StateRecord, state_in}

-- the bytes of a state are the state's
pub record-state_bytes : (limit : ℕ) (bank : ℕ) (head : PlanHead) → bank < 2 → head.id < 2 ^ 32 → head.count < 2 ^ 16 → head.count ≤ limit
    → StateRecord limit (state_bytes bank head) bank head
unfolding state_bytes number_bytes
record-state_bytes limit bank head low id count within =
    let bytes = state_bytes bank head in
    record {
      size = refl;
      bank = number_at-number_bytes 0 1 bank bytes (omega (arith, low)) refl;
      id = number_at-number_bytes 1 4 head.id bytes (omega (arith, id)) refl;
      count = number_at-number_bytes 5 2 head.count bytes (omega (arith, count)) refl;
      low = low;
      within = within;
    }

-- bytes that are a state's are its bytes
pub state_bytes-record : (limit : ℕ) (bytes : List ℕ) (bank : ℕ) (head : PlanHead) → IsBytes bytes → StateRecord limit bytes bank head → bytes ≡ state_bytes bank head
unfolding state_bytes number_bytes
state_bytes-record limit bytes bank head low is =
    let size = is.size in
    let from_count = drop-field 5 2 7 head.count bytes _ low refl (omega arith) is.count (drop_all 7 bytes (omega arith)) in
    let from_id = drop-field 1 4 5 head.id bytes _ low refl (omega arith) is.id from_count in
    drop-field 0 1 1 bank bytes _ low refl (omega arith) is.bank from_id

-- bytes that are a state's are read as it
pub state_in-record : (limit : ℕ) (bytes : List ℕ) (bank : ℕ) (head : PlanHead) → StateRecord limit bytes bank head → state_in limit bytes ≡ Some (bank, head)
unfolding state_in
state_in-record limit bytes bank head is =
    let low : nat_lt bank 2 ≡ true = grind (arith, nat_tests, is.low) in
    let within : nat_le head.count limit ≡ true = grind (arith, nat_tests, is.within) in
    let same : state_in limit bytes ≡ (cond (nat_lt bank 2 && nat_le head.count limit) (Some (bank, head)) None) =
    (λ i. cond (nat_lt (is.bank i) 2 && nat_le (is.count i) limit) (Some (is.bank i, record { id = is.id i; count = is.count i })) None) in
    same ∙ (λ i. cond (low i && within i) (Some (bank, head)) None)

-- what bytes are read as is their state
pub record-state_in : (limit : ℕ) (bytes : List ℕ) (bank : ℕ) (head : PlanHead) → length bytes ≡ 7 → state_in limit bytes ≡ Some (bank, head) → StateRecord limit bytes bank head
unfolding state_in
record-state_in limit bytes bank head size e =
    let test = some_test (nat_lt (number_at 0 1 bytes) 2 && nat_le (number_at 5 2 bytes) limit) _ (bank, head) e in
    let parts = both (nat_lt (number_at 0 1 bytes) 2) (nat_le (number_at 5 2 bytes) limit) test.0 in
    let low : number_at 0 1 bytes < 2 = grind (arith, nat_tests, parts.0) in
    let within : number_at 5 2 bytes ≤ limit = grind (arith, nat_tests, parts.1) in
    let pair = ap (λ (o : Option (ℕ × PlanHead)). unwrap_or o (bank, head)) test.1 in
    let first : number_at 0 1 bytes ≡ bank = ap (λ (p : ℕ × PlanHead). p.0) pair in
    let second : record { id = number_at 1 4 bytes; count = number_at 5 2 bytes } ≡ head = ap (λ (p : ℕ × PlanHead). p.1) pair in
    let count = ap (λ (h : PlanHead). h.count) second in
    record {
      size = size;
      bank = first;
      id = ap (λ (h : PlanHead). h.id) second;
      count = count;
      low = omega (arith, first, low);
      within = omega (arith, count, within);
    }

-- the bytes of a state are read as it under each limit that its count meets
pub state_in-state_bytes : (limit : ℕ) (bank : ℕ) (head : PlanHead) → bank < 2 → head.id < 2 ^ 32 → head.count < 2 ^ 16 → head.count ≤ limit
    → state_in limit (state_bytes bank head) ≡ Some (bank, head)
state_in-state_bytes limit bank head low id count within = state_in-record limit (state_bytes bank head) bank head (record-state_bytes limit bank head low id count within)
