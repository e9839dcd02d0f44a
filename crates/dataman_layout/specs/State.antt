-- The record of a plan's state in 7 bytes: the bank in force, the plan's id and its number of items, which is at most a
-- limit that the layout and the plan's type set.
use Rattle.std.specs.Prelude.{◌≡◌, ℕ, ◌≤◌, ◌<◌, ◌&&◌, List, ◌++◌, length, Option, Some, None, nat_lt, nat_le, if◌then◌else◌}
use Rattle.mission_model.specs.declared.plan.PlanHead.{PlanHead}
use Rattle.dataman_layout.specs.Fields.{number_bytes, number_at}

-- the bytes of a state, field by field
unfoldable pub state_bytes : ℕ → PlanHead → List ℕ
state_bytes bank head = number_bytes 1 bank ++ number_bytes 4 head.id ++ number_bytes 2 head.count

-- the bytes are the state's: the number of so many bytes at each place; the bank is 0 or 1, and the count within the limit
pub record StateRecord (limit : ℕ) (bytes : List ℕ) (in_bank : ℕ) (head : PlanHead) : Type 0 where
  pub size : length bytes ≡ 7
  pub bank : number_at 0 1 bytes ≡ in_bank
  pub id : number_at 1 4 bytes ≡ head.id
  pub count : number_at 5 2 bytes ≡ head.count
  pub low : in_bank < 2
  pub within : head.count ≤ limit

-- the bank and the head of these bytes, if they are a state's
unfoldable pub state_in : ℕ → List ℕ → Option (ℕ × PlanHead)
state_in limit bytes =
    let bank = number_at 0 1 bytes in
    let count = number_at 5 2 bytes in
    if nat_lt bank 2 && nat_le count limit then Some (bank, record { id = number_at 1 4 bytes; count = count }) else None
