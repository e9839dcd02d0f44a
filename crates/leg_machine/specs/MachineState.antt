-- What a contract sees of a leg machine.
use Rattle.std.specs.Prelude.{ℕ, ◌+◌, ◌==◌, Bool, false, List, [], if◌then◌else◌}

-- the number of the mission's items; the index; how often each jump was taken, as pairs of its seq and its used number;
-- whether the leg at the index was shown and may be reached
pub record MachineState : Type 0 where
  pub count : ℕ
  pub index : ℕ
  pub pairs : List (ℕ × ℕ)
  pub at_leg : Bool

-- a machine of a mission of so many items, at an index, with these uses of its jumps: no leg was shown yet
abbrev pub made : ℕ → ℕ → List (ℕ × ℕ) → MachineState
made count index pairs = record { count = count; index = index; pairs = pairs; at_leg = false }

-- the machine after its index was set: no leg was shown there yet, and at the first item no jump was taken yet
abbrev pub set_to : MachineState → ℕ → MachineState
set_to s seq = made s.count seq (if seq == 0 then [] else s.pairs)

-- the machine after its target was reached: where a leg was shown that may be reached, it goes one on
abbrev pub after_reached : MachineState → MachineState
after_reached s = if s.at_leg then made s.count (s.index + 1) s.pairs else s
