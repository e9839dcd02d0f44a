-- What loops over a source and a sink take and give.
use Rattle.std.specs.Prelude.{ℕ, ◌<◌, ◌≤◌, List, length, take, Option}
use Rattle.std.specs.Io.KnownBytes.{Appends, Consumes}
use Rattle.io_edges.specs.Count.{Rose}
use Rattle.io_edges.specs.declared.whole.ReadFault.{ReadFault}
use Rattle.io_edges.specs.declared.whole.ReadFault.TheVariants as fault

-- the next bytes were taken, at most `limit` of them
abbrev pub TakesWithin : ℕ → Option (List ℕ) → Option (List ℕ) → Type 0
TakesWithin limit before after = (bytes : List ℕ) × Consumes before after bytes × (length bytes ≤ limit)

-- the next bytes were taken, more than `limit` of them
abbrev pub TakesMore : ℕ → Option (List ℕ) → Option (List ℕ) → Type 0
TakesMore limit before after = (bytes : List ℕ) × Consumes before after bytes × (limit < length bytes)

-- a front of the bytes was given, and not all of them
abbrev pub GivesFront : List ℕ → Option (List ℕ) → Option (List ℕ) → Type 0
GivesFront bytes before after = (n : ℕ) × (n < length bytes) × Appends before after (take n bytes)

-- why a read to the end gave no bytes
abbrev pub HasCause : ℕ → ℕ → ℕ → Option (List ℕ) → Option (List ℕ) → ReadFault → Type 0
HasCause limit before now old new fault.Failed = Rose before now × TakesWithin limit old new
HasCause limit before now old new fault.TooLong = TakesMore limit old new
HasCause limit before now old new fault.Memory = TakesWithin limit old new
