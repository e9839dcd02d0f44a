-- A source and a sink in memory, and how a call leaves them.
use Rattle.std.specs.Prelude.{◌≡◌, ◌⊎◌, ℕ, ◌<◌, List, ◌++◌, length, drop, Contains}
use Rattle.io_edges.specs.Count.{next_count}

-- the most bytes that one call moves
abbrev pub most_at_once : ℕ
most_at_once = 4096

-- the bytes left, the numbers of the calls that fail, and how many calls were made and failed
pub record SourceState : Type 0 where
  pub left : List ℕ
  pub fails : List ℕ
  pub calls : ℕ
  pub faults : ℕ

-- a call took the next n bytes
abbrev pub after_take : SourceState → ℕ → SourceState
after_take s n = record s { left = drop n s.left; calls = next_count s.calls }

-- a call failed and took nothing
abbrev pub after_failed_take : SourceState → SourceState
after_failed_take s = record s { calls = next_count s.calls; faults = next_count s.faults }

-- the bytes held, how many there may be, the numbers of the calls that fail, and how many calls were made and failed
pub record SinkState : Type 0 where
  pub held : List ℕ
  pub room : ℕ
  pub fails : List ℕ
  pub calls : ℕ
  pub faults : ℕ

-- the next call is one that is to fail, or has bytes for which no room is left
abbrev pub GiveFails : SinkState → List ℕ → Type 0
GiveFails s bytes = Contains s.fails (next_count s.calls) ⊎ ((0 < length bytes) × (length s.held ≡ s.room))

-- a call gave these bytes
abbrev pub after_give : SinkState → List ℕ → SinkState
after_give s bytes = record s { held = s.held ++ bytes; calls = next_count s.calls }

-- a call failed and gave nothing
abbrev pub after_failed_give : SinkState → SinkState
after_failed_give s = record s { calls = next_count s.calls; faults = next_count s.faults }
