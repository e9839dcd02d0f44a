-- The legs of a mission: its neighbouring stops, an item without a position being none.
use Rattle.std.specs.Prelude.{ℕ, ℤ, List, drop, filter}
use Rattle.std.specs.List.{zip, enumerate_from}
use Rattle.mission_model.specs.declared.plan.Item.{Item}
use Rattle.mission_model.specs.Command.{has_position}

-- the items that have a position, each with its seq, in the order of the list
abbrev pub stops : List Item → List (ℕ × Item)
stops items = filter (λ (stop : ℕ × Item). has_position stop.1) (enumerate_from 0 items)

-- each stop with the one behind it
abbrev pub legs_between : List (ℕ × Item) → List ((ℕ × Item) × (ℕ × Item))
legs_between list = zip list (drop 1 list)

-- the latitude and the longitude of a stop
abbrev pub place_of : ℕ × Item → ℤ × ℤ
place_of stop = (stop.1.x, stop.1.y)
