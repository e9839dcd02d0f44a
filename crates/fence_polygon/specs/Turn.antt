-- On which side of a line a place lies.
use Rattle.std.specs.Prelude.{ℤ, ◌-ℤ◌, ◌*ℤ◌}

-- the cross product of b - a and c - a, each a latitude and a longitude: 0 where c lies on the line through a and b, and of
-- the one sign on its one side and of the other on its other
abbrev pub turn : ℤ × ℤ → ℤ × ℤ → ℤ × ℤ → ℤ
turn a b c = (b.0 -ℤ a.0) *ℤ (c.1 -ℤ a.1) -ℤ (b.1 -ℤ a.1) *ℤ (c.0 -ℤ a.0)
