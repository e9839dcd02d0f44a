-- The signs by which two segments are told to meet.
use Rattle.std.specs.Prelude.{ℤ, pos, Bool, not, ◌&&◌, ◌||◌, int_le, int_lt}
use Rattle.std.specs.Int.{int_min, int_max}
use Rattle.fence_polygon.specs.Turn.{turn}

-- the range that p and q span and the one that a and b span have a number in common
unfoldable pub overlap : ℤ → ℤ → ℤ → ℤ → Bool
overlap p q a b = int_le (int_min p q) (int_max a b) && int_le (int_min a b) (int_max p q)

-- both numbers are above 0, or both below
unfoldable pub same_sign : ℤ → ℤ → Bool
same_sign m n = (int_lt (pos 0) m && int_lt (pos 0) n) || (int_lt m (pos 0) && int_lt n (pos 0))

-- both places lie beside the line through a and b, on one side of it
abbrev pub on_one_side : ℤ × ℤ → ℤ × ℤ → ℤ × ℤ → ℤ × ℤ → Bool
on_one_side a b c d = same_sign (turn a b c) (turn a b d)

-- the ranges of both coordinates overlap
abbrev pub boxes_overlap : ℤ × ℤ → ℤ × ℤ → ℤ × ℤ → ℤ × ℤ → Bool
boxes_overlap p q a b = overlap p.0 q.0 a.0 b.0 && overlap p.1 q.1 a.1 b.1

-- neither segment lies on one side of the other's line
abbrev pub lines_cross : ℤ × ℤ → ℤ × ℤ → ℤ × ℤ → ℤ × ℤ → Bool
lines_cross p q a b = not (on_one_side p q a b) && not (on_one_side a b p q)
