-- A mark as definitions see it.
use Rattle.std.specs.Prelude.{ℕ, List}
use Rattle.first_model.specs.declared.counts.Mark.{Mark}
use Rattle.first_model.specs.CountsList.{pairs_of}

-- a mark with its counts as a list
pub record PlainMark : Type 0 where
  pub id : ℕ
  pub index : ℕ
  pub pairs : List (ℕ × ℕ)

-- what a mark is seen as
abbrev pub plain_mark : Mark → PlainMark
plain_mark mark = record { id = mark.id; index = mark.index; pairs = pairs_of mark.counts }
