-- What taking a jump answers, and what it leaves of the counts.
use Rattle.std.specs.Prelude.{◌≡◌, ℕ, ◌+◌, ◌<◌, ◌≤◌}
use Rattle.mission_model.specs.declared.counts.Counts.{Counts}
use Rattle.mission_model.specs.CountsList.{pairs_of}
use Rattle.mission_model.specs.Pairs.{used_of, with_pair}
use Rattle.jump_counts.specs.declared.JumpAnswer.{JumpAnswer}
use Rattle.jump_counts.specs.declared.JumpAnswer.TheVariants.{Taken, Spent}

-- The jump at a seq, which may be taken this often, is taken with this answer: with repeats left it is used once more,
-- and the answer is how often it is used then; with none left nothing changes.
abbrev pub TakesJump : Counts → ℕ → ℕ → JumpAnswer → Counts → Type 0
TakesJump old seq repeats (Taken used) new = (used_of (pairs_of old) seq < repeats) × (used ≡ used_of (pairs_of old) seq + 1) × (pairs_of new ≡ with_pair (pairs_of old) seq used)
TakesJump old seq repeats Spent new = (repeats ≤ used_of (pairs_of old) seq) × (new ≡ old)
