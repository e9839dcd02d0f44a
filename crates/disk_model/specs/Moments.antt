-- What has held of each image since a moment, as calls follow one another.
use Rattle.std.specs.Prelude.{◌⊎◌, ℕ, ◌≤◌, List}
use Rattle.std.proofs.Common.{inl, inr, ⊎_elim, arith}
use Rattle.disk_model.specs.Disk.{DiskState, IsSound, Elapses}

-- Each image since old has P. Over a disk that tells only the images of now, each image now has.
pub record LeavesOnly (old new : DiskState) (P : List ℕ → Type 0) : Type 0 where
  pub later : old.moment ≤ new.moment
  pub each : (c : List ℕ) → new.since old.moment c → P c
  pub now : (c : List ℕ) → new.images c → P c
  -- what a run that began earlier adds to its images
  pub before : (t : ℕ) (c : List ℕ) → t ≤ old.moment → new.since t c → old.since t c ⊎ P c

-- before the first call
pub started : (old : DiskState) (P : List ℕ → Type 0) → IsSound old → ((c : List ℕ) → old.images c → P c) → LeavesOnly old old P
started old P sound here = record { later = omega arith; each = λ c left. here c (sound.only_now c left); now = here; before = λ t c le left. inl left }

-- one call more, after which each image has P
pub goes_on : (old mid new : DiskState) (P : List ℕ → Type 0) → LeavesOnly old mid P → Elapses mid new → ((c : List ℕ) → new.images c → P c) → LeavesOnly old new P
goes_on old mid new P so_far time here = record {
  later = omega (arith, so_far.later, time.later);
  each = λ c left. ⊎_elim (so_far.each c) (here c) (time.nothing_else old.moment c so_far.later left);
  now = here;
  before = λ t c le left. ⊎_elim (so_far.before t c le) (λ now. inr (here c now)) (time.nothing_else t c (omega (arith, le, so_far.later)) left);
}

-- a first call
pub first_call : (old new : DiskState) (P : List ℕ → Type 0) → IsSound old → ((c : List ℕ) → old.images c → P c) → Elapses old new → ((c : List ℕ) → new.images c → P c) → LeavesOnly old new P
first_call old new P sound before time here = goes_on old old new P (started old P sound before) time here

-- what follows from P has held, too
pub leaves_weaker : (old new : DiskState) (P Q : List ℕ → Type 0) → ((c : List ℕ) → P c → Q c) → LeavesOnly old new P → LeavesOnly old new Q
leaves_weaker old new P Q f all = record {
  later = all.later;
  each = λ c left. f c (all.each c left);
  now = λ c left. f c (all.now c left);
  before = λ t c le left. ⊎_elim (λ was. inl was) (λ p. inr (f c p)) (all.before t c le left);
}

-- one run after another
pub runs_on : (old mid new : DiskState) (P : List ℕ → Type 0) → LeavesOnly old mid P → LeavesOnly mid new P → LeavesOnly old new P
runs_on old mid new P first second = record {
  later = omega (arith, first.later, second.later);
  each = λ c left. ⊎_elim (first.each c) (λ p. p) (second.before old.moment c first.later left);
  now = second.now;
  before = λ t c le left. ⊎_elim (first.before t c le) (λ p. inr p) (second.before t c (omega (arith, le, first.later)) left);
}
