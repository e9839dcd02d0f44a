-- The images since a moment, of a disk whose changes are all kept.
use Rattle.std.specs.Prelude.{◌≡◌, ◌⊎◌, ℕ, zero, suc, ◌≤◌, List, [], ◌∷◌, ◌++◌, length, replicate}
use Rattle.std.proofs.Common.{inl, inr, ⊎_elim, refl, ◌∙◌, ap, arith}
use Rattle.disk_model.specs.Bytes.{Torn}
use Rattle.disk_model.specs.Overlay.{overlay, length-overlay, torn_overlay}

-- a change that was made: a write, or a sync or restart, which settle what is read
pub data Change : Type 0 where
  Put : (at : ℕ) (bytes : List ℕ) → Change
  Settle : Change

-- what is read at a moment, and what a cut then may leave
pub record Moment : Type 1 where
  pub bytes : List ℕ
  pub images : List ℕ → Type 0

-- a write allows any bytes in its range; what is settled is the only image
abbrev pub changed : Moment → Change → Moment
changed s (Put at bytes) = record { bytes = overlay at bytes s.bytes; images = λ c. (d : List ℕ) × s.images d × Torn at (length bytes) d c }
changed s Settle = record { bytes = s.bytes; images = λ c. c ≡ s.bytes }

-- the moment after these changes
abbrev pub replay : Moment → List Change → Moment
replay s [] = s
replay s (x ∷ xs) = replay (changed s x) xs

-- what a cut may have left at the t-th of these moments or later
abbrev pub Since : Moment → List Change → ℕ → List ℕ → Type 0
Since s [] zero c = s.images c
Since s [] (suc t) c = ⊥
Since s (x ∷ xs) zero c = s.images c ⊎ Since (changed s x) xs zero c
Since s (x ∷ xs) (suc t) c = Since (changed s x) xs t c

-- zeros, and no other image
abbrev pub zero_moment : ℕ → Moment
zero_moment size = record { bytes = replicate size 0; images = λ c. c ≡ replicate size 0 }

pub counts_now : (s : Moment) (xs : List Change) (t : ℕ) (c : List ℕ) → t ≤ length xs → (replay s xs).images c → Since s xs t c
counts_now s [] zero c le now = now
counts_now s [] (suc t) c le now = absurd (omega arith)
counts_now s (x ∷ xs) zero c le now = inr (counts_now (changed s x) xs zero c (omega arith) now)
counts_now s (x ∷ xs) (suc t) c le now = counts_now (changed s x) xs t c (omega arith) now

pub only_now : (s : Moment) (xs : List Change) (c : List ℕ) → Since s xs (length xs) c → (replay s xs).images c
only_now s [] c since = since
only_now s (x ∷ xs) c since = only_now (changed s x) xs c since

pub replay_last : (s : Moment) (xs : List Change) (x : Change) → replay s (xs ++ x ∷ []) ≡ changed (replay s xs) x
replay_last s [] x = refl
replay_last s (y ∷ xs) x = replay_last (changed s y) xs x

-- an image since t after one change more is an earlier one or one of now
pub nothing_else : (s : Moment) (xs : List Change) (x : Change) (t : ℕ) (c : List ℕ) → t ≤ length xs → Since s (xs ++ x ∷ []) t c → Since s xs t c ⊎ (changed (replay s xs) x).images c
nothing_else s [] x zero c le since = since
nothing_else s [] x (suc t) c le since = absurd (omega arith)
nothing_else s (y ∷ xs) x zero c le since = ⊎_elim (λ was. inl (inl was)) (λ then. ⊎_elim (λ was. inl (inr was)) (λ now. inr now) (nothing_else (changed s y) xs x zero c (omega arith) then)) since
nothing_else s (y ∷ xs) x (suc t) c le since = nothing_else (changed s y) xs x t c (omega arith) since

-- and no earlier one is forgotten
pub keeps : (s : Moment) (xs : List Change) (x : Change) (t : ℕ) (c : List ℕ) → t ≤ length xs → Since s xs t c → Since s (xs ++ x ∷ []) t c
keeps s [] x zero c le since = inl since
keeps s [] x (suc t) c le since = absurd (omega arith)
keeps s (y ∷ xs) x zero c le since = ⊎_elim (λ was. inl was) (λ then. inr (keeps (changed s y) xs x zero c (omega arith) then)) since
keeps s (y ∷ xs) x (suc t) c le since = keeps (changed s y) xs x t c (omega arith) since

-- what is read is always an image
pub seen_in : (s : Moment) (xs : List Change) → s.images s.bytes → (replay s xs).images (replay s xs).bytes
seen_in s [] here = here
seen_in s (Put at bytes ∷ xs) here = seen_in (changed s (Put at bytes)) xs (s.bytes, here, torn_overlay at bytes s.bytes)
seen_in s (Settle ∷ xs) here = seen_in (changed s Settle) xs refl

-- each image has the size of the disk
pub sized : (n : ℕ) (s : Moment) (xs : List Change) → length s.bytes ≡ n → ((c : List ℕ) → s.images c → length c ≡ n) → (c : List ℕ) → (replay s xs).images c → length c ≡ n
sized n s [] seen all c left = all c left
sized n s (Put at bytes ∷ xs) seen all c left =
    sized n (changed s (Put at bytes)) xs (length-overlay bytes at s.bytes ∙ seen) (λ d from. from.2.size ∙ all from.0 from.1) c left
sized n s (Settle ∷ xs) seen all c left = sized n (changed s Settle) xs seen (λ d is. ap length is ∙ seen) c left
