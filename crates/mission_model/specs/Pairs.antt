-- Pairs of a jump's seq and its used number: how a list of them is kept, looked up and changed.
use Rattle.std.specs.Prelude.{◌≡◌, ◌⊎◌, ℕ, ◌+◌, ◌<◌, Bool, true, false, ◌&&◌, List, [], ◌∷◌, length, get_or, take, drop, nat_le, nat_lt, ◌==◌, if◌then◌else◌}
use Rattle.mission_model.specs.declared.limits.TheConstants.{MAX_JUMPS}

-- the seqs rise from this one on, and each used number is at least 1
abbrev pub rises_from : ℕ → List (ℕ × ℕ) → Bool
rises_from low [] = true
rises_from low ((seq, used) ∷ pairs) = nat_le low seq && nat_le 1 used && rises_from (seq + 1) pairs

-- the cells hold no pair
abbrev pub are_empty : List (ℕ × ℕ) → Bool
are_empty [] = true
are_empty ((seq, used) ∷ cells) = seq == 0 && used == 0 && are_empty cells

-- the first len cells are pairs whose seqs rise and whose used numbers are at least 1; the cells behind them are empty
abbrev pub is_kept : ℕ → List (ℕ × ℕ) → Bool
is_kept len cells = nat_le len MAX_JUMPS && rises_from 0 (take len cells) && are_empty (drop len cells)

-- the used number of a seq, 0 without a pair
abbrev pub used_of : List (ℕ × ℕ) → ℕ → ℕ
used_of [] seq = 0
used_of ((other, used) ∷ pairs) seq = if other == seq then used else used_of pairs seq

-- the seq has a pair
abbrev pub has_pair : List (ℕ × ℕ) → ℕ → Bool
has_pair [] seq = false
has_pair ((other, used) ∷ pairs) seq = if other == seq then true else has_pair pairs seq

-- the seq has a pair among them, or one more pair finds room
abbrev pub Takes : List (ℕ × ℕ) → ℕ → Type 0
Takes pairs seq = (has_pair pairs seq ≡ true) ⊎ (length pairs < MAX_JUMPS)

-- the pairs with this used number for the seq, in its place among rising seqs
abbrev pub with_pair : List (ℕ × ℕ) → ℕ → ℕ → List (ℕ × ℕ)
with_pair [] seq used = (seq, used) ∷ []
with_pair ((other, count) ∷ pairs) seq used =
    if other == seq then (seq, used) ∷ pairs else (if nat_lt seq other then (seq, used) ∷ (other, count) ∷ pairs else (other, count) ∷ with_pair pairs seq used)

-- how many of the first pairs are of lesser seqs
abbrev pub pair_place : List (ℕ × ℕ) → ℕ → ℕ
pair_place [] seq = 0
pair_place ((other, used) ∷ pairs) seq = if nat_lt other seq then 1 + pair_place pairs seq else 0

-- the pair at the place is the seq's
abbrev pub is_at : List (ℕ × ℕ) → ℕ → ℕ → Bool
is_at pairs place seq = nat_lt place (length pairs) && (get_or pairs place (0, 0)).0 == seq
