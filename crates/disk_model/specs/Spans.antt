-- Ranges of places, a few of which cover what was written since the last sync.
use Rattle.std.specs.Prelude.{◌≡◌, ◌⊎◌, ◌<◌, ◌≤◌, ℕ, List, length}
use Rattle.std.specs.List.{All}
use Rattle.disk_model.specs.declared.spans.Span.{Span}

-- a place in none of this range
abbrev pub Beside : ℕ → Span → Type 0
Beside k span = (k < span.from) ⊎ (span.to ≤ k)

-- a place in none of these ranges
abbrev pub OutOf : List Span → ℕ → Type 0
OutOf spans k = All (Beside k) spans

-- ranges of a list of n
abbrev pub EndBy : ℕ → List Span → Type 0
EndBy n spans = All (λ span. span.to ≤ n) spans

-- some of the old ranges and this one were taken into the hull, and the others are kept
pub record Takes (old new : List Span) (span hull : Span) : Type 0 where
  pub size : length new ≡ length old
  pub covers : (k : ℕ) → OutOf new k → Beside k hull → OutOf old k
  pub around : (k : ℕ) → Beside k hull → Beside k span
  pub end : (n : ℕ) → EndBy n old → span.to ≤ n → EndBy n new
  pub low : (n : ℕ) → EndBy n old → span.to ≤ n → hull.to ≤ n
