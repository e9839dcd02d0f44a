-- Histories of a machine.
use Rattle.std.specs.Prelude.{◌≡◌, ◌≢◌, ℕ, List, [], ◌∷◌, ◌++◌, Some, slice_get, slice_set}
use Rattle.turn_cell.specs.declared.seat_view.Entry.{Entry}
use Rattle.turn_cell.specs.declared.machine.StepOut.{StepOut}
use Rattle.turn_cell.specs.declared.machine.StepOut.TheVariants.{Made}

module _ {S L I N : Type 0} where
  -- the locals that the history leaves
  abbrev pub locals_left : List L → List (Entry S L I N) → List L
  locals_left ls [] = ls
  locals_left ls (e ∷ es) = locals_left (slice_set ls e.number e.after) es

  -- no entry has this number
  abbrev pub HasNone : ℕ → List (Entry S L I N) → Type 0
  HasNone n [] = Unit {0}
  HasNone n (e ∷ es) = (e.number ≢ n) × HasNone n es

  -- each entry has this number
  abbrev pub Only : ℕ → List (Entry S L I N) → Type 0
  Only n [] = Unit {0}
  Only n (e ∷ es) = (e.number ≡ n) × Only n es

  abbrev pub line_of : Entry S L I N → N
  line_of e = e.line

  -- the history h begins with seen, and goes on without entries of this number
  abbrev pub SawOwn : List (Entry S L I N) → ℕ → List (Entry S L I N) → Type 0
  SawOwn h n seen = (more : List (Entry S L I N)) × (h ≡ seen ++ more) × HasNone n more

module _ {S L : Type 0} where
  -- each local has its place as its number, and the shared part fits it
  abbrev pub EachFits : (L → ℕ) → (S → L → Type 0) → S → List L → Type 0
  EachFits number fits s ls = (k : ℕ) (l : L) → slice_get ls k ≡ Some l → (number l ≡ k) × fits s l

module _ {S L I N : Type 0} (suits : L → I → Type 0) (steps : S → L → I → StepOut N → S → L → Type 0) where
  -- the entries are steps, one after another, from s to s'
  abbrev pub Follows : S → List L → List (Entry S L I N) → S → Type 0
  Follows s ls [] s' = s' ≡ s
  Follows s ls (e ∷ es) s' = (slice_get ls e.number ≡ Some e.before) × suits e.before e.input × steps s e.before e.input (Made e.line) e.shared e.after × Follows e.shared (slice_set ls e.number e.after) es s'

module _ {S L I N : Type 0} (number : L → ℕ) (fits : S → L → Type 0) (suits : L → I → Type 0) (steps : S → L → I → StepOut N → S → L → Type 0) where
  abbrev pub Legal : S → List L → List (Entry S L I N) → S → Type 0
  Legal s ls h s' = Follows suits steps s ls h s' × EachFits number fits s' (locals_left ls h)
