-- The passes that a cell is opened with.
use Rattle.std.specs.Prelude.{◌≡◌, ℕ, List, [], Some, slice_get}
use Rattle.turn_cell.specs.declared.seat_view.SeatView.{SeatView}

module _ {S L I N : Type 0} where
  -- a pass that has seen nothing, with the k-th of the opening locals
  abbrev pub IsSeated : S → List L → ℕ → SeatView S L I N → L → Type 0
  IsSeated s ls k v l = (v.number ≡ k) × (v.shared ≡ Some s) × (v.locals ≡ ls) × (v.seen ≡ []) × (slice_get ls k ≡ Some l)
