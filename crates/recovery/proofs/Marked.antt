-- The mark cell, by what its payload is judged to be.
use Rattle.std.specs.Prelude.{◌≡◌, ℕ, List, Bool, true, false, is_some, Option, Some, None}
use Rattle.std.proofs.Common.{sym, ap, subst, ◌∙◌}
use Rattle.mission_model.specs.declared.counts.Mark.{Mark}
use Rattle.gated_cell.specs.declared.cell.GatedCell.{GatedCell}
use Rattle.gated_cell.specs.declared.place.CellPlace.{CellPlace}
use Rattle.gated_cell.specs.Cell.{Held, Empty, InForce, held}
use Rattle.dataman_layout.specs.declared.layout.Layout.{Layout}
use Rattle.dataman_layout.specs.Layouts.{most_pairs}
use Rattle.dataman_layout.specs.Mark.{PlainMark, mark_in, plain_marks}
use Rattle.plan_store.specs.StoreState.{StoredPlan}
use Rattle.bank_state.specs.StandsFor.{mark_cell}
use Rattle.recovery.specs.declared.fault.BootFault.{BootFault}
use Rattle.recovery.specs.Faults.{unfit, mark_number, twins_fault, mark_fault}
use Rattle.recovery.specs.Standing.{kept_of, mark_at}
use Rattle.recovery.specs.Steps.{StoppedBy}
use Rattle.recovery.specs.Found.{IsHeld, HoldsMarkIn, IsFound, IsMarkFound}

-- a payload is in force
pub in_force_is : (layout : Layout) (in_force : Option Bool) (generation : ℕ) (mark : Option PlainMark) (h : Held) → is_some in_force ≡ true → HoldsMarkIn layout in_force generation mark h
    → (second : Bool) × (payload : List ℕ) × (h ≡ InForce second generation payload) × (mark ≡ mark_in (most_pairs layout) payload)
in_force_is layout None generation mark h some held = absurd cc
in_force_is layout (Some second) generation mark h some held = (second, held.0, held.1, held.2)

-- none is
pub empty_is : (layout : Layout) (in_force : Option Bool) (generation : ℕ) (mark : Option PlainMark) (h : Held) → is_some in_force ≡ false → HoldsMarkIn layout in_force generation mark h → h ≡ Empty
empty_is layout None generation mark h none held = held
empty_is layout (Some second) generation mark h none held = absurd cc

-- the bytes that a cell gave are read as a mark
pub mark_found : (layout : Layout) (in_force : Option Bool) (generation : ℕ) (payload : List ℕ) (mark : Option PlainMark) (h : Held) → mark ≡ mark_in (most_pairs layout) payload → IsHeld in_force generation payload h → HoldsMarkIn layout in_force generation mark h
mark_found layout None generation payload mark h is held = held
mark_found layout (Some second) generation payload mark h is held = (payload, held, is)

-- what stops the judging of the payload stops at the cell
pub stopped_mark : (layout : Layout) (plan : StoredPlan) (second : Bool) (generation : ℕ) (payload : List ℕ) (h : Held) (f : BootFault) → h ≡ InForce second generation payload → StoppedBy (unfit plan (mark_in (most_pairs layout) payload)) f → StoppedBy (mark_fault layout plan h) f
stopped_mark layout plan second generation payload h f is stopped = subst (λ (x : Held). StoppedBy (mark_fault layout plan x) f) (sym is) stopped

-- and what is found in it is found in the cell
pub free_mark : (layout : Layout) (plan : StoredPlan) (second : Bool) (generation : ℕ) (payload : List ℕ) (h : Held) → h ≡ InForce second generation payload → unfit plan (mark_in (most_pairs layout) payload) ≡ None → mark_fault layout plan h ≡ None
free_mark layout plan second generation payload h is none = ap (mark_fault layout plan) is ∙ none

pub kept_mark : (layout : Layout) (id : ℕ) (second : Bool) (generation : ℕ) (payload : List ℕ) (h : Held) (mark : Option Mark) → h ≡ InForce second generation payload → plain_marks mark ≡ kept_of id (mark_in (most_pairs layout) payload) → plain_marks mark ≡ mark_at layout id h
kept_mark layout id second generation payload h mark is kept = kept ∙ sym (ap (mark_at layout id) is)

-- a mark cell that was opened, with the mark that its bytes are read as
pub mark_found_in : (layout : Layout) (cell : GatedCell) (place : CellPlace) (payload image : List ℕ) (mark : Option PlainMark) → place ≡ mark_cell layout → mark ≡ mark_in (most_pairs layout) payload
    → (twins_fault mark_number (held place image) ≡ None) × IsFound cell place payload image → (twins_fault mark_number (held (mark_cell layout) image) ≡ None) × IsMarkFound layout cell mark image
mark_found_in layout cell place payload image mark at is found =
    let there = subst (λ (p : CellPlace). (twins_fault mark_number (held p image) ≡ None) × IsFound cell p payload image) at found in
    (there.0, record { opened = there.1.opened; held = mark_found layout cell.in_force cell.generation payload mark (held (mark_cell layout) image) is there.1.held })
