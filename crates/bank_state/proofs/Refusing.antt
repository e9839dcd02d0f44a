-- A change that was refused: its cell as it was left, and whether it is in doubt.
use Rattle.std.proofs.Common.{◌≡◌, ◌⊎◌, Bool, true, false, cond, Some, inl, inr, ap, ◌∙◌}
use Rattle.gated_cell.specs.declared.cell.GatedCell.{GatedCell}
use Rattle.bank_state.specs.declared.parts.Parts.{Parts}
use Rattle.bank_state.specs.declared.parts.Doubt.{Doubt}

pub calm_choice : (parts : Parts) (change : Doubt) (b : Bool) → b ≡ false → cond b (Some change) parts.doubt ≡ parts.doubt
calm_choice parts change b is = ap (λ (x : Bool). cond x (Some change) parts.doubt) is

pub doubt_choice : (parts : Parts) (change : Doubt) (b : Bool) → b ≡ true → cond b (Some change) parts.doubt ≡ Some change
doubt_choice parts change b is = ap (λ (x : Bool). cond x (Some change) parts.doubt) is

pub unopened_flag : (cell now : GatedCell) → cell.doubt ≡ false → (now ≡ cell) ⊎ (now ≡ record cell { spare_closed = true }) → now.doubt ≡ false
unopened_flag cell now flag (inl is) = ap (λ (x : GatedCell). x.doubt) is ∙ flag
unopened_flag cell now flag (inr is) = ap (λ (x : GatedCell). x.doubt) is ∙ flag

pub unopened_place : (cell now : GatedCell) → (now ≡ cell) ⊎ (now ≡ record cell { spare_closed = true }) → now.place ≡ cell.place
unopened_place cell now (inl is) = ap (λ (x : GatedCell). x.place) is
unopened_place cell now (inr is) = ap (λ (x : GatedCell). x.place) is

pub unopened_generation : (cell now : GatedCell) → (now ≡ cell) ⊎ (now ≡ record cell { spare_closed = true }) → now.generation ≡ cell.generation
unopened_generation cell now (inl is) = ap (λ (x : GatedCell). x.generation) is
unopened_generation cell now (inr is) = ap (λ (x : GatedCell). x.generation) is
