-- The compat cell, by what its payload is judged to be.
use Rattle.std.specs.Prelude.{◌≡◌, ℕ, Bool, true, List, is_some, Option, Some, None}
use Rattle.std.proofs.Common.{sym, ap, subst, ◌∙◌}
use Rattle.dataman_layout.specs.declared.layout.Layout.{Layout}
use Rattle.dataman_layout.specs.Fields.{number_at}
use Rattle.gated_cell.specs.Cell.{Held, InForce}
use Rattle.recovery.specs.declared.fault.BootFault.{BootFault}
use Rattle.recovery.specs.Faults.{layout_by, layout_in, version_fault, compat_fault}
use Rattle.recovery.specs.Steps.{StoppedBy}
use Rattle.recovery.specs.Found.{IsHeld}

-- a payload is in force
pub held_payload : (in_force : Option Bool) (generation : ℕ) (payload : List ℕ) (h : Held) → is_some in_force ≡ true → IsHeld in_force generation payload h → (second : Bool) × (h ≡ InForce second generation payload)
held_payload None generation payload h some held = absurd cc
held_payload (Some second) generation payload h some held = (second, held)

module _ (byte : ℕ) (second : Bool) (generation : ℕ) (payload : List ℕ) (h : Held) (is : h ≡ InForce second generation payload) where
  -- what stops the judging of the payload stops at the cell
  pub stopped_compat : (f : BootFault) → StoppedBy (version_fault generation payload) f → StoppedBy (compat_fault byte h) f
  stopped_compat f stopped = subst (λ (x : Held). StoppedBy (compat_fault byte x) f) (sym is) stopped

  -- and what is found in it is found in the cell
  pub free_compat : version_fault generation payload ≡ None → compat_fault byte h ≡ None
  free_compat none = ap (compat_fault byte) is ∙ none

  pub told_compat : (layout : Layout) → layout ≡ layout_by (number_at 0 4 payload) → layout ≡ layout_in h
  told_compat layout told = told ∙ sym (ap layout_in is)
