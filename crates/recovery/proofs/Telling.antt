-- The change of the compat cell that puts layout 2 in force.
use Rattle.std.specs.Prelude.{◌≡◌, ◌+◌, ◌*◌, ◌^◌, ◌<◌, ℕ, IsTrue, List}
use Rattle.std.proofs.Common.{sym, ap, subst, arith, ◌∙◌}
use Rattle.disk_model.specs.Disk.{DiskState, Meter}
use Rattle.disk_model.specs.Every.{Run}
use Rattle.gated_cell.specs.declared.cell.GatedCell.{GatedCell}
use Rattle.gated_cell.specs.declared.fault.CellFault.{CellFault}
use Rattle.gated_cell.specs.declared.fault.CellFault.TheVariants as cell_fault
use Rattle.gated_cell.specs.Cell.{held, Known, in_force, opened, stored}
use Rattle.gated_cell.specs.Slots.{fits_held}
use Rattle.dataman_layout.specs.Compat.{compat_bytes}
use Rattle.bank_state.specs.StandsFor.{compat_place}
use Rattle.bank_state.specs.Swap.{next_with, Swaps, NotDone}
use Rattle.recovery.specs.Steps.{Stopped, IsOfDisk, fault_of}

-- after the change version 2 is in force
pub two_told : (cell now : GatedCell) (payload : List ℕ) (z : DiskState) → payload ≡ compat_bytes 2 → cell.place ≡ compat_place → now ≡ opened cell → Known now z → (IsTrue z.tells → in_force now z ≡ next_with cell payload) → IsTrue z.tells
    → held compat_place z.seen ≡ next_with cell (compat_bytes 2)
two_told cell now payload z is place done known next told =
    let at : now.place ≡ compat_place = ap (λ (x : GatedCell). x.place) done ∙ place in
    (λ i. held (sym at i) z.seen) ∙ fits_held now (stored now z.seen) z.seen (known.reads told) ∙ next told ∙ ap (next_with cell) is

-- a change that was refused below the last generation was refused by the disk
pub cell_of_disk : (generation : ℕ) (a z : Meter) (e : CellFault) → generation + 1 < 2 ^ 64 → NotDone generation a z e → IsOfDisk (fault_of 0 e)
cell_of_disk generation a z cell_fault.Failed below not = tt
cell_of_disk generation a z cell_fault.Cut below not = tt
cell_of_disk generation a z (cell_fault.Spent g) below not = absurd (omega (arith, below, not.1))
cell_of_disk generation a z (cell_fault.Twins g) below not = absurd not

pub cell_stopped : (generation : ℕ) (a z : Meter) (e : CellFault) → generation + 1 < 2 ^ 64 → NotDone generation a z e → Stopped 6 a z (fault_of 0 e)
cell_stopped generation a z cell_fault.Failed below not = (not.0, (not.1.0, not.1.1, not.1.2, not.1.4))
cell_stopped generation a z cell_fault.Cut below not = λ on. (6, 0, omega arith, not on)
cell_stopped generation a z (cell_fault.Spent g) below not = absurd (omega (arith, below, not.1))
cell_stopped generation a z (cell_fault.Twins g) below not = absurd not

pub swapped : (cell : GatedCell) (payload : List ℕ) (a z : DiskState) → payload ≡ compat_bytes 2 → Run cell.place.at (2 * cell.place.slot_bytes) (Swaps cell payload a) a z → Run cell.place.at (2 * cell.place.slot_bytes) (Swaps cell (compat_bytes 2) a) a z
swapped cell payload a z is run = subst (λ (l : List ℕ). Run cell.place.at (2 * cell.place.slot_bytes) (Swaps cell l a) a z) is run
