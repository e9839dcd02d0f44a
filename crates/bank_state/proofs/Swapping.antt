-- The three steps of a change of one cell: s0 before them, and s1, s2, s3 after each.
use Rattle.std.proofs.Common.{◌≡◌, ◌⊎◌, ◌+◌, ◌*◌, ℕ, Bool, true, false, IsTrue, List, inl, inr, ⊎_elim, refl, ap, subst, ◌∙◌}
use Rattle.std.specs.Prelude.{Result, Ok, Err, OnErr, IfErr, IsErrOf}
use Rattle.disk_model.specs.Disk.{DiskState, Meter, IsSound, Only}
use Rattle.disk_model.specs.Every.{Every, Run, every_run}
use Rattle.disk_model.specs.Places.{torn_trans}
use Rattle.gated_cell.specs.declared.place.CellPlace.{CellPlace}
use Rattle.gated_cell.specs.declared.cell.GatedCell.{GatedCell}
use Rattle.gated_cell.specs.declared.fault.CellFault.{CellFault}
use Rattle.gated_cell.specs.declared.fault.CellFault.TheVariants as cell_fault
use Rattle.gated_cell.specs.Refusals.{Refused}
use Rattle.gated_cell.specs.Cell.{Doubtful, SameChoice, Held, InForce, held, spare_of, staged, in_force, next_of, AtEachMoment}
use Rattle.bank_state.specs.Swap.{next_with, IsBut, Swaps, HalfOpen, Leaves}
use Rattle.bank_state.specs.Running.{every_only, run_weaker, run_trans}

-- a run in the cell's bytes that is a run in those of another cell at the same place
moved : (a b : CellPlace) (P : Held → Type 0) (old new : DiskState) → a ≡ b → AtEachMoment a old new P → AtEachMoment b old new P
moved a b P old new same run = subst (λ (p : CellPlace). AtEachMoment p old new P) same run

module _ (cell : GatedCell) (payload : List ℕ) (s0 s1 : DiskState) (run1 : AtEachMoment cell.place s0 s1 (λ h. h ≡ in_force cell s0)) where
  abbrev at : ℕ
  at = cell.place.at

  abbrev n : ℕ
  n = 2 * cell.place.slot_bytes

  abbrev Swapped : DiskState → Type 0
  Swapped now = Run at n (Swaps cell payload s0) s0 now

  first : Swapped s1
  first = run_weaker at n (λ c. held cell.place c ≡ in_force cell s0) (Swaps cell payload s0) s0 s1 (λ d c left torn is. inl is) run1

  module _ (cell1 : GatedCell) (s2 : DiskState) (sound1 : IsSound s1) (becomes1 : cell1 ≡ record cell { spare_closed = true }) (same1 : IsTrue s1.tells → in_force cell1 s1 ≡ in_force cell s0)
      (durable1 : Only s1.seen s1.images) (run2 : AtEachMoment cell1.place s1 s2 (λ h. h ≡ in_force cell1 s1)) where
    place1 : cell1.place ≡ cell.place
    place1 = ap (λ (x : GatedCell). x.place) becomes1

    run2_here : AtEachMoment cell.place s1 s2 (λ h. h ≡ in_force cell1 s1)
    run2_here = moved cell1.place cell.place (λ h. h ≡ in_force cell1 s1) s1 s2 place1 run2

    but1 : Every (IsBut cell s0) s1
    but1 = every_only (IsBut cell s0) s1 sound1 durable1 run1.reads

    but2 : Every (IsBut cell s0) s2
    but2 = every_run at n (λ c. held cell.place c ≡ in_force cell1 s1) (IsBut cell s0) s1 s2 run2_here (λ d c torn is. torn_trans at n s0.seen d c is torn) but1

    pub second : Swapped s2
    second = run_trans at n (Swaps cell payload s0) s0 s1 s2 first
        (run_weaker at n (λ c. held cell.place c ≡ in_force cell1 s1) (Swaps cell payload s0) s1 s2 (λ d c left torn is. inl (is ∙ same1 (sound1.told d left))) run2_here)

    module _ (cell2 : GatedCell) (s3 : DiskState) (sound2 : IsSound s2) (becomes2 : cell2 ≡ cell1) (same2 : IsTrue s2.tells → in_force cell2 s2 ≡ in_force cell1 s1)
        (payload2 : IsTrue s2.tells → staged cell2 s2.seen ≡ payload) (run3 : AtEachMoment cell2.place s2 s3 (λ h. (h ≡ in_force cell2 s2) ⊎ (h ≡ next_of cell2 s2))) where
      run3_here : AtEachMoment cell.place s2 s3 (λ h. (h ≡ in_force cell2 s2) ⊎ (h ≡ next_of cell2 s2))
      run3_here = moved cell2.place cell.place (λ h. (h ≡ in_force cell2 s2) ⊎ (h ≡ next_of cell2 s2)) s2 s3 (ap (λ (x : GatedCell). x.place) becomes2 ∙ place1) run3

      same_before : IsTrue s2.tells → in_force cell2 s2 ≡ in_force cell s0
      same_before told = same2 told ∙ same1 (subst (λ (b : Bool). IsTrue b) run2.tells told)

      next_before : IsTrue s2.tells → next_of cell2 s2 ≡ next_with cell payload
      next_before told =
          let is : cell2 ≡ record cell { spare_closed = true } = becomes2 ∙ becomes1 in
          λ i. InForce (spare_of (is i).in_force) ((is i).generation + 1) (payload2 told i)

      pub synced : Every (IsBut cell s0) s3
      synced = every_run at n (λ c. (held cell.place c ≡ in_force cell2 s2) ⊎ (held cell.place c ≡ next_of cell2 s2)) (IsBut cell s0) s2 s3 run3_here (λ d c torn is. torn_trans at n s0.seen d c is torn) but2

      pub third : Swapped s3
      third = run_trans at n (Swaps cell payload s0) s0 s2 s3 second
          (run_weaker at n (λ c. (held cell.place c ≡ in_force cell2 s2) ⊎ (held cell.place c ≡ next_of cell2 s2)) (Swaps cell payload s0) s2 s3 (λ d c left torn is. ⊎_elim
          (λ was. inl (was ∙ same_before (sound2.told d left)))
          (λ next. inr (next ∙ next_before (sound2.told d left), torn_trans at n s0.seen d c (but2.images d left) torn))
          is) run3_here)

      -- the gate did not open as asked
      half : (failed : Bool) (cell3 : GatedCell) → cell3 ≡ record cell2 { doubt = failed } → Doubtful cell3 s3 → (IsTrue s3.tells → SameChoice cell2 s2 cell3 s3) → HalfOpen cell payload s0 failed cell3 s3
      half failed cell3 is doubtful both = record {
        is = is ∙ ap (λ (x : GatedCell). record x { doubt = failed }) (becomes2 ∙ becomes1);
        doubtful = doubtful;
        same = λ told. (both told).in_force ∙ same_before (told_at_two told);
        next = λ told. (both told).next ∙ next_before (told_at_two told);
        synced = synced;
      }
        where
          told_at_two : IsTrue s3.tells → IsTrue s2.tells
          told_at_two told = subst (λ (b : Bool). IsTrue b) run3.tells told

      pub left : (r : Result (Unit {0}) CellFault) (cell3 : GatedCell) (a b : Meter) → (IsErrOf r cell_fault.Failed → cell3 ≡ record cell2 { doubt = true }) → (IsErrOf r cell_fault.Cut → cell3 ≡ record cell2 { doubt = false })
          → OnErr r (Doubtful cell3 s3) → OnErr r (IsTrue s3.tells → SameChoice cell2 s2 cell3 s3) → IfErr r (Refused 2 0 a b) → IfErr r (Leaves cell payload s0 cell3 s3)
      left (Ok u) cell3 a b failed cut doubtful both refused = tt
      left (Err cell_fault.Failed) cell3 a b failed cut doubtful both refused = inr (half true cell3 (failed refl) doubtful both)
      left (Err cell_fault.Cut) cell3 a b failed cut doubtful both refused = inr (half false cell3 (cut refl) doubtful both)
      left (Err (cell_fault.Spent g)) cell3 a b failed cut doubtful both refused = absurd refused
      left (Err (cell_fault.Twins g)) cell3 a b failed cut doubtful both refused = absurd refused
