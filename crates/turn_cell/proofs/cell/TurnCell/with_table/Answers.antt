use Rattle.std.proofs.Common.{sym, ap, ◌∙◌, ◌++◌, [], ◌∷◌, Some, None, subst, List, Option}
use Rattle.turn_cell.specs.declared.seat_view.Chest.{Chest}
use Rattle.turn_cell.specs.Legal.{EachFits}
use Rattle.turn_cell.proofs.Moves.{begins}
use Rattle.turn_cell.proofs.cell.TurnCell.with_table.Goals as goal

pub new-requires-2 : goal.new-requires-2
new-requires-2 g c = let k = g.M.Machine in let x : Chest g.row.M-Shared.Denot g.row.M-Local.Denot g.row.M-Input.Denot g.row.M-Line.Denot = record { shared = c.args.shared; lines = c.new.result; addition = None } in
    begins k.number k.fits k.suits k.steps c.args.beginning.now x c.push_reserved.new.self.items (c.push_reserved.ensures.items ∙ ap (λ (xs : List (Option (Chest g.row.M-Shared.Denot g.row.M-Local.Denot g.row.M-Input.Denot g.row.M-Line.Denot))). xs ++ Some x ∷ []) c.in_ok-slots.ensures.items) c.requires.beginning.1 (sym c.requires.beginning.0) c.new.ensures.items
    (subst (λ s. EachFits k.number k.fits s c.args.beginning.now.locals.value.items) (sym c.requires.beginning.0) c.requires.fit)
