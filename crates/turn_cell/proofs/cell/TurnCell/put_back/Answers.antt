use Rattle.std.proofs.Common.{rules}
use Rattle.turn_cell.proofs.Moves.{leave_allowed_at}
use Rattle.turn_cell.proofs.cell.TurnCell.put_back.Goals as goal

pub fetch_add-requires : goal.fetch_add-requires
fetch_add-requires g c = (search rules, search rules, leave_allowed_at _ _ _ _ _ _ _ _ c.args.seat.now.me.0 c.args.chest (search rules) (search rules) c.requires.1.1 c.requires.2)
