-- Both sessions fit, and no request is in service.
use Rattle.std.proofs.Common.{◌≡◌, None}
use Rattle.upload_session.specs.SessionState.{SessionFits}
use Rattle.upload_session.proofs.tests.first_difference.Given as goal

abbrev pub invariant-loop-row : goal.invariant-loop-row
invariant-loop-row l = (l.first.link ≡ 0) × (l.second.link ≡ 1) × (l.board.service ≡ None) × SessionFits l.first l.transfer l.board × SessionFits l.second l.transfer l.board
