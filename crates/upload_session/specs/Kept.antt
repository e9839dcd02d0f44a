-- What is true of a session's fields at all times.
use Rattle.std.specs.Prelude.{◌≡◌, ℕ, Option, Some, None}
use Rattle.mission_model.specs.PlanCheck.{HasRoom}
use Rattle.upload_session.specs.declared.session.Stage.{Stage}
use Rattle.upload_session.specs.declared.session.Stage.TheVariants as stage
use Rattle.upload_session.specs.declared.session.Session.TheInside.{Inside}
use Rattle.upload_session.specs.SessionState.{SessionState}

abbrev pub view_of : Inside → SessionState
view_of a = record { link = a.link; stage = a.stage }

-- the session holds its link's grant exactly where it is not free, and a check that waits for an item has room for it
abbrev pub Holds : Stage → ℕ → Option ℕ → Type 0
Holds stage.Free link grant = grant ≡ None
Holds (stage.Receiving draft) link grant = (grant ≡ Some link) × HasRoom draft.check
Holds (stage.Writing draft) link grant = grant ≡ Some link
Holds (stage.Committing next) link grant = grant ≡ Some link

abbrev pub Kept : Inside → Type 0
Kept a = Holds a.stage a.link a.grant
