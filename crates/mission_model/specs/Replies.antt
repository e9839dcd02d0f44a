-- Which replies the worker gives to which requests.
use Rattle.mission_model.specs.declared.request.Asked.{Asked}
use Rattle.mission_model.specs.declared.request.Asked.TheVariants as about
use Rattle.mission_model.specs.declared.request.Reply.{Reply}
use Rattle.mission_model.specs.declared.request.Reply.TheVariants as reply

-- A client may take this reply to such a request; the power is on.
-- A read has its item; a read or a mark may be of another plan than the one in force; a write, a commit and a mark are
-- done; the cell of a commit or a mark may be at its last generation; and the device may fail in any of them.
abbrev pub CanHear : Asked → Reply → Type 0
CanHear (about.Read kind id seq) (reply.Item item) = Unit {0}
CanHear (about.Read kind id seq) (reply.Stale other) = Unit {0}
CanHear (about.Read kind id seq) reply.DiskFailed = Unit {0}
CanHear (about.Write kind id seq) reply.Done = Unit {0}
CanHear (about.Write kind id seq) reply.DiskFailed = Unit {0}
CanHear (about.Commit kind id count) reply.Done = Unit {0}
CanHear (about.Commit kind id count) reply.DiskFailed = Unit {0}
CanHear (about.Commit kind id count) (reply.Spent generation) = Unit {0}
CanHear (about.SetMark mark) reply.Done = Unit {0}
CanHear (about.SetMark mark) (reply.Stale other) = Unit {0}
CanHear (about.SetMark mark) reply.DiskFailed = Unit {0}
CanHear (about.SetMark mark) (reply.Spent generation) = Unit {0}
CanHear asked given = ⊥

-- a reply of a form that the worker gives to such a request: one that a client may take, or that the power went
abbrev pub Suits : Asked → Reply → Type 0
Suits asked reply.PowerOff = Unit {0}
Suits asked given = CanHear asked given
