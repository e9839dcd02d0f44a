-- What a download answers: one row for each thing that it may be given, and the plan that it is on.
use Rattle.std.specs.Prelude.{ℕ, ℤ, pos, negsuc, ◌+◌, ◌-◌, ◌==◌, is_some, List, Option, Some, None, if◌then◌else◌}
use Rattle.mission_model.specs.declared.plan.PlanHead.{PlanHead}
use Rattle.mission_model.specs.declared.plan.PlanType.{PlanType}
use Rattle.mission_model.specs.declared.plan.PlanType.TheVariants.{Mission}
use Rattle.mission_model.specs.declared.request.Asked.{Asked}
use Rattle.mission_model.specs.declared.request.Reply.{Reply}
use Rattle.mission_model.specs.declared.request.Reply.TheVariants as reply
use Rattle.mission_model.specs.declared.watch.WatchInput.{WatchInput}
use Rattle.mission_model.specs.declared.watch.WatchOut.{WatchOut}
use Rattle.mission_model.specs.PlanTypes.{type_of, head_of}
use Rattle.request_board.specs.Watching.{Awaited}
use Rattle.request_board.specs.Silence.{silence}
use Rattle.plan_download.specs.declared.download.Download.{Download}
use Rattle.plan_download.specs.declared.note.TheConstants.{BEGINS, GIVES, WHOLE, REPLACED, FAILED}

-- the type of plan that an input names, if there is one
abbrev pub kind_named : ℤ → Option PlanType
kind_named (pos number) = type_of number
kind_named (negsuc _) = None

-- an answer with this note and two numbers in it, which reads this item or none
abbrev pub says : ℕ → ℕ → ℕ → Option (PlanType × ℕ × ℕ) → WatchOut
says code a b read = record { read = read; note = record { code = code; a = a; b = b; x = pos 0; y = pos 0 }; more = is_some read }

-- a download before its first input
abbrev pub not_begun : Download
not_begun = record { kind = Mission; head = record { id = 0; count = 0 }; seq = 0 }

-- a plan is begun: an empty one is whole at once, and of any other its item 0 is read
abbrev pub begun : PlanType → PlanHead → WatchOut × Download
begun kind head = (
  if head.count == 0 then says WHOLE head.id 0 None else says BEGINS head.id head.count (Some (kind, head.id, 0)),
  record { kind = kind; head = head; seq = 0 },
)

-- the published plan of the named type is begun; an input that names none is ended at once with an empty note
abbrev pub begun_as : Download → Option PlanType → List PlanHead → WatchOut × Download
begun_as w (Some kind) heads = begun kind (head_of heads kind)
begun_as w None heads = (silence, w)

-- what an input begins
abbrev pub works : Download → WatchInput → List PlanHead → WatchOut × Download
works w input heads = begun_as w (kind_named input.a) heads

-- an item of the plan that is still published: the last one makes the download whole, and after any other one the next is read
abbrev pub given : Download → WatchOut × Download
given w = if (w.seq + 1) == w.head.count
    then (says WHOLE w.head.id w.head.count None, w)
    else (says GIVES w.head.id w.seq (Some (w.kind, w.head.id, w.seq + 1)), record w { seq = w.seq + 1 })

-- the download ends, since this other plan is published
abbrev pub replaced : Download → ℕ → WatchOut × Download
replaced w now = (says REPLACED w.head.id now None, w)

-- what a reply brings, with this id published: an item counts only while its plan is published still, and nothing but an item,
-- a stale read and a failed device answers a read
abbrev pub told_by : Download → Reply → ℕ → WatchOut × Download
told_by w (reply.Item item) now = if now == w.head.id then given w else replaced w now
told_by w (reply.Stale id) now = replaced w now
told_by w reply.DiskFailed now = (says FAILED w.head.id w.seq None, w)
told_by w other now = (silence, w)

-- what a reply brings, with these heads published
abbrev pub tells : Download → Asked → Reply → List PlanHead → WatchOut × Download
tells w asked reply heads = told_by w reply (head_of heads w.kind).id

-- the read that a download waits for: the item that it is at
abbrev pub waits : Download → Awaited
waits w = record { kind = w.kind; head = w.head; seq = w.seq }

-- how many items are still to be given
abbrev pub left : Download → ℕ
left w = w.head.count - w.seq
