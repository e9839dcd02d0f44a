-- What a breach watch answers: one row for each thing that it may be given, and which fence it reads and keeps.
use Rattle.std.specs.Prelude.{ℕ, ℤ, pos, ◌-◌, ◌==◌, Bool, is_some, List, [], Option, Some, None, length, if◌then◌else◌}
use Rattle.mission_model.specs.declared.message.AckCode.{AckCode}
use Rattle.mission_model.specs.declared.plan.Item.{Item}
use Rattle.mission_model.specs.declared.plan.PlanHead.{PlanHead}
use Rattle.mission_model.specs.declared.plan.PlanType.{PlanType}
use Rattle.mission_model.specs.declared.plan.PlanType.TheVariants.{Fence}
use Rattle.mission_model.specs.declared.request.Asked.{Asked}
use Rattle.mission_model.specs.declared.request.Reply.{Reply}
use Rattle.mission_model.specs.declared.request.Reply.TheVariants as reply
use Rattle.mission_model.specs.declared.watch.WatchInput.{WatchInput}
use Rattle.mission_model.specs.declared.watch.WatchOut.{WatchOut}
use Rattle.mission_model.specs.Fence.{is_allowed}
use Rattle.mission_model.specs.PlanTypes.{head_of}
use Rattle.request_board.specs.Watching.{Awaited}
use Rattle.request_board.specs.Silence.{silence}
use Rattle.breach_watch.specs.declared.note.TheConstants.{ALLOWED, BREACH, READS, REPLACED, FAILED}
use Rattle.breach_watch.specs.declared.watch.BreachWatch.{BreachWatch}
use Rattle.breach_watch.specs.declared.watch.Kept.{Kept}
use Rattle.breach_watch.specs.FenceSoFar.{none_yet, with_vertex, code_of_next}

-- a watch before its first input
abbrev pub not_begun : BreachWatch
not_begun = record { x = pos 0; y = pos 0; reading = none_yet (record { id = 0; count = 0 }); kept = None }

-- an answer with a note of the watch's position, this code and two numbers, which reads this vertex or none
abbrev pub says : BreachWatch → ℕ → ℕ → ℕ → Option (PlanType × ℕ × ℕ) → WatchOut
says w code a b read = record { read = read; note = record { code = code; a = a; b = b; x = w.x; y = w.y }; more = is_some read }

-- the fence of this id allows the position, or it does not
abbrev pub judged : BreachWatch → ℕ → Bool → WatchOut
judged w id allowed = says w (if allowed then ALLOWED else BREACH) id 0 None

-- the next vertex of the fence that is read is asked
abbrev pub asks_next : BreachWatch → WatchOut
asks_next w = says w READS w.reading.head.id (length w.reading.items) (Some (Fence, w.reading.head.id, length w.reading.items))

-- whether the kept fence, if it has this id, allows the position
abbrev pub kept_verdict : Option Kept → ℕ → ℤ → ℤ → Option Bool
kept_verdict None id x y = None
kept_verdict (Some kept) id x y = if kept.id == id then Some (is_allowed kept.fence x y) else None

-- whether the published fence allows the position, where that is known without a read: it is empty, or it is the kept one
abbrev pub verdict_on : BreachWatch → PlanHead → Option Bool
verdict_on w head = if head.count == 0 then Some (is_allowed [] w.x w.y) else kept_verdict w.kept head.id w.x w.y

-- the position is judged at once by the published fence, or its vertices are read from the first on
abbrev pub looked : BreachWatch → PlanHead → Option Bool → WatchOut × BreachWatch
looked w head (Some allowed) = (judged w head.id allowed, w)
looked w head None = (asks_next (record w { reading = none_yet head }), record w { reading = none_yet head })

-- the watch at another position
abbrev pub moved : BreachWatch → ℤ → ℤ → BreachWatch
moved w x y = record w { x = x; y = y }

-- what an input begins: its two numbers are the position
abbrev pub works : BreachWatch → WatchInput → List PlanHead → WatchOut × BreachWatch
works w input heads =
    let head = head_of heads Fence in
    let w' = moved w input.a input.b in
    looked w' head (verdict_on w' head)

-- the input ends with no word on the position, and no fence is kept
abbrev pub lost : BreachWatch → ℕ → ℕ → WatchOut × BreachWatch
lost w code b = (says w code w.reading.head.id b None, record w { kept = None })

-- after a vertex: the last one makes the fence whole, and it is kept and judged by; after any other one the next is read
abbrev pub read_on : BreachWatch → WatchOut × BreachWatch
read_on w = if length w.reading.items == w.reading.head.count
    then (judged w w.reading.head.id (is_allowed w.reading.items w.x w.y), record w { kept = Some (record { id = w.reading.head.id; fence = w.reading.items }) })
    else (asks_next w, w)

-- a vertex, by the code that the check of plans has for it: one with a code ends the input as a failed device does
abbrev pub joined : BreachWatch → Item → Option AckCode → WatchOut × BreachWatch
joined w item None = read_on (record w { reading = with_vertex w.reading item })
joined w item (Some code) = lost w FAILED (length w.reading.items)

-- what a reply brings while the fence that is read is published still
abbrev pub answered : BreachWatch → Reply → WatchOut × BreachWatch
answered w (reply.Item item) = joined w item (code_of_next w.reading item)
answered w reply.DiskFailed = lost w FAILED (length w.reading.items)
answered w other = (silence, w)

-- what a reply brings, with this id published: a stale read, and anything once another fence is published, ends the input
abbrev pub told_by : BreachWatch → Reply → ℕ → WatchOut × BreachWatch
told_by w (reply.Stale id) now = lost w REPLACED now
told_by w other now = if now == w.reading.head.id then answered w other else lost w REPLACED now

-- what a reply brings, with these heads published
abbrev pub tells : BreachWatch → Asked → Reply → List PlanHead → WatchOut × BreachWatch
tells w asked reply heads = told_by w reply (head_of heads Fence).id

-- the read that a watch waits for: the vertex behind those that have come
abbrev pub waits : BreachWatch → Awaited
waits w = record { kind = Fence; head = w.reading.head; seq = length w.reading.items }

-- how many vertices are still to come
abbrev pub left : BreachWatch → ℕ
left w = w.reading.head.count - length w.reading.items
