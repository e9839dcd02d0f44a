-- What the program's watcher answers: what the part answers to which an input goes, and nothing to an input of no part's code.
use Rattle.std.specs.Prelude.{ℕ, ◌==◌, List, Option, Some, None, if◌then◌else◌}
use Rattle.mission_model.specs.declared.plan.PlanHead.{PlanHead}
use Rattle.mission_model.specs.declared.request.Asked.{Asked}
use Rattle.mission_model.specs.declared.request.Reply.{Reply}
use Rattle.mission_model.specs.declared.watch.WatchInput.{WatchInput}
use Rattle.mission_model.specs.declared.watch.WatchOut.{WatchOut}
use Rattle.request_board.specs.Watching.{Awaited}
use Rattle.request_board.specs.Silence.{silence}
use Rattle.plan_download.specs.Downloads as downloads
use Rattle.breach_watch.specs.Breaches as breaches
use Rattle.flight_watch.specs.declared.code.TheConstants.{DOWNLOAD, BREACH}
use Rattle.flight_watch.specs.declared.watch.Part.{Part}
use Rattle.flight_watch.specs.declared.watch.Part.TheVariants.{Download, Breach}
use Rattle.flight_watch.specs.declared.watch.FlightWatch.{FlightWatch}

-- a watcher before its first input
abbrev pub not_begun : FlightWatch
not_begun = record { download = downloads.not_begun; breach = breaches.not_begun; current = Download }

-- the part that has the inputs of a code, if one has
abbrev pub part_of : ℕ → Option Part
part_of code = if code == DOWNLOAD then Some Download else if code == BREACH then Some Breach else None

-- an input goes to this part, or to none
abbrev pub begun_by : FlightWatch → Option Part → WatchInput → List PlanHead → WatchOut × FlightWatch
begun_by w (Some Download) input heads =
    ((downloads.works w.download input heads).0, record w { download = (downloads.works w.download input heads).1; current = Download })
begun_by w (Some Breach) input heads =
    ((breaches.works w.breach input heads).0, record w { breach = (breaches.works w.breach input heads).1; current = Breach })
begun_by w None input heads = (silence, w)

-- what an input begins, by its code
abbrev pub works : FlightWatch → WatchInput → List PlanHead → WatchOut × FlightWatch
works w input heads = begun_by w (part_of input.code) input heads

-- what a reply brings to this part
abbrev pub told_by : FlightWatch → Part → Asked → Reply → List PlanHead → WatchOut × FlightWatch
told_by w Download asked reply heads =
    ((downloads.tells w.download asked reply heads).0, record w { download = (downloads.tells w.download asked reply heads).1 })
told_by w Breach asked reply heads =
    ((breaches.tells w.breach asked reply heads).0, record w { breach = (breaches.tells w.breach asked reply heads).1 })

-- what a reply brings: it goes where the last input went
abbrev pub tells : FlightWatch → Asked → Reply → List PlanHead → WatchOut × FlightWatch
tells w asked reply heads = told_by w w.current asked reply heads

-- the read that a part waits for
abbrev pub waits_by : FlightWatch → Part → Awaited
waits_by w Download = downloads.waits w.download
waits_by w Breach = breaches.waits w.breach

-- the read that the watcher waits for
abbrev pub waits : FlightWatch → Awaited
waits w = waits_by w w.current

-- how many items a part still has to read
abbrev pub left_by : FlightWatch → Part → ℕ
left_by w Download = downloads.left w.download
left_by w Breach = breaches.left w.breach

-- how many items the watcher still has to read for its input
abbrev pub left : FlightWatch → ℕ
left w = left_by w w.current
