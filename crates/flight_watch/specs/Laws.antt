-- The program's watcher keeps the laws of watchers, since each of its parts does.
use Rattle.std.specs.Prelude.{◌≡◌, ◌<◌, true, List, Option, Some, None, refl}
use Rattle.std.proofs.Common.{sym, subst}
use Rattle.mission_model.specs.declared.plan.PlanHead.{PlanHead}
use Rattle.mission_model.specs.declared.request.Asked.{Asked}
use Rattle.mission_model.specs.declared.request.Reply.{Reply}
use Rattle.mission_model.specs.declared.watch.WatchInput.{WatchInput}
use Rattle.request_board.specs.Watching.{Awaited, Answers, HeadsFit, IsTold}
use Rattle.plan_download.specs.Laws as download_laws
use Rattle.breach_watch.specs.Laws as breach_laws
use Rattle.flight_watch.specs.declared.watch.Part.{Part}
use Rattle.flight_watch.specs.declared.watch.Part.TheVariants.{Download, Breach}
use Rattle.flight_watch.specs.declared.watch.FlightWatch.{FlightWatch}
use Rattle.flight_watch.specs.Watches.{part_of, begun_by, works, told_by, tells, waits_by, waits, left_by, left}

begun-answers : (w : FlightWatch) (part : Option Part) (input : WatchInput) (heads : List PlanHead) → HeadsFit heads → Answers heads (begun_by w part input heads).0 (waits (begun_by w part input heads).1)
begun-answers w (Some Download) input heads fit = download_laws.works-answers w.download input heads fit
begun-answers w (Some Breach) input heads fit = breach_laws.works-answers w.breach input heads fit
begun-answers w None input heads fit = record { read = tt; more = refl; next = tt }

-- what an input begins reads an item of a published plan, or nothing
pub works-answers : (w : FlightWatch) (input : WatchInput) (heads : List PlanHead) → HeadsFit heads → Answers heads (works w input heads).0 (waits (works w input heads).1)
works-answers w input heads fit = begun-answers w (part_of input.code) input heads fit

told-answers : (w : FlightWatch) (part : Part) (asked : Asked) (reply : Reply) (heads : List PlanHead) → HeadsFit heads → IsTold (waits_by w part) asked reply heads → Answers heads (told_by w part asked reply heads).0 (waits_by (told_by w part asked reply heads).1 part)
told-answers w Download asked reply heads fit told = download_laws.tells-answers w.download asked reply heads fit told
told-answers w Breach asked reply heads fit told = breach_laws.tells-answers w.breach asked reply heads fit told

-- a reply goes where the last input went, and the next one does too
told-current : (w : FlightWatch) (part : Part) (asked : Asked) (reply : Reply) (heads : List PlanHead) → (told_by w part asked reply heads).1.current ≡ w.current
told-current w Download asked reply heads = refl
told-current w Breach asked reply heads = refl

-- what a reply brings reads an item of a published plan, or nothing
pub tells-answers : (w : FlightWatch) (asked : Asked) (reply : Reply) (heads : List PlanHead) → HeadsFit heads → IsTold (waits w) asked reply heads → Answers heads (tells w asked reply heads).0 (waits (tells w asked reply heads).1)
tells-answers w asked reply heads fit told =
    subst (λ (part : Part). Answers heads (tells w asked reply heads).0 (waits_by (tells w asked reply heads).1 part)) (sym (told-current w w.current asked reply heads))
    (told-answers w w.current asked reply heads fit told)

told-falls : (w : FlightWatch) (part : Part) (asked : Asked) (reply : Reply) (heads : List PlanHead) → HeadsFit heads → IsTold (waits_by w part) asked reply heads → (told_by w part asked reply heads).0.more ≡ true → left_by (told_by w part asked reply heads).1 part < left_by w part
told-falls w Download asked reply heads fit told more = download_laws.left-falls w.download asked reply heads fit told more
told-falls w Breach asked reply heads fit told more = breach_laws.left-falls w.breach asked reply heads fit told more

-- an input that goes on has fewer items left
pub left-falls : (w : FlightWatch) (asked : Asked) (reply : Reply) (heads : List PlanHead) → HeadsFit heads → IsTold (waits w) asked reply heads → (tells w asked reply heads).0.more ≡ true → left (tells w asked reply heads).1 < left w
left-falls w asked reply heads fit told more =
    subst (λ (part : Part). left_by (tells w asked reply heads).1 part < left w) (sym (told-current w w.current asked reply heads))
    (told-falls w w.current asked reply heads fit told more)
