-- The form of a line, by the words that select it: whether they are listed at its place, whether the form is built, and whether the line has its number of words.
use Rattle.std.specs.Prelude.{ℕ, List, ◌∷◌, length, drop, Bool, true, false, not, ◌&&◌, ◌||◌, ◌==◌, nat_lt, nat_le, Option, Some, None, is_some, Result, Ok, Err, codes, if◌then◌else◌}
use Rattle.std.specs.List.{list_all}
use Rattle.first_model.specs.declared.plan.PlanType.{PlanType}
use Rattle.first_model.specs.declared.plan.PlanType.TheVariants as kind
use Rattle.first_model.specs.declared.schedule.NamedPlan.{NamedPlan}
use Rattle.first_model.specs.declared.vehicle.Mode.TheVariants as mode
use Rattle.first_model.specs.declared.vehicle.VehicleLine.TheVariants.{Tick, Go, Reached, Mode}
use Rattle.first_script.specs.declared.fault.ScriptFault.{ScriptFault}
use Rattle.first_script.specs.declared.fault.ScriptFault.TheVariants as fault
use Rattle.first_script.specs.declared.form.Form.{Form}
use Rattle.first_script.specs.declared.form.Form.TheVariants as form
use Rattle.first_script.specs.declared.form.Measure.TheVariants as measure
use Rattle.first_script.specs.declared.form.Entry.{Entry}
use Rattle.first_script.specs.declared.form.Entry.TheVariants as entry
use Rattle.first_script.specs.declared.draft.Draft.{Draft}
use Rattle.first_script.specs.Words.{word, is_same}
use Rattle.first_script.specs.Numbers.{is_within}
use Rattle.first_script.specs.Actors.{is_actor, actor_of}

-- a form whose lines have so many words
abbrev pub sized : ℕ → Form → List (List ℕ) → Result Form ScriptFault
sized count form words = if length words == count then Ok form else Err fault.Words

-- no word at this place selects a form: one that stands there is unknown, and where none stands a word is missing
abbrev pub unlisted : ℕ → List (List ℕ) → Result Form ScriptFault
unlisted place words = if nat_lt place (length words) then Err fault.Unknown else Err fault.Words

-- `param NAME NUMBER`
unfoldable pub param_form : List (List ℕ) → Result Form ScriptFault
param_form words =
    if is_same (word 1 words) (codes "TKO_LAND") then sized 3 (form.Entry entry.Landing) words
    else (if is_same (word 1 words) (codes "TAKEOFF_MIN") then sized 3 (form.Measure measure.Takeoff) words
    else (if is_same (word 1 words) (codes "MAX_ALT") then sized 3 (form.Measure measure.Ceiling) words
    else (if is_same (word 1 words) (codes "RTL_TYPE") then sized 3 (form.Entry entry.Return) words
    else (if is_same (word 1 words) (codes "DIST_1WP") || is_same (word 1 words) (codes "DIST_WPS") then sized 3 (form.Measure measure.Distance) words
    else unlisted 1 words))))

-- a plan's type
unfoldable pub kind_of : List ℕ → Option PlanType
kind_of name =
    if is_same name (codes "mission") then Some kind.Mission
    else (if is_same name (codes "fence") then Some kind.Fence
    else (if is_same name (codes "safe") then Some kind.Safe
    else None))

-- `plan NAME KIND` and `plan NAME KIND home-first`
abbrev pub plan_of : Option PlanType → List (List ℕ) → Result Form ScriptFault
plan_of None words = unlisted 2 words
plan_of (Some kind) words =
    if length words == 3 then Ok (form.Plan kind false)
    else (if is_same (word 3 words) (codes "home-first") then sized 4 (form.Plan kind true) words
    else Err fault.Unknown)

unfoldable pub plan_form : List (List ℕ) → Result Form ScriptFault
plan_form words = plan_of (kind_of (word 2 words)) words

-- what a cut may leave
unfoldable pub is_tear : List ℕ → Bool
is_tear name = is_same name (codes "old") || is_same name (codes "new") || is_same name (codes "front") || is_same name (codes "fill")

-- `boot`, once; a second one, and one with a cut, are built later
unfoldable pub boot_form : Bool → List (List ℕ) → Result Form ScriptFault
boot_form booted words =
    if length words == 1 then (if booted then Err fault.NotYet else Ok (form.Entry entry.Boot))
    else (if is_same (word 1 words) (codes "cut") || is_same (word 1 words) (codes "cut-read") then (if nat_le (length words) 3 || is_tear (word 3 words) then Err fault.NotYet else Err fault.Unknown)
    else Err fault.Unknown)

-- how many words a line with this input of a link has; none has 0
unfoldable pub link_size : List ℕ → ℕ
link_size input =
    if is_same input (codes "wait") || is_same input (codes "cancel") || is_same input (codes "timeout") then 3
    else (if is_same input (codes "upload") || is_same input (codes "clear") || is_same input (codes "set-current") then 4
    else (if is_same input (codes "meet") || is_same input (codes "count") then 5
    else (if is_same input (codes "item") then 6
    else 0)))

-- a type of plans, or all of them
unfoldable pub is_type : List ℕ → Bool
is_type name = is_same name (codes "mission") || is_same name (codes "fence") || is_same name (codes "safe") || is_same name (codes "all")

-- whether an input of a link, or the type in it, is there and not listed
unfoldable pub is_unlisted_link : List (List ℕ) → Bool
is_unlisted_link words =
    (nat_lt 2 (length words) && link_size (word 2 words) == 0)
    || (nat_lt 3 (length words) && (is_same (word 2 words) (codes "count") || is_same (word 2 words) (codes "clear")) && not (is_type (word 3 words)))

-- whether an input of a link is one that is built
unfoldable pub is_built : List ℕ → Bool
is_built input = is_same input (codes "wait") || is_same input (codes "meet") || is_same input (codes "upload")

-- whether a name is that of a plan that is not plain
unfoldable pub names_unplain : List NamedPlan → List Bool → List ℕ → Bool
names_unplain (plan ∷ plans) (plain ∷ more) name = if is_same plan.name name then not plain else names_unplain plans more name
names_unplain _ _ name = false

-- whether a line of a link is built later: another link than link 0, another input, the upload of a plan that is not plain
unfoldable pub is_later_link : Draft → List (List ℕ) → Bool
is_later_link draft words =
    is_within 1 7 (word 1 words)
    || (is_within 0 0 (word 1 words) && ((nat_lt 0 (link_size (word 2 words)) && not (is_built (word 2 words)))
    || (is_same (word 2 words) (codes "upload") && names_unplain draft.plans draft.plain (word 3 words))))

-- the entry of an input that is built
unfoldable pub link_entry : List ℕ → Entry
link_entry input =
    if is_same input (codes "upload") then entry.Upload
    else (if is_same input (codes "meet") then entry.LinkMeet
    else entry.LinkWait)

-- `link L INPUT`
unfoldable pub link_form : Draft → List (List ℕ) → Result Form ScriptFault
link_form draft words =
    if is_unlisted_link words then Err fault.Unknown
    else (if is_later_link draft words then Err fault.NotYet
    else (if not (length words == link_size (word 2 words)) then Err fault.Words
    else (if is_within 0 0 (word 1 words) then Ok (form.Entry (link_entry (word 2 words)))
    else Err (fault.Number 2))))

-- how many words a line with this input of the Navigator has; none has 0
unfoldable pub nav_size : List ℕ → ℕ
nav_size input =
    if is_same input (codes "tick") || is_same input (codes "go") || is_same input (codes "reached") || is_same input (codes "wait") then 2
    else (if is_same input (codes "mode") then 3
    else (if is_same input (codes "meet") || is_same input (codes "position") then 4
    else 0))

-- a mode of the Navigator
unfoldable pub is_mode : List ℕ → Bool
is_mode name = is_same name (codes "hold") || is_same name (codes "mission") || is_same name (codes "return")

-- whether an input of the Navigator, or the mode that stands in it, is not listed
unfoldable pub is_unlisted_nav : List (List ℕ) → Bool
is_unlisted_nav words =
    (nav_size (word 1 words) == 0) || (nat_lt 2 (length words) && is_same (word 1 words) (codes "mode") && not (is_mode (word 2 words)))

-- whether events are built for what is stated so far: no `param`, and plain plans only
abbrev pub are_events_built : Draft → Bool
are_events_built draft = not draft.has_param && list_all (λ plain. plain) draft.plain

-- whether a line of the Navigator is built later: returns and positions, and every event where events are not built
unfoldable pub is_later_nav : Bool → List (List ℕ) → Bool
is_later_nav events_built words =
    is_same (word 1 words) (codes "position")
    || ((is_same (word 1 words) (codes "mode") && is_same (word 2 words) (codes "return"))
    || (not events_built && not (is_same (word 1 words) (codes "wait") || is_same (word 1 words) (codes "meet"))))

-- the entry of an input that is built
unfoldable pub nav_entry : List (List ℕ) → Entry
nav_entry words =
    if is_same (word 1 words) (codes "wait") then entry.NavWait
    else (if is_same (word 1 words) (codes "meet") then entry.NavMeet
    else (if is_same (word 1 words) (codes "tick") then entry.Event Tick
    else (if is_same (word 1 words) (codes "go") then entry.Event Go
    else (if is_same (word 1 words) (codes "reached") then entry.Event Reached
    else (if is_same (word 2 words) (codes "hold") then entry.Event (Mode mode.Hold)
    else entry.Event (Mode mode.Mission))))))

-- `nav INPUT`
unfoldable pub nav_form : Bool → List (List ℕ) → Result Form ScriptFault
nav_form events_built words =
    if nat_le (length words) 1 then Err fault.Words
    else (if is_unlisted_nav words then Err fault.Unknown
    else (if is_later_nav events_built words then Err fault.NotYet
    else (if length words == nav_size (word 1 words) then Ok (form.Entry (nav_entry words))
    else Err fault.Words)))

-- `watch W do ..` is built later
unfoldable pub watch_form : List (List ℕ) → Result Form ScriptFault
watch_form words = if nat_lt 2 (length words) && not (is_same (word 2 words) (codes "do")) then Err fault.Unknown else Err fault.NotYet

-- `turns ACTOR ..`
unfoldable pub turns_form : List (List ℕ) → Result Form ScriptFault
turns_form words =
    if not (list_all is_actor (drop 1 words)) then Err fault.Unknown
    else (if not (list_all (λ name. is_some (actor_of name)) (drop 1 words)) then Err fault.NotYet
    else (if length words == 1 then Err fault.Words
    else Ok (form.Entry entry.Turns)))

-- a line of the head
unfoldable pub head_form : List (List ℕ) → Result Form ScriptFault
head_form words =
    if is_same (word 0 words) (codes "param") then param_form words
    else (if is_same (word 0 words) (codes "home") then sized 4 (form.Measure measure.Home) words
    else (if is_same (word 0 words) (codes "plan") then plan_form words
    else Err fault.Unknown))

-- a line behind `boot`
unfoldable pub flight_form : Draft → List (List ℕ) → Result Form ScriptFault
flight_form draft words =
    if is_same (word 0 words) (codes "link") then link_form draft words
    else (if is_same (word 0 words) (codes "nav") then nav_form (are_events_built draft) words
    else (if is_same (word 0 words) (codes "watch") then watch_form words
    else (if is_same (word 0 words) (codes "turns") then turns_form words
    else Err fault.Unknown)))

-- the form of a line behind what the lines before it state
unfoldable pub form_of : Draft → List (List ℕ) → Result Form ScriptFault
form_of draft words =
    if is_same (word 0 words) (codes "boot") then boot_form draft.booted words
    else (if draft.booted then flight_form draft words
    else head_form words)
