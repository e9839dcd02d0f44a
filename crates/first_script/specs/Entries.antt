-- What lines of whole numbers and names state, behind what the lines before them stated.
use Rattle.std.specs.Prelude.{ℕ, ◌+◌, ◌-◌, List, [], ◌∷◌, ◌++◌, length, drop, Bool, true, false, not, ◌&&◌, ◌||◌, nat_lt, nat_le, Option, Some, None, option_map, count_by, Result, Ok, Err, pos, if◌then◌else◌}
use Rattle.first_model.specs.declared.limits.TheConstants.{MAX_PLACES, MAX_SCHEDULE_LINES, MAX_UPLOAD_LINES, MAX_TURN_WORDS}
use Rattle.first_model.specs.declared.plan.Params.{Params}
use Rattle.first_model.specs.declared.flight_line.Actor.{Actor}
use Rattle.first_model.specs.declared.flight_line.Actor.TheVariants.{Link, Nav}
use Rattle.first_model.specs.declared.schedule.InputLine.{InputLine}
use Rattle.first_model.specs.declared.schedule.InputLine.TheVariants.{Upload, Wait, Meet, Vehicle}
use Rattle.first_model.specs.declared.schedule.NamedPlan.{NamedPlan}
use Rattle.first_script.specs.declared.fault.ScriptFault.{ScriptFault}
use Rattle.first_script.specs.declared.fault.ScriptFault.TheVariants as fault
use Rattle.first_script.specs.declared.form.Entry.{Entry}
use Rattle.first_script.specs.declared.form.Entry.TheVariants as entry
use Rattle.first_script.specs.declared.draft.Draft.{Draft}
use Rattle.first_script.specs.Words.{word, is_same}
use Rattle.first_script.specs.Numbers.{whole_within}
use Rattle.first_script.specs.Actors.{actor_of}
use Rattle.first_script.specs.Reads.{◌>>=◌, or_fault}
use Rattle.first_script.specs.Uploads.{is_upload}

-- no parameter is set
abbrev pub no_params : Params
no_params = record { tko_land = 0; takeoff_min = pos 0; max_alt = pos 0; rtl_type = 0 }

-- a script of which nothing is stated
abbrev pub empty_draft : Draft
empty_draft = record { params = no_params; home = None; plans = []; plain = []; has_param = false; booted = false; inputs = []; turns = [] }

-- with other parameters
abbrev pub with_params : Draft → Params → Draft
with_params draft params = record draft { params = params; has_param = true }

-- the whole number of a range that a field's word is; fields are numbered from 1
unfoldable pub number_in : ℕ → ℕ → ℕ → List (List ℕ) → Result ℕ ScriptFault
number_in field low high words = or_fault (fault.Number field) (whole_within low high (word (field - 1) words))

-- a meeting, from the field of its place on
unfoldable pub meeting : ℕ → List (List ℕ) → Result InputLine ScriptFault
meeting field words = do
  place ← number_in field 0 (MAX_PLACES - 1) words
  count ← number_in (field + 1) 1 255 words
  Ok (Meet place count)

-- the plan of a name
unfoldable pub plan_named : List NamedPlan → List ℕ → Option NamedPlan
plan_named [] name = None
plan_named (plan ∷ plans) name = if is_same plan.name name then Some plan else plan_named plans name

-- the whole upload of the plan of a name
unfoldable pub upload : List NamedPlan → List ℕ → Result InputLine ScriptFault
upload plans name = or_fault fault.Name (option_map (λ (plan : NamedPlan). Upload plan.kind plan.items) (plan_named plans name))

-- whether the limits of the schedule let one more input in
unfoldable pub has_room : List (Actor × InputLine) → Actor × InputLine → Bool
has_room inputs input = nat_lt (length inputs) MAX_SCHEDULE_LINES && (not (is_upload input) || nat_lt (count_by is_upload inputs) MAX_UPLOAD_LINES)

-- with one more input
unfoldable pub with_input : Draft → Actor × InputLine → Result Draft ScriptFault
with_input draft input = if has_room draft.inputs input then Ok (record draft { inputs = draft.inputs ++ input ∷ [] }) else Err fault.TooMany

-- an actor in front of others, if there is one
abbrev pub actors_more : Option Actor → List Actor → List Actor
actors_more None actors = actors
actors_more (Some actor) actors = actor ∷ actors

-- the actors of names, of which each is listed
abbrev pub actors_of : List (List ℕ) → List Actor
actors_of [] = []
actors_of (name ∷ names) = actors_more (actor_of name) (actors_of names)

-- with the turns of a line behind those stated
unfoldable pub with_turns : Draft → List (List ℕ) → Result Draft ScriptFault
with_turns draft names =
    if nat_le (length draft.turns + length names) MAX_TURN_WORDS then Ok (record draft { turns = draft.turns ++ actors_of names })
    else Err fault.TooMany

-- with the choice among takeoff and landing that a mission must have
abbrev pub after_landing : Draft → List (List ℕ) → Result Draft ScriptFault
after_landing draft words = do
  choice ← number_in 3 0 4 words
  Ok (with_params draft (record draft.params { tko_land = choice }))

-- with the choice where a return goes
abbrev pub after_return : Draft → List (List ℕ) → Result Draft ScriptFault
after_return draft words = do
  choice ← number_in 3 0 2 words
  Ok (with_params draft (record draft.params { rtl_type = choice }))

-- with the upload of a plan as the next input of link 0
abbrev pub after_upload : Draft → List (List ℕ) → Result Draft ScriptFault
after_upload draft words = do
  input ← upload draft.plans (word 3 words)
  with_input draft (Link 0, input)

-- with a meeting as the next input of an actor, whose place stands in this field
abbrev pub after_meeting : Actor → ℕ → Draft → List (List ℕ) → Result Draft ScriptFault
after_meeting actor field draft words = do
  input ← meeting field words
  with_input draft (actor, input)

-- what the lines up to this one state, of which this is an entry
unfoldable pub after_entry : Draft → Entry → List (List ℕ) → Result Draft ScriptFault
after_entry draft entry.Landing words = after_landing draft words
after_entry draft entry.Return words = after_return draft words
after_entry draft entry.Boot words = Ok (record draft { booted = true })
after_entry draft entry.Upload words = after_upload draft words
after_entry draft entry.LinkWait words = with_input draft (Link 0, Wait)
after_entry draft entry.LinkMeet words = after_meeting (Link 0) 4 draft words
after_entry draft entry.NavWait words = with_input draft (Nav, Wait)
after_entry draft entry.NavMeet words = after_meeting Nav 3 draft words
after_entry draft (entry.Event event) words = with_input draft (Nav, Vehicle event)
after_entry draft entry.Turns words = with_turns draft (drop 1 words)
