-- What a line of a form states, behind the lines before it.
use Rattle.std.specs.Prelude.{ℕ, ◌+◌, ℤ, pos, List, length, drop, Bool, ◌&&◌, ◌||◌, ◌==◌, not, nat_lt, nat_le, Option, Some, None, is_some, option_map, Result, Ok, Err, find, slice_get, if◌then◌else◌}
use Rattle.std.specs.List.{list_all, filter_map, flat_map, count_by}
use Rattle.std.specs.Ordering.{int_eq}
use Rattle.mission_model.specs.declared.limits.TheConstants.{MAX_BOOTS, MAX_SCHEDULE_LINES, MAX_TURN_WORDS, MAX_UPLOAD_LINES}
use Rattle.mission_model.specs.declared.flight_line.Actor.{Actor}
use Rattle.mission_model.specs.declared.flight_line.Actor.TheVariants as actor
use Rattle.mission_model.specs.declared.message.Message.TheVariants as message
use Rattle.mission_model.specs.declared.plan.Item.{Item}
use Rattle.mission_model.specs.declared.schedule.CutSpec.{CutSpec}
use Rattle.mission_model.specs.declared.schedule.TearKind.TheVariants as tear
use Rattle.mission_model.specs.declared.schedule.InputLine.{InputLine}
use Rattle.mission_model.specs.declared.schedule.InputLine.TheVariants as input
use Rattle.mission_model.specs.declared.schedule.NamedPlan.{NamedPlan}
use Rattle.mission_model.specs.declared.vehicle.Mode.{Mode}
use Rattle.mission_model.specs.declared.vehicle.Mode.TheVariants as mode
use Rattle.mission_model.specs.declared.vehicle.VehicleLine.TheVariants as event
use Rattle.run_script.specs.declared.fault.ScriptFault.{ScriptFault}
use Rattle.run_script.specs.declared.fault.ScriptFault.TheVariants as fault
use Rattle.run_script.specs.declared.table.Form.{Form}
use Rattle.run_script.specs.declared.table.Form.TheVariants as form
use Rattle.run_script.specs.declared.table.Setting.{Setting}
use Rattle.run_script.specs.declared.table.Setting.TheVariants as setting
use Rattle.run_script.specs.declared.table.Tear.{Tear}
use Rattle.run_script.specs.declared.table.Tear.TheVariants as form_tear
use Rattle.run_script.specs.declared.table.LinkForm.{LinkForm}
use Rattle.run_script.specs.declared.table.LinkForm.TheVariants as link
use Rattle.run_script.specs.declared.table.NavForm.{NavForm}
use Rattle.run_script.specs.declared.table.NavForm.TheVariants as nav
use Rattle.run_script.specs.declared.value.Value.{Value}
use Rattle.run_script.specs.declared.value.Value.TheVariants as value
use Rattle.run_script.specs.declared.value.Values.{Values}
use Rattle.run_script.specs.Choices.{is_same}
use Rattle.run_script.specs.Actors.{actor_of}
use Rattle.run_script.specs.Lines.{word}
use Rattle.run_script.specs.Statements.{Statement, TkoLand, TakeoffMin, MaxAlt, RtlType, NoDistance, HomeIs, Boot, Input, Turns, plan_of, input_of, turns_of, is_boot, is_upload, is_upload_line}

-- the number that a value is, by its size
abbrev pub byte_of : Value → ℕ
byte_of (value.Byte n) = n
byte_of _ = 0

abbrev pub short_of : Value → ℕ
short_of (value.Short n) = n
short_of _ = 0

abbrev pub long_of : Value → ℕ
long_of (value.Long n) = n
long_of _ = 0

abbrev pub signed_of : Value → ℤ
signed_of (value.Signed n) = n
signed_of _ = pos 0

-- what the lines before a line come to: their plans, and how much of each limit they use
pub record Before : Type 0 where
  pub plans : List NamedPlan
  pub boots : ℕ
  pub schedule : ℕ
  pub uploads : ℕ
  pub turns : ℕ

unfoldable pub before_of : List Statement → Before
before_of statements = record {
  plans = filter_map plan_of statements;
  boots = count_by is_boot statements;
  schedule = length (filter_map input_of statements);
  uploads = count_by is_upload_line statements;
  turns = length (flat_map turns_of statements);
}

infixl 10 ◌>>=◌
abbrev pub ◌>>=◌ : {A B : Type 0} → Result A ScriptFault → (A → Result B ScriptFault) → Result B ScriptFault
(Ok x) >>= f = f x
(Err e) >>= f = Err e

-- a value, or this fault where there is none
abbrev pub or_fault : {A : Type 0} → ScriptFault → Option A → Result A ScriptFault
or_fault e (Some x) = Ok x
or_fault e None = Err e

-- a parameter; a distance has to be 0
abbrev pub setting_stated : Setting → Values → Result Statement ScriptFault
setting_stated setting.TkoLand values = Ok (TkoLand (byte_of values.third))
setting_stated setting.TakeoffMin values = Ok (TakeoffMin (signed_of values.third))
setting_stated setting.MaxAlt values = Ok (MaxAlt (signed_of values.third))
setting_stated setting.RtlType values = Ok (RtlType (byte_of values.third))
setting_stated setting.Distance values = if int_eq (signed_of values.third) (pos 0) then Ok NoDistance else Err fault.Distance

-- what a cut leaves, and its argument
abbrev pub cut_of : Tear → Values → CutSpec
cut_of form_tear.Old values = record { read = byte_of values.second == 1; call = long_of values.third; tear = tear.Old; arg = 0 }
cut_of form_tear.New values = record { read = byte_of values.second == 1; call = long_of values.third; tear = tear.New; arg = 0 }
cut_of form_tear.Front values = record { read = byte_of values.second == 1; call = long_of values.third; tear = tear.Front; arg = short_of values.fifth }
cut_of form_tear.Fill values = record { read = byte_of values.second == 1; call = long_of values.third; tear = tear.Fill; arg = byte_of values.fifth }

-- one more boot
abbrev pub boot_stated : ℕ → Option CutSpec → Result Statement ScriptFault
boot_stated boots cut = if nat_lt boots MAX_BOOTS then Ok (Boot cut) else Err fault.TooMany

-- the plan of a name
abbrev pub plan_named : List NamedPlan → List ℕ → Option NamedPlan
plan_named plans name = find (λ (plan : NamedPlan). is_same plan.name name) plans

-- an input of a link
abbrev pub item_stated : ℕ → Option Item → Result InputLine ScriptFault
item_stated seq found = or_fault fault.Name (option_map (λ (item : Item). input.Message (message.Item seq item)) found)

abbrev pub item_named : Option NamedPlan → ℕ → ℕ → Result InputLine ScriptFault
item_named (Some plan) seq row = item_stated seq (slice_get plan.items row)
item_named None seq row = Err fault.Name

abbrev pub upload_named : Option NamedPlan → Result InputLine ScriptFault
upload_named (Some plan) = Ok (input.Upload plan.kind plan.items)
upload_named None = Err fault.Name

abbrev pub link_input : List NamedPlan → LinkForm → Values → List (List ℕ) → Result InputLine ScriptFault
link_input plans link.Count values words = Ok (input.Message (message.Count (byte_of values.fourth) (short_of values.fifth)))
link_input plans link.Item values words = item_named (plan_named plans (word 5 words)) (short_of values.fourth) (short_of values.sixth)
link_input plans link.Clear values words = Ok (input.Message (message.ClearAll (byte_of values.fourth)))
link_input plans link.SetCurrent values words = Ok (input.Message (message.SetCurrent (short_of values.fourth)))
link_input plans link.Cancel values words = Ok (input.Message message.Cancel)
link_input plans link.Timeout values words = Ok (input.Message message.Timeout)
link_input plans link.Upload values words = upload_named (plan_named plans (word 4 words))
link_input plans link.Wait values words = Ok input.Wait
link_input plans link.Meet values words = Ok (input.Meet (byte_of values.fourth) (byte_of values.fifth))

-- the mode of a number
abbrev pub mode_of : ℕ → Mode
mode_of number = if number == 0 then mode.Hold else (if number == 1 then mode.Mission else mode.Return)

-- an input of the Navigator
abbrev pub nav_input : NavForm → Values → InputLine
nav_input nav.Tick values = input.Vehicle event.Tick
nav_input nav.Go values = input.Vehicle event.Go
nav_input nav.Reached values = input.Vehicle event.Reached
nav_input nav.Mode values = input.Vehicle (event.Mode (mode_of (byte_of values.third)))
nav_input nav.Position values = input.Vehicle (event.Position (signed_of values.third) (signed_of values.fourth))
nav_input nav.Wait values = input.Wait
nav_input nav.Meet values = input.Meet (byte_of values.third) (byte_of values.fourth)

-- an input of a watcher
abbrev pub watch_input : Values → InputLine
watch_input values = input.Watch (record { code = short_of values.fourth; a = signed_of values.fifth; b = signed_of values.sixth })

-- whether the limits let one more input in
abbrev pub has_room : Before → InputLine → Bool
has_room before given = nat_lt before.schedule MAX_SCHEDULE_LINES && (not (is_upload given) || nat_lt before.uploads MAX_UPLOAD_LINES)

-- one more input of an actor
abbrev pub input_stated : Before → Actor → InputLine → Result Statement ScriptFault
input_stated before actor given = if has_room before given then Ok (Input actor given) else Err fault.TooMany

-- what a line of a form states, or its fault, where its words are those of the form and stand for these values; plans have a rule of their own
unfoldable pub stated : Before → Form → Values → List (List ℕ) → Result Statement ScriptFault
stated before (form.Set setting) values words = setting_stated setting values
stated before form.Home values words = Ok (HomeIs (record { x = signed_of values.second; y = signed_of values.third; z = signed_of values.fourth }))
stated before form.Boot values words = boot_stated before.boots None
stated before (form.Cut tear) values words = boot_stated before.boots (Some (cut_of tear values))
stated before (form.Link link) values words = do
  given ← link_input before.plans link values words
  input_stated before (actor.Link (byte_of values.second)) given
stated before (form.Nav nav) values words = input_stated before actor.Nav (nav_input nav values)
stated before form.Watch values words = input_stated before (actor.Watch (byte_of values.second)) (watch_input values)
stated before _ values words = Err fault.Unknown

-- what a line `turns` states: each word behind the first is an actor, and there is one
unfoldable pub turns_stated : Before → List (List ℕ) → Result Statement ScriptFault
turns_stated before words =
    if not (list_all (λ name. is_some (actor_of name)) (drop 1 words)) then Err fault.Unknown
    else (if length words == 1 then Err fault.Words
    else (if nat_le (before.turns + length (drop 1 words)) MAX_TURN_WORDS then Ok (Turns (filter_map actor_of (drop 1 words)))
    else Err fault.TooMany))
