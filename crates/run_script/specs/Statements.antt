-- What lines state, and what of it there is in a list of statements.
use Rattle.std.specs.Prelude.{ℕ, ◌+◌, ℤ, List, [], ◌∷◌, Bool, true, false, Option, Some, None, unwrap_or, max}
use Rattle.mission_model.specs.declared.flight_line.Actor.{Actor}
use Rattle.mission_model.specs.declared.flight_line.Actor.TheVariants.{Link, Watch}
use Rattle.mission_model.specs.declared.message.Message.TheVariants as message
use Rattle.mission_model.specs.declared.plan.Home.{Home}
use Rattle.mission_model.specs.declared.schedule.CutSpec.{CutSpec}
use Rattle.mission_model.specs.declared.schedule.InputLine.{InputLine}
use Rattle.mission_model.specs.declared.schedule.InputLine.TheVariants as input
use Rattle.mission_model.specs.declared.schedule.NamedPlan.{NamedPlan}

-- what a line states
pub data Statement : Type 0 where
  Begins : Statement
  TkoLand : ℕ → Statement
  TakeoffMin : ℤ → Statement
  MaxAlt : ℤ → Statement
  RtlType : ℕ → Statement
  NoDistance : Statement
  HomeIs : Home → Statement
  Plan : NamedPlan → Statement
  Unclosed : Statement
  Boot : Option CutSpec → Statement
  Input : Actor → InputLine → Statement
  Turns : List Actor → Statement

-- the parameter of a statement, one function for each
abbrev pub tko_land_of : Statement → Option ℕ
tko_land_of (TkoLand n) = Some n
tko_land_of _ = None

abbrev pub takeoff_min_of : Statement → Option ℤ
takeoff_min_of (TakeoffMin h) = Some h
takeoff_min_of _ = None

abbrev pub max_alt_of : Statement → Option ℤ
max_alt_of (MaxAlt h) = Some h
max_alt_of _ = None

abbrev pub rtl_type_of : Statement → Option ℕ
rtl_type_of (RtlType n) = Some n
rtl_type_of _ = None

-- its home, its plan, its input, its turns
abbrev pub home_of : Statement → Option Home
home_of (HomeIs home) = Some home
home_of _ = None

abbrev pub plan_of : Statement → Option NamedPlan
plan_of (Plan plan) = Some plan
plan_of _ = None

abbrev pub input_of : Statement → Option (Actor × InputLine)
input_of (Input actor given) = Some (actor, given)
input_of _ = None

abbrev pub turns_of : Statement → List Actor
turns_of (Turns actors) = actors
turns_of _ = []

-- whether it is that of the first line
abbrev pub is_begin : Statement → Bool
is_begin Begins = true
is_begin _ = false

-- whether it begins a boot, and whether a plan without an end
abbrev pub is_boot : Statement → Bool
is_boot (Boot _) = true
is_boot _ = false

abbrev pub is_unclosed : Statement → Bool
is_unclosed Unclosed = true
is_unclosed _ = false

-- whether an input is counted as an upload: a whole one, its count, or a clearing
abbrev pub is_upload : InputLine → Bool
is_upload (input.Upload _ _) = true
is_upload (input.Message (message.Count _ _)) = true
is_upload (input.Message (message.ClearAll _)) = true
is_upload _ = false

abbrev pub is_upload_line : Statement → Bool
is_upload_line (Input actor given) = is_upload given
is_upload_line _ = false

-- the last value that is found in a list, or another where none is
abbrev pub last_of : {A : Type 0} → (Statement → Option A) → A → List Statement → A
last_of found other [] = other
last_of found other (statement ∷ more) = last_of found (unwrap_or (found statement) other) more

-- one above the number of a link or a watcher that an actor is
abbrev pub links_to : Actor → ℕ
links_to (Link number) = number + 1
links_to _ = 0

abbrev pub watchers_to : Actor → ℕ
watchers_to (Watch number) = number + 1
watchers_to _ = 0

-- the actors that a statement names
abbrev pub actors_of : Statement → List Actor
actors_of (Input actor given) = actor ∷ []
actors_of (Turns actors) = actors
actors_of _ = []

-- the greatest of the numbers that a list gives
abbrev pub greatest : {A : Type 0} → (A → ℕ) → List A → ℕ
greatest measure [] = 0
greatest measure (x ∷ xs) = max (measure x) (greatest measure xs)
