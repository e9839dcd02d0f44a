-- What statements come to, one after another: all that a later line or the end of the script asks of them.
use Rattle.std.specs.Prelude.{◌≡◌, ℕ, ◌+◌, pos, List, [], ◌∷◌, ◌++◌, length, map, max, Bool, true, false, ◌&&◌, not, nat_lt, Option, Some, None, Result, Ok, Err, if◌then◌else◌}
use Rattle.mission_model.specs.declared.flight_line.Actor.{Actor}
use Rattle.mission_model.specs.declared.plan.Home.{Home}
use Rattle.mission_model.specs.declared.plan.Params.{Params}
use Rattle.mission_model.specs.declared.schedule.BootScript.{BootScript}
use Rattle.mission_model.specs.declared.schedule.CutSpec.{CutSpec}
use Rattle.mission_model.specs.declared.schedule.InputLine.{InputLine}
use Rattle.mission_model.specs.declared.schedule.NamedPlan.{NamedPlan}
use Rattle.mission_model.specs.declared.schedule.Script.{Script}
use Rattle.run_script.specs.declared.fault.ScriptFault.{ScriptFault}
use Rattle.run_script.specs.declared.fault.Stop.{Stop}
use Rattle.run_script.specs.declared.fault.Stop.TheVariants.{Memory, Fault}
use Rattle.run_script.specs.Statements.{Statement, Begins, TkoLand, TakeoffMin, MaxAlt, RtlType, NoDistance, HomeIs, Plan, Unclosed, Boot, Input, Turns, is_upload, links_to, watchers_to, greatest}
use Rattle.run_script.specs.Forms.{Before}

pub record Gathered : Type 0 where
  pub begun : Bool
  pub unclosed : Bool
  pub params : Params
  pub home : Option Home
  pub plans : List NamedPlan
  pub ended : List BootScript
  pub boots : ℕ
  pub cut : Option CutSpec
  pub inputs : List (Actor × InputLine)
  pub turns : List Actor
  pub links : ℕ
  pub watchers : ℕ
  pub schedule : ℕ
  pub uploads : ℕ
  pub turn_words : ℕ

abbrev pub no_params : Params
no_params = record { tko_land = 0; takeoff_min = pos 0; max_alt = pos 0; rtl_type = 0 }

abbrev pub nothing_gathered : Gathered
nothing_gathered = record { begun = false; unclosed = false; params = no_params; home = None; plans = []; ended = []; boots = 0; cut = None; inputs = []; turns = []; links = 0; watchers = 0; schedule = 0; uploads = 0; turn_words = 0 }

-- a boot of which only its own lines are known
abbrev pub own_boot : Option CutSpec → List (Actor × InputLine) → List Actor → BootScript
own_boot cut inputs turns = record { cut = cut; inputs = inputs; turns = turns; params = no_params; home = None; links = 0; watchers = 0 }

-- the boots so far, the last among them
abbrev pub all_boots : Gathered → List BootScript
all_boots g = if nat_lt 0 g.boots then g.ended ++ own_boot g.cut g.inputs g.turns ∷ [] else g.ended

-- with more turns
abbrev pub with_turns : Gathered → List Actor → Gathered
with_turns g actors = record g { turns = g.turns ++ actors; links = max g.links (greatest links_to actors); watchers = max g.watchers (greatest watchers_to actors) }

-- with one statement more
abbrev pub after : Gathered → Statement → Gathered
after g Begins = record g { begun = true }
after g (TkoLand n) = record g { params = record g.params { tko_land = n } }
after g (TakeoffMin n) = record g { params = record g.params { takeoff_min = n } }
after g (MaxAlt n) = record g { params = record g.params { max_alt = n } }
after g (RtlType n) = record g { params = record g.params { rtl_type = n } }
after g NoDistance = g
after g (HomeIs home) = record g { home = Some home }
after g (Plan plan) = record g { plans = g.plans ++ plan ∷ [] }
after g Unclosed = record g { unclosed = true }
after g (Boot cut) = record g { ended = all_boots g; boots = g.boots + 1; cut = cut; inputs = []; turns = [] }
after g (Input actor given) = record g { inputs = g.inputs ++ (actor, given) ∷ []; links = max g.links (links_to actor); watchers = max g.watchers (watchers_to actor); schedule = g.schedule + 1; uploads = if is_upload given then g.uploads + 1 else g.uploads }
after g (Turns actors) = record (with_turns g actors) { turn_words = g.turn_words + length actors }

-- as far as a line is judged by it
abbrev pub known : Gathered → Before
known g = record { plans = g.plans; boots = g.boots; schedule = g.schedule; uploads = g.uploads; turns = g.turn_words }

-- a boot with what is the script's
abbrev pub filled_with : Params → Option Home → ℕ → ℕ → BootScript → BootScript
filled_with params home links watchers boot = record boot { params = params; home = home; links = links; watchers = watchers }

-- the script
abbrev pub script_in : Gathered → Script
script_in g = record { params = g.params; home = g.home; plans = g.plans; boots = map (filled_with g.params g.home g.links g.watchers) (all_boots g) }

-- whether nothing is missing
abbrev pub is_whole : Gathered → Bool
is_whole g = nat_lt 0 g.boots && not g.unclosed

-- a part gave up for want of memory
abbrev pub IsMemory : Stop → Type 0
IsMemory (Memory _) = Unit {0}
IsMemory (Fault _) = ⊥

-- the answer is what is wanted, a value or a fault, or want of memory
abbrev pub Gives : {A : Type 0} → Result A Stop → Result A ScriptFault → Type 0
Gives (Ok found) wanted = wanted ≡ Ok found
Gives (Err (Fault f)) wanted = wanted ≡ Err f
Gives (Err (Memory _)) wanted = Unit {0}

-- the answer is the statement that is wanted, or its fault, or want of memory
abbrev pub Follows : Gathered → Result Statement ScriptFault → Result Unit Stop → Gathered → Type 0
Follows old (Ok statement) (Ok _) new = new ≡ after old statement
Follows old (Err f) (Err (Fault g)) new = f ≡ g
Follows old wanted (Err (Memory _)) new = Unit {0}
Follows old _ _ new = ⊥

-- the answer is the one statement that may come, or a fault where none may, or want of memory
abbrev pub Leads : (Statement → Type 0) → (ScriptFault → Type 0) → Gathered → Result Unit Stop → Gathered → Type 0
Leads Comes IsFault old (Ok _) new = (statement : Statement) × Comes statement × ((other : Statement) → Comes other → other ≡ statement) × (new ≡ after old statement)
Leads Comes IsFault old (Err (Fault f)) new = IsFault f × ((other : Statement) → ¬ (Comes other))
Leads Comes IsFault old (Err (Memory _)) new = Unit {0}
