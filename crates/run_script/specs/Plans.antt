-- Plans in a script: the lines between a line `plan ..` and the next line `end`.
use Rattle.std.specs.Prelude.{◌≡◌, ℕ, List, [], ◌∷◌, length, Bool, true, false, ◌&&◌, ◌||◌, ◌==◌, nat_lt, nat_le, Option, Some, None, is_none, option_map, position, map, take, Result, Ok, Err, codes, if◌then◌else◌}
use Rattle.std.specs.List.{list_all}
use Rattle.nav_text.specs.declared.span.Span.{Span}
use Rattle.nav_text.specs.Spans.{text_of}
use Rattle.nav_text.specs.Words.{words_in}
use Rattle.mission_model.specs.declared.limits.TheConstants.{MAX_PLANS, MAX_NAME_BYTES}
use Rattle.mission_model.specs.declared.plan.Item.{Item}
use Rattle.mission_model.specs.declared.plan.PlanType.{PlanType}
use Rattle.mission_model.specs.declared.plan.PlanType.TheVariants as kind
use Rattle.mission_model.specs.declared.schedule.NamedPlan.{NamedPlan}
use Rattle.wpl_items.specs.declared.fault.WplFault.{WplFault}
use Rattle.wpl_items.specs.declared.fault.WplFault.TheVariants.{Memory}
use Rattle.wpl_items.specs.Wpl.{WplLines, IsLinesFault}
use Rattle.wpl_items.specs.Home.{without_home}
use Rattle.run_script.specs.declared.fault.ScriptFault.{ScriptFault}
use Rattle.run_script.specs.declared.fault.ScriptFault.TheVariants as fault
use Rattle.run_script.specs.declared.fault.Stop.{Stop}
use Rattle.run_script.specs.declared.fault.Stop.TheVariants as stop
use Rattle.run_script.specs.Choices.{is_same}
use Rattle.run_script.specs.Lines.{word}
use Rattle.run_script.specs.Statements.{Statement, Plan, Unclosed}
use Rattle.run_script.specs.Forms.{plan_named}

-- whether a byte is one of a to z or of 0 to 9
abbrev pub is_name_byte : ℕ → Bool
is_name_byte byte = (nat_le 97 byte && nat_le byte 122) || (nat_le 48 byte && nat_le byte 57)

-- whether a word may name a plan: 1 to 16 such bytes
abbrev pub is_name : List ℕ → Bool
is_name name = nat_lt 0 (length name) && nat_le (length name) MAX_NAME_BYTES && list_all is_name_byte name

-- the new name that a line gives, if one more plan has room
unfoldable pub new_name : List NamedPlan → List ℕ → Result (List ℕ) ScriptFault
new_name plans name =
    if is_name name && is_none (plan_named plans name) then (if nat_lt (length plans) MAX_PLANS then Ok name else Err fault.TooMany)
    else Err fault.Name

-- the type of a plan, by the number of its word
abbrev pub kind_of : ℕ → PlanType
kind_of number = if number == 0 then kind.Mission else (if number == 1 then kind.Fence else kind.Safe)

-- whether no word is left
abbrev pub is_nothing : List (List ℕ) → Bool
is_nothing [] = true
is_nothing (word ∷ more) = false

-- whether a line ends a plan: its only word is `end`
abbrev pub is_end_words : List (List ℕ) → Bool
is_end_words [] = false
is_end_words (word ∷ more) = is_same word (codes "end") && is_nothing more

abbrev pub is_end : List ℕ → Bool
is_end line = is_end_words (words_in line)

-- the plan's lines, if one of the lines behind ends it
unfoldable pub plan_lines : List ℕ → List Span → Option (List (List ℕ))
plan_lines text lines = option_map (λ place. map (text_of text) (take place lines)) (position (λ line. is_end (text_of text line)) lines)

-- the items without the home, if the first row is the home
abbrev pub kept_items : Bool → List Item → List Item
kept_items home_first items = if home_first then without_home items else items

-- a line of a new plan states the plan of its lines, and a plan that nothing ends where there are none
abbrev pub PlanStated : Bool → PlanType → List ℕ → Option (List (List ℕ)) → Statement → Type 0
PlanStated home_first kind name None statement = statement ≡ Unclosed
PlanStated home_first kind name (Some lines) statement =
    (items : List Item) × WplLines lines items × (statement ≡ Plan (record { name = name; kind = kind; items = kept_items home_first items }))

-- the first fault of a plan's lines
abbrev pub IsTextFault : List (List ℕ) → WplFault → Type 0
IsTextFault lines (Memory _) = ⊥
IsTextFault lines found = IsLinesFault lines found

-- the items are those of the lines, and no others are
abbrev pub ReadsLines : List (List ℕ) → List Item → Type 0
ReadsLines lines items = WplLines lines items × ((other : List Item) → WplLines lines other → other ≡ items)

-- the lines have no items, and this is their fault
abbrev pub IsLinesStop : List (List ℕ) → Stop → Type 0
IsLinesStop lines (stop.Memory _) = Unit {0}
IsLinesStop lines (stop.Fault f) = ((found : WplFault) × (f ≡ fault.Plan found) × IsTextFault lines found) × ((other : List Item) → ¬ (WplLines lines other))

-- the fault of a plan that is ended
abbrev pub IsPlanFault : Option (List (List ℕ)) → ScriptFault → Type 0
IsPlanFault None f = ⊥
IsPlanFault (Some lines) f = (found : WplFault) × (f ≡ fault.Plan found) × IsTextFault lines found

-- what a line of a plan states, whose name is new or not
abbrev pub NamedStated : Bool → PlanType → Result (List ℕ) ScriptFault → Option (List (List ℕ)) → Statement → Type 0
NamedStated home_first kind (Ok name) lines statement = PlanStated home_first kind name lines statement
NamedStated home_first kind (Err f) lines statement = ⊥

-- its fault: that of its name, or else of its text
abbrev pub IsNamedFault : Result (List ℕ) ScriptFault → Option (List (List ℕ)) → ScriptFault → Type 0
IsNamedFault (Ok name) lines f = IsPlanFault lines f
IsNamedFault (Err g) lines f = f ≡ g
