-- Plans in a script: the text between a line `plan ..` and the next line `end`.
use Rattle.std.specs.Prelude.{◌≡◌, ℕ, ◌↔◌, IsTrue, List, [], ◌∷◌, ◌++◌, length, Bool, ◌&&◌, ◌||◌, nat_lt, nat_le, Option, Some, None, option_map, is_none, position, Result, Ok, Err, codes, slice_index_or, if◌then◌else◌}
use Rattle.std.specs.List.{list_all, slice_range}
use Rattle.first_text.specs.declared.span.Span.{Span}
use Rattle.first_text.specs.Spans.{text_of}
use Rattle.first_text.specs.Words.{words_in}
use Rattle.first_model.specs.declared.limits.TheConstants.{MAX_PLANS, MAX_NAME_BYTES}
use Rattle.first_model.specs.declared.plan.Item.{Item}
use Rattle.first_model.specs.declared.plan.PlanType.{PlanType}
use Rattle.first_model.specs.declared.schedule.NamedPlan.{NamedPlan}
use Rattle.first_wpl.specs.declared.fault.WplFault.{WplFault}
use Rattle.first_wpl.specs.declared.fault.WplFault.TheVariants.{Memory}
use Rattle.first_wpl.specs.Wpl.{Wpl, IsWplFault}
use Rattle.first_wpl.specs.Home.{without_home}
use Rattle.first_script.specs.declared.fault.ScriptFault.{ScriptFault}
use Rattle.first_script.specs.declared.fault.ScriptFault.TheVariants as fault
use Rattle.first_script.specs.declared.draft.Draft.{Draft}
use Rattle.first_script.specs.Words.{says}
use Rattle.first_script.specs.Entries.{plan_named}
use Rattle.first_script.specs.Plain.{IsPlain}

-- whether a byte is one of a to z or of 0 to 9
abbrev pub is_name_byte : ℕ → Bool
is_name_byte byte = (nat_le 97 byte && nat_le byte 122) || (nat_le 48 byte && nat_le byte 57)

-- whether a word may name a plan: 1 to 16 such bytes
abbrev pub is_name : List ℕ → Bool
is_name name = nat_lt 0 (length name) && nat_le (length name) MAX_NAME_BYTES && list_all is_name_byte name

-- the new name that a line gives, if one more plan has room
unfoldable pub new_name : List NamedPlan → List ℕ → Result (List ℕ) ScriptFault
new_name plans name =
    if is_name name && is_none (plan_named plans name) then (if nat_lt (length plans) MAX_PLANS then Ok name else Err fault.TooMany)
    else Err fault.Name

-- whether a line ends a plan
abbrev pub is_end : List ℕ → Bool
is_end line = says (words_in line) (codes "end")

-- where the line at a place begins
abbrev pub begins_at : List Span → ℕ → ℕ
begins_at lines place = (slice_index_or lines place (record { from = 0; to = 0 })).from

-- the plan's text, if one of the lines behind ends it
unfoldable pub plan_text : List ℕ → List Span → Option (List ℕ)
plan_text text lines = option_map (λ place. slice_range text (begins_at lines 0) (begins_at lines place)) (position (λ line. is_end (text_of text line)) lines)

-- the items without the home, if the first row is the home
abbrev pub kept_items : Bool → List Item → List Item
kept_items home_first items = if home_first then without_home items else items

-- with one more plan
abbrev pub with_plan : Draft → List ℕ → PlanType → List Item → Bool → Draft
with_plan draft name kind items plain = record draft { plans = draft.plans ++ record { name = name; kind = kind; items = items } ∷ []; plain = draft.plain ++ plain ∷ [] }

-- the plan of a text, and none of a text that nothing ends
abbrev pub Fills : Draft → List ℕ → PlanType → Bool → Option (List ℕ) → Draft → Type 0
Fills draft name kind home_first None next = next ≡ draft
Fills draft name kind home_first (Some text) next =
    (items : List Item) × (plain : Bool) × Wpl text items × (IsTrue plain ↔ IsPlain kind (kept_items home_first items)) × (next ≡ with_plan draft name kind (kept_items home_first items) plain)

-- the first fault of a plan's text
abbrev pub IsTextFault : List ℕ → WplFault → Type 0
IsTextFault text (Memory _) = ⊥
IsTextFault text fault = IsWplFault text fault

abbrev pub IsTextFaultOf : List ℕ → ScriptFault → Type 0
IsTextFaultOf text f = (wpl : WplFault) × (f ≡ fault.Plan wpl) × IsTextFault text wpl

-- the fault of the text of a plan that is ended
abbrev pub IsPlanFault : Option (List ℕ) → ScriptFault → Type 0
IsPlanFault None f = ⊥
IsPlanFault (Some text) f = IsTextFaultOf text f
