-- The places among the lines of a script, and how each line leads from one to the next.
use Rattle.std.specs.Prelude.{◌≡◌, ◌⊎◌, ℕ, List, length, Bool, true, false, ◌||◌, ◌==◌, Result, Ok, Err, codes, if◌then◌else◌}
use Rattle.first_text.specs.declared.span.Span.{Span}
use Rattle.first_script.specs.declared.fault.ScriptFault.{ScriptFault}
use Rattle.first_script.specs.declared.fault.ScriptFault.TheVariants as fault
use Rattle.first_script.specs.declared.form.Form.{Form}
use Rattle.first_script.specs.declared.form.Form.TheVariants.{Measure, Entry, Plan}
use Rattle.first_script.specs.declared.draft.Draft.{Draft}
use Rattle.first_script.specs.declared.place.Place.{Place}
use Rattle.first_script.specs.declared.place.Place.TheVariants.{Top, Among, Within}
use Rattle.first_script.specs.Words.{word, says, is_comment}
use Rattle.first_script.specs.Forms.{form_of}
use Rattle.first_script.specs.Entries.{empty_draft, after_entry}
use Rattle.first_script.specs.Measures.{Measures, IsMeasureFault}
use Rattle.first_script.specs.Plans.{new_name, plan_text, Fills, IsPlanFault}

-- whether a line is skipped: it has no word, or is a comment
abbrev pub is_skipped : List (List ℕ) → Bool
is_skipped words = (length words == 0) || is_comment words

-- in front of the first line
unfoldable pub after_top : List (List ℕ) → Result Place ScriptFault
after_top words =
    if is_skipped words then Ok Top
    else (if says words (codes "px4 script 1") then Ok (Among empty_draft)
    else Err fault.Unknown)

-- within a plan, whose text was read at its first line
unfoldable pub after_within : Draft → List (List ℕ) → Place
after_within draft words = if says words (codes "end") then Among draft else Within draft

-- A line of a form states this. The lines behind it are those in which a plan's text lies.
abbrev pub States : List ℕ → List Span → Draft → Form → List (List ℕ) → Place → Type 0
States text behind draft (Measure measure) words next = (after : Draft) × Measures draft measure words after × (next ≡ Among after)
States text behind draft (Entry entry) words next = (after : Draft) × (after_entry draft entry words ≡ Ok after) × (next ≡ Among after)
States text behind draft (Plan kind home_first) words next =
    (name : List ℕ) × (after : Draft) × (new_name draft.plans (word 1 words) ≡ Ok name) × Fills draft name kind home_first (plan_text text behind) after × (next ≡ Within after)

-- a line of a form has this fault
abbrev pub IsFaultOf : List ℕ → List Span → Draft → Form → List (List ℕ) → ScriptFault → Type 0
IsFaultOf text behind draft (Measure measure) words f = IsMeasureFault measure words f
IsFaultOf text behind draft (Entry entry) words f = after_entry draft entry words ≡ Err f
IsFaultOf text behind draft (Plan kind home_first) words f =
    (new_name draft.plans (word 1 words) ≡ Err f)
    ⊎ ((name : List ℕ) × (new_name draft.plans (word 1 words) ≡ Ok name) × IsPlanFault (plan_text text behind) f)

-- the same of a line by its form, or by the fault in what selects it
abbrev pub StatesBy : List ℕ → List Span → Draft → Result Form ScriptFault → List (List ℕ) → Place → Type 0
StatesBy text behind draft (Ok form) words next = States text behind draft form words next
StatesBy text behind draft (Err f) words next = ⊥

abbrev pub IsFaultBy : List ℕ → List Span → Draft → Result Form ScriptFault → List (List ℕ) → ScriptFault → Type 0
IsFaultBy text behind draft (Ok form) words f = IsFaultOf text behind draft form words f
IsFaultBy text behind draft (Err g) words f = f ≡ g

-- a line that is skipped leaves what is stated
abbrev pub AmongLeads : Bool → List ℕ → List Span → Draft → List (List ℕ) → Place → Type 0
AmongLeads true text behind draft words next = next ≡ Among draft
AmongLeads false text behind draft words next = StatesBy text behind draft (form_of draft words) words next

abbrev pub IsAmongFault : Bool → List ℕ → List Span → Draft → List (List ℕ) → ScriptFault → Type 0
IsAmongFault true text behind draft words f = ⊥
IsAmongFault false text behind draft words f = IsFaultBy text behind draft (form_of draft words) words f

-- a line of these words, with these lines behind it, leads from one place to the next
abbrev pub Leads : List ℕ → List Span → Place → List (List ℕ) → Place → Type 0
Leads text behind Top words next = after_top words ≡ Ok next
Leads text behind (Within draft) words next = next ≡ after_within draft words
Leads text behind (Among draft) words next = AmongLeads (is_skipped words) text behind draft words next

-- or has this fault
abbrev pub IsLineFault : List ℕ → List Span → Place → List (List ℕ) → ScriptFault → Type 0
IsLineFault text behind Top words f = after_top words ≡ Err f
IsLineFault text behind (Within draft) words f = ⊥
IsLineFault text behind (Among draft) words f = IsAmongFault (is_skipped words) text behind draft words f
