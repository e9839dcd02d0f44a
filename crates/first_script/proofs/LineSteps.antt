-- How the lines of a script go on, one line more at a time.
use Rattle.std.proofs.Common.{◌≡◌, ℕ, ◌+◌, List, [], ◌∷◌, refl, subst, inl, inr}
use Rattle.std.specs.Prelude.{Option, Some, None, Ok, Err}
use Rattle.first_text.specs.declared.span.Span.{Span}
use Rattle.first_text.specs.Spans.{text_of}
use Rattle.first_text.specs.Words.{words_in}
use Rattle.first_model.specs.declared.schedule.Script.{Script}
use Rattle.first_script.specs.declared.fault.ScriptFault.{ScriptFault}
use Rattle.first_script.specs.declared.fault.ScriptFault.TheVariants as fault
use Rattle.first_script.specs.declared.fault.Stop.{Stop}
use Rattle.first_script.specs.declared.fault.Stop.TheVariants.{Memory, Fault}
use Rattle.first_script.specs.declared.place.Place.{Place}
use Rattle.first_script.specs.declared.place.Place.TheVariants.{Top}
use Rattle.first_script.specs.Reads.{Gives, Answers, UnlessMemory, or_fault, told}
use Rattle.first_script.specs.Places.{Leads, IsLineFault}
use Rattle.first_script.specs.Scripts.{script_at, ScriptFrom, FaultFrom}

-- what the lines so far led to, with the lines left, stands for all lines
pub record Read (text : List ℕ) (lines : List Span) (number : ℕ) (place : Place) (left : List Span) : Type 0 where
  pub reads : (script : Script) → ScriptFrom text place left script → ScriptFrom text Top lines script
  pub only : (script : Script) → ScriptFrom text Top lines script → ScriptFrom text place left script
  pub fault : (at : ℕ) (f : ScriptFault) → FaultFrom text number place left at f → FaultFrom text 1 Top lines at f

pub none_read : (text : List ℕ) (lines : List Span) → Read text lines 1 Top lines
none_read text lines = record { reads = λ script from. from; only = λ script from. from; fault = λ at f from. from }

-- what is said of every fault is said of every one but want of memory
pub unless : (Q : ScriptFault → Type 0) (f : ScriptFault) → Q f → UnlessMemory Q f
unless Q (fault.Text g) q = q
unless Q fault.Unknown q = q
unless Q fault.NotYet q = q
unless Q fault.Words q = q
unless Q (fault.Number n) q = q
unless Q fault.Distance q = q
unless Q fault.Name q = q
unless Q fault.TooMany q = q
unless Q (fault.Plan g) q = q
unless Q fault.Unfinished q = q
unless Q (fault.Memory source) q = tt

same_some : {A : Type 0} (x y : A) → Some x ≡ Some y → x ≡ y
same_some x y e = cc

some_not_none : {A : Type 0} (x : A) → ◌≡◌ {A = Option A} None (Some x) → ⊥
some_not_none x e = cc

module _ (text : List ℕ) (lines : List Span) (number : ℕ) (place : Place) where
  module _ (line : Span) (behind : List Span) (read : Read text lines number place (line ∷ behind)) where
    abbrev LeadsTo : Place → Type 0
    LeadsTo next = Leads text behind place (words_in (text_of text line)) next

    abbrev IsFault : ScriptFault → Type 0
    IsFault f = IsLineFault text behind place (words_in (text_of text line)) f

    -- one line more
    pub one_more : (next : Place) → Answers (Ok next) LeadsTo IsFault → Read text lines (number + 1) next behind
    one_more next answers = record {
      reads = λ script from. read.reads script (next, answers.0, from);
      only = λ script from. let step = read.only script from in subst (λ (p : Place). ScriptFrom text p behind script) (answers.1 step.0 step.1) step.2;
      fault = λ at f from. read.fault at f (inr (next, answers.0, from));
    }

    -- a line with a fault
    pub stops_here : (stop : Stop) → Answers (Err stop) LeadsTo IsFault → UnlessMemory (λ f. FaultFrom text 1 Top lines number f) (told stop)
    stops_here (Memory source) answers = tt
    stops_here (Fault f) answers = unless (λ f. FaultFrom text 1 Top lines number f) f (read.fault number f (inl (refl, answers.0)))

    pub stops_only : (stop : Stop) (script : Script) → Answers (Err stop) LeadsTo IsFault → ScriptFrom text Top lines script → UnlessMemory (λ _. ⊥) (told stop)
    stops_only (Memory source) script answers from = tt
    stops_only (Fault f) script answers from = absurd (let step = read.only script from in answers.1 step.0 step.1)

  module _ (read : Read text lines number place []) where
    -- no line more
    pub ends_good : (script : Script) → Gives (Ok script) (or_fault fault.Unfinished (script_at place)) → ScriptFrom text Top lines script
    ends_good script gives = read.reads script (some_of (script_at place) script gives)
      where
        some_of : (found : Option Script) (script : Script) → or_fault fault.Unfinished found ≡ Ok script → found ≡ Some script
        some_of (Some x) script e = cc
        some_of None script e = cc

    pub ends_only : (script other : Script) → Gives (Ok script) (or_fault fault.Unfinished (script_at place)) → ScriptFrom text Top lines other → script ≡ other
    ends_only script other gives from = same (script_at place) gives (read.only other from)
      where
        same : (found : Option Script) → or_fault fault.Unfinished found ≡ Ok script → found ≡ Some other → script ≡ other
        same (Some x) e h = cc
        same None e h = cc

    pub ends_here : (stop : Stop) → Gives (Err stop) (or_fault fault.Unfinished (script_at place)) → UnlessMemory (λ f. FaultFrom text 1 Top lines number f) (told stop)
    ends_here (Memory source) gives = tt
    ends_here (Fault f) gives = let none = none_of (script_at place) f gives in unless (λ f. FaultFrom text 1 Top lines number f) f (read.fault number f (refl, none.0, none.1))
      where
        none_of : (found : Option Script) (f : ScriptFault) → or_fault fault.Unfinished found ≡ Err f → (f ≡ fault.Unfinished) × (found ≡ None)
        none_of (Some x) f e = cc
        none_of None f e = (cc, refl)

    pub ends_refused : (stop : Stop) (script : Script) → Gives (Err stop) (or_fault fault.Unfinished (script_at place)) → ScriptFrom text Top lines script → UnlessMemory (λ _. ⊥) (told stop)
    ends_refused (Memory source) script gives from = tt
    ends_refused (Fault f) script gives from = absurd (never (script_at place) f gives (read.only script from))
      where
        never : (found : Option Script) (f : ScriptFault) → or_fault fault.Unfinished found ≡ Err f → found ≡ Some script → ⊥
        never (Some x) f e h = cc
        never None f e h = cc
