-- How the lines of a script go on, one line more at a time.
use Rattle.std.proofs.Common.{◌≡◌, ℕ, ◌+◌, List, [], ◌∷◌, ◌++◌, length, Bool, true, false, refl, sym, ◌∙◌, ap, subst, inl, inr}
use Rattle.std.specs.Prelude.{not, Result, Ok, Err}
use Rattle.std.specs.List.{list_any}
use Rattle.nav_text.specs.declared.span.Span.{Span}
use Rattle.nav_text.specs.Spans.{text_of}
use Rattle.nav_text.specs.Words.{words_in}
use Rattle.mission_model.specs.declared.schedule.Script.{Script}
use Rattle.run_script.specs.declared.fault.ScriptFault.{ScriptFault}
use Rattle.run_script.specs.declared.fault.ScriptFault.TheVariants as fault
use Rattle.run_script.specs.declared.fault.Stop.{Stop}
use Rattle.run_script.specs.declared.fault.Stop.TheVariants.{Memory, Fault}
use Rattle.run_script.specs.Statements.{Statement, is_begin}
use Rattle.run_script.specs.Forms.{Before, before_of}
use Rattle.run_script.specs.Plans.{is_end}
use Rattle.run_script.specs.Told.{Told, told_lines, is_skipped, begins_plan, LineStates, IsLineFault, States, IsFault}
use Rattle.run_script.specs.Gathered.{Gathered, nothing_gathered, after, known, Leads, script_in, is_whole}
use Rattle.run_script.specs.Steps.{StepIs, OutsideIs, told}
use Rattle.run_script.specs.Scripts.{LinesState, FaultFrom, LinesScript, LinesFault, UnlessMemory, script_of, is_finished}
use Rattle.run_script.proofs.Running.{run, run_more}
use Rattle.run_script.proofs.Meaning.{known_is, begun, script_is, whole_is}

-- what the lines so far stated, with the lines left, stands for all lines
pub record Read (text : List ℕ) (last : ℕ) (all : List Told) (left : List Told) (draft : Gathered) : Type 0 where
  pub before : List Statement
  pub holds : draft ≡ run nothing_gathered before
  pub reads : (statements : List Statement) → LinesState text before left statements → LinesState text [] all statements
  pub only : (statements : List Statement) → LinesState text [] all statements → LinesState text before left statements
  pub fault : (at : ℕ) (f : ScriptFault) → FaultFrom text last before left at f → FaultFrom text last [] all at f

pub none_read : (text : List ℕ) (last : ℕ) (all : List Told) → Read text last all all nothing_gathered
none_read text last all = record { before = []; holds = refl; reads = λ statements h. h; only = λ statements h. h; fault = λ at f h. h }

-- what is said of every fault is said of every one but want of memory
pub unless : (Q : ScriptFault → Type 0) (f : ScriptFault) → Q f → UnlessMemory Q f
unless Q (fault.Text g) q = q
unless Q fault.Unknown q = q
unless Q fault.Words q = q
unless Q (fault.Number n) q = q
unless Q fault.Distance q = q
unless Q fault.Name q = q
unless Q fault.TooMany q = q
unless Q (fault.Plan g) q = q
unless Q fault.Unfinished q = q
unless Q (fault.Memory source) q = tt

module _ (text : List ℕ) (last : ℕ) (all : List Told) where
  module _ (line : Told) (left : List Told) (draft : Gathered) (read : Read text last all (line ∷ left) draft) where
    abbrev Comes : Statement → Type 0
    Comes s = LineStates draft.begun text line.behind (known draft) line.words s

    abbrev Fails : ScriptFault → Type 0
    Fails f = IsLineFault draft.begun text line.behind (known draft) line.words f

    is_begun : draft.begun ≡ list_any is_begin read.before
    is_begun = ap (λ (g : Gathered). g.begun) read.holds ∙ begun read.before

    is_known : known draft ≡ before_of read.before
    is_known = ap known read.holds ∙ known_is read.before

    comes : (s : Statement) → Comes s → States text read.before line s
    comes s h = subst (λ (b : Bool). LineStates b text line.behind (before_of read.before) line.words s) is_begun (subst (λ (k : Before). LineStates draft.begun text line.behind k line.words s) is_known h)

    came : (s : Statement) → States text read.before line s → Comes s
    came s h = subst (λ (k : Before). LineStates draft.begun text line.behind k line.words s) (sym is_known) (subst (λ (b : Bool). LineStates b text line.behind (before_of read.before) line.words s) (sym is_begun) h)

    fails : (f : ScriptFault) → Fails f → IsFault text read.before line f
    fails f h = subst (λ (b : Bool). IsLineFault b text line.behind (before_of read.before) line.words f) is_begun (subst (λ (k : Before). IsLineFault draft.begun text line.behind k line.words f) is_known h)

    -- one line more
    pub one_told : (new : Gathered) → Leads Comes Fails draft (Ok tt) new → Read text last all left new
    one_told new h =
        let s = h.0 in
        record {
          before = read.before ++ s ∷ [];
          holds = h.3 ∙ ap (λ (g : Gathered). after g s) read.holds ∙ sym (run_more nothing_gathered read.before s);
          reads = λ statements rest. read.reads statements (s, comes s h.1, rest);
          only = λ statements whole. let step = read.only statements whole in subst (λ (o : Statement). LinesState text (read.before ++ o ∷ []) left statements) (h.2 step.0 (came step.0 step.1)) step.2;
          fault = λ at f rest. read.fault at f (inr (s, comes s h.1, rest));
        }

    -- a line with a fault
    pub stops_here : (stop : Stop) (new : Gathered) → Leads Comes Fails draft (Err stop) new → UnlessMemory (λ f. FaultFrom text last [] all line.number f) (told stop)
    stops_here (Memory source) new h = tt
    stops_here (Fault f) new h = unless (λ f. FaultFrom text last [] all line.number f) f (read.fault line.number f (inl (refl, fails f h.0)))

    pub stops_only : (stop : Stop) (new : Gathered) (statements : List Statement) → Leads Comes Fails draft (Err stop) new → LinesState text [] all statements → UnlessMemory (λ _. ⊥) (told stop)
    stops_only (Memory source) new statements h whole = tt
    stops_only (Fault f) new statements h whole = absurd (let step = read.only statements whole in h.1 step.0 (came step.0 step.1))

  module _ (draft : Gathered) (read : Read text last all [] draft) where
    -- no line more
    pub ends_states : LinesState text [] all read.before
    ends_states = read.reads read.before refl

    pub ends_whole : is_whole draft ≡ is_finished read.before
    ends_whole = ap is_whole read.holds ∙ whole_is read.before

    pub ends_script : script_in draft ≡ script_of read.before
    ends_script = ap script_in read.holds ∙ script_is read.before

    pub ends_fault : is_whole draft ≡ false → FaultFrom text last [] all (last + 1) fault.Unfinished
    ends_fault h = read.fault (last + 1) fault.Unfinished (refl, refl, sym ends_whole ∙ h)

    pub ends_same : (statements : List Statement) → LinesState text [] all statements → statements ≡ read.before
    ends_same statements whole = read.only statements whole

module _ (text : List ℕ) (lines : List Span) where
  abbrev All : List Told
  All = told_lines text 1 false lines

  abbrev pub ReadTo : ℕ → Bool → List Span → Gathered → Type 0
  ReadTo number within left draft = Read text (length lines) All (told_lines text number within left) draft

  module _ (number : ℕ) (line : Span) (behind : List Span) (draft : Gathered) where
    abbrev Words : List (List ℕ)
    Words = words_in (text_of text line)

    abbrev This : Told
    This = record { number = number; words = Words; behind = behind }

    outside : (b : Bool) → is_skipped Words ≡ b → Read text (length lines) All (told_lines text number false (line ∷ behind)) draft → (next : Bool) (new : Gathered) → OutsideIs b text behind Words draft (Ok next) new → ReadTo (number + 1) next behind new
    outside true e read next new h =
        let here : Read text (length lines) All (told_lines text (number + 1) false behind) draft = subst (λ (t : List Told). Read text (length lines) All t draft) (rw e refl) read in
        subst (λ (g : Gathered). ReadTo (number + 1) next behind g) (sym h.1) (subst (λ (w : Bool). ReadTo (number + 1) w behind draft) (same_ok next h.0) here)
      where
        same_ok : (x : Bool) → ◌≡◌ {A = Result Bool Stop} (Ok x) (Ok false) → false ≡ x
        same_ok x e = cc
    outside false e read next new h =
        let here : Read text (length lines) All (This ∷ told_lines text (number + 1) (begins_plan Words) behind) draft = subst (λ (t : List Told). Read text (length lines) All t draft) (rw e refl) read in
        subst (λ (w : Bool). ReadTo (number + 1) w behind new) (sym h.0) (one_told text (length lines) All This (told_lines text (number + 1) (begins_plan Words) behind) draft here new h.1)

    same_end : (x y : Bool) → ◌≡◌ {A = Result Bool Stop} (Ok x) (Ok y) → y ≡ x
    same_end x y e = cc

    pub one_more : (within : Bool) → ReadTo number within (line ∷ behind) draft → (next : Bool) (new : Gathered) → StepIs text behind (text_of text line) within draft (Ok next) new → ReadTo (number + 1) next behind new
    one_more true read next new h = subst (λ (g : Gathered). ReadTo (number + 1) next behind g) (sym h.1) (subst (λ (w : Bool). ReadTo (number + 1) w behind draft) (same_end next (not (is_end (text_of text line))) h.0) read)
    one_more false read next new h = outside (is_skipped Words) refl read next new h

    fault_outside : (b : Bool) → is_skipped Words ≡ b → Read text (length lines) All (told_lines text number false (line ∷ behind)) draft → (stop : Stop) (new : Gathered) → OutsideIs b text behind Words draft (Err stop) new
        → (UnlessMemory (λ f. FaultFrom text (length lines) [] All number f) (told stop)) × ((statements : List Statement) → LinesState text [] All statements → UnlessMemory (λ _. ⊥) (told stop))
    fault_outside true e read stop new h = absurd (not_both stop h.0)
      where
        not_both : (s : Stop) → ◌≡◌ {A = Result Bool Stop} (Err s) (Ok false) → ⊥
        not_both s e = cc
    fault_outside false e read stop new h =
        let here : Read text (length lines) All (This ∷ told_lines text (number + 1) (begins_plan Words) behind) draft = subst (λ (t : List Told). Read text (length lines) All t draft) (rw e refl) read in
        (stops_here text (length lines) All This (told_lines text (number + 1) (begins_plan Words) behind) draft here stop new h, λ statements whole. stops_only text (length lines) All This (told_lines text (number + 1) (begins_plan Words) behind) draft here stop new statements h whole)

    never_within : (s : Stop) (b : Bool) → ◌≡◌ {A = Result Bool Stop} (Err s) (Ok b) → ⊥
    never_within s b e = cc

    pub fault_here : (within : Bool) → ReadTo number within (line ∷ behind) draft → (stop : Stop) (new : Gathered) → StepIs text behind (text_of text line) within draft (Err stop) new
        → (UnlessMemory (λ f. LinesFault text lines number f) (told stop)) × ((script : Script) → LinesScript text lines script → UnlessMemory (λ _. ⊥) (told stop))
    fault_here true read stop new h = absurd (never_within stop (not (is_end (text_of text line))) h.0)
    fault_here false read stop new h = let found = fault_outside (is_skipped Words) refl read stop new h in (found.0, λ script whole. found.1 whole.statements whole.states)

  module _ (number : ℕ) (within : Bool) (draft : Gathered) (read : ReadTo number within [] draft) where
    pub script_here : is_whole draft ≡ true → LinesScript text lines (script_in draft)
    script_here h = record { statements = read.before; states = ends_states text (length lines) All draft read; finished = sym (ends_whole text (length lines) All draft read) ∙ h; script_is = ends_script text (length lines) All draft read }

    pub script_same : (script : Script) → LinesScript text lines script → script_in draft ≡ script
    script_same script whole = ends_script text (length lines) All draft read ∙ ap script_of (sym (ends_same text (length lines) All draft read whole.statements whole.states)) ∙ sym whole.script_is

    pub unfinished_here : is_whole draft ≡ false → LinesFault text lines (length lines + 1) fault.Unfinished
    unfinished_here h = ends_fault text (length lines) All draft read h

    both : (b : Bool) → b ≡ false → b ≡ true → ⊥
    both b e f = cc

    pub unfinished_only : is_whole draft ≡ false → (script : Script) → LinesScript text lines script → ⊥
    unfinished_only h script whole =
        both (is_whole draft) h (ends_whole text (length lines) All draft read ∙ ap is_finished (sym (ends_same text (length lines) All draft read whole.statements whole.states)) ∙ whole.finished)
