-- Each script that is read is flown today.
use Rattle.std.proofs.Common.{lit≤, ◌≡◌, ℕ, ◌≤◌, List, [], ◌∷◌, Bool, true, false, cond, ◌||◌, refl, ap, subst, arith, get_or}
use Rattle.std.proofs.lemmas.List.Folds.{list_any_at}
use Rattle.std.specs.Prelude.{Some, None}
use Rattle.std.specs.List.{list_any}
use Rattle.first_text.specs.declared.span.Span.{Span}
use Rattle.first_text.specs.Spans.{text_of}
use Rattle.first_text.specs.Words.{words_in}
use Rattle.first_model.specs.declared.flight_line.Actor.{Actor}
use Rattle.first_model.specs.declared.flight_line.Actor.TheVariants.{Worker, Link, Nav, Watch}
use Rattle.first_model.specs.declared.schedule.InputLine.{InputLine}
use Rattle.first_model.specs.declared.schedule.Script.{Script}
use Rattle.first_script.specs.declared.draft.Draft.{Draft}
use Rattle.first_script.specs.declared.place.Place.{Place}
use Rattle.first_script.specs.declared.place.Place.TheVariants.{Top, Among, Within}
use Rattle.first_script.specs.Scripts.{is_link, links_of, script_of, script_at, ScriptFrom, ScriptText}
use Rattle.first_script.specs.Flyable.{IsOfRun, IsFlyable}
use Rattle.first_script.proofs.Fitting.{IsFit, IsFitAt, leads_fit}

-- an actor of one link's run is of this run, where its link is named in it
of_run : (links : ℕ) (actor : Actor) → IsOfRun 1 actor → (is_link actor ≡ true → links ≡ 1) → IsOfRun links actor
of_run links Worker h named = tt
of_run links Nav h named = tt
of_run links (Link link) h named = omega (arith, named refl)
of_run links (Watch _) h named = h

by_input : (inputs : List (Actor × InputLine)) (turns : List Actor) → list_any (λ input. is_link input.0) inputs ≡ true → links_of inputs turns ≡ 1
unfolding links_of
by_input inputs turns e = ap (λ (b : Bool). cond (b || list_any is_link turns) 1 0) e

either : (a b : Bool) → b ≡ true → ◌≡◌ {A = ℕ} (cond (a || b) 1 0) 1
either true b e = refl
either false b e = ap (λ (c : Bool). cond {A = ℕ} c 1 0) e

one_at_most : (b : Bool) → cond b 1 0 ≤ 1
one_at_most true = lit≤ tt
one_at_most false = lit≤ tt

by_turn : (inputs : List (Actor × InputLine)) (turns : List Actor) → list_any is_link turns ≡ true → links_of inputs turns ≡ 1
unfolding links_of
by_turn inputs turns e = either (list_any (λ (input : Actor × InputLine). is_link input.0) inputs) (list_any is_link turns) e

at_most_one : (inputs : List (Actor × InputLine)) (turns : List Actor) → links_of inputs turns ≤ 1
unfolding links_of
at_most_one inputs turns = one_at_most (list_any (λ (input : Actor × InputLine). is_link input.0) inputs || list_any is_link turns)

script_flyable : (draft : Draft) → IsFit draft → IsFlyable (script_of draft)
script_flyable draft fit = record {
  few = fit.few;
  boots = record {
    cut = refl;
    watchers = refl;
    links = at_most_one draft.inputs draft.turns;
    inputs = fit.listed;
    input_actors = λ k d l. of_run (links_of draft.inputs draft.turns) (get_or draft.inputs k d).0 (fit.actors k d l) (λ e. by_input draft.inputs draft.turns (list_any_at (λ (input : Actor × InputLine). is_link input.0) draft.inputs k d l e));
    turns = λ k d l. of_run (links_of draft.inputs draft.turns) (get_or draft.turns k d) (fit.stated k d l) (λ e. by_turn draft.inputs draft.turns (list_any_at is_link draft.turns k d l e));
    schedule = fit.schedule;
    uploads = fit.uploads;
    turn_words = fit.words;
    events = fit.events;
  };
}

at_flyable : (place : Place) (script : Script) → IsFitAt place → script_at place ≡ Some script → IsFlyable script
unfolding script_at
at_flyable (Among draft) script fit e = by draft.booted e
  where
    same : Some (script_of draft) ≡ Some script → script_of draft ≡ script
    same h = cc

    by : (b : Bool) → cond b (Some (script_of draft)) None ≡ Some script → IsFlyable script
    by true h = subst IsFlyable (same h) (script_flyable draft fit)
    by false h = cc
at_flyable Top script fit e = cc
at_flyable (Within draft) script fit e = cc

pub from_flyable : (text : List ℕ) (place : Place) (lines : List Span) (script : Script) → IsFitAt place → ScriptFrom text place lines script → IsFlyable script
from_flyable text place [] script fit e = at_flyable place script fit e
from_flyable text place (line ∷ behind) script fit (next, leads, from) = from_flyable text next behind script (leads_fit text behind place (words_in (text_of text line)) next fit leads) from

-- the script of a text
pub text_flyable : (text : List ℕ) (script : Script) → ScriptText text script → IsFlyable script
text_flyable text script is = from_flyable text Top _ script tt is.lines
