-- A plan's first line, by the text that its plan has.
use Rattle.std.proofs.Common.{◌≡◌, ℕ, List, Bool, refl, sym, ◌∙◌, ap, subst, inr}
use Rattle.std.specs.Prelude.{Option, Some, Result, Ok, Err, IsErrAnd}
use Rattle.first_text.specs.declared.span.Span.{Span}
use Rattle.first_model.specs.declared.plan.PlanType.{PlanType}
use Rattle.first_script.specs.declared.fault.ScriptFault.{ScriptFault}
use Rattle.first_script.specs.declared.fault.Stop.{Stop}
use Rattle.first_script.specs.declared.form.Form.TheVariants.{Plan}
use Rattle.first_script.specs.declared.draft.Draft.{Draft}
use Rattle.first_script.specs.declared.place.Place.{Place}
use Rattle.first_script.specs.declared.place.Place.TheVariants.{Within}
use Rattle.first_script.specs.Words.{word}
use Rattle.first_script.specs.Reads.{Answers}
use Rattle.first_script.specs.Plans.{new_name, plan_text, Fills, IsPlanFault, IsTextFaultOf}
use Rattle.first_script.specs.Places.{States, IsFaultOf}
use Rattle.first_script.proofs.Answering.{passes}

same_ok : {A E : Type 0} (x y : A) → ◌≡◌ {A = Result A E} (Ok x) (Ok y) → x ≡ y
same_ok x y e = cc

module _ (text : List ℕ) (behind : List Span) (draft : Draft) (kind : PlanType) (home_first : Bool) (words : List (List ℕ)) (name plan : List ℕ) (named : new_name draft.plans (word 1 words) ≡ Ok name) (found : plan_text text behind ≡ Some plan) where
  abbrev Fill : Draft → Type 0
  Fill after = Fills draft name kind home_first (Some plan) after

  fault_here : (f : ScriptFault) → IsTextFaultOf plan f → IsFaultOf text behind draft (Plan kind home_first) words f
  fault_here f h = inr (name, named, subst (λ (o : Option (List ℕ)). IsPlanFault o f) (sym found) h)

  fill_here : (after : Draft) → Fill after → Fills draft name kind home_first (plan_text text behind) after
  fill_here after fill = subst (λ (o : Option (List ℕ)). Fills draft name kind home_first o after) (sym found) fill

  fill_there : (other : List ℕ) (after : Draft) → new_name draft.plans (word 1 words) ≡ Ok other → Fills draft other kind home_first (plan_text text behind) after → Fill after
  fill_there other after e fill =
      subst (λ (n : List ℕ). Fills draft n kind home_first (Some plan) after) (same_ok other name (sym e ∙ named))
      (subst (λ (o : Option (List ℕ)). Fills draft other kind home_first o after) found fill)

  fill_of : (next : Place) → States text behind draft (Plan kind home_first) words next → (after : Draft) × Fill after
  fill_of next (other, after, e, fill, is) = (after, fill_there other after e fill)

  only_fill : (after : Draft) → ((other : Draft) → Fill other → other ≡ after) → (next : Place) → States text behind draft (Plan kind home_first) words next → next ≡ Within after
  only_fill after only next (other, last, e, fill, is) = is ∙ ap Within (only last (fill_there other last e fill))

  -- the plan's text is read
  pub plan_states : (after : Draft) → Answers (Ok after) (Fills draft name kind home_first (Some plan)) (IsTextFaultOf plan) → Answers (Ok (Within after)) (States text behind draft (Plan kind home_first) words) (IsFaultOf text behind draft (Plan kind home_first) words)
  plan_states after answers = ((name, after, named, fill_here after answers.0, refl), only_fill after answers.1)

  -- or has a fault
  pub plan_stops : (result : Result Place Stop) (stop : Stop) → IsErrAnd result (λ e. e ≡ stop) → Answers {A = Draft} (Err stop) (Fills draft name kind home_first (Some plan)) (IsTextFaultOf plan)
      → Answers result (States text behind draft (Plan kind home_first) words) (IsFaultOf text behind draft (Plan kind home_first) words)
  plan_stops result stop same answers =
      passes result stop (Fills draft name kind home_first (Some plan)) (IsTextFaultOf plan) (States text behind draft (Plan kind home_first) words) (IsFaultOf text behind draft (Plan kind home_first) words) same answers fault_here fill_of
