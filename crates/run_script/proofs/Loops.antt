-- The lines of a script by their numbers.
use Rattle.std.proofs.Common.{◌≡◌, ℕ, ◌+◌, ◌-◌, ◌≤◌, ◌<◌, length, take, drop, arith, subst, get_or, List, [], ◌∷◌, Bool, add-one, drop-cons, refl}
use Rattle.std.specs.Prelude.{Ok, Err}
use Rattle.std.proofs.lemmas.Grind.{common_steps}
use Rattle.nav_text.specs.declared.span.Span.{Span}
use Rattle.nav_text.specs.Spans.{text_of}
use Rattle.mission_model.specs.declared.schedule.Script.{Script}
use Rattle.run_script.specs.declared.fault.Stop.{Stop}
use Rattle.run_script.specs.Gathered.{Gathered}
use Rattle.run_script.specs.Steps.{StepIs, told}
use Rattle.run_script.specs.Scripts.{LinesScript, LinesFault, UnlessMemory}
use Rattle.run_script.proofs.Reading.{ReadTo, one_more, fault_here}

whole_rest : {A : Type 0} (n : ℕ) (xs : List A) → n ≤ length xs → take (length xs - n) (drop n xs) ≡ drop n xs
whole_rest n xs h = grind (arith, common_steps)

cut_at : {A : Type 0} (n : ℕ) (xs : List A) (d : A) → n < length xs → drop n xs ≡ get_or xs n d ∷ drop (n + 1) xs
cut_at n xs d h = rw (add-one, drop-cons xs n d) refl

module _ (text : List ℕ) (lines : List Span) (n : ℕ) (d : Span) (draft : Gathered) (within : Bool) (below : n < length lines) (read : ReadTo text lines (n + 1) within (drop n lines) draft) where
  abbrev Behind : List Span
  Behind = take (length lines - (n + 1)) (drop (n + 1) lines)

  here : ReadTo text lines (n + 1) within (get_or lines n d ∷ drop (n + 1) lines) draft
  here = subst (λ (left : List Span). ReadTo text lines (n + 1) within left draft) (cut_at n lines d below) read

  rest : Behind ≡ drop (n + 1) lines
  rest = whole_rest (n + 1) lines (omega (arith, below))

  pub next_read : (next : Bool) (new : Gathered) → StepIs text Behind (text_of text (get_or lines n d)) within draft (Ok next) new → ReadTo text lines (n + 1 + 1) next (drop (n + 1) lines) new
  next_read next new h = one_more text lines (n + 1) (get_or lines n d) (drop (n + 1) lines) draft within here next new (subst (λ (behind : List Span). StepIs text behind (text_of text (get_or lines n d)) within draft (Ok next) new) rest h)

  pub next_fault : (stop : Stop) (new : Gathered) → StepIs text Behind (text_of text (get_or lines n d)) within draft (Err stop) new
      → (UnlessMemory (λ f. LinesFault text lines (n + 1) f) (told stop)) × ((script : Script) → LinesScript text lines script → UnlessMemory (λ _. ⊥) (told stop))
  next_fault stop new h = fault_here text lines (n + 1) (get_or lines n d) (drop (n + 1) lines) draft within here stop new (subst (λ (behind : List Span). StepIs text behind (text_of text (get_or lines n d)) within draft (Err stop) new) rest h)

pub end_read : (text : List ℕ) (lines : List Span) (n : ℕ) (draft : Gathered) (within : Bool) → length lines ≤ n → ReadTo text lines (n + 1) within (drop n lines) draft → ReadTo text lines (n + 1) within [] draft
end_read text lines n draft within past read = subst (λ (left : List Span). ReadTo text lines (n + 1) within left draft) (none n lines past) read
  where
    none : (n : ℕ) (xs : List Span) → length xs ≤ n → drop n xs ≡ []
    none n xs h = grind (arith, common_steps)
