-- Answers that are made of the answers of parts.
use Rattle.std.proofs.Common.{◌≡◌, refl, sym, ◌∙◌, ap, subst}
use Rattle.std.specs.Prelude.{Result, Ok, Err, IsErrAnd}
use Rattle.first_script.specs.declared.fault.ScriptFault.{ScriptFault}
use Rattle.first_script.specs.declared.fault.Stop.{Stop}
use Rattle.first_script.specs.declared.fault.Stop.TheVariants.{Memory, Fault}
use Rattle.first_script.specs.Reads.{Gives, Answers}

same_ok : {A E : Type 0} (x y : A) → ◌≡◌ {A = Result A E} (Ok x) (Ok y) → x ≡ y
same_ok x y e = cc

not_both : {A E : Type 0} (f : E) (x : A) → ◌≡◌ {A = Result A E} (Err f) (Ok x) → ⊥
not_both f x e = cc

-- an answer that is what is wanted
pub gives_answers : {A : Type 0} (result : Result A Stop) (wanted : Result A ScriptFault) → Gives result wanted → Answers result (λ x. wanted ≡ Ok x) (λ f. wanted ≡ Err f)
gives_answers (Ok found) wanted gives = (gives, λ other e. same_ok other found (sym e ∙ gives))
gives_answers (Err (Fault f)) wanted gives = (gives, λ other e. not_both f other (sym gives ∙ e))
gives_answers (Err (Memory source)) wanted gives = tt

-- a value that is made of the one that may come
pub mapped : {A B : Type 0} (P : A → Type 0) (g : A → B) (x : A) → P x → ((other : A) → P other → other ≡ x) → ((a : A) × P a × (g x ≡ g a)) × ((other : B) → ((a : A) × P a × (other ≡ g a)) → other ≡ g x)
mapped P g x p only = ((x, p, refl), λ other h. h.2 ∙ ap g (only h.0 h.1))

-- the fault of a part is that of the whole
pub passes_on : {A B : Type 0} (stop : Stop) (P : A → Type 0) (Q : ScriptFault → Type 0) (P' : B → Type 0) (Q' : ScriptFault → Type 0)
    → Answers {A = A} (Err stop) P Q → ((f : ScriptFault) → Q f → Q' f) → ((b : B) → P' b → (a : A) × P a) → Answers {A = B} (Err stop) P' Q'
passes_on (Memory source) P Q P' Q' answers q p = tt
passes_on (Fault f) P Q P' Q' answers q p = (q f answers.0, λ b h. answers.1 (p b h).0 (p b h).1)

pub passes : {A B : Type 0} (result : Result B Stop) (stop : Stop) (P : A → Type 0) (Q : ScriptFault → Type 0) (P' : B → Type 0) (Q' : ScriptFault → Type 0) → IsErrAnd result (λ e. e ≡ stop)
    → Answers {A = A} (Err stop) P Q → ((f : ScriptFault) → Q f → Q' f) → ((b : B) → P' b → (a : A) × P a) → Answers {A = B} result P' Q'
passes (Ok x) stop P Q P' Q' same answers q p = absurd same
passes {A} {B} (Err e) stop P Q P' Q' same answers q p = subst (λ (s : Stop). Answers {A = B} (Err s) P' Q') (sym same) (passes_on stop P Q P' Q' answers q p)
