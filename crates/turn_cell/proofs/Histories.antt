-- Histories that grow.
use Rattle.std.proofs.Common.{◌≡◌, ◌≢◌, ◌⊎◌, ℕ, zero, suc, List, [], ◌∷◌, ◌++◌, Some, refl, sym, ap, ◌∙◌, subst, inl, inr, append_assoc, append-nil}
use Rattle.std.specs.Prelude.{slice_get, slice_set}
use Rattle.turn_cell.specs.declared.seat_view.Entry.{Entry}
use Rattle.turn_cell.specs.declared.machine.StepOut.{StepOut}
use Rattle.turn_cell.specs.declared.machine.StepOut.TheVariants.{Made}
use Rattle.turn_cell.specs.Legal.{locals_left, HasNone, Only, SawOwn, EachFits, Follows}

module _ {X : Type 0} where
  -- what is read after a write
  pub set_get : (xs : List X) (i j : ℕ) (y z : X) → slice_get (slice_set xs i y) j ≡ Some z → ((i ≡ j) × (y ≡ z)) ⊎ ((i ≢ j) × (slice_get xs j ≡ Some z))
  set_get [] i j y z h = absurd (cc)
  set_get (x ∷ xs) zero zero y z h = inl (refl, cc)
  set_get (x ∷ xs) zero (suc j) y z h = inr ((λ e. cc), h)
  set_get (x ∷ xs) (suc i) zero y z h = inr ((λ e. cc), h)
  set_get (x ∷ xs) (suc i) (suc j) y z h = elim (set_get xs i j y z h) [ inl e ↦ inl (ap suc e.0, e.1) | inr e ↦ inr ((λ q. e.0 (cc)), e.1) ]

  pub get_else : (xs : List X) (i j : ℕ) (y : X) → i ≢ j → slice_get (slice_set xs i y) j ≡ slice_get xs j
  get_else [] i j y ne = refl
  get_else (x ∷ xs) zero zero y ne = absurd (ne refl)
  get_else (x ∷ xs) zero (suc j) y ne = refl
  get_else (x ∷ xs) (suc i) zero y ne = refl
  get_else (x ∷ xs) (suc i) (suc j) y ne = get_else xs i j y (λ e. ne (ap suc e))

  pub get_here : (xs : List X) (i : ℕ) (x y : X) → slice_get xs i ≡ Some x → slice_get (slice_set xs i y) i ≡ Some y
  get_here [] i x y e = absurd (cc)
  get_here (z ∷ xs) zero x y e = refl
  get_here (z ∷ xs) (suc i) x y e = get_here xs i x y e

module _ {S L I N : Type 0} where
  pub after_append : (ls : List L) (a b : List (Entry S L I N)) → locals_left ls (a ++ b) ≡ locals_left (locals_left ls a) b
  after_append ls [] b = refl
  after_append ls (e ∷ a) b = after_append (slice_set ls e.number e.after) a b

  pub without_local : (ls : List L) (n : ℕ) (es : List (Entry S L I N)) → HasNone n es → slice_get (locals_left ls es) n ≡ slice_get ls n
  without_local ls n [] w = refl
  without_local ls n (e ∷ es) w = without_local (slice_set ls e.number e.after) n es w.1 ∙ get_else ls e.number n e.after w.0

  pub owns_local : (ls : List L) (n : ℕ) (h seen : List (Entry S L I N)) → SawOwn h n seen → slice_get (locals_left ls h) n ≡ slice_get (locals_left ls seen) n
  owns_local ls n h seen o = ap (λ (k : List (Entry S L I N)). slice_get (locals_left ls k) n) o.1 ∙ ap (λ (k : List L). slice_get k n) (after_append ls seen o.0) ∙ without_local (locals_left ls seen) n o.0 o.2

  pub without_append : (n : ℕ) (a b : List (Entry S L I N)) → HasNone n a → HasNone n b → HasNone n (a ++ b)
  without_append n [] b wa wb = wb
  without_append n (e ∷ a) b wa wb = (wa.0, without_append n a b wa.1 wb)

  pub without_only : (n j : ℕ) (es : List (Entry S L I N)) → n ≢ j → Only n es → HasNone j es
  without_only n j [] ne o = tt
  without_only n j (e ∷ es) ne o = ((λ is. ne (sym o.0 ∙ is)), without_only n j es ne o.1)

  pub owns_all : (n : ℕ) (h : List (Entry S L I N)) → SawOwn h n h
  owns_all n h = ([], sym (append-nil h), tt)

  pub owns_more : (n : ℕ) (h es seen : List (Entry S L I N)) → SawOwn h n seen → HasNone n es → SawOwn (h ++ es) n seen
  owns_more n h es seen o w = (o.0 ++ es, ap (λ (k : List (Entry S L I N)). k ++ es) o.1 ∙ append_assoc seen o.0 es, without_append n o.0 es o.2 w)

  without_back : (n : ℕ) (a b : List (Entry S L I N)) → HasNone n (a ++ b) → HasNone n b
  without_back n [] b w = w
  without_back n (e ∷ a) b w = without_back n a b w.1

  -- a number that no entry has
  pub owns_without : (h seen : List (Entry S L I N)) (j n : ℕ) → SawOwn h j seen → HasNone n h → SawOwn h n seen
  owns_without h seen j n o w = (o.0, o.1, without_back n seen o.0 (subst (HasNone n) o.1 w))

module _ {S L I N : Type 0} (suits : L → I → Type 0) (steps : S → L → I → StepOut N → S → L → Type 0) where
  pub runs_snoc : (s : S) (ls : List L) (h : List (Entry S L I N)) (s' : S) (e : Entry S L I N) → Follows suits steps s ls h s' → slice_get (locals_left ls h) e.number ≡ Some e.before → suits e.before e.input
      → steps s' e.before e.input (Made e.line) e.shared e.after → Follows suits steps s ls (h ++ e ∷ []) e.shared
  runs_snoc s ls [] s' e r at su st = (at, su, subst (λ (x : S). steps x e.before e.input (Made e.line) e.shared e.after) r st, refl)
  runs_snoc s ls (x ∷ h) s' e r at su st = (r.0, r.1, r.2, runs_snoc x.shared (slice_set ls x.number x.after) h s' e r.3 at su st)

module _ {S L I O : Type 0} (number : L → ℕ) (fits : S → L → Type 0) (suits : L → I → Type 0) (steps : S → L → I → O → S → L → Type 0) where
  pub fit_after : ((s : S) (l : L) (i : I) (o : O) (s' : S) (l' : L) → steps s l i o s' l' → number l' ≡ number l)
      → ((s : S) (l : L) (i : I) (o : O) (s' : S) (l' : L) → fits s l → suits l i → steps s l i o s' l' → fits s' l')
      → ((s : S) (l : L) (i : I) (o : O) (s' : S) (l' : L) (other : L) → number other ≢ number l → fits s l → suits l i → steps s l i o s' l' → fits s other → fits s' other)
      → (s s' : S) (ls : List L) (n : ℕ) (l l' : L) (i : I) (o : O) → EachFits number fits s ls → slice_get ls n ≡ Some l → suits l i → steps s l i o s' l' → EachFits number fits s' (slice_set ls n l')
  fit_after same still others s s' ls n l l' i o fit here su st k x h =
      let old = fit n l here in
      elim (set_get ls n k l' x h) [
        | inl e ↦ subst (λ y. (number y ≡ k) × fits s' y) e.1 (same s l i o s' l' st ∙ old.0 ∙ e.0, still s l i o s' l' old.1 su st)
        | inr e ↦ let was = fit k x e.1 in (was.0, others s l i o s' l' x (λ eq. e.0 (sym old.0 ∙ sym eq ∙ was.0)) old.1 su st was.1)
      ]
