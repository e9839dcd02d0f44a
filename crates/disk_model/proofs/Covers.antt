-- Ranges in a list of them.
use Rattle.std.proofs.Common.{◌≡◌, ◌<◌, ◌≤◌, ◌+◌, ℕ, zero, suc, List, [], ◌∷◌, length, get_or, set, inl, inr, ⊎_elim, refl, sym, ◌∙◌, ap, subst, arith}
use Rattle.std.specs.List.{All, AllWithin}
use Rattle.std.proofs.lemmas.Bool.{cases_eq, cases_lt}
use Rattle.std.proofs.lemmas.List.{get_or-set_other, get_or-set_same}
use Rattle.std.proofs.lemmas.List.Elements.{All-set}
use Rattle.disk_model.specs.Spans.{Beside, Takes}
use Rattle.disk_model.specs.declared.spans.Span.{Span}

-- an element that is there needs no default
pub any_default : {X : Type 0} (xs : List X) (i : ℕ) (d e : X) → i < length xs → get_or xs i d ≡ get_or xs i e
any_default [] i d e below = absurd (omega (arith, below))
any_default (x ∷ xs) zero d e below = refl
any_default (x ∷ xs) (suc i) d e below = any_default xs i d e (omega (arith, below))

-- one element more
pub within_more : {X : Type 0} (P : X → Type 0) (xs : List X) (i : ℕ) (e : X) → i < length xs → P (get_or xs i e) → AllWithin P xs 0 i → AllWithin P xs 0 (i + 1)
within_more {X} P xs i e there here before j d low high = ⊎_elim last earlier (cases_eq j i)
  where
    last : j ≡ i → P (get_or xs j d)
    last same = subst P (any_default xs i e d there ∙ ap (λ (n : ℕ). get_or xs n d) (sym same)) here

    earlier : (j ≡ i → ⊥) → P (get_or xs j d)
    earlier other = before j d low (omega (arith, high, other))

-- setting an element keeps the length
pub long : {X : Type 0} (xs : List X) (i : ℕ) (y : X) → length (set xs i y) ≡ length xs
long [] i y = refl
long (x ∷ xs) zero y = refl
long (x ∷ xs) (suc i) y = ap (λ (n : ℕ). suc n) (long xs i y)

-- what holds of all but one, and of that one
pub all_but_one : {X : Type 0} (P : X → Type 0) (xs : List X) (i : ℕ) (e y : X) → i < length xs → P (get_or xs i e) → All P (set xs i y) → All P xs
all_but_one {X} P xs i e y there here others j d below = ⊎_elim last other (cases_eq j i)
  where
    last : j ≡ i → P (get_or xs j d)
    last same = subst P (any_default xs i e d there ∙ ap (λ (n : ℕ). get_or xs n d) (sym same)) here

    other : (j ≡ i → ⊥) → P (get_or xs j d)
    other apart = subst P (get_or-set_other xs i j y d apart) (others j d (omega (arith, below, long xs i y)))

-- the element that was set
pub at_place : {X : Type 0} (P : X → Type 0) (xs : List X) (i : ℕ) (y : X) → i < length xs → All P (set xs i y) → P y
at_place P xs i y there all = subst P (get_or-set_same xs i y y there) (all i y (omega (arith, there, long xs i y)))

-- a range without a place
abbrev pub nowhere : Span
nowhere = record { from = 0; to = 0 }

taken : (old now : List Span) (span hull wide : Span) (i : ℕ) → i < length now
    → ((k : ℕ) → Beside k wide → Beside k (get_or now i nowhere)) → ((k : ℕ) → Beside k wide → Beside k hull)
    → ((n : ℕ) → (get_or now i nowhere).to ≤ n → hull.to ≤ n → wide.to ≤ n) → Takes old now span hull → Takes old (set now i nowhere) span wide
taken old now span hull wide i there this other end takes = record {
  size = long now i nowhere ∙ takes.size;
  covers = λ k out beside. takes.covers k (all_but_one (Beside k) now i nowhere nowhere there (this k beside) out) (other k beside);
  around = λ k beside. takes.around k (other k beside);
  end = λ n ends low. All-set (λ (s : Span). s.to ≤ n) now i nowhere (omega arith) (takes.end n ends low);
  low = λ n ends low. end n (takes.end n ends low i nowhere there) (takes.low n ends low);
}

-- one range is taken into a wider hull
pub takes_one : (old now new : List Span) (span hull hull' : Span) (i : ℕ) (wide : Span) → i < length now → new ≡ set now i nowhere → hull' ≡ wide
    → ((k : ℕ) → Beside k wide → Beside k (get_or now i nowhere)) → ((k : ℕ) → Beside k wide → Beside k hull)
    → ((n : ℕ) → (get_or now i nowhere).to ≤ n → hull.to ≤ n → wide.to ≤ n) → Takes old now span hull → Takes old new span hull'
takes_one old now new span hull hull' i wide there is same this other end takes =
    subst (λ (l : List Span). Takes old l span hull') (sym is) (subst (λ (s : Span). Takes old (set now i nowhere) span s) (sym same) (taken old now span hull wide i there this other end takes))

-- nothing is taken
pub takes_same : (old now new : List Span) (span hull hull' : Span) → new ≡ now → hull' ≡ hull → Takes old now span hull → Takes old new span hull'
takes_same old now new span hull hull' is same takes = subst (λ (l : List Span). Takes old l span hull') (sym is) (subst (λ (s : Span). Takes old now span s) (sym same) takes)

-- a place is in a range or beside it
pub parts : {P : Type 0} (k : ℕ) (span : Span) → (span.from ≤ k → k < span.to → P) → (Beside k span → P) → P
parts k span inside beside = ⊎_elim (λ low. beside (inl low)) (λ from. ⊎_elim (λ to. inside from to) (λ past. beside (inr past)) (cases_lt k span.to)) (cases_lt k span.from)
