-- What the passes that were joined account_of.
use Rattle.std.proofs.Common.{◌≡◌, ◌⊎◌, ℕ, zero, suc, List, [], ◌∷◌, ◌++◌, map, reverse, Some, sym, ap, subst, inl, inr}
use mathlib.Core.Option.{some}
use mathlib.Core.List.{reverse_aux}
use lib.ListN.{get_elem?}
use Rattle.std.specs.Prelude.{slice_get}
use Rattle.std.specs.List.{remove}
use Rattle.turn_cell.proofs.Seats.{out_or_left}

kept_aux : {X : Type 0} (xs ys js : List X) (i : ℕ) (p : X) → get_elem? (ys ++ js) i ≡ some p → (j : ℕ) × (get_elem? (reverse_aux xs ys ++ js) j ≡ some p)
kept_aux [] ys js i p e = (i, e)
kept_aux (x ∷ xs) ys js i p e = kept_aux xs (x ∷ ys) js (suc i) p e

in_aux : {X : Type 0} (xs ys js : List X) (i : ℕ) (p : X) → slice_get xs i ≡ Some p → (j : ℕ) × (get_elem? (reverse_aux xs ys ++ js) j ≡ some p)
in_aux [] ys js i p e = absurd (cc)
in_aux (x ∷ xs) ys js zero p e = let same : x ≡ p = cc in kept_aux xs (x ∷ ys) js 0 p (ap some same)
in_aux (x ∷ xs) ys js (suc i) p e = in_aux xs (x ∷ ys) js i p e

got_map : {X Y : Type 0} (f : X → Y) (xs : List X) (i : ℕ) (p : X) → slice_get xs i ≡ Some p → slice_get (map f xs) i ≡ Some (f p)
got_map f [] i p e = absurd (cc)
got_map {X = X} {Y = Y} f (x ∷ xs) zero p e = let same : x ≡ p = cc in ap (λ (y : X). Some (f y)) same
got_map f (x ∷ xs) (suc i) p e = got_map f xs i p e

-- each of the list is the one that was taken out, or is among those that were noted
pub told_or_out : {X Y : Type 0} (f : X → Y) (all rest : List X) (n : ℕ) (out : X) (js : List Y) → slice_get all n ≡ Some out → rest ≡ remove all n → (i : ℕ) (p : X) → slice_get all i ≡ Some p → (out ≡ p) ⊎ ((j : ℕ) × (get_elem? (reverse (map f rest) ++ js) j ≡ some (f p)))
told_or_out {X = X} f all rest n out js at is i p e = elim (out_or_left all n i out p at e) [
  | inl a ↦ inl a
  | inr a ↦ inr (in_aux (map f rest) [] js a.0 (f p) (got_map f rest a.0 p (subst (λ (l : List X). slice_get l a.0 ≡ Some p) (sym is) a.1)))
]
