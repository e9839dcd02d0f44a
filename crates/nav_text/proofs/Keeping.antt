-- One word more among the places that are kept.
use Rattle.std.proofs.Common.{◌≡◌, ◌≢◌, ℕ, ◌<◌, List, length, get_or, sym, subst, arith, inl, inr}
use Rattle.std.proofs.Math.ListN.{set}
use Rattle.std.proofs.lemmas.Bool.{cases_eq}
use Rattle.std.proofs.lemmas.List.{get_or-set_same, get_or-set_other}

module _ {A : Type 0} (places : List A) (count : ℕ) (word : A) where
  -- a place other than the new one is as it was
  other : (k : ℕ) (d : A) → k ≢ count → get_or (set places count word) k d ≡ get_or places k d
  other k d h = get_or-set_other places count k word d h

  same : (k : ℕ) (d : A) → k < length places → k ≡ count → get_or (set places count word) k d ≡ word
  same k d below e = subst (λ (n : ℕ). get_or (set places n word) k d ≡ word) e (get_or-set_same places k word d below)

  pub holds_of : (P : ℕ → A → Type 0) (k : ℕ) (d : A) → k < length places → ((k ≢ count) → P k (get_or places k d)) → (k ≡ count → P k word) → P k (get_or (set places count word) k d)
  holds_of P k d below old new = elim (cases_eq k count) [
    | inl e ↦ subst (λ (s : A). P k s) (sym (same k d below e)) (new e)
    | inr ne ↦ subst (λ (s : A). P k s) (sym (other k d ne)) (old ne)
  ]
