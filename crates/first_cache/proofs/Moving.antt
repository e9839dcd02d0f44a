-- A window that is told place by place is the list of what is known from its beginning on.
use Rattle.std.proofs.Common.{◌≡◌, ℕ, zero, suc, ◌+◌, ◌<◌, List, [], ◌∷◌, length, Option, None, refl, sym, ◌∙◌, arith, length-append}
use Rattle.std.specs.Prelude.{slice_index_or}
use Rattle.std.proofs.lemmas.Grind.{common_steps}
use Rattle.std.proofs.lemmas.List.{ext_get_or}
use Rattle.first_model.specs.declared.plan.Item.{Item}
use Rattle.first_cache.specs.CacheState.{CacheState, known_at}
use Rattle.first_cache.specs.Moves.{known_from}

pub length-known_from : (c : CacheState) (seq n : ℕ) → length (known_from c seq n) ≡ n
length-known_from c seq zero = refl
length-known_from c seq (suc n) = omega (arith, length-append (known_from c seq n) (known_at c (seq + n) ∷ []), length-known_from c seq n)

pub known_from-at : (c : CacheState) (seq n k : ℕ) → k < n → slice_index_or (known_from c seq n) k None ≡ known_at c (seq + k)
known_from-at c seq zero k lt = absurd (omega (arith, lt))
known_from-at c seq (suc n) k lt = grind (arith, common_steps, lt, length-known_from c seq n, known_from-at c seq n k)

pub known_from-places : (c : CacheState) (seq n : ℕ) (xs : List (Option Item)) → length xs ≡ n → ((k : ℕ) → k < n → slice_index_or xs k None ≡ known_at c (seq + k)) → xs ≡ known_from c seq n
known_from-places c seq n xs is at = ext_get_or None xs (known_from c seq n) (is ∙ sym (length-known_from c seq n)) (λ (k : ℕ) (lt : k < length xs). let lt' : k < n = omega (arith, is, lt) in at k lt' ∙ sym (known_from-at c seq n k lt'))
