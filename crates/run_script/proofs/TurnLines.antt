-- The turns of a line, taken word by word.
use Rattle.std.proofs.Common.{◌≡◌, ℕ, suc, ◌+◌, ◌-◌, List, [], ◌∷◌, length, drop, true, false, length-drop, refl, sym, ◌∙◌, ap, arith}
use Rattle.std.specs.Prelude.{Option, Some, None, is_some, Ok, nat_le, ◌==◌, ◌≤◌}
use Rattle.std.specs.List.{list_all, filter_map}
use Rattle.std.proofs.lemmas.Bool.Decides.{nat_tests}
use Rattle.mission_model.specs.declared.limits.TheConstants.{MAX_TURN_WORDS}
use Rattle.run_script.specs.Actors.{actor_of}
use Rattle.run_script.specs.Forms.{turns_stated}
use Rattle.run_script.specs.Gathered.{Gathered, known, with_turns, Follows}

-- as many values as elements, where each gives one
pub all_found : {A B : Type 0} (f : A → Option B) (xs : List A) → list_all (λ x. is_some (f x)) xs ≡ true → length (filter_map f xs) ≡ length xs
all_found f [] h = refl
all_found {A} {B} f (x ∷ xs) h = by_head (f x) refl (all_found f xs)
  where
    false_not_true : false ≡ true → ⊥
    false_not_true e = cc

    by_head : (found : Option B) → f x ≡ found → (list_all (λ x. is_some (f x)) xs ≡ true → length (filter_map f xs) ≡ length xs) → length (filter_map f (x ∷ xs)) ≡ length (x ∷ xs)
    by_head (Some y) e more = rw e (ap suc (more (rw e at h)))
    by_head None e more = absurd (false_not_true (rw e at h))

turns_step : (g mid : Gathered) (words : List (List ℕ)) (count : ℕ) → list_all (λ name. is_some (actor_of name)) (drop 1 words) ≡ true → (length words == 1) ≡ false → count ≡ length (drop 1 words) → nat_le (g.turn_words + length (drop 1 words)) MAX_TURN_WORDS ≡ true
    → mid ≡ with_turns g (filter_map actor_of (drop 1 words)) → Follows g (turns_stated (known g) words) (Ok tt) (record mid { turn_words = mid.turn_words + count })
unfolding turns_stated
turns_step g mid words count all some size few is =
    let filled : count ≡ length (filter_map actor_of (drop 1 words)) = size ∙ sym (all_found actor_of (drop 1 words) all) in
    rw (all, some, few) (ap (λ (x : Gathered). record x { turn_words = x.turn_words + count }) is ∙ ap (λ (n : ℕ). record (with_turns g (filter_map actor_of (drop 1 words))) { turn_words = g.turn_words + n }) filled)

pub turns_follow : (g mid : Gathered) (words left : List (List ℕ)) (count : ℕ) → left ≡ drop 1 words → list_all (λ name. is_some (actor_of name)) left ≡ true → (length words ≡ 1 → ⊥) → count ≡ length words - 1 → count ≤ MAX_TURN_WORDS → g.turn_words ≤ MAX_TURN_WORDS - count
    → mid ≡ with_turns g (filter_map actor_of left) → Follows g (turns_stated (known g) words) (Ok tt) (record mid { turn_words = mid.turn_words + count })
turns_follow g mid words left count same all some size below few is =
    let dropped : length (drop 1 words) ≡ length words - 1 = length-drop 1 words in
    turns_step g mid words count (ap (list_all (λ name. is_some (actor_of name))) (sym same) ∙ all) (grind (arith, nat_tests, some)) (size ∙ sym dropped) (grind (arith, nat_tests, dropped, size, below, few))
    (is ∙ ap (λ (names : List (List ℕ)). with_turns g (filter_map actor_of names)) same)
