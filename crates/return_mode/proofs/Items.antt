-- Lists of items of the mission, one target on.
use Rattle.std.proofs.Common.{◌≡◌, ℕ, zero, suc, ◌+◌, ◌-◌, ◌<◌, ◌≤◌, [], ◌∷◌, ◌++◌, reverse, ap, ◌∙◌, arith}
use Rattle.std.proofs.lemmas.List.{reverse-append}
use Rattle.mission_model.specs.Returns.{to_item, items_from, items_to, items_back}

pub items_to-cons : (first last : ℕ) → first ≤ last → items_to first last ≡ to_item first ∷ items_to (first + 1) last
items_to-cons first last h = ap (items_from first) (more first last h) where
  more : (first last : ℕ) → first ≤ last → last + 1 - first ≡ suc (last + 1 - (first + 1))
  more first last h = omega arith

items_from-more : (seq count : ℕ) → items_from seq (suc count) ≡ items_from seq count ++ to_item (seq + count) ∷ []
items_from-more seq zero = ap (λ n. to_item n ∷ []) (at_end seq) where
  at_end : (seq : ℕ) → seq ≡ seq + 0
  at_end seq = omega arith
items_from-more seq (suc count) = ap (λ l. to_item seq ∷ l) (items_from-more (seq + 1) count ∙ ap (λ n. items_from (seq + 1) count ++ to_item n ∷ []) (one_on seq count)) where
  one_on : (seq count : ℕ) → seq + 1 + count ≡ seq + suc count
  one_on seq count = omega arith

items_back-suc : (index : ℕ) → items_back (suc index) ≡ to_item index ∷ items_back index
items_back-suc index = ap reverse (items_from-more 0 index) ∙ reverse-append (items_from 0 index) (to_item (0 + index) ∷ []) ∙ ap (λ n. to_item n ∷ items_back index) (none_more index) where
  none_more : (index : ℕ) → 0 + index ≡ index
  none_more index = omega arith

pub items_back-cons : (index : ℕ) → 0 < index → items_back index ≡ to_item (index - 1) ∷ items_back (index - 1)
items_back-cons index h = ap items_back (one_more index h) ∙ items_back-suc (index - 1) where
  one_more : (index : ℕ) → 0 < index → index ≡ suc (index - 1)
  one_more index h = omega arith
