-- The elements of a list changed one by one.
use Rattle.std.proofs.Common.{◌≡◌, ℕ, ◌+◌, ◌<◌, List, [], ◌∷◌, ◌++◌, length, take, drop, set, get_or, map, sym, ◌∙◌, ap, arith, append_assoc}
use Rattle.std.proofs.lemmas.List.{drop_more, take_more, map_push, set_at, length-take-le, length-map, get_or_at}

-- one more done
pub done_more : {A : Type 0} (f : A → A) (items : List A) (place : ℕ) (d : A) → place < length items
    → set (map f (take place items) ++ drop place items) place (f (get_or items place d)) ≡ map f (take (place + 1) items) ++ drop (place + 1) items
done_more f items place d h =
    let size : length (map f (take place items)) ≡ place = length-map (take place items) f ∙ length-take-le place items (omega arith) in
    ap (λ rest. set (map f (take place items) ++ rest) place (f (get_or items place d))) (drop_more items place d h)
    ∙ set_at (map f (take place items)) (get_or items place d) (drop (place + 1) items) (f (get_or items place d)) place size
    ∙ sym (append_assoc (map f (take place items)) (f (get_or items place d) ∷ []) (drop (place + 1) items))
    ∙ ap (λ done. done ++ drop (place + 1) items) (sym (map_push f (take place items) (get_or items place d)))
    ∙ ap (λ done. map f done ++ drop (place + 1) items) (sym (take_more items place d h))

-- the next one is as it was
pub next_same : {A : Type 0} (f : A → A) (items : List A) (place : ℕ) (d : A) → place < length items
    → get_or (map f (take place items) ++ drop place items) place d ≡ get_or items place d
next_same f items place d h =
    let size : length (map f (take place items)) ≡ place = length-map (take place items) f ∙ length-take-le place items (omega arith) in
    ap (λ rest. get_or (map f (take place items) ++ rest) place d) (drop_more items place d h)
    ∙ get_or_at (map f (take place items)) (get_or items place d) (drop (place + 1) items) d place size
