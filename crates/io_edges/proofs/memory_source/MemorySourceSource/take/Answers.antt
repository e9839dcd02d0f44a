use Rattle.std.proofs.Common.{◌≡◌, ℕ, ◌+◌, ◌-◌, ◌<◌, ◌++◌, List, [], take, drop, length, min, arith, sym, ◌∙◌, ap, subst, length-drop, take-append-drop}
use lib.Seq.{drop-drop}
use Rattle.std.proofs.lemmas.List.{nil_from_length}
use Rattle.io_edges.proofs.Rest.{rest_whole}
use Rattle.io_edges.proofs.memory_source.MemorySourceSource.take.Goals as goal

-- the bytes from a place on are the n that were taken there and those behind them
front_and_rest : (at n : ℕ) (items seen taken : List ℕ) → seen ≡ items → taken ≡ take n (take (length seen - at) (drop at seen)) → drop at items ≡ taken ++ drop (at + n) items
front_and_rest at n items seen taken same e =
    let P : List ℕ → Type 0 = λ all. taken ≡ take n (take (length all - at) (drop at all)) in
    let Q : List ℕ → Type 0 = λ rest. taken ≡ take n rest in
    let front : taken ≡ take n (drop at items) = subst Q (rest_whole at items) (subst P same e) in
    sym (take-append-drop n (drop at items)) ∙ ap (λ l. l ++ drop n (drop at items)) (sym front) ∙ ap (λ l. taken ++ l) (drop-drop n at items)

-- nothing is left where nothing was taken into some room
at_end : (at n room : ℕ) (items seen : List ℕ) → seen ≡ items → n ≡ min (min 4096 room) (length (take (length seen - at) (drop at seen))) → n ≡ 0 → 0 < room
    → drop (at + n) items ≡ []
at_end at n room items seen same e none some =
    let P : List ℕ → Type 0 = λ all. n ≡ min (min 4096 room) (length (take (length all - at) (drop at all))) in
    let Q : List ℕ → Type 0 = λ rest. n ≡ min (min 4096 room) (length rest) in
    let left : n ≡ min (min 4096 room) (length (drop at items)) = subst Q (rest_whole at items) (subst P same e) in
    let size : length (drop at items) ≡ length items - at = length-drop at items in
    nil_from_length _ (length-drop (at + n) items ∙ omega (arith, left, size, none, some))

pub returns-clause-bytes : goal.returns-clause-bytes
returns-clause-bytes c = (
  ap (λ s. s.left) (sym c.self.view_is) ∙ front_and_rest _ _ _ c.deref-2.result.now _ c.deref-2.ensures.value c.copy_front-count.ensures.front,
  λ none some. at_end _ _ _ _ c.deref-2.result.now c.deref-2.ensures.value c.copy_front-count.ensures.count none (let h = c.copy_front-count.auto.buf in omega (arith, h, some)),
)
