-- One more text joined to those of the elements before a place.
use Rattle.std.proofs.Common.{◌≡◌, ℕ, ◌+◌, ◌≤◌, length, Some, List, [], ◌∷◌, ◌++◌, take, get_or, ◌∙◌, ap, subst, append-nil, append_assoc, Result, OnOk}
use Rattle.std.specs.List.{slice_get, flat_map, AllByRecursion}
use Rattle.std.proofs.lemmas.List.{take_more, take_all}
use Rattle.std.proofs.lemmas.Result.{on_ok_weaker}
use Rattle.std.proofs.lemmas.List.Concat.{flat_map-append}
use Rattle.std.proofs.lemmas.Option.{get_or_from_slice_get, slice_get_within}

-- the texts before i + 1 are those before i, and then the one at i
pub flat_map-take_more : {X : Type 0} (text : X → List ℕ) (xs : List X) (i : ℕ) (x : X)
    → slice_get xs i ≡ Some x → flat_map text (take (i + 1) xs) ≡ flat_map text (take i xs) ++ text x
flat_map-take_more text xs i x there =
    let more = take_more xs i x (slice_get_within xs i x there) in
    let same = get_or_from_slice_get xs i x x there in
    ap (flat_map text) more
    ∙ flat_map-append text (take i xs) (get_or xs i x ∷ [])
    ∙ ap (λ y. flat_map text (take i xs) ++ (text y ++ [])) same
    ∙ ap (λ t. flat_map text (take i xs) ++ t) (append-nil (text x))

-- what follows a first part, where it is pushed behind it, is pushed with it
pub pushed_after : {T E : Type 0} (r : Result T E) (old mid new first rest : List ℕ)
    → mid ≡ old ++ first → OnOk r (new ≡ mid ++ rest) → OnOk r (new ≡ old ++ (first ++ rest))
pushed_after r old mid new first rest front behind =
    on_ok_weaker r (λ h. h ∙ ap (λ t. t ++ rest) front ∙ append_assoc old first rest) behind

-- parts of a text that are joined one after the other, joined from the last on
pub join-4 : (a b c d e : List ℕ) → (((a ++ b) ++ c) ++ d) ++ e ≡ a ++ (b ++ (c ++ (d ++ e)))
join-4 a b c d e = simp append_assoc

pub join-5 : (a b c d e f : List ℕ) → ((((a ++ b) ++ c) ++ d) ++ e) ++ f ≡ a ++ (b ++ (c ++ (d ++ (e ++ f))))
join-5 a b c d e f = simp append_assoc

pub join-6 : (a b c d e f g : List ℕ) → (((((a ++ b) ++ c) ++ d) ++ e) ++ f) ++ g ≡ a ++ (b ++ (c ++ (d ++ (e ++ (f ++ g)))))
join-6 a b c d e f g = simp append_assoc

-- what holds of the elements before a place and of the one there holds of those before the next place
all-push : {X : Type 0} (P : X → Type 0) (xs : List X) (x : X) → AllByRecursion P xs → P x → AllByRecursion P (xs ++ x ∷ [])
all-push P [] x before there = (there, tt)
all-push P (y ∷ ys) x before there = (before.0, all-push P ys x before.1 there)

pub all-take_more : {X : Type 0} (P : X → Type 0) (xs : List X) (i : ℕ) (x : X)
    → slice_get xs i ≡ Some x → AllByRecursion P (take i xs) → P x → AllByRecursion P (take (i + 1) xs)
all-take_more P xs i x there before fits =
    let more = take_more xs i x (slice_get_within xs i x there) in
    let same = get_or_from_slice_get xs i x x there in
    rw (more, same) (all-push P (take i xs) x before fits)

pub all-take_all : {X : Type 0} (P : X → Type 0) (xs : List X) (i : ℕ) → length xs ≤ i → AllByRecursion P (take i xs) → AllByRecursion P xs
all-take_all P xs i all before = subst (AllByRecursion P) (take_all i xs all) before
