-- Seats that are split from the first, and lists that grow.
use Rattle.std.proofs.Common.{◌≡◌, ◌⊎◌, ℕ, zero, suc, ◌+◌, ◌<◌, List, [], ◌∷◌, ◌++◌, length, Option, Some, refl, sym, ap, ◌∙◌, subst, inl, inr, arith}
use Rattle.std.specs.Prelude.{slice_get, slice_index_or, All, take, drop}
use Rattle.std.specs.List.{remove}
use Rattle.atomic_table.specs.Table.{Me}
use Rattle.turn_cell.specs.declared.seat_view.SeatView.{SeatView}
use Rattle.turn_cell.specs.declared.seat_view.Chest.{Chest}
use Rattle.turn_cell.specs.TableRuled.{opening_view, new_view, gave_number, next_seat}
use Rattle.turn_cell.specs.Seats.{IsSeated}

module _ {X : Type 0} where
  -- what is read of a list with one more at its end
  pub got_snoc : (xs : List X) (x y : X) (k : ℕ) → slice_get (xs ++ x ∷ []) k ≡ Some y → (slice_get xs k ≡ Some y) ⊎ ((k ≡ length xs) × (x ≡ y))
  got_snoc [] x y zero e = inr (refl, cc)
  got_snoc [] x y (suc k) e = absurd (cc)
  got_snoc (z ∷ xs) x y zero e = inl e
  got_snoc (z ∷ xs) x y (suc k) e = elim (got_snoc xs x y k e) [ inl a ↦ inl a | inr a ↦ inr (omega arith, a.1) ]

  -- a fact of each after one was added at the end
  pub each_snoc : (P : ℕ → X → Type 0) (xs ys : List X) (x : X) (n : ℕ) → ys ≡ xs ++ x ∷ [] → length xs ≡ n → ((k : ℕ) (y : X) → slice_get xs k ≡ Some y → P k y) → P n x → (k : ℕ) (y : X) → slice_get ys k ≡ Some y → P k y
  each_snoc P xs ys x n is len old new k y at = elim (got_snoc xs x y k (subst (λ (l : List X). slice_get l k ≡ Some y) is at)) [
    | inl a ↦ old k y a
    | inr a ↦ subst (λ (q : ℕ × X). P q.0 q.1) (λ i. ((sym len ∙ sym a.0) i, a.1 i)) new
  ]

  -- a fact of each after one was added at the front
  pub each_cons : (P : ℕ → X → Type 0) (xs ys : List X) (x : X) → ys ≡ x ∷ xs → P 0 x → ((k : ℕ) (y : X) → slice_get xs k ≡ Some y → P (k + 1) y) → (k : ℕ) (y : X) → slice_get ys k ≡ Some y → P k y
  each_cons P xs ys x is new old zero y at = let e : Some x ≡ Some y = subst (λ (l : List X). slice_get l 0 ≡ Some y) is at in let same : x ≡ y = cc in subst (P 0) same new
  each_cons P xs ys x is new old (suc k) y at = subst (λ (n : ℕ). P n y) (let e : k + 1 ≡ suc k = omega arith in e) (old k y (subst (λ (l : List X). slice_get l (suc k) ≡ Some y) is at))

  pub got_at : (xs : List X) (i : ℕ) (x d : X) → i < length xs → x ≡ slice_index_or xs i d → slice_get xs i ≡ Some x
  got_at [] i x d lt e = absurd (omega arith)
  got_at (y ∷ xs) zero x d lt e = ap (λ (z : X). Some z) (sym e)
  got_at (y ∷ xs) (suc i) x d lt e = got_at xs i x d (omega arith) e

  pub here_or : (xs : List X) (i : ℕ) (x d : X) → slice_get xs i ≡ Some x → slice_index_or xs i d ≡ x
  here_or [] i x d e = absurd (cc)
  here_or (y ∷ xs) zero x d e = cc
  here_or (y ∷ xs) (suc i) x d e = here_or xs i x d e

  -- a list has an element at each place below its length
  pub there : (xs : List X) (i : ℕ) → i < length xs → (x : X) × (slice_get xs i ≡ Some x)
  there [] i lt = absurd (omega arith)
  there (y ∷ xs) zero lt = (y, refl)
  there (y ∷ xs) (suc i) lt = there xs i (omega arith)

  pub within : (xs : List X) (i : ℕ) (x : X) → slice_get xs i ≡ Some x → i < length xs
  within [] i x e = absurd (cc)
  within (y ∷ xs) zero x e = omega arith
  within (y ∷ xs) (suc i) x e = omega (arith, within xs i x e)

  pub rest_of : (xs : List X) (k : ℕ) → 0 < length xs → slice_get xs (k + 1) ≡ slice_get (remove xs 0) k
  rest_of [] k lt = absurd (omega arith)
  rest_of (x ∷ xs) k lt = ap (slice_get (x ∷ xs)) (let e : k + 1 ≡ suc k = omega arith in e)

  pub none_left : (xs : List X) → length xs ≡ 0 → xs ≡ []
  none_left [] e = refl
  none_left (x ∷ xs) e = absurd (omega arith)

  -- a fact of all but the one that was taken out
  pub all_but : (P : X → Type 0) (xs : List X) (i : ℕ) → All P xs → All P (remove xs i)
  all_but P [] zero all k d lt = absurd (omega arith)
  all_but P [] (suc i) all k d lt = absurd (omega arith)
  all_but P (x ∷ xs) zero all k d lt = all (suc k) d (omega arith)
  all_but P (x ∷ xs) (suc i) all zero d lt = all zero d (omega arith)
  all_but P (x ∷ xs) (suc i) all (suc k) d lt = all_but P xs i (λ j d' lt'. all (suc j) d' (omega arith)) k d (omega arith)

  pub got_next : (xs ys : List X) (x : X) (k : ℕ) → xs ≡ x ∷ ys → slice_get xs (k + 1) ≡ slice_get ys k
  got_next xs ys x k is = ap (λ (l : List X). slice_get l (k + 1)) is ∙ ap (slice_get (x ∷ ys)) (let e : k + 1 ≡ suc k = omega arith in e)

  -- what was read before is read after one was added at the end
  pub got_push : (xs : List X) (x : X) (k : ℕ) → k < length xs → slice_get (xs ++ x ∷ []) k ≡ slice_get xs k
  got_push [] x k lt = absurd (omega arith)
  got_push (y ∷ xs) x zero lt = refl
  got_push (y ∷ xs) x (suc k) lt = got_push xs x k (omega arith)

  -- a whole list that was lent and came back
  pub came_back : (xs ys : List X) → length ys ≡ length xs → take (length xs) (ys ++ drop (length ys) xs) ≡ ys
  came_back [] [] e = refl
  came_back [] (y ∷ ys) e = absurd (omega arith)
  came_back (x ∷ xs) [] e = absurd (omega arith)
  came_back (x ∷ xs) (y ∷ ys) e = ap (λ (l : List X). y ∷ l) (came_back xs ys (let f : length ys ≡ length xs = omega arith in f))

  pub got_first : (xs ys : List X) (x : X) → xs ≡ x ∷ ys → slice_get xs 0 ≡ Some x
  got_first xs ys x is = ap (λ (l : List X). slice_get l 0) is

  -- each is the one that was taken out, or is rested
  pub out_or_left : (xs : List X) (i k : ℕ) (x y : X) → slice_get xs i ≡ Some x → slice_get xs k ≡ Some y → (x ≡ y) ⊎ ((j : ℕ) × (slice_get (remove xs i) j ≡ Some y))
  out_or_left [] i k x y a b = absurd (cc)
  out_or_left (z ∷ xs) zero zero x y a b = inl (cc)
  out_or_left (z ∷ xs) zero (suc k) x y a b = inr (k, b)
  out_or_left (z ∷ xs) (suc i) zero x y a b = inr (0, b)
  out_or_left (z ∷ xs) (suc i) (suc k) x y a b = elim (out_or_left xs i k x y a b) [ inl e ↦ inl e | inr e ↦ inr (suc e.0, e.1) ]

  -- each of a list is among those that are left, or is the one that was taken out; and nothing else is
  pub back_in_front : (xs : List X) (n : ℕ) (out : X) → slice_get xs n ≡ Some out → (k : ℕ) (y : X) → slice_get xs k ≡ Some y → (i : ℕ) × (slice_get (out ∷ remove xs n) i ≡ Some y)
  back_in_front xs n out at k y here = elim (out_or_left xs n k out y at here) [
    | inl same ↦ (0, ap (λ (z : X). Some z) same)
    | inr left ↦ (suc left.0, left.1)
  ]

  pub was_in : (xs : List X) (n i : ℕ) (y : X) → slice_get (remove xs n) i ≡ Some y → (k : ℕ) × (slice_get xs k ≡ Some y)
  was_in [] zero i y at = absurd (cc)
  was_in [] (suc n) i y at = absurd (cc)
  was_in (x ∷ xs) zero i y at = (suc i, at)
  was_in (x ∷ xs) (suc n) zero y at = (0, at)
  was_in (x ∷ xs) (suc n) (suc i) y at = let k = was_in xs n i y at in (suc k.0, k.1)

  pub front_was_in : (xs : List X) (n : ℕ) (out : X) → slice_get xs n ≡ Some out → (i : ℕ) (y : X) → slice_get (out ∷ remove xs n) i ≡ Some y → (k : ℕ) × (slice_get xs k ≡ Some y)
  front_was_in xs n out at zero y here = (n, at ∙ here)
  front_was_in xs n out at (suc i) y here = was_in xs n i y here

  -- a fact of each, by place, from a list whose elements all are of another
  pub all_among : (P : X → Type 0) (xs ys : List X) → All P xs → ((i : ℕ) (y : X) → slice_get ys i ≡ Some y → (k : ℕ) × (slice_get xs k ≡ Some y)) → All P ys
  all_among P xs ys all among k d lt =
      let y = there ys k lt in
      let x = among k y.0 y.1 in
      subst P (sym (here_or ys k y.0 d y.1)) (subst P (here_or xs x.0 y.0 d x.1) (all x.0 d (within xs x.0 y.0 x.1)))

module _ {S L I N : Type 0} where
  pub counted_first : (m : Me (Option (Chest S L I N)) (SeatView S L I N)) (s : S) (ls : List L) (n : ℕ) → m ≡ (opening_view s ls n, []) → ◌≡◌ {A = Me (Option (Chest S L I N)) (SeatView S L I N)} (gave_number m.0, m.1) (opening_view s ls (n + 1), [])
  counted_first m s ls n e = ap (λ (k : Me (Option (Chest S L I N)) (SeatView S L I N)). (let z : Me (Option (Chest S L I N)) (SeatView S L I N) = (gave_number k.0, k.1) in z)) e

  pub fresh_next : (m : Me (Option (Chest S L I N)) (SeatView S L I N)) (s : S) (ls : List L) (n : ℕ) → m ≡ (opening_view s ls n, []) → ◌≡◌ {A = Me (Option (Chest S L I N)) (SeatView S L I N)} (next_seat m.0, []) (new_view s ls n, [])
  fresh_next m s ls n e = ap (λ (k : Me (Option (Chest S L I N)) (SeatView S L I N)). (let z : Me (Option (Chest S L I N)) (SeatView S L I N) = (next_seat k.0, []) in z)) e

  pub fresh_sits : (m : Me (Option (Chest S L I N)) (SeatView S L I N)) (s : S) (ls : List L) (n : ℕ) (l : L) → m ≡ (new_view s ls n, []) → slice_get ls n ≡ Some l → IsSeated s ls n m.0 l
  fresh_sits m s ls n l e at = (ap (λ (k : Me (Option (Chest S L I N)) (SeatView S L I N)). k.0.number) e, ap (λ (k : Me (Option (Chest S L I N)) (SeatView S L I N)). k.0.shared) e, ap (λ (k : Me (Option (Chest S L I N)) (SeatView S L I N)). k.0.locals) e, ap (λ (k : Me (Option (Chest S L I N)) (SeatView S L I N)). k.0.seen) e, at)

  pub first_sits : (m : Me (Option (Chest S L I N)) (SeatView S L I N)) (s : S) (ls : List L) (n : ℕ) (l : L) → m ≡ (opening_view s ls n, []) → slice_get ls 0 ≡ Some l → IsSeated s ls 0 m.0 l
  first_sits m s ls n l e at = (ap (λ (k : Me (Option (Chest S L I N)) (SeatView S L I N)). k.0.number) e, ap (λ (k : Me (Option (Chest S L I N)) (SeatView S L I N)). k.0.shared) e, ap (λ (k : Me (Option (Chest S L I N)) (SeatView S L I N)). k.0.locals) e, ap (λ (k : Me (Option (Chest S L I N)) (SeatView S L I N)). k.0.seen) e, at)
