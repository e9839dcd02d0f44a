-- Latitudes in rising order, and the ranges that they are cut into.
use Rattle.std.proofs.Common.{◌≡◌, ℕ, ◌+◌, ◌-◌, ◌*◌, ◌<◌, ◌≤◌, ℤ, pos, ◌+ℤ◌, ◌-ℤ◌, ◌<ℤ◌, ◌≤ℤ◌, ◌⊎◌, Bool, true, false, cond, List, [], ◌∷◌, ◌++◌, Some, length, get_or, map, refl, sym, ap, subst, ◌∙◌, arith, inl, inr, ⊎_elim}
use Rattle.std.specs.Prelude.{int_lt}
use Rattle.std.specs.Ordering.{int_cmp, is_lt}
use Rattle.std.specs.List.{All, Contains, slice_get}
use Rattle.std.specs.List.Sorted.{IsSorted}
use Rattle.std.proofs.lemmas.Cmp.{int_cmp_total}
use Rattle.std.proofs.lemmas.List.Sorted.{ranks_by, sorted_far}
use Rattle.std.proofs.lemmas.Int.{ints, by_lt_z}
use Rattle.std.proofs.lemmas.Bool.{cases_lt}
use Rattle.std.proofs.lemmas.List.{get_or_append_left, get_or_push, length_push, get_or_default, append_assoc, append-nil, map-append, length-append}
use Rattle.std.proofs.lemmas.List.Elements.{All-nil, All-cons, All-push, All-append, All-weaker, Contains-append_left, Contains-push, Contains-get_or}
use Rattle.fence_polygon.specs.declared.band.Band.{Band}
use Rattle.fence_polygon.specs.Bands.{InRange, IsOneOf, IsBetween, RangesRise, CutAt, range_of}
use Rattle.fence_polygon.specs.Marks.{Rises, bands_behind, empty_band}

not_less : (a b : ℤ) → is_lt (int_cmp b a) ≡ false → a ≤ℤ b
not_less a b h = grind (arith, ints)

-- a sorted list of signed numbers does not fall
pub Rises-from_sort : (xs : List ℤ) → IsSorted int_cmp xs → Rises xs
Rises-from_sort xs sorted i j d order within = not_less (get_or xs i d) (get_or xs j d) (sorted_far (λ a b. is_lt (int_cmp a b)) (ranks_by int_cmp_total (λ x. x)) xs sorted i j d order within)

-- the ranges that latitudes are cut into up to this one
pub record CutTo (xs : List ℤ) (top : ℤ) (ranges : List (ℤ × ℤ)) : Type 0 where
  pub filled : All (λ range. range.0 ≤ℤ range.1) ranges
  pub rise : RangesRise ranges
  pub kinds : All (λ range. IsOneOf xs range ⊎ IsBetween xs range) ranges
  pub whole : (low x : ℤ) → Contains xs low → low ≤ℤ x → x ≤ℤ top → (range : ℤ × ℤ) × Contains ranges range × InRange x range
  pub under : All (λ range. range.1 ≤ℤ top) ranges

RangesRise-push : (ranges : List (ℤ × ℤ)) (range : ℤ × ℤ) (top : ℤ) → RangesRise ranges → All (λ r. r.1 ≤ℤ top) ranges → top <ℤ range.0 → RangesRise (ranges ++ range ∷ [])
RangesRise-push ranges range top rise under above i j d lower within = ⊎_elim
    (λ old.
    let a : get_or (ranges ++ range ∷ []) i d ≡ get_or ranges i d = get_or_append_left ranges (range ∷ []) d i (omega arith) in
    let b : get_or (ranges ++ range ∷ []) j d ≡ get_or ranges j d = get_or_append_left ranges (range ∷ []) d j old in
    let h = rise i j d lower old in
    rw (a, b) h)
    (λ new.
    let is : j ≡ length ranges = omega (arith, length_push ranges range) in
    let a : get_or (ranges ++ range ∷ []) i d ≡ get_or ranges i d = get_or_append_left ranges (range ∷ []) d i (omega arith) in
    let b : get_or (ranges ++ range ∷ []) j d ≡ range = get_or_push ranges range d j (sym is) in
    let h = under i d (omega arith) in
    let below : (get_or ranges i d).1 <ℤ range.0 = omega (arith, ints) in rw (a, b) below)
    (cases_lt j (length ranges))

-- one range more, which begins right behind
CutTo-push : (xs : List ℤ) (top : ℤ) (ranges : List (ℤ × ℤ)) (range : ℤ × ℤ) → CutTo xs top ranges → range.0 ≡ top +ℤ pos 1 → range.0 ≤ℤ range.1 → IsOneOf xs range ⊎ IsBetween xs range → CutTo xs range.1 (ranges ++ range ∷ [])
CutTo-push xs top ranges range cut next fills kind = record {
  filled = All-push (λ r. r.0 ≤ℤ r.1) ranges range cut.filled fills;
  rise = RangesRise-push ranges range top cut.rise cut.under (omega (arith, ints));
  kinds = All-push (λ r. IsOneOf xs r ⊎ IsBetween xs r) ranges range cut.kinds kind;
  whole = λ low x in_xs above below. by_lt_z top x
      (λ behind. (range, Contains-push ranges range, (omega (arith, ints), below)))
      (λ upto. let old = cut.whole low x in_xs above upto in (old.0, Contains-append_left ranges (range ∷ []) old.0 old.1, old.2));
  under = All-push (λ r. r.1 ≤ℤ range.1) ranges range (All-weaker (λ r. r.1 ≤ℤ top) (λ r. r.1 ≤ℤ range.1) (λ r h. omega (arith, ints)) ranges cut.under) (omega (arith, ints));
}

-- the first latitude alone
pub CutTo-begin : (xs : List ℤ) (d : ℤ) → Rises xs → 0 < length xs → CutTo xs (get_or xs 0 d) ((get_or xs 0 d, get_or xs 0 d) ∷ [])
CutTo-begin xs d rises some =
    let first : Contains xs (get_or xs 0 d) = Contains-get_or xs 0 d some in
    record {
      filled = All-cons (λ r. r.0 ≤ℤ r.1) (get_or xs 0 d, get_or xs 0 d) [] (omega (arith, ints)) (All-nil (λ (r : ℤ × ℤ). r.0 ≤ℤ r.1));
      rise = λ i j d lower within. absurd (omega arith);
      kinds = All-cons (λ r. IsOneOf xs r ⊎ IsBetween xs r) (get_or xs 0 d, get_or xs 0 d) [] (inl (first, refl)) (All-nil (λ (r : ℤ × ℤ). IsOneOf xs r ⊎ IsBetween xs r));
      whole = λ low x in_xs above below.
          let least : get_or xs 0 low ≤ℤ low = subst (λ y. get_or xs 0 low ≤ℤ y) in_xs.2 (rises 0 in_xs.0 low (omega arith) in_xs.1) in
          let least' : get_or xs 0 d ≤ℤ low = rw (get_or_default xs 0 d low some) least in
          ((get_or xs 0 d, get_or xs 0 d), (0, omega arith, refl), (omega (arith, ints), below));
      under = All-cons (λ r. r.1 ≤ℤ get_or xs 0 d) (get_or xs 0 d, get_or xs 0 d) [] (omega (arith, ints)) (All-nil (λ (r : ℤ × ℤ). r.1 ≤ℤ get_or xs 0 d));
    }

-- what lies between neighbouring latitudes
between : (xs : List ℤ) (at : ℕ) (d last x : ℤ) → Rises xs → 1 ≤ at → at < length xs → last ≡ get_or xs (at - 1) d → x ≡ get_or xs at d → IsBetween xs (last +ℤ pos 1, x -ℤ pos 1)
between xs at d last x rises some within is_last is_x = record {
  after =
      let has : Contains xs last = subst (Contains xs) (sym is_last) (Contains-get_or xs (at - 1) d (omega arith)) in
      let is : last ≡ last +ℤ pos 1 -ℤ pos 1 = omega (arith, ints) in
      subst (Contains xs) is has;
  before =
      let has : Contains xs x = subst (Contains xs) (sym is_x) (Contains-get_or xs at d within) in
      let is : x ≡ x -ℤ pos 1 +ℤ pos 1 = omega (arith, ints) in
      subst (Contains xs) is has;
  free = λ y inside in_xs. ⊎_elim
      (λ earlier.
      let h = rises in_xs.0 (at - 1) y (omega arith) (omega arith) in
      let g : get_or xs in_xs.0 y ≡ y = in_xs.2 in
      let e : get_or xs (at - 1) y ≡ get_or xs (at - 1) d = get_or_default xs (at - 1) y d (omega arith) in
      let h' : y ≤ℤ get_or xs (at - 1) d = rw (g, e) at h in
      absurd (omega (arith, ints, inside.0, inside.1)))
      (λ later.
      let h = rises at in_xs.0 y later in_xs.1 in
      let g : get_or xs in_xs.0 y ≡ y = in_xs.2 in
      let e : get_or xs at y ≡ get_or xs at d = get_or_default xs at y d within in
      let h' : get_or xs at d ≤ℤ y = rw (g, e) at h in
      absurd (omega (arith, ints, inside.0, inside.1)))
      (cases_lt in_xs.0 at);
}

lt_holds : (a b : ℤ) → int_lt a b ≡ true → a <ℤ b
lt_holds a b h = grind (arith, ints)

lt_fails : (a b : ℤ) → int_lt a b ≡ false → b ≤ℤ a
lt_fails a b h = grind (arith, ints)

neighbours : (xs : List ℤ) (at : ℕ) (d : ℤ) → Rises xs → 1 ≤ at → at < length xs → get_or xs (at - 1) d ≤ℤ get_or xs at d
neighbours xs at d rises some within = rises (at - 1) at d (omega arith) within

-- one latitude more, behind a lesser one
CutTo-behind : (xs : List ℤ) (at : ℕ) (d last x : ℤ) (ranges : List (ℤ × ℤ)) → Rises xs → 1 ≤ at → at < length xs → last ≡ get_or xs (at - 1) d → x ≡ get_or xs at d → last <ℤ x → CutTo xs last ranges → (gap : Bool) → int_lt (last +ℤ pos 1) x ≡ gap → CutTo xs x (ranges ++ map range_of (cond gap (empty_band (last +ℤ pos 1) (x -ℤ pos 1) ∷ empty_band x x ∷ []) (empty_band x x ∷ [])))
CutTo-behind xs at d last x ranges rises some within is_last is_x less cut true wide =
    let more = lt_holds (last +ℤ pos 1) x wide in
    let free = CutTo-push xs last ranges (last +ℤ pos 1, x -ℤ pos 1) cut refl (omega (arith, ints)) (inr (between xs at d last x rises some within is_last is_x)) in
    let own : Contains xs x = subst (Contains xs) (sym is_x) (Contains-get_or xs at d within) in
    let both = CutTo-push xs (x -ℤ pos 1) (ranges ++ (last +ℤ pos 1, x -ℤ pos 1) ∷ []) (x, x) free (omega (arith, ints)) (omega (arith, ints)) (inl (own, refl)) in
    rw append_assoc at both
CutTo-behind xs at d last x ranges rises some within is_last is_x less cut false tight =
    let fewer = lt_fails (last +ℤ pos 1) x tight in
    let own : Contains xs x = subst (Contains xs) (sym is_x) (Contains-get_or xs at d within) in
    CutTo-push xs last ranges (x, x) cut (omega (arith, ints)) (omega (arith, ints)) (inl (own, refl))

CutTo-at : (xs : List ℤ) (at : ℕ) (d last x : ℤ) (ranges : List (ℤ × ℤ)) → Rises xs → 1 ≤ at → at < length xs → last ≡ get_or xs (at - 1) d → x ≡ get_or xs at d → last ≤ℤ x → CutTo xs last ranges → (higher : Bool) → int_lt last x ≡ higher → CutTo xs x (ranges ++ map range_of (cond higher (cond (int_lt (last +ℤ pos 1) x) (empty_band (last +ℤ pos 1) (x -ℤ pos 1) ∷ empty_band x x ∷ []) (empty_band x x ∷ [])) []))
CutTo-at xs at d last x ranges rises some within is_last is_x order cut true less = CutTo-behind xs at d last x ranges rises some within is_last is_x (lt_holds last x less) cut (int_lt (last +ℤ pos 1) x) refl
CutTo-at xs at d last x ranges rises some within is_last is_x order cut false fewer =
    let back = lt_fails last x fewer in
    let same : last ≡ x = omega (arith, ints) in
    rw append-nil (subst (λ top. CutTo xs top ranges) same cut)

length-behind : (last x : ℤ) → length (bands_behind last x) ≤ 2
length-behind last x = elim (int_lt last x) as (λ higher. length (cond higher (cond (int_lt (last +ℤ pos 1) x) (empty_band (last +ℤ pos 1) (x -ℤ pos 1) ∷ empty_band x x ∷ []) (empty_band x x ∷ [])) []) ≤ 2) [
  | false ↦ omega arith
  | true ↦ elim (int_lt (last +ℤ pos 1) x) as (λ gap. length (cond gap (empty_band (last +ℤ pos 1) (x -ℤ pos 1) ∷ empty_band x x ∷ []) (empty_band x x ∷ [])) ≤ 2) [ true ↦ omega arith | false ↦ omega arith ]
]

-- up to the last latitude
pub CutTo-end : (xs : List ℤ) (d : ℤ) (ranges : List (ℤ × ℤ)) → Rises xs → 0 < length xs → CutTo xs (get_or xs (length xs - 1) d) ranges → CutAt xs ranges
CutTo-end xs d ranges rises some cut = record {
  filled = cut.filled;
  rise = cut.rise;
  kinds = cut.kinds;
  whole = λ low high x in_low in_high above below.
      let h = rises in_high.0 (length xs - 1) high (omega (arith, in_high.1)) (omega arith) in
      let g : get_or xs in_high.0 high ≡ high = in_high.2 in
      let e : get_or xs (length xs - 1) high ≡ get_or xs (length xs - 1) d = get_or_default xs (length xs - 1) high d (omega arith) in
      let h' : high ≤ℤ get_or xs (length xs - 1) d = rw (g, e) at h in
      cut.whole low x in_low above (omega (arith, ints));
}

pub CutAt-none : (xs : List ℤ) → length xs ≡ 0 → CutAt xs []
CutAt-none xs none = record {
  filled = All-nil (λ (r : ℤ × ℤ). r.0 ≤ℤ r.1);
  rise = λ i j d lower within. absurd (omega arith);
  kinds = All-nil (λ (r : ℤ × ℤ). IsOneOf xs r ⊎ IsBetween xs r);
  whole = λ low high x in_low in_high above below. absurd (omega (arith, in_low.1));
}

abbrev pub IsEmpty : Band → Type 0
IsEmpty band = band.edges ≡ 0

empty_own : (x : ℤ) → All IsEmpty (empty_band x x ∷ [])
empty_own x = All-cons IsEmpty (empty_band x x) [] refl (All-nil IsEmpty)

pub empty-behind : (last x : ℤ) → All IsEmpty (bands_behind last x)
empty-behind last x = elim (int_lt last x) as (λ higher. All IsEmpty (cond higher (cond (int_lt (last +ℤ pos 1) x) (empty_band (last +ℤ pos 1) (x -ℤ pos 1) ∷ empty_band x x ∷ []) (empty_band x x ∷ [])) [])) [
  | false ↦ All-nil IsEmpty
  | true ↦ elim (int_lt (last +ℤ pos 1) x) as (λ gap. All IsEmpty (cond gap (empty_band (last +ℤ pos 1) (x -ℤ pos 1) ∷ empty_band x x ∷ []) (empty_band x x ∷ []))) [
    | true ↦ All-cons IsEmpty (empty_band (last +ℤ pos 1) (x -ℤ pos 1)) (empty_band x x ∷ []) refl (empty_own x)
    | false ↦ empty_own x
  ]
]

-- what the loop over the latitudes keeps
pub record Built (xs : List ℤ) (at : ℕ) (bands : List Band) : Type 0 where
  pub few : length bands + 1 ≤ 2 * at
  pub cut : CutTo xs (get_or xs (at - 1) (pos 0)) (map range_of bands)
  pub empty : All IsEmpty bands

pub first_at : (xs : List ℤ) (first d : ℤ) → Some first ≡ slice_get xs 0 → (0 < length xs) × (get_or xs 0 d ≡ first)
first_at [] first d h = absurd cc
first_at (x ∷ xs) first d h = (omega arith, cc)

pub Built-begin : (xs : List ℤ) (first : ℤ) (bands : List Band) → Rises xs → Some first ≡ slice_get xs 0 → bands ≡ empty_band first first ∷ [] → Built xs 1 bands
Built-begin xs first bands rises is made =
    let at = first_at xs first (pos 0) is in
    let whole : Built xs 1 (empty_band first first ∷ []) = record {
      few = omega arith;
      cut = subst (λ x. CutTo xs (get_or xs 0 (pos 0)) ((x, x) ∷ [])) at.1 (CutTo-begin xs (pos 0) rises at.0);
      empty = empty_own first;
    } in
    subst (Built xs 1) (sym made) whole

pub Built-more : (xs : List ℤ) (at : ℕ) (last x : ℤ) (bands after : List Band) → Rises xs → 1 ≤ at → at < length xs → last ≡ get_or xs (at - 1) (pos 0) → x ≡ get_or xs at (pos 0) → after ≡ bands ++ bands_behind last x → Built xs at bands → Built xs (at + 1) after
Built-more xs at last x bands after rises some within is_last is_x made built =
    let ranges : map range_of (bands ++ bands_behind last x) ≡ map range_of bands ++ map range_of (bands_behind last x) = map-append range_of bands (bands_behind last x) in
    let old : CutTo xs (get_or xs (at - 1) (pos 0)) (map range_of bands) = built.cut in
    let cut : CutTo xs x (map range_of bands ++ map range_of (bands_behind last x)) = CutTo-at xs at (pos 0) last x (map range_of bands) rises some within is_last is_x (rw (is_last, is_x) (neighbours xs at (pos 0) rises some within)) (subst (λ top. CutTo xs top (map range_of bands)) (sym is_last) old) (int_lt last x) refl in
    let top : x ≡ get_or xs (at + 1 - 1) (pos 0) = is_x ∙ ap (λ n. get_or xs n (pos 0)) (omega arith) in
    let whole : Built xs (at + 1) (bands ++ bands_behind last x) = record {
      few = omega (arith, built.few, length-append bands (bands_behind last x), length-behind last x);
      cut = subst (λ y. CutTo xs y (map range_of (bands ++ bands_behind last x))) top (rw ranges cut);
      empty = All-append IsEmpty bands (bands_behind last x) built.empty (empty-behind last x);
    } in
    subst (Built xs (at + 1)) (sym made) whole

pub Built-end : (xs : List ℤ) (at : ℕ) (bands : List Band) → Rises xs → 0 < length xs → at ≡ length xs → Built xs at bands → CutAt xs (map range_of bands)
Built-end xs at bands rises some all built = CutTo-end xs (pos 0) (map range_of bands) rises some (subst (λ n. CutTo xs (get_or xs (n - 1) (pos 0)) (map range_of bands)) all built.cut)
