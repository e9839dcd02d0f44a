-- Latitudes that lie in no band of a fence.
use Rattle.std.proofs.Common.{◌≡◌, ℕ, ◌+◌, ◌*◌, ◌<◌, ◌≤◌, ◌⊎◌, ℤ, ◌<ℤ◌, ◌≤ℤ◌, true, false, cond, List, [], ◌∷◌, length, get_or, refl, sym, ap, subst, ◌∙◌, arith, ⊎_elim}
use Rattle.std.specs.Prelude.{int_le}
use Rattle.std.specs.List.{All, Contains}
use Rattle.std.proofs.lemmas.Bool.{cases_Bool, cases_order, cases_lt}
use Rattle.std.proofs.lemmas.Int.{ints}
use Rattle.std.proofs.lemmas.List.{length-map, get_or-map, get_or_default}
use Rattle.std.proofs.lemmas.List.Elements.{All-head, All-tail}
use Rattle.mission_model.specs.declared.plan.Item.{Item}
use Rattle.mission_model.specs.Fence.{is_in_range}
use Rattle.fence_polygon.specs.declared.band.Band.{Band}
use Rattle.fence_polygon.specs.Bands.{fence_edges, spans, edge_set, edges_at, latitudes, InRange, CutInBands, range_of}
use Rattle.fence_polygon.specs.Marks.{InOrder}
use Rattle.fence_polygon.proofs.Order.{InOrder-rise, InOrder-cut}
use Rattle.fence_polygon.proofs.Spans.{EndsIn, ends-fence}

-- an edge that holds a latitude has an end that is not above it and one that is not below it
held : (a b x : ℤ) → is_in_range a b x ≡ true → ((a ≤ℤ x) × (x ≤ℤ b)) ⊎ ((b ≤ℤ x) × (x ≤ℤ a))
unfolding is_in_range
held a b x h = grind (arith, ints)

-- no latitude at or below this one, or none at or above it
abbrev pub Beyond : List ℤ → ℤ → Type 0
Beyond xs x = (low high : ℤ) → Contains xs low → Contains xs high → low ≤ℤ x → x ≤ℤ high → ⊥

spans-beyond : (xs : List ℤ) (x : ℤ) (edge : Item × Item) → Beyond xs x → EndsIn xs edge → spans x edge ≡ false
unfolding spans
spans-beyond xs x edge beyond ends = ⊎_elim
    (λ on. absurd (⊎_elim
    (λ (up : (edge.0.x ≤ℤ x) × (x ≤ℤ edge.1.x)). beyond edge.0.x edge.1.x ends.0 ends.1 up.0 up.1)
    (λ (down : (edge.1.x ≤ℤ x) × (x ≤ℤ edge.0.x)). beyond edge.1.x edge.0.x ends.1 ends.0 down.0 down.1)
    (held edge.0.x edge.1.x x on)))
    (λ off. off)
    (cases_Bool (is_in_range edge.0.x edge.1.x x))

edge_set-beyond : (xs : List ℤ) (x : ℤ) (edges : List (Item × Item)) → Beyond xs x → All (EndsIn xs) edges → edge_set x edges ≡ 0
edge_set-beyond xs x [] beyond ends = refl
edge_set-beyond xs x (edge ∷ edges) beyond ends =
    ap (λ b. cond b 1 0 + 2 * edge_set x edges) (spans-beyond xs x edge beyond (All-head (EndsIn xs) edge edges ends))
    ∙ ap (λ n. 0 + 2 * n) (edge_set-beyond xs x edges beyond (All-tail (EndsIn xs) edge edges ends))

-- the band of this place holds the latitude, where it does not end below it and begins at or below it
pub edges_at-band : (fence : List Item) (bands : List Band) (x : ℤ) (at : ℕ) (d : Band) → CutInBands fence bands → at < length bands → (get_or bands at d).from ≤ℤ x → x ≤ℤ (get_or bands at d).to → (get_or bands at d).edges ≡ edges_at fence x
edges_at-band fence bands x at d cut within from to = cut.edges at d within x (from, to)

-- the bands before this place end below the latitude, and those from it on begin above it
pub edges_at-none : (fence : List Item) (bands : List Band) (x : ℤ) (at : ℕ) → CutInBands fence bands → ((k : ℕ) (d : Band) → k < at → (get_or bands k d).to <ℤ x) → ((k : ℕ) (d : Band) → at ≤ k → k < length bands → x <ℤ (get_or bands k d).from) → edges_at fence x ≡ 0
unfolding edges_at
edges_at-none fence bands x at cut below above =
    let beyond : Beyond (latitudes fence) x = λ low high in_low in_high under over.
    let range = cut.cut.whole low high x in_low in_high under over in
    let k : ℕ = range.1.0 in
    let within : k < length bands = omega (arith, range.1.1, length-map bands range_of) in
    let d : Band = record { from = range.0.0; to = range.0.1; edges = 0 } in
    let is : range_of (get_or bands k d) ≡ range.0 = sym (get_or-map range_of bands k d range.0 within) ∙ range.1.2 in
    let inside : InRange x (range_of (get_or bands k d)) = subst (InRange x) (sym is) range.2 in
    ⊎_elim
    (λ before. let h = below k d before in omega (arith, ints, inside.0, inside.1))
    (λ behind. let h = above k d behind within in omega (arith, ints, inside.0, inside.1))
    (cases_lt k at) in
    edge_set-beyond (latitudes fence) x (fence_edges fence) beyond (ends-fence fence)

-- where the band at a place begins above the latitude, so do those behind it
pub begins-above : (fence : List Item) (bands : List Band) (x : ℤ) (at : ℕ) (d : Band) → CutInBands fence bands → at < length bands → x <ℤ (get_or bands at d).from → (k : ℕ) (e : Band) → at ≤ k → k < length bands → x <ℤ (get_or bands k e).from
begins-above fence bands x at d cut inside above k e lower within =
    let order : InOrder bands = InOrder-cut (latitudes fence) bands cut.cut in
    let here : x <ℤ (get_or bands at e).from = subst (λ (band : Band). x <ℤ band.from) (get_or_default bands at d e inside) above in
    ⊎_elim
    (λ same. subst (λ n. x <ℤ (get_or bands n e).from) same here)
    (λ other. ⊎_elim
    (λ less. let rise = InOrder-rise bands at k e order less within in let filled = order.filled at e inside in omega (arith, ints))
    (λ more. absurd (omega arith))
    other)
    (cases_order at k)

le_fails : (a b : ℤ) → int_le a b ≡ false → b <ℤ a
le_fails a b h = grind (arith, ints)

-- the bands before a place end below the latitude, and the one at it begins above
pub edges_at-gap : (fence : List Item) (bands : List Band) (x : ℤ) (at : ℕ) (d : Band) → CutInBands fence bands → at < length bands → ((k : ℕ) (d : Band) → k < at → (get_or bands k d).to <ℤ x) → int_le (get_or bands at d).from x ≡ false → edges_at fence x ≡ 0
edges_at-gap fence bands x at d cut within below fails = edges_at-none fence bands x at cut below (begins-above fence bands x at d cut within (le_fails _ _ fails))

-- all bands end below the latitude
pub edges_at-past : (fence : List Item) (bands : List Band) (x : ℤ) (at : ℕ) → CutInBands fence bands → length bands ≤ at → ((k : ℕ) (d : Band) → k < at → (get_or bands k d).to <ℤ x) → edges_at fence x ≡ 0
edges_at-past fence bands x at cut past below = edges_at-none fence bands x at cut below (λ k d from within. absurd (omega arith))
