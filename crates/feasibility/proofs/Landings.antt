-- A landing stands behind its land start, and both are items of the mission.
use Rattle.std.proofs.Common.{◌≡◌, ℕ, ◌+◌, ◌<◌, ◌≤◌, Bool, true, false, cond, List, [], ◌∷◌, Option, Some, None, length, refl, ap, arith}
use Rattle.std.specs.List.{position_from}
use Rattle.std.specs.Option.{option_map}
use Rattle.mission_model.specs.declared.plan.Item.{Item}
use Rattle.mission_model.specs.Landing.{is_landing, is_land_start, landing_from, landing_of}

some_same : {A : Type 0} {a b : A} → Some a ≡ Some b → a ≡ b
some_same h = cc

-- the first item that passes a test stands among the items, which begin at this place
position_from-within : (test : Item → Bool) (place : ℕ) (items : List Item) (found : ℕ) → position_from test place items ≡ Some found → (place ≤ found) × (found < place + length items)
position_from-within test place [] found h = absurd cc
position_from-within test place (item ∷ items) found h = by (test item) h (position_from-within test (place + 1) items found)
  where
    by : (b : Bool) → cond b (Some place) (position_from test (place + 1) items) ≡ Some found → (position_from test (place + 1) items ≡ Some found → (place + 1 ≤ found) × (found < place + 1 + length items)) → (place ≤ found) × (found < place + length (item ∷ items))
    by true here _ = let is : place ≡ found = some_same here in (omega (arith, is), omega (arith, is))
    by false later rest = let r = rest later in (omega (arith, r.0), omega (arith, r.1))

landing_from-within : (place : ℕ) (items : List Item) (found : ℕ × ℕ) → landing_from place items ≡ Some found → (found.0 < found.1) × (found.1 < place + length items)
landing_from-within place [] found h = absurd cc
landing_from-within place (item ∷ items) found h = by (is_land_start item) h (landing_from-within (place + 1) items found)
  where
    start : (landing : Option ℕ) → position_from is_landing (place + 1) items ≡ landing → option_map {U = ℕ × ℕ} (λ l. (place, l)) landing ≡ Some found → (found.0 < found.1) × (found.1 < place + length (item ∷ items))
    start None is here = absurd cc
    start (Some landing) is here =
        let same : (place, landing) ≡ found = some_same here in
        let start_is : place ≡ found.0 = ap (λ (f : ℕ × ℕ). f.0) same in
        let landing_is : landing ≡ found.1 = ap (λ (f : ℕ × ℕ). f.1) same in
        let r = position_from-within is_landing (place + 1) items landing is in
        (omega (arith, r.0, start_is, landing_is), omega (arith, r.1, landing_is))

    by : (b : Bool) → cond b (option_map {U = ℕ × ℕ} (λ l. (place, l)) (position_from is_landing (place + 1) items)) (landing_from (place + 1) items) ≡ Some found → (landing_from (place + 1) items ≡ Some found → (found.0 < found.1) × (found.1 < place + 1 + length items)) → (found.0 < found.1) × (found.1 < place + length (item ∷ items))
    by true here _ = start (position_from is_landing (place + 1) items) refl here
    by false later rest = let r = rest later in (r.0, omega (arith, r.1))

pub landing_of-within : (items : List Item) (found : ℕ × ℕ) → landing_of items ≡ Some found → (found.0 < found.1) × (found.1 < length items)
landing_of-within items found h = let r = landing_from-within 0 items found h in (r.0, omega (arith, r.1))
