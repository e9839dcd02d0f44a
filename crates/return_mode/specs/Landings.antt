-- A landing is an item of the mission.
use Rattle.std.specs.Prelude.{◌≡◌, ℕ, ◌+◌, ◌<◌, Bool, true, false, List, [], ◌∷◌, Option, Some, None, length, refl}
use Rattle.std.proofs.Common.{ap, arith, cond}
use Rattle.std.specs.List.{position_from}
use Rattle.std.specs.Option.{option_map}
use Rattle.mission_model.specs.declared.plan.Item.{Item}
use Rattle.mission_model.specs.Landing.{is_landing, is_land_start, landing_from, landing_of}

some_same : {A : Type 0} {a b : A} → Some a ≡ Some b → a ≡ b
some_same h = cc

position_from-below : (test : Item → Bool) (place : ℕ) (items : List Item) (found : ℕ) → position_from test place items ≡ Some found → found < place + length items
position_from-below test place [] found h = absurd cc
position_from-below test place (item ∷ items) found h = by (test item) h (position_from-below test (place + 1) items found)
  where
    by : (b : Bool) → cond b (Some place) (position_from test (place + 1) items) ≡ Some found → (position_from test (place + 1) items ≡ Some found → found < place + 1 + length items) → found < place + length (item ∷ items)
    by true here _ = let is : place ≡ found = some_same here in omega (arith, is)
    by false later rest = omega (arith, rest later)

landing_from-below : (place : ℕ) (items : List Item) (found : ℕ × ℕ) → landing_from place items ≡ Some found → found.1 < place + length items
landing_from-below place [] found h = absurd cc
landing_from-below place (item ∷ items) found h = by (is_land_start item) h (landing_from-below (place + 1) items found)
  where
    start : (landing : Option ℕ) → position_from is_landing (place + 1) items ≡ landing → option_map {U = ℕ × ℕ} (λ l. (place, l)) landing ≡ Some found → found.1 < place + length (item ∷ items)
    start None is here = absurd cc
    start (Some landing) is here =
        let same : (place, landing) ≡ found = some_same here in
        let landing_is : landing ≡ found.1 = ap (λ (f : ℕ × ℕ). f.1) same in
        omega (arith, position_from-below is_landing (place + 1) items landing is, landing_is)

    by : (b : Bool) → cond b (option_map {U = ℕ × ℕ} (λ l. (place, l)) (position_from is_landing (place + 1) items)) (landing_from (place + 1) items) ≡ Some found → (landing_from (place + 1) items ≡ Some found → found.1 < place + 1 + length items) → found.1 < place + length (item ∷ items)
    by true here _ = start (position_from is_landing (place + 1) items) refl here
    by false later rest = omega (arith, rest later)

pub landing_of-below : (items : List Item) (found : ℕ × ℕ) → landing_of items ≡ Some found → found.1 < length items
landing_of-below items found h = omega (arith, landing_from-below 0 items found h)
