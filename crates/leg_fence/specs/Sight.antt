-- What is told of a leg over a fence.
use Rattle.std.specs.Prelude.{◌≡◌, ℕ, ◌<◌, ℤ, List, Option, Some, None, slice_get}
use Rattle.mission_model.specs.declared.plan.Item.{Item}
use Rattle.mission_model.specs.Fence.{Allowed}
use Rattle.fence_polygon.specs.Bands.{fence_edges}
use Rattle.leg_fence.specs.Meets.{Meets}
use Rattle.leg_fence.specs.declared.leg.LegSight.{LegSight}
use Rattle.leg_fence.specs.declared.leg.LegSight.TheVariants.{Clear, OutsideFrom, OutsideTo, Edge}

-- the leg from p to q meets the edge of this number, where these edges have one
abbrev pub MeetsEdge : List (Item × Item) → ℤ × ℤ → ℤ × ℤ → ℕ → Type 0
MeetsEdge edges p q i = (a : Item) × (b : Item) × (slice_get edges i ≡ Some (a, b)) × Meets p q (a.x, a.y) (b.x, b.y)

-- this is the least number of an edge that the leg meets
abbrev pub MeetsFirst : List (Item × Item) → ℤ × ℤ → ℤ × ℤ → ℕ → Type 0
MeetsFirst edges p q i = MeetsEdge edges p q i × ((k : ℕ) → k < i → ¬ (MeetsEdge edges p q k))

-- the least number of an edge that the leg meets, or that it meets none
abbrev pub IsFirstMet : List (Item × Item) → ℤ × ℤ → ℤ × ℤ → Option ℕ → Type 0
IsFirstMet edges p q (Some i) = MeetsFirst edges p q i
IsFirstMet edges p q None = (i : ℕ) → ¬ (MeetsEdge edges p q i)

-- the fence allows both ends
abbrev pub BothAllowed : List Item → ℤ × ℤ → ℤ × ℤ → Type 0
BothAllowed fence p q = Allowed fence p.0 p.1 × Allowed fence q.0 q.1

-- what is told of the leg from p to q: an end that is not allowed, the first one first; else the first edge that it meets
abbrev pub IsSight : List Item → ℤ × ℤ → ℤ × ℤ → LegSight → Type 0
IsSight fence p q OutsideFrom = ¬ (Allowed fence p.0 p.1)
IsSight fence p q OutsideTo = Allowed fence p.0 p.1 × (¬ (Allowed fence q.0 q.1))
IsSight fence p q (Edge i) = BothAllowed fence p q × IsFirstMet (fence_edges fence) p q (Some i)
IsSight fence p q Clear = BothAllowed fence p q × IsFirstMet (fence_edges fence) p q None
