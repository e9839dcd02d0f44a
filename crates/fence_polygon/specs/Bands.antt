-- The edges of a fence by latitude: which of them hold a latitude, and how the latitudes of a fence are cut into bands that
-- the same edges hold. Latitudes are in 1e-7 degree, and a range of them is its first and its last one.
use Rattle.std.specs.Prelude.{◌≡◌, ℕ, ◌≤◌, ◌<◌, ◌⊎◌, ℤ, pos, ◌+ℤ◌, ◌-ℤ◌, ◌≤ℤ◌, ◌<ℤ◌, Bool, List, length, map, slice_index_or}
use Rattle.std.specs.List.{All, Contains, flat_map, list_any}
use Rattle.std.specs.Simd.Lanes.{mask_l}
use Rattle.mission_model.specs.declared.plan.Item.{Item}
use Rattle.mission_model.specs.PlanCode.{polygons_of}
use Rattle.mission_model.specs.declared.command.TheConstants.{NAV_FENCE_POLYGON_VERTEX_INCLUSION}
use Rattle.mission_model.specs.Fence.{edges_of, is_in_range, is_polygon_of}
use Rattle.fence_polygon.specs.declared.band.TheConstants.{MAX_BANDS}
use Rattle.fence_polygon.specs.declared.band.Band.{Band}

-- the edges of a fence, polygon by polygon: edge i begins at vertex i
abbrev pub fence_edges : List Item → List (Item × Item)
fence_edges fence = flat_map edges_of (polygons_of fence)

-- the edge's range of latitudes holds this one, its ends included
unfoldable pub spans : ℤ → Item × Item → Bool
spans x (a, b) = is_in_range a.x b.x x

-- which of these edges hold the latitude, as a number whose bit i is 1 where edge i does
abbrev pub edge_set : ℤ → List (Item × Item) → ℕ
edge_set x edges = mask_l (map (spans x) edges)

-- which edges of the fence hold the latitude
unfoldable pub edges_at : List Item → ℤ → ℕ
edges_at fence x = edge_set x (fence_edges fence)

-- the fence has a polygon of which the vehicle is to be inside one
unfoldable pub some_inclusion : List Item → Bool
some_inclusion fence = list_any (is_polygon_of NAV_FENCE_POLYGON_VERTEX_INCLUSION) (polygons_of fence)

-- the latitudes of the fence's vertices
abbrev pub latitudes : List Item → List ℤ
latitudes fence = map (λ vertex. vertex.x) fence

-- the latitude is in the range, to which its ends belong
abbrev pub InRange : ℤ → ℤ × ℤ → Type 0
InRange x range = (range.0 ≤ℤ x) × (x ≤ℤ range.1)

-- the range is one of the latitudes alone
abbrev pub IsOneOf : List ℤ → ℤ × ℤ → Type 0
IsOneOf xs range = Contains xs range.0 × (range.1 ≡ range.0)

-- the range is all that lies between two of the latitudes, and none of them lies in it
pub record IsBetween (xs : List ℤ) (range : ℤ × ℤ) : Type 0 where
  pub after : Contains xs (range.0 -ℤ pos 1)
  pub before : Contains xs (range.1 +ℤ pos 1)
  pub free : (x : ℤ) → InRange x range → ¬ (Contains xs x)

-- each range ends below each later one
abbrev pub RangesRise : List (ℤ × ℤ) → Type 0
RangesRise ranges = (i j : ℕ) (d : ℤ × ℤ) → i < j → j < length ranges → (slice_index_or ranges i d).1 <ℤ (slice_index_or ranges j d).0

-- these ranges, none empty and in rising order, are the latitudes, each alone, and all between each two neighbouring ones
pub record CutAt (xs : List ℤ) (ranges : List (ℤ × ℤ)) : Type 0 where
  pub filled : All (λ range. range.0 ≤ℤ range.1) ranges
  pub rise : RangesRise ranges
  pub kinds : All (λ range. IsOneOf xs range ⊎ IsBetween xs range) ranges
  pub whole : (low high x : ℤ) → Contains xs low → Contains xs high → low ≤ℤ x → x ≤ℤ high → (range : ℤ × ℤ) × Contains ranges range × InRange x range

-- the range of a band
abbrev pub range_of : Band → ℤ × ℤ
range_of band = (band.from, band.to)

-- the bands of a fence: its latitudes cut at those of its vertices, each band with the edges that hold each latitude of it
pub record CutInBands (fence : List Item) (bands : List Band) : Type 0 where
  pub few : length bands ≤ MAX_BANDS
  pub cut : CutAt (latitudes fence) (map range_of bands)
  pub edges : All (λ band. (x : ℤ) → InRange x (range_of band) → band.edges ≡ edges_at fence x) bands
