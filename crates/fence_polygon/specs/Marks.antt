-- How the bands of a fence are made: empty bands from latitudes in rising order, and then edge by edge into the bands.
use Rattle.std.specs.Prelude.{ℕ, ◌+◌, ◌≤◌, ◌<◌, ◌^◌, ℤ, pos, ◌+ℤ◌, ◌-ℤ◌, ◌≤ℤ◌, ◌&&◌, List, [], ◌∷◌, length, map, bit_or, int_lt, int_le, slice_index_or, if◌then◌else◌}
use Rattle.std.specs.Int.{int_min, int_max}
use Rattle.std.specs.List.{All}
use Rattle.mission_model.specs.declared.plan.Item.{Item}
use Rattle.fence_polygon.specs.declared.band.Band.{Band}
use Rattle.fence_polygon.specs.Bands.{RangesRise, range_of}

-- the latitudes do not fall
abbrev pub Rises : List ℤ → Type 0
Rises xs = (i j : ℕ) (d : ℤ) → i ≤ j → j < length xs → slice_index_or xs i d ≤ℤ slice_index_or xs j d

-- the band of this range, with no edge
abbrev pub empty_band : ℤ → ℤ → Band
empty_band from to = record { from = from; to = to; edges = 0 }

-- the bands that a latitude adds behind the one before it: none where it is the same
abbrev pub bands_behind : ℤ → ℤ → List Band
bands_behind last x = if int_lt last x then (if int_lt (last +ℤ pos 1) x then empty_band (last +ℤ pos 1) (x -ℤ pos 1) ∷ empty_band x x ∷ [] else empty_band x x ∷ []) else []

-- the bands, in rising order and none empty
pub record InOrder (bands : List Band) : Type 0 where
  pub filled : All (λ band. band.from ≤ℤ band.to) bands
  pub rise : RangesRise (map range_of bands)

-- the band with this bit, where it begins within these latitudes
unfoldable pub with_bit : ℤ → ℤ → ℕ → Band → Band
with_bit low high bit band = if int_le low band.from && int_le band.from high then record band { edges = bit_or band.edges bit } else band

-- the bands with these edges, of which the first is of this number
abbrev pub with_edges : ℕ → List (Item × Item) → List Band → List Band
with_edges number [] bands = bands
with_edges number ((a, b) ∷ edges) bands = with_edges (number + 1) edges (map (with_bit (int_min a.x b.x) (int_max a.x b.x) (2 ^ number)) bands)
