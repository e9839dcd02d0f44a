-- Where a fence lets the vehicle be: its polygons, their edges, and which places lie inside. A place is a latitude x and
-- a longitude y, a polygon is the list of its vertices, and an edge is a pair of vertices. Nothing wraps at 180 degrees.
use Rattle.std.specs.Prelude.{ℕ, ◌%◌, ℤ, pos, ◌-ℤ◌, ◌*ℤ◌, Bool, false, not, ◌&&◌, ◌||◌, List, [], ◌∷◌, ◌++◌, length, take, drop, filter, count_by, ◌==◌, int_le, int_lt, IsTrue}
use Rattle.std.specs.Int.{int_min, int_max}
use Rattle.std.specs.List.{list_any, zip}
use Rattle.std.specs.Ordering.{int_eq}
use Rattle.first_model.specs.declared.plan.Item.{Item}
use Rattle.first_model.specs.declared.command.TheConstants.{NAV_FENCE_POLYGON_VERTEX_INCLUSION, NAV_FENCE_POLYGON_VERTEX_EXCLUSION}
use Rattle.first_model.specs.PlanCode.{polygons_of}

-- the edges of a polygon: each vertex with the next one, and the last vertex with the first
abbrev pub edges_of : List Item → List (Item × Item)
edges_of polygon = zip polygon (drop 1 polygon ++ take 1 polygon)

-- the cross product of b - a and the place - a: 0 on the line through both, and negative where the place has a lesser
-- longitude than the line at its latitude, if b has a greater latitude than a
unfoldable pub cross_product : Item → Item → ℤ → ℤ → ℤ
cross_product a b x y = (b.x -ℤ a.x) *ℤ (y -ℤ a.y) -ℤ (b.y -ℤ a.y) *ℤ (x -ℤ a.x)

-- n is in the range that these two span, in either order and ends included
unfoldable pub is_in_range : ℤ → ℤ → ℤ → Bool
is_in_range a b n = int_le (int_min a b) n && int_le n (int_max a b)

-- the place is on the line through the edge's ends, and within the edge's ranges of latitude and of longitude
unfoldable pub is_on_edge : ℤ → ℤ → Item × Item → Bool
is_on_edge x y (a, b) = int_eq (cross_product a b x y) (pos 0) && is_in_range a.x b.x x && is_in_range a.y b.y y

-- the edge from its lower end a to its upper end b holds the place's latitude, its upper end excluded, and has there a
-- greater longitude than the place
unfoldable pub crosses_upward : ℤ → ℤ → Item → Item → Bool
crosses_upward x y a b = int_le a.x x && int_lt x b.x && int_lt (cross_product a b x y) (pos 0)

-- the edge crosses the ray from the place towards greater longitudes, whichever of its ends is the lower one
unfoldable pub crosses : ℤ → ℤ → Item × Item → Bool
crosses x y (a, b) = crosses_upward x y a b || crosses_upward x y b a

-- the number is odd
abbrev pub is_odd : ℕ → Bool
is_odd n = n % 2 == 1

-- the place is on an edge of the polygon, or an odd number of its edges crosses
unfoldable pub is_inside : List Item → ℤ → ℤ → Bool
is_inside polygon x y = list_any (is_on_edge x y) (edges_of polygon) || is_odd (count_by (crosses x y) (edges_of polygon))

-- the place is inside the polygon
abbrev pub Inside : List Item → ℤ → ℤ → Type 0
Inside polygon x y = IsTrue (is_inside polygon x y)

-- the polygon's vertices have this command, as its first one has it
abbrev pub is_polygon_of : ℕ → List Item → Bool
is_polygon_of command [] = false
is_polygon_of command (first ∷ rest) = first.command == command

-- the polygons of a fence of which the vehicle is to be inside one
abbrev pub inclusions : List Item → List (List Item)
inclusions fence = filter (is_polygon_of NAV_FENCE_POLYGON_VERTEX_INCLUSION) (polygons_of fence)

-- the polygons of a fence of which the vehicle is to be inside none
abbrev pub exclusions : List Item → List (List Item)
exclusions fence = filter (is_polygon_of NAV_FENCE_POLYGON_VERTEX_EXCLUSION) (polygons_of fence)

-- the place is inside one of the polygons
abbrev pub is_inside_some : List (List Item) → ℤ → ℤ → Bool
is_inside_some polygons x y = list_any (λ polygon. is_inside polygon x y) polygons

-- the place is inside some inclusion polygon or the fence has none, and it is inside no exclusion polygon
unfoldable pub is_allowed : List Item → ℤ → ℤ → Bool
is_allowed fence x y = (length (inclusions fence) == 0 || is_inside_some (inclusions fence) x y) && not (is_inside_some (exclusions fence) x y)

-- the fence allows the place
abbrev pub Allowed : List Item → ℤ → ℤ → Type 0
Allowed fence x y = IsTrue (is_allowed fence x y)
