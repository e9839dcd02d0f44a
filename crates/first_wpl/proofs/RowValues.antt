-- What a row's parts make together.
use Rattle.std.proofs.Common.{◌≡◌, ℕ, ℤ, List, Bool, length, refl}
use mir.Val.{to_z, of_z}
use mir.Val.{SFits}
use mir.Syntax.{w32}
use Rattle.std.proofs.lemmas.Int.{to_z-of_z}
use Rattle.first_model.specs.declared.plan.Param.{Param}
use Rattle.first_model.specs.declared.plan.Item.{Item}
use Rattle.first_wpl.specs.declared.fields.TheConstants.{FIELDS, PLACE_SCALE, HEIGHT_SCALE}
use Rattle.first_wpl.specs.Fields.{word_at}
use Rattle.first_wpl.proofs.Numbers.{reads_fits}
use Rattle.first_wpl.specs.declared.rows.Position.{Position}
use Rattle.first_wpl.specs.Rows.{HeadIs, ParamsAre, PositionIs, RowIs}

-- a row of its three parts
pub row_of_parts : (words : List (List ℕ)) (place frame command : ℕ) (p1 p2 p3 p4 : Param) (x y z : ℤ) (auto : Bool)
    → length words ≡ FIELDS → HeadIs words place frame command → ParamsAre words p1 p2 p3 p4 → PositionIs words x y z auto
    → RowIs words place (record { frame = frame; command = command; p1 = p1; p2 = p2; p3 = p3; p4 = p4; x = to_z w32 (of_z w32 x); y = to_z w32 (of_z w32 y); z = to_z w32 (of_z w32 z); auto = auto })
row_of_parts words place frame command p1 p2 p3 p4 x y z auto count head params position =
    let same_x : to_z w32 (of_z w32 x) ≡ x = to_z-of_z w32 x (reads_fits (word_at words 9) PLACE_SCALE x position.latitude) in
    let same_y : to_z w32 (of_z w32 y) ≡ y = to_z-of_z w32 y (reads_fits (word_at words 10) PLACE_SCALE y position.longitude) in
    let same_z : to_z w32 (of_z w32 z) ≡ z = to_z-of_z w32 z (reads_fits (word_at words 11) HEIGHT_SCALE z position.height) in
    record {
      count = count;
      head = head;
      params = params;
      position = rw (same_x, same_y, same_z) position;
    }

pub position_same : (x y z a b c : ℤ) (auto flag : Bool) → a ≡ x → b ≡ y → c ≡ z → flag ≡ auto → SFits w32 x → SFits w32 y → SFits w32 z
    → ◌≡◌ {A = Position} (record { x = to_z w32 (of_z w32 a); y = to_z w32 (of_z w32 b); z = to_z w32 (of_z w32 c); auto = flag }) (record { x = x; y = y; z = z; auto = auto })
position_same x y z a b c auto flag e f g h fx fy fz =
    let same_x : to_z w32 (of_z w32 x) ≡ x = to_z-of_z w32 x fx in
    let same_y : to_z w32 (of_z w32 y) ≡ y = to_z-of_z w32 y fy in
    let same_z : to_z w32 (of_z w32 z) ≡ z = to_z-of_z w32 z fz in
    rw (e, f, g, h, same_x, same_y, same_z) refl

pub item_same : (item : Item) (frame command : ℕ) (p1 p2 p3 p4 : Param) (x y z : ℤ) (auto : Bool)
    → frame ≡ item.frame → command ≡ item.command → p1 ≡ item.p1 → p2 ≡ item.p2 → p3 ≡ item.p3 → p4 ≡ item.p4 → x ≡ item.x → y ≡ item.y → z ≡ item.z → auto ≡ item.auto
    → SFits w32 item.x → SFits w32 item.y → SFits w32 item.z
    → ◌≡◌ {A = Item} (record { frame = frame; command = command; p1 = p1; p2 = p2; p3 = p3; p4 = p4; x = to_z w32 (of_z w32 x); y = to_z w32 (of_z w32 y); z = to_z w32 (of_z w32 z); auto = auto }) item
item_same item frame command p1 p2 p3 p4 x y z auto e1 e2 e3 e4 e5 e6 e7 e8 e9 e10 fx fy fz =
    let same_x : to_z w32 (of_z w32 item.x) ≡ item.x = to_z-of_z w32 item.x fx in
    let same_y : to_z w32 (of_z w32 item.y) ≡ item.y = to_z-of_z w32 item.y fy in
    let same_z : to_z w32 (of_z w32 item.z) ≡ item.z = to_z-of_z w32 item.z fz in
    rw (e1, e2, e3, e4, e5, e6, e7, e8, e9, e10, same_x, same_y, same_z) refl
