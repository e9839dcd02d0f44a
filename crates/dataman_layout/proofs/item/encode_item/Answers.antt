use Rattle.std.proofs.Common.{◌≡◌, ◌++◌, ℕ, List, take, drop, replicate, refl, sym, ap, ◌∙◌, arith, rules, SFits, w32}
use Rattle.std.proofs.lemmas.Int.{to_z-of_z}
use Rattle.std.proofs.lemmas.List.{take-append-drop}
use Rattle.dataman_layout.specs.Fields.{number_bytes, signed_bytes}
use Rattle.dataman_layout.specs.declared.item.Record.{Record}
use Rattle.dataman_layout.specs.ItemLaws.{FitsItem, item_in-item_bytes}
use Rattle.dataman_layout.specs.Item.{item_in, item_bytes, flags_of, kind_number, milli_of}
use Rattle.dataman_layout.proofs.item.encode_item.Goals as goal

-- the fields are put one behind the other
joined : (b1 b2 b3 b4 b5 b6 b7 head f g p1 p2 p3 p4 x y z tail : List ℕ)
    → take 8 b1 ≡ head → take 10 b2 ≡ take 8 b1 ++ f → take 12 b3 ≡ take 10 b2 ++ g
    → take 28 b4 ≡ take 12 b3 ++ p1 ++ p2 ++ p3 ++ p4
    → take 32 b5 ≡ take 28 b4 ++ x → take 36 b6 ≡ take 32 b5 ++ y → take 40 b7 ≡ take 36 b6 ++ z
    → drop 40 b7 ≡ tail
    → b7 ≡ head ++ f ++ g ++ p1 ++ p2 ++ p3 ++ p4 ++ x ++ y ++ z ++ tail
joined b1 b2 b3 b4 b5 b6 b7 head f g p1 p2 p3 p4 x y z tail e1 e2 e3 e4 e5 e6 e7 last =
    sym (take-append-drop 40 b7) ∙ rw (e7, e6, e5, e4, e3, e2, e1, last) refl

pub returns-clause-bytes : goal.returns-clause-bytes
unfolding item_bytes
returns-clause-bytes c =
    let last : drop 40 c.put_i32-3.new.bytes ≡ replicate 8 0 =
    c.put_i32-3.ensures.rest 40 (omega arith) ∙ c.put_i32-2.ensures.rest 40 (omega arith) ∙ c.put_i32.ensures.rest 40 (omega arith) ∙ c.put_params.ensures.rest 40 (omega arith)
    ∙ c.put_u16-2.ensures.rest 40 (omega arith) ∙ c.put_u16.ensures.rest 40 (omega arith) ∙ c.put_head.ensures.rest 40 (omega arith) in
    let item = c.args.item.now in
    let fits_x : SFits w32 item.x = search rules in
    let fits_y : SFits w32 item.y = search rules in
    let fits_z : SFits w32 item.z = search rules in
    joined c.put_head.new.bytes c.put_u16.new.bytes c.put_u16-2.new.bytes c.put_params.new.bytes c.put_i32.new.bytes c.put_i32-2.new.bytes c.put_i32-3.new.bytes
    (number_bytes 4 c.args.id ++ number_bytes 2 c.args.seq ++ number_bytes 1 (kind_number c.args.kind) ++ number_bytes 1 (flags_of item))
    (number_bytes 2 item.frame) (number_bytes 2 item.command) (signed_bytes (milli_of item.p1)) (signed_bytes (milli_of item.p2)) (signed_bytes (milli_of item.p3)) (signed_bytes (milli_of item.p4))
    (signed_bytes item.x) (signed_bytes item.y) (signed_bytes item.z) (replicate 8 0)
    (rw (← c.flags_of.ensures) c.put_head.ensures.front) c.put_u16.ensures.front c.put_u16-2.ensures.front c.put_params.ensures.front
    (c.put_i32.ensures.front ∙ ap (λ v. take 28 c.put_params.new.bytes ++ signed_bytes v) (to_z-of_z w32 item.x fits_x))
    (c.put_i32-2.ensures.front ∙ ap (λ v. take 32 c.put_i32.new.bytes ++ signed_bytes v) (to_z-of_z w32 item.y fits_y))
    (c.put_i32-3.ensures.front ∙ ap (λ v. take 36 c.put_i32-2.new.bytes ++ signed_bytes v) (to_z-of_z w32 item.z fits_z)) last

pub returns-clause-read : goal.returns-clause-read
returns-clause-read c =
    let item = c.args.item.now in
    let r : Record = record { kind = c.args.kind; id = c.args.id; seq = c.args.seq; item = item } in
    let fits_x : SFits w32 item.x = search rules in
    let fits_y : SFits w32 item.y = search rules in
    let fits_z : SFits w32 item.z = search rules in
    let fits : FitsItem r = record {
      id = omega arith;
      seq = omega arith;
      frame = c.put_u16.ensures.fits;
      command = c.put_u16-2.ensures.fits;
      p1 = c.put_params.ensures.fits1;
      p2 = c.put_params.ensures.fits2;
      p3 = c.put_params.ensures.fits3;
      p4 = c.put_params.ensures.fits4;
      x = fits_x;
      y = fits_y;
      z = fits_z;
    } in
    ap item_in (returns-clause-bytes c) ∙ item_in-item_bytes r fits
