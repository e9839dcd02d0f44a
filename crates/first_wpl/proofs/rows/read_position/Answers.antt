use Rattle.std.proofs.Common.{lit≤, ap, Result, Ok}
use Rattle.std.proofs.lemmas.Result.{err_from_is_err_and}
use Rattle.first_wpl.specs.Fields.{named, word_at}
use Rattle.first_wpl.specs.declared.fields.TheConstants.{MAX_SMALL, PLACE_SCALE, HEIGHT_SCALE}
use Rattle.first_wpl.specs.declared.rows.Position.{Position}
use Rattle.first_wpl.specs.declared.fault.WplFault.{WplFault}
use Rattle.first_wpl.proofs.RowValues.{position_same}
use Rattle.first_wpl.proofs.Numbers.{reads_fits}
use Rattle.first_wpl.proofs.Results.{ok_same, no_value}
use Rattle.first_wpl.proofs.FieldSteps.{good_none, good_more, bad_whole, bad_number}
use Rattle.first_wpl.proofs.rows.read_position.Goals as goal

pub returns-in_err-y-clause-bad : goal.returns-in_err-y-clause-bad
returns-in_err-y-clause-bad c =
    let p = err_from_is_err_and c.from_residual-in_err-y.result c.from_residual-in_err-y.ensures.1 in
    let words = named c.args.text.now c.args.words.now in
    rw (p.1, p.2) (10, lit≤ tt, lit≤ tt, (good_more words c.args.place 9 9 (good_none words c.args.place 9) (c.in_ok-x.x, c.in_ok-x.ensures.good)), bad_number PLACE_SCALE c.args.place c.args.line 10 (word_at words 10) c.in_err-y.field-0.0 c.in_err-y.ensures.bad)

pub returns-in_err-y-clause-only : goal.returns-in_err-y-clause-only
returns-in_err-y-clause-only c x y z auto at = absurd (no_value c.in_err-y.field-0.0 y (c.in_err-y.ensures.only y at.longitude))

pub returns-in_err-z-clause-bad : goal.returns-in_err-z-clause-bad
returns-in_err-z-clause-bad c =
    let p = err_from_is_err_and c.from_residual-in_err-z.result c.from_residual-in_err-z.ensures.1 in
    let words = named c.args.text.now c.args.words.now in
    rw (p.1, p.2) (11, lit≤ tt, lit≤ tt, (good_more words c.args.place 9 10 (good_more words c.args.place 9 9 (good_none words c.args.place 9) (c.in_ok-x.x, c.in_ok-x.ensures.good)) (c.in_ok-y.y, c.in_ok-y.ensures.good)), bad_number HEIGHT_SCALE c.args.place c.args.line 11 (word_at words 11) c.in_err-z.field-0.0 c.in_err-z.ensures.bad)

pub returns-in_err-z-clause-only : goal.returns-in_err-z-clause-only
returns-in_err-z-clause-only c x y z auto at = absurd (no_value c.in_err-z.field-0.0 z (c.in_err-z.ensures.only z at.height))

pub returns-in_err-auto-clause-bad : goal.returns-in_err-auto-clause-bad
returns-in_err-auto-clause-bad c =
    let p = err_from_is_err_and c.from_residual-in_err-auto.result c.from_residual-in_err-auto.ensures.1 in
    let words = named c.args.text.now c.args.words.now in
    rw (p.1, p.2) (12, lit≤ tt, lit≤ tt, (good_more words c.args.place 9 11 (good_more words c.args.place 9 10 (good_more words c.args.place 9 9 (good_none words c.args.place 9) (c.in_ok-x.x, c.in_ok-x.ensures.good)) (c.in_ok-y.y, c.in_ok-y.ensures.good)) (c.in_ok-z.z, c.in_ok-z.ensures.good)), bad_whole MAX_SMALL c.args.place c.args.line 12 (word_at words 12) c.in_err-auto.field-0.0 c.in_err-auto.ensures.bad)

pub returns-in_err-auto-clause-only : goal.returns-in_err-auto-clause-only
returns-in_err-auto-clause-only c x y z auto at = absurd (no_value c.in_err-auto.field-0.0 auto (c.in_err-auto.ensures.only auto at.goes_on))

pub returns-clause-only : goal.returns-clause-only
returns-clause-only c x y z auto at =
    let words = named c.args.text.now c.args.words.now in
    let same_x = ok_same c.in_ok-x.x x (c.in_ok-x.ensures.only x at.latitude) in
    let same_y = ok_same c.in_ok-y.y y (c.in_ok-y.ensures.only y at.longitude) in
    let same_z = ok_same c.in_ok-z.z z (c.in_ok-z.ensures.only z at.height) in
    let same_auto = ok_same c.in_ok-auto.auto auto (c.in_ok-auto.ensures.only auto at.goes_on) in
    let told : Position → Result Position WplFault = λ at. Ok at in
    ap told (position_same x y z c.in_ok-x.x c.in_ok-y.y c.in_ok-z.z auto c.in_ok-auto.auto same_x same_y same_z same_auto (reads_fits (word_at words 9) PLACE_SCALE x at.latitude) (reads_fits (word_at words 10) PLACE_SCALE y at.longitude) (reads_fits (word_at words 11) HEIGHT_SCALE z at.height))
