use Rattle.std.proofs.Common.{lit≤}
use Rattle.std.proofs.lemmas.Result.{err_from_is_err_and}
use Rattle.first_wpl.specs.Fields.{named, word_at}
use Rattle.first_wpl.proofs.FieldSteps.{good_none, good_more, bad_param}
use Rattle.first_wpl.proofs.rows.read_params.Goals as goal

pub returns-in_err-p2-clause-bad : goal.returns-in_err-p2-clause-bad
returns-in_err-p2-clause-bad c =
    let p = err_from_is_err_and c.from_residual-in_err-p2.result c.from_residual-in_err-p2.ensures.1 in
    let words = named c.args.text.now c.args.words.now in
    rw (p.1, p.2) (6, lit≤ tt, lit≤ tt, (good_more words c.args.place 5 5 (good_none words c.args.place 5) (c.in_ok-p1.p1, c.in_ok-p1.ensures.good)), bad_param c.args.place c.args.line 6 (word_at words 6) c.in_err-p2.field-0.0 c.in_err-p2.ensures.bad)

pub returns-in_err-p3-clause-bad : goal.returns-in_err-p3-clause-bad
returns-in_err-p3-clause-bad c =
    let p = err_from_is_err_and c.from_residual-in_err-p3.result c.from_residual-in_err-p3.ensures.1 in
    let words = named c.args.text.now c.args.words.now in
    rw (p.1, p.2) (7, lit≤ tt, lit≤ tt, (good_more words c.args.place 5 6 (good_more words c.args.place 5 5 (good_none words c.args.place 5) (c.in_ok-p1.p1, c.in_ok-p1.ensures.good)) (c.in_ok-p2.p2, c.in_ok-p2.ensures.good)), bad_param c.args.place c.args.line 7 (word_at words 7) c.in_err-p3.field-0.0 c.in_err-p3.ensures.bad)

pub returns-in_err-p4-clause-bad : goal.returns-in_err-p4-clause-bad
returns-in_err-p4-clause-bad c =
    let p = err_from_is_err_and c.from_residual-in_err-p4.result c.from_residual-in_err-p4.ensures.1 in
    let words = named c.args.text.now c.args.words.now in
    rw (p.1, p.2) (8, lit≤ tt, lit≤ tt, (good_more words c.args.place 5 7 (good_more words c.args.place 5 6 (good_more words c.args.place 5 5 (good_none words c.args.place 5) (c.in_ok-p1.p1, c.in_ok-p1.ensures.good)) (c.in_ok-p2.p2, c.in_ok-p2.ensures.good)) (c.in_ok-p3.p3, c.in_ok-p3.ensures.good)), bad_param c.args.place c.args.line 8 (word_at words 8) c.in_err-p4.field-0.0 c.in_err-p4.ensures.bad)
