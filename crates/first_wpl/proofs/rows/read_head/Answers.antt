use Rattle.std.proofs.Common.{ℕ, lit≤, subst}
use Rattle.std.proofs.lemmas.Result.{err_from_is_err_and}
use Rattle.first_wpl.specs.Fields.{named, word_at, IsWhole}
use Rattle.first_wpl.specs.declared.fields.TheConstants.{MAX_NUMBER, MAX_SMALL}
use Rattle.first_wpl.proofs.FieldSteps.{good_none, good_more, bad_whole}
use Rattle.first_wpl.proofs.rows.read_head.Goals as goal

pub returns-in_err-_current-clause-bad : goal.returns-in_err-_current-clause-bad
returns-in_err-_current-clause-bad c =
    let p = err_from_is_err_and c.from_residual-in_err-_current.result c.from_residual-in_err-_current.ensures.1 in
    let words = named c.args.text.now c.args.words.now in
    rw (p.1, p.2) (2, lit≤ tt, lit≤ tt, (good_more words c.args.place 1 1 (good_none words c.args.place 1) (let P : ℕ → Type 0 = λ n. IsWhole MAX_NUMBER (word_at words 1) n in subst P c.if-index-place.false c.in_ok-index.ensures.good)), bad_whole MAX_SMALL c.args.place c.args.line 2 (word_at words 2) c.in_err-_current.field-0.0 c.in_err-_current.ensures.bad)

pub returns-in_err-frame-clause-bad : goal.returns-in_err-frame-clause-bad
returns-in_err-frame-clause-bad c =
    let p = err_from_is_err_and c.from_residual-in_err-frame.result c.from_residual-in_err-frame.ensures.1 in
    let words = named c.args.text.now c.args.words.now in
    rw (p.1, p.2) (3, lit≤ tt, lit≤ tt, (good_more words c.args.place 1 2 (good_more words c.args.place 1 1 (good_none words c.args.place 1) (let P : ℕ → Type 0 = λ n. IsWhole MAX_NUMBER (word_at words 1) n in subst P c.if-index-place.false c.in_ok-index.ensures.good)) (c.in_ok-_current._current, c.in_ok-_current.ensures.good)), bad_whole MAX_SMALL c.args.place c.args.line 3 (word_at words 3) c.in_err-frame.field-0.0 c.in_err-frame.ensures.bad)

pub returns-in_err-command-clause-bad : goal.returns-in_err-command-clause-bad
returns-in_err-command-clause-bad c =
    let p = err_from_is_err_and c.from_residual-in_err-command.result c.from_residual-in_err-command.ensures.1 in
    let words = named c.args.text.now c.args.words.now in
    rw (p.1, p.2) (4, lit≤ tt, lit≤ tt, (good_more words c.args.place 1 3 (good_more words c.args.place 1 2 (good_more words c.args.place 1 1 (good_none words c.args.place 1) (let P : ℕ → Type 0 = λ n. IsWhole MAX_NUMBER (word_at words 1) n in subst P c.if-index-place.false c.in_ok-index.ensures.good)) (c.in_ok-_current._current, c.in_ok-_current.ensures.good)) (c.in_ok-frame.frame, c.in_ok-frame.ensures.good)), bad_whole MAX_NUMBER c.args.place c.args.line 4 (word_at words 4) c.in_err-command.field-0.0 c.in_err-command.ensures.bad)
