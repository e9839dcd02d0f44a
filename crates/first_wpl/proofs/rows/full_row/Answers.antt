use Rattle.std.proofs.Common.{lit≤, ap, ◌∙◌, Result, Ok}
use Rattle.std.proofs.lemmas.Result.{err_from_is_err_and}
use Rattle.first_wpl.specs.Fields.{named, word_at}
use Rattle.first_wpl.specs.declared.fields.TheConstants.{PLACE_SCALE, HEIGHT_SCALE}
use Rattle.std.proofs.lemmas.List.{length-map}
use Rattle.first_text.specs.Spans.{text_of}
use Rattle.first_model.specs.declared.plan.Item.{Item}
use Rattle.first_wpl.specs.declared.rows.Head.{Head}
use Rattle.first_wpl.specs.declared.rows.Params.{Params}
use Rattle.first_wpl.specs.declared.rows.Position.{Position}
use Rattle.first_wpl.specs.declared.fault.WplFault.{WplFault}
use Rattle.first_wpl.proofs.RowValues.{row_of_parts, item_same}
use Rattle.first_wpl.proofs.Numbers.{reads_fits}
use Rattle.first_wpl.proofs.Results.{ok_same, no_value}
use Rattle.first_wpl.proofs.FieldSteps.{fault_behind, good_join, head_good, params_good}
use Rattle.first_wpl.proofs.rows.full_row.Goals as goal

pub returns-in_err-params-clause-bad : goal.returns-in_err-params-clause-bad
returns-in_err-params-clause-bad c =
    let p = err_from_is_err_and c.from_residual-in_err-params.result c.from_residual-in_err-params.ensures.1 in
    let words = named c.args.text.now c.args.words.now in
    let head = c.in_ok-head.head in
    rw (p.1, p.2) (fault_behind words c.args.place c.args.line 1 5 c.in_err-params.field-0.0 (lit≤ tt) (head_good words c.args.place head.frame head.command c.in_ok-head.ensures.good) c.in_err-params.ensures.bad)

pub returns-in_err-position-clause-bad : goal.returns-in_err-position-clause-bad
returns-in_err-position-clause-bad c =
    let p = err_from_is_err_and c.from_residual-in_err-position.result c.from_residual-in_err-position.ensures.1 in
    let words = named c.args.text.now c.args.words.now in
    let head = c.in_ok-head.head in
    rw (p.1, p.2) (fault_behind words c.args.place c.args.line 1 9 c.in_err-position.field-0.0 (lit≤ tt) (good_join words c.args.place 1 5 9 (head_good words c.args.place head.frame head.command c.in_ok-head.ensures.good) (params_good words c.args.place c.in_ok-params.params.p1 c.in_ok-params.params.p2 c.in_ok-params.params.p3 c.in_ok-params.params.p4 c.in_ok-params.ensures.good)) c.in_err-position.ensures.bad)

pub returns-in_err-head-clause-only : goal.returns-in_err-head-clause-only
returns-in_err-head-clause-only c item row = absurd (no_value c.in_err-head.field-0.0 _ (c.in_err-head.ensures.only item.frame item.command row.head))

pub returns-in_err-params-clause-only : goal.returns-in_err-params-clause-only
returns-in_err-params-clause-only c item row = absurd (no_value c.in_err-params.field-0.0 _ (c.in_err-params.ensures.only item.p1 item.p2 item.p3 item.p4 row.params))

pub returns-in_err-position-clause-only : goal.returns-in_err-position-clause-only
returns-in_err-position-clause-only c item row = absurd (no_value c.in_err-position.field-0.0 _ (c.in_err-position.ensures.only item.x item.y item.z item.auto row.position))

pub returns-clause-good : goal.returns-clause-good
returns-clause-good c =
    let head = c.in_ok-head.head in
    let params = c.in_ok-params.params in
    let at = c.in_ok-position.position in
    row_of_parts (named c.args.text.now c.args.words.now) c.args.place head.frame head.command params.p1 params.p2 params.p3 params.p4 at.x at.y at.z at.auto
    (length-map c.args.words.now (text_of c.args.text.now) ∙ c.requires.count) c.in_ok-head.ensures.good c.in_ok-params.ensures.good c.in_ok-position.ensures.good

pub returns-clause-only : goal.returns-clause-only
returns-clause-only c item row =
    let words = named c.args.text.now c.args.words.now in
    let head = c.in_ok-head.head in
    let params = c.in_ok-params.params in
    let at = c.in_ok-position.position in
    let same_head = ok_same head (record { frame = item.frame; command = item.command }) (c.in_ok-head.ensures.only item.frame item.command row.head) in
    let same_params = ok_same params (record { p1 = item.p1; p2 = item.p2; p3 = item.p3; p4 = item.p4 }) (c.in_ok-params.ensures.only item.p1 item.p2 item.p3 item.p4 row.params) in
    let same_at = ok_same at (record { x = item.x; y = item.y; z = item.z; auto = item.auto }) (c.in_ok-position.ensures.only item.x item.y item.z item.auto row.position) in
    let told : Item → Result Item WplFault = λ found. Ok found in
    ap told (item_same item head.frame head.command params.p1 params.p2 params.p3 params.p4 at.x at.y at.z at.auto
    (ap (λ (h : Head). h.frame) same_head) (ap (λ (h : Head). h.command) same_head)
    (ap (λ (ps : Params). ps.p1) same_params) (ap (λ (ps : Params). ps.p2) same_params) (ap (λ (ps : Params). ps.p3) same_params) (ap (λ (ps : Params). ps.p4) same_params)
    (ap (λ (p : Position). p.x) same_at) (ap (λ (p : Position). p.y) same_at) (ap (λ (p : Position). p.z) same_at) (ap (λ (p : Position). p.auto) same_at)
    (reads_fits (word_at words 9) PLACE_SCALE item.x row.position.latitude) (reads_fits (word_at words 10) PLACE_SCALE item.y row.position.longitude) (reads_fits (word_at words 11) HEIGHT_SCALE item.z row.position.height))
