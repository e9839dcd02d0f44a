use Rattle.std.proofs.Common.{◌≡◌, ◌+◌, List, ℕ, ◌<◌, length, IfOk, IfErr, sym, subst, ◌∙◌, arith}
use Rattle.nav_text.specs.Spans.{text_of}
use Rattle.nav_text.specs.Words.{words_in}
use Rattle.mission_model.specs.declared.limits.TheConstants.{MAX_PLAN_ROWS}
use Rattle.wpl_items.specs.declared.fields.TheConstants.{FIELDS}
use Rattle.wpl_items.specs.Fields.{named}
use Rattle.wpl_items.specs.Rows.{RowIs}
use Rattle.wpl_items.specs.Faults.{IsRowFault, FaultFrom}
use Rattle.wpl_items.proofs.Results.{gives_same}
use Rattle.wpl_items.proofs.RowSteps.{told_row}
use Rattle.wpl_items.proofs.TwelveWords.{named_words}
use Rattle.wpl_items.proofs.rows.read_row.Goals as goal

pub returns-clause-good : goal.returns-clause-good
returns-clause-good c =
    let text = c.args.text.now in
    let many : length (words_in (text_of text c.args.line)) ≡ FIELDS = sym c.first_words.ensures.count ∙ c.if-first_words-ne-FIELDS.false in
    let words = named_words text c.args.line _ c.first_words.new.places c.first_words.ensures.places many in
    let P : List (List ℕ) → Type 0 = λ ws. IfOk c.full_row.result (λ item. RowIs ws c.args.place item) in
    subst P words c.full_row.ensures.good

pub returns-clause-only : goal.returns-clause-only
returns-clause-only c below item row =
    let text = c.args.text.now in
    let many : length (words_in (text_of text c.args.line)) ≡ FIELDS = sym c.first_words.ensures.count ∙ c.if-first_words-ne-FIELDS.false in
    let words = named_words text c.args.line _ c.first_words.new.places c.first_words.ensures.places many in
    let P : List (List ℕ) → Type 0 = λ ws. RowIs ws c.args.place item in
    gives_same c.full_row.result item (c.full_row.ensures.only item (subst P (sym words) row))

pub returns-clause-bad : goal.returns-clause-bad
returns-clause-bad c =
    let text = c.args.text.now in
    let many : length (words_in (text_of text c.args.line)) ≡ FIELDS = sym c.first_words.ensures.count ∙ c.if-first_words-ne-FIELDS.false in
    let words = named_words text c.args.line _ c.first_words.new.places c.first_words.ensures.places many in
    let P : List (List ℕ) → Type 0 = λ ws. IfErr c.full_row.result (FaultFrom ws c.args.place (c.args.place + 2) 1) in
    told_row (words_in (text_of text c.args.line)) c.args.place c.full_row.result (omega (arith, c.if-place-from.false, c.from.ensures)) many (subst P words c.full_row.ensures.bad)
