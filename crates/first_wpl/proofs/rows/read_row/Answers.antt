use Rattle.std.proofs.Common.{List, ℕ, sym, subst, ap, ◌∙◌}
use Rattle.first_wpl.specs.Fields.{named}
use Rattle.first_wpl.specs.Rows.{RowIs}
use Rattle.first_wpl.proofs.Results.{gives_same}
use Rattle.first_wpl.proofs.rows.read_row.Goals as goal

pub returns-clause-only : goal.returns-clause-only
returns-clause-only c below item row =
    let words = ap (named c.args.text.now) c.deref.ensures.value ∙ c.in_ok-words.ensures.words in
    let P : List (List ℕ) → Type 0 = λ ws. RowIs ws c.args.place item in
    gives_same c.full_row.result item (c.full_row.ensures.only item (subst P (sym words) row))
