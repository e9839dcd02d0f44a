use Rattle.std.proofs.Common.{◌≡◌, ◌≤◌, List, take, vec_len}
use Rattle.first_model.specs.declared.plan.Item.{Item}
use Rattle.first_model.specs.declared.limits.TheConstants.{MAX_PLAN_ROWS}
use Rattle.first_wpl.specs.Fields.{named}
use Rattle.first_wpl.specs.Rows.{RowsAre}
use Rattle.first_wpl.proofs.reading.read_rows.Given as goal

-- the rows so far are the items so far, and no others
abbrev pub invariant-loop-row : goal.invariant-loop-row
invariant-loop-row l = record {
  limit : l.row-index ≤ MAX_PLAN_ROWS;
  count : vec_len l.items ≡ l.row-index;
  good : RowsAre 0 (named l.text (take l.row-index l.rows)) l.items.items;
  only : (others : List Item) → RowsAre 0 (named l.text (take l.row-index l.rows)) others → others ≡ l.items.items;
}
