use Rattle.std.proofs.Common.{◌≡◌, ◌≤◌, List, take, vec_len}
use Rattle.mission_model.specs.declared.plan.Item.{Item}
use Rattle.mission_model.specs.declared.limits.TheConstants.{MAX_PLAN_ROWS}
use Rattle.wpl_items.specs.Fields.{named}
use Rattle.wpl_items.specs.Rows.{RowsAre}
use Rattle.wpl_items.proofs.reading.read_rows.Given as goal

-- the rows so far are the items so far, and no others
abbrev pub invariant-loop-row : goal.invariant-loop-row
invariant-loop-row l = record {
  limit : l.row-index ≤ MAX_PLAN_ROWS;
  count : vec_len l.items ≡ l.row-index;
  good : RowsAre 0 (named l.text (take l.row-index l.rows)) l.items.items;
  only : (others : List Item) → RowsAre 0 (named l.text (take l.row-index l.rows)) others → others ≡ l.items.items;
}
