use Rattle.std.proofs.Common.{◌≡◌, ◌<◌, ◌≤◌, ◌∷◌, ℕ, map, take, get_or, codes}
use Rattle.first_model.specs.declared.plan.Item.{Item}
use Rattle.first_model.specs.declared.limits.TheConstants.{MAX_PLAN_ROWS}
use Rattle.first_wpl.specs.declared.fields.TheConstants.{MAX_SMALL}
use Rattle.first_wpl.specs.Printed.{ReadsBack}
use Rattle.first_wpl.specs.Writing.{row_text, row_texts}
use Rattle.first_wpl.proofs.writing.write_wpl.Given as goal

-- the lines so far are the header and the rows so far, and these are read back
abbrev pub invariant-loop-place : goal.invariant-loop-place
invariant-loop-place l = record {
  text : map (λ line. line.items) l.lines.items ≡ codes "QGC WPL 110" ∷ row_texts 0 (take l.place l.items);
  back : (k : ℕ) (d : Item) → k < l.place → k < MAX_PLAN_ROWS → (get_or l.items k d).frame ≤ MAX_SMALL → ReadsBack (row_text k (get_or l.items k d)) k (get_or l.items k d);
}
