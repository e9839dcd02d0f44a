use Rattle.std.proofs.Common.{◌≡◌, ◌++◌, ap, ◌∙◌, decimal}
use Rattle.first_wpl.specs.Writing.{tabbed, head_words, param_words, position_words, flag_of, row_text}
use Rattle.first_wpl.proofs.Writes.{regroup, flag_byte}
use Rattle.first_wpl.proofs.RowBack.{row_back}
use Rattle.first_wpl.proofs.writing.row.Goals as goal

pub returns-clause-text : goal.returns-clause-text
unfolding row_text
returns-clause-text c =
    let item = c.args.item.now in
    let head = tabbed (head_words c.args.place item) in
    let params = tabbed (param_words item) in
    let position = tabbed (position_words item) in
    let flag : c.from.result ≡ flag_of item.auto = c.from.ensures ∙ flag_byte item.auto in
    c.in_ok-push_digits.ensures
    ∙ ap (λ row. row ++ decimal c.from.result) (c.in_ok-push_position.ensures.ok
    ∙ ap (λ row. row ++ position) (c.in_ok-push_params.ensures.ok
    ∙ ap (λ row. row ++ params) (c.in_ok-push_head.ensures.ok ∙ ap (λ row. row ++ head) c.new-row.ensures.items)))
    ∙ regroup head params position (decimal c.from.result)
    ∙ ap (λ n. head ++ (params ++ (position ++ decimal n))) flag

pub returns-clause-back : goal.returns-clause-back
returns-clause-back c below frame = row_back c.args.place c.args.item.now below frame (record {
  command = c.in_ok-push_head.ensures.command;
  p1 = c.in_ok-push_params.ensures.p1;
  p2 = c.in_ok-push_params.ensures.p2;
  p3 = c.in_ok-push_params.ensures.p3;
  p4 = c.in_ok-push_params.ensures.p4;
  x = c.in_ok-push_position.ensures.x;
  y = c.in_ok-push_position.ensures.y;
  z = c.in_ok-push_position.ensures.z;
})
