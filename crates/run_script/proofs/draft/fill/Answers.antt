use Rattle.std.proofs.Common.{◌≡◌, ◌<◌, ◌++◌, length, map, take, drop, set, get_or, ap, ◌∙◌, rules}
use Rattle.run_script.specs.Gathered.{filled_with}
use Rattle.run_script.proofs.Filling.{done_more, next_same}
use Rattle.run_script.proofs.draft.fill.Goals as goal

pub loop-place-preserved : goal.loop-place-preserved
loop-place-preserved c =
    let old = c.args.boots.now.items in
    let place = c.loop-place.place in
    let fill = filled_with c.args.params c.args.home c.args.links c.args.watchers in
    let x = c.index_mut.result.now in
    let below : place < length old = search rules in
    let value : x ≡ get_or old place x = c.index_mut.ensures.value ∙ ap (λ xs. get_or xs place x) c.loop-place.invariant ∙ next_same fill old place x below in
    ap (λ xs. set xs place c.fill_boot.new.boot) c.loop-place.invariant
    ∙ ap (set (map fill (take place old) ++ drop place old) place) (c.fill_boot.ensures ∙ ap fill value)
    ∙ done_more fill old place x below
