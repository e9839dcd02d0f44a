use Rattle.std.proofs.Common.{◌≡◌, ◌<◌, ◌++◌, length, map, take, drop, set, get_or, ap, ◌∙◌, rules}
use Rattle.first_wpl.specs.Home.{retargeted}
use Rattle.first_wpl.proofs.Jumps.{done_more, next_same}
use Rattle.first_wpl.proofs.home.retarget_all.Goals as goal

pub loop-place-preserved : goal.loop-place-preserved
loop-place-preserved c =
    let old = c.args.items.now.items in
    let place = c.loop-place.place in
    let x = c.index.result.now in
    let below : place < length old = search rules in
    let value : x ≡ get_or old place x = c.index.ensures ∙ ap (λ xs. get_or xs place x) c.loop-place.invariant ∙ next_same retargeted old place x below in
    ap (λ xs. set xs place c.retarget.result) c.loop-place.invariant
    ∙ ap (set (map retargeted (take place old) ++ drop place old) place) (c.retarget.ensures ∙ ap retargeted value)
    ∙ done_more retargeted old place x below
