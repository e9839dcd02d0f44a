use Rattle.std.proofs.Common.{◌-◌, ◌++◌, [], ◌∷◌, ap, ◌∙◌, arith, rules, get_or, pos}
use Rattle.std.specs.Prelude.{FitsSigned}
use Rattle.std.specs.Int.{w32}
use Rattle.std.proofs.lemmas.Int.{to_z-of_z}
use Rattle.fence_polygon.specs.Marks.{empty_band}
use Rattle.fence_polygon.proofs.Ranges.{Built-begin, Built-more, Built-end, first_at}
use Rattle.fence_polygon.proofs.cut.empty_bands.Goals as goal

pub loop-at-init : goal.loop-at-init
loop-at-init c =
    let fits : FitsSigned w32 c.in-Some.first.now = search rules in
    Built-begin c.args.latitudes.now c.in-Some.first.now c.push.new.self.items c.requires.rises c.in-Some.ensures.value
    (c.push.ensures.items ∙ ap (λ l. l ++ c.empty_band.result ∷ []) c.new-bands.ensures ∙ ap (λ band. band ∷ []) (c.empty_band.ensures ∙ ap (λ x. empty_band x x) (to_z-of_z w32 c.in-Some.first.now fits)))

pub loop-at-preserved : goal.loop-at-preserved
loop-at-preserved c =
    let last : FitsSigned w32 (get_or c.args.latitudes.now (c.loop-at.at - 1) (pos 0)) = search rules in
    let x : FitsSigned w32 (get_or c.args.latitudes.now c.loop-at.at (pos 0)) = search rules in
    Built-more c.args.latitudes.now c.loop-at.at _ _ c.loop-at.bands.items c.push_behind.new.bands.items c.requires.rises c.loop-at.auto.at c.loop-at-test.true (to_z-of_z w32 _ last) (to_z-of_z w32 _ x) c.push_behind.ensures c.loop-at.invariant

pub returns-clause-cut : goal.returns-clause-cut
returns-clause-cut c = Built-end c.args.latitudes.now c.loop-at.at c.loop-at.bands.items c.requires.rises (first_at c.args.latitudes.now c.in-Some.first.now (pos 0) c.in-Some.ensures.value).0 (omega (arith, (first_at c.args.latitudes.now c.in-Some.first.now (pos 0) c.in-Some.ensures.value).0)) c.loop-at.invariant
