use Rattle.std.proofs.Common.{◌∙◌, refl, arith}
use Rattle.first_core.proofs.Seats.{inputs_of-Nav-others, inputs_of-Link-others, new_links-more}
use Rattle.first_core.proofs.boot_inputs.seat_links.Goals as goal

pub loop-number-preserved : goal.loop-number-preserved
loop-number-preserved c =
    let at = c.loop-number in (
      rw (c.in_ok-push.ensures.items, new_links-more at.number c.args.inputs.items, c.new.ensures, c.in_ok-own.ensures.own, at.invariant.0, at.invariant.2 at.number (omega arith)) refl,
      rw c.in_ok-own.ensures.others (inputs_of-Nav-others at.number at.rest.items ∙ at.invariant.1),
      λ k above. rw c.in_ok-own.ensures.others (inputs_of-Link-others k at.number at.rest.items (omega (arith, above)) ∙ at.invariant.2 k (omega (arith, above))),
    )
