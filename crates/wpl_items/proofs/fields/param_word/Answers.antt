use Rattle.std.proofs.Common.{◌≡◌, ℤ, Result, Ok, arith, ap, ◌∙◌}
use mir.Val.{to_z, of_z}
use mir.Syntax.{w32}
use Rattle.std.proofs.lemmas.Int.{to_z-of_z}
use Rattle.mission_model.specs.declared.plan.Param.{Param}
use Rattle.mission_model.specs.declared.plan.Param.TheVariants.{Unset, Milli}
use Rattle.wpl_items.specs.declared.fault.WplFault.{WplFault}
use Rattle.wpl_items.specs.declared.fields.TheConstants.{PARAM_SCALE}
use Rattle.wpl_items.proofs.Numbers.{reads_fits}
use Rattle.wpl_items.proofs.Results.{ok_same}
use Rattle.wpl_items.proofs.fields.param_word.Goals as goal

pub returns-in-Ok-clause-only : goal.returns-in-Ok-clause-only
returns-in-Ok-clause-only c Unset nan = absurd (grind arith)
returns-in-Ok-clause-only c (Milli n) reads =
    let same : c.in-Ok.number ≡ n = ok_same c.in-Ok.number n (c.in-Ok.ensures.every_number n reads.1) in
    let told : ℤ → Result Param WplFault = λ z. Ok (Milli z) in
    ap (λ z. told (to_z w32 (of_z w32 z))) same ∙ ap told (to_z-of_z w32 n (reads_fits c.args.word.now PARAM_SCALE n reads.1))
