use Rattle.std.proofs.Common.{◌≡◌, ℤ, Result, Ok, arith, ap, ◌∙◌}
use mir.Val.{to_z, of_z}
use mir.Syntax.{w32}
use Rattle.std.proofs.lemmas.Int.{to_z-of_z}
use Rattle.first_model.specs.declared.plan.Param.{Param}
use Rattle.first_model.specs.declared.plan.Param.TheVariants.{Unset, Milli}
use Rattle.first_wpl.specs.declared.fault.WplFault.{WplFault}
use Rattle.first_wpl.specs.declared.fields.TheConstants.{PARAM_SCALE}
use Rattle.first_wpl.proofs.Numbers.{reads_fits}
use Rattle.first_wpl.proofs.Results.{ok_same}
use Rattle.first_wpl.proofs.fields.param_word.Goals as goal

pub returns-in-Ok-clause-only : goal.returns-in-Ok-clause-only
returns-in-Ok-clause-only c Unset nan = absurd (grind arith)
returns-in-Ok-clause-only c (Milli n) reads =
    let same : c.in-Ok.number ≡ n = ok_same c.in-Ok.number n (c.in-Ok.ensures.every_number n reads.1) in
    let told : ℤ → Result Param WplFault = λ z. Ok (Milli z) in
    ap (λ z. told (to_z w32 (of_z w32 z))) same ∙ ap told (to_z-of_z w32 n (reads_fits c.args.word.now PARAM_SCALE n reads.1))
