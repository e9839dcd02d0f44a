use Rattle.std.proofs.Common.{arith, ◌∙◌, sym, subst}
use Rattle.std.specs.Prelude.{FitsSigned}
use Rattle.std.specs.Int.{w32}
use Rattle.std.proofs.lemmas.Int.{to_z-of_z}
use Rattle.first_num.proofs.Answer.{reads_from_parts, out_of_range_from_parts}
use Rattle.first_num.proofs.read.read_token.Goals as goal

pub returns-in-Some : goal.returns-in-Some
returns-in-Some c = let t = c.in_ok-parts.ensures.parts in
    let number = c.in-Some.ensures.1 in
    reads_from_parts _ t.0 c.in_ok-parts.parts c.args.scale c.magnitude.result _ (omega arith) t.1 t.2 c.in_ok-parts.ensures.digits c.magnitude.ensures c.in-Some.ensures.0
    (to_z-of_z w32 c.in-Some.number (subst (FitsSigned w32) (sym number) c.in-Some.ensures.0) ∙ number)

pub returns-in-None : goal.returns-in-None
returns-in-None c = let t = c.in_ok-parts.ensures.parts in
    out_of_range_from_parts _ t.0 c.in_ok-parts.parts c.args.scale c.magnitude.result (omega arith) t.1 t.2 c.in_ok-parts.ensures.digits c.magnitude.ensures c.in-None.ensures
