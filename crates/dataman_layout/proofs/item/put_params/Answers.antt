use Rattle.std.proofs.Common.{◌∙◌, arith}
use Rattle.dataman_layout.proofs.item.put_params.Goals as goal

pub returns-clause-rest : goal.returns-clause-rest
returns-clause-rest c = λ k behind.
    c.put_i32-4.ensures.rest k (omega arith) ∙ c.put_i32-3.ensures.rest k (omega arith) ∙ c.put_i32-2.ensures.rest k (omega arith) ∙ c.put_i32.ensures.rest k (omega arith)
