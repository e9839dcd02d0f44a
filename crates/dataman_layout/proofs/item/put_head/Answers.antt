use Rattle.std.proofs.Common.{◌∙◌, arith}
use Rattle.dataman_layout.proofs.item.put_head.Goals as goal

pub returns-clause-rest : goal.returns-clause-rest
returns-clause-rest c = λ k behind.
    c.put_u8-2.ensures.rest k (omega arith) ∙ c.put_u8.ensures.rest k (omega arith) ∙ c.put_u16.ensures.rest k (omega arith) ∙ c.put_u32.ensures.rest k (omega arith)
