use Rattle.first_num.proofs.Answer.{number_is_answer, fault_is_answer}
use Rattle.first_num.proofs.read.read_scaled.Goals as goal

pub returns-clause-every_number : goal.returns-clause-every_number
returns-clause-every_number c = λ n h. number_is_answer _ _ _ n c.read_token.ensures h

pub returns-clause-every_fault : goal.returns-clause-every_fault
returns-clause-every_fault c = λ fault h. fault_is_answer _ _ _ fault c.read_token.ensures h
