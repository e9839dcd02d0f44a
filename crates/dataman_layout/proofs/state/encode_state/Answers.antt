use Rattle.std.proofs.Common.{refl, sym, ap, ◌∙◌, rules}
use Rattle.std.proofs.lemmas.List.{take_all}
use Rattle.dataman_layout.specs.State.{state_bytes, state_in}
use Rattle.dataman_layout.specs.StateLaws.{state_in-state_bytes}
use Rattle.dataman_layout.proofs.state.encode_state.Goals as goal

pub returns-clause-bytes : goal.returns-clause-bytes
unfolding state_bytes
returns-clause-bytes c =
    sym (take_all 7 c.put_u16.new.bytes (search rules)) ∙ rw (c.put_u16.ensures.front, c.put_u32.ensures.front, c.put_u8.ensures.front) refl

pub returns-clause-read : goal.returns-clause-read
returns-clause-read c = λ kind within.
    ap (state_in kind) (returns-clause-bytes c) ∙ state_in-state_bytes kind c.args.bank c.args.head c.requires c.put_u32.ensures.fits c.put_u16.ensures.fits within
