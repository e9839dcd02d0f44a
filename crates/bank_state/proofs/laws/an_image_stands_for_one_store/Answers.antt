use Rattle.bank_state.specs.OnePair.{one_pair}
use Rattle.bank_state.proofs.laws.an_image_stands_for_one_store.Goals as goal

pub returns : goal.returns
returns c = one_pair
