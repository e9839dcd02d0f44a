use Rattle.navigator.specs.LooksInTurn.{looks-as-one}
use Rattle.navigator.specs.LooksAtTaking.{looks-at-taking}
use Rattle.navigator.proofs.laws.looks_in_turn_ask_once.Goals as goal

pub returns : goal.returns
returns c = record {
  known = λ cache b from n cache' b' flags known within looks. looks-as-one n cache b from cache' b' flags known within looks;
  taking = looks-at-taking;
}
