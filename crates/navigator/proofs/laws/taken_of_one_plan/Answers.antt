use Rattle.navigator.specs.Outstanding.{asked_at_boot}
use Rattle.navigator.specs.EventLaw.{nav_at_boot}
use Rattle.navigator.specs.TakenOfOne.{from_boot, from_call, from_acts, all_taken}
use Rattle.navigator.proofs.laws.taken_of_one_plan.Goals as goal

pub returns : goal.returns
returns c = record {
  boot = from_boot;
  stays = λ plans call v b v' b' asked. from_call plans call v b v' b' asked.windows;
  acts = λ plans v b line entry v' b' asked. from_acts plans v b line entry v' b' asked.windows;
  all = λ plans params home boot b calls v' b' published. all_taken plans calls (nav_at_boot params home boot) b v' b' (asked_at_boot params home boot b) (from_boot plans params home boot published);
}
