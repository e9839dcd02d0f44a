use Rattle.navigator.specs.NextEvent.{event_heads, event_asks}
use Rattle.navigator.specs.Outstanding.{asked_at_boot, asked_by_call, stands_by_call, can_tick}
use Rattle.navigator.proofs.laws.an_event_leaves_the_next.Goals as goal

pub returns : goal.returns
returns c = record {
  heads = λ v b line entry v' b' h. event_heads v b line entry v' b' h.windows;
  asks = λ v b line entry v' b' h. event_asks v b line entry v' b' h.windows;
  boot = asked_at_boot;
  stays = asked_by_call;
  stands = stands_by_call;
  needs = can_tick;
}
