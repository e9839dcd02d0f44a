-- The judge was shown the items up to this seq, and the cache is as it was.
use Rattle.std.proofs.Common.{◌≡◌, List, Option}
use Rattle.mission_model.specs.declared.plan.Home.{Home}
use Rattle.mission_model.specs.declared.plan.Item.{Item}
use Rattle.mission_model.specs.declared.plan.Params.{Params}
use Rattle.navigator.specs.Judging.{ShownTo, WasShown}
use Rattle.navigator.proofs.Takings.{Feeding}
use Rattle.navigator.proofs.taken_mission.TakenMission.take_on.Given as goal

abbrev pub invariant-loop : goal.invariant-loop
invariant-loop l = record {
  cache : l.self-inside.cache ≡ l.fn.self.cache;
  begun : WasShown l.fn.self;
  fed : (params : Params) (home : Option Home) (fence items : List Item) → ShownTo l.fn.self params home fence items → Feeding l.fn.uses l.fn.self.cache items l.counter l.self-inside.check l.self-inside.judge params home fence;
}
