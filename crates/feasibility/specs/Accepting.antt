-- A judge may be shown the next item that the check of plans accepts: for callers that take a mission item by item.
use Rattle.std.specs.Prelude.{◌≡◌, ℕ, ◌<◌, ◌≤◌, List, Option, Some, None, Ok, length, refl}
use Rattle.std.proofs.Common.{arith}
use Rattle.mission_model.specs.declared.limits.TheConstants.{MAX_MISSION_ITEMS}
use Rattle.mission_model.specs.declared.plan.Home.{Home}
use Rattle.mission_model.specs.declared.plan.Item.{Item}
use Rattle.mission_model.specs.declared.plan.Params.{Params}
use Rattle.mission_model.specs.declared.plan.PlanType.TheVariants.{Mission}
use Rattle.mission_model.specs.declared.plan_check.PlanCheck.{PlanCheck}
use Rattle.mission_model.specs.declared.message.AckCode.{AckCode}
use Rattle.mission_model.specs.ItemCode.{answer_of}
use Rattle.mission_model.specs.PlanCode.{PlanCode, Accepted}
use Rattle.mission_model.specs.PlanCheck.{Checked, HasRoom, AnswersByCode}
use Rattle.mission_model.specs.CheckedPlans.{Completion-next}
use Rattle.feasibility.specs.declared.judge.Judge.{Judge}
use Rattle.feasibility.specs.Judged.{Judged, CanFeed}

-- where the items that a judge was shown are accepted, it may be shown one more that has no code after them
pub CanFeed-accepted : (judge : Judge) (params : Params) (home : Option Home) (fence : List Item) (count : ℕ) (items : List Item) (item : Item) → Judged judge params home fence count items → Accepted Mission count items → PlanCode Mission count items item ≡ None → length items < count → count ≤ MAX_MISSION_ITEMS → CanFeed judge item
CanFeed-accepted judge params home fence count items item judged accepted none room within =
    let next = Completion-next count items item accepted none room within in
    record {
      params = params;
      home = home;
      fence = fence;
      count = count;
      items = items;
      rest = next.0;
      judged = judged;
      room = room;
      valid = next.2;
    }

no_code : (code : Option AckCode) → Ok tt ≡ answer_of code → code ≡ None
no_code None h = refl
no_code (Some code) h = absurd cc

-- so it may where a check of plans that has accepted those items, and has room for one more, answers that one with Ok
pub CanFeed-checked : (judge : Judge) (params : Params) (home : Option Home) (fence : List Item) (count : ℕ) (items : List Item) (check : PlanCheck) (item : Item) → Judged judge params home fence count items → Checked check Mission count items → HasRoom check → AnswersByCode check item (Ok tt) → count ≤ MAX_MISSION_ITEMS → CanFeed judge item
CanFeed-checked judge params home fence count items check item judged checked room answers within =
    let less : length items < count = omega (arith, room, checked.taken, checked.same_count) in
    CanFeed-accepted judge params home fence count items item judged checked.accepted (no_code (PlanCode Mission count items item) (answers Mission count items checked)) less within
