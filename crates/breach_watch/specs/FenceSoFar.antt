-- A fence plan of which the first vertices have come.
use Rattle.std.specs.Prelude.{◌≡◌, ℕ, ◌+◌, ◌<◌, ◌≤◌, List, ◌∷◌, ◌++◌, [], Option, length, take, slice_set}
use Rattle.std.proofs.Common.{sym, ap, subst, ◌∙◌, arith, length-append}
use Rattle.std.proofs.lemmas.List.{take_more_set}
use Rattle.mission_model.specs.declared.limits.TheConstants.{MAX_FENCE_VERTICES}
use Rattle.mission_model.specs.declared.message.AckCode.{AckCode}
use Rattle.mission_model.specs.declared.plan.Item.{Item}
use Rattle.mission_model.specs.declared.plan.PlanHead.{PlanHead}
use Rattle.mission_model.specs.declared.plan.PlanType.TheVariants.{Fence}
use Rattle.mission_model.specs.declared.plan_check.PlanCheck.{PlanCheck}
use Rattle.mission_model.specs.PlanCheck.{Checked}
use Rattle.mission_model.specs.PlanCode.{PlanCode}

-- the head of a fence plan, and its vertices so far
pub record FenceSoFar : Type 0 where
  pub head : PlanHead
  pub items : List Item

-- of a fence plan nothing has come
abbrev pub none_yet : PlanHead → FenceSoFar
none_yet head = record { head = head; items = [] }

-- one more vertex has come
abbrev pub with_vertex : FenceSoFar → Item → FenceSoFar
with_vertex so_far item = record so_far { items = so_far.items ++ item ∷ [] }

-- the code that the check of plans has for the next vertex, if any
abbrev pub code_of_next : FenceSoFar → Item → Option AckCode
code_of_next so_far item = PlanCode Fence so_far.head.count so_far.items item

-- The vertices so far stand in the first places of a bounded list, so many of them.
-- fits: the plan fits into the list; many: that many have come; below: no more than the plan has; checked: the check of plans
-- has accepted them.
pub record IsKept (head : PlanHead) (check : PlanCheck) (places : List Item) (come : ℕ) : Type 0 where
  pub fits : head.count ≤ MAX_FENCE_VERTICES
  pub many : length (take come places) ≡ come
  pub below : come ≤ head.count
  pub checked : Checked check Fence head.count (take come places)

-- so it is with one more vertex in the next place
pub IsKept-next : (head : PlanHead) (check check' : PlanCheck) (places : List Item) (come : ℕ) (item : Item) → IsKept head check places come → length places ≡ MAX_FENCE_VERTICES → come < head.count → Checked check' Fence head.count (take come places ++ item ∷ []) → IsKept head check' (slice_set places come item) (come + 1)
IsKept-next head check check' places come item kept room more checked =
    let longer : take (come + 1) (slice_set places come item) ≡ take come places ++ item ∷ [] = take_more_set places come item (omega (arith, room, more, kept.fits)) in
    record {
      fits = kept.fits;
      many = ap length longer ∙ length-append (take come places) (item ∷ []) ∙ ap (λ n. n + 1) kept.many;
      below = omega (arith, more);
      checked = subst (Checked check' Fence head.count) (sym longer) checked;
    }
