-- Whole plans: the first refused place, and what validity says of a plan.
use Rattle.std.proofs.Common.{◌≡◌, ℕ, ◌+◌, ◌<◌, List, [], ◌∷◌, ◌++◌, Err, length, take, get_or, sym, subst, ◌∙◌, arith}
use Rattle.std.proofs.lemmas.List.{take_more, length-take-le}
use Rattle.std.proofs.lemmas.Option.{slice_get-get_or}
use Rattle.mission_model.specs.declared.plan.PlanType.{PlanType}
use Rattle.mission_model.specs.declared.plan.Item.{Item}
use Rattle.mission_model.specs.declared.message.AckCode.{AckCode}
use Rattle.mission_model.specs.declared.plan_check.PlanCheck.{PlanCheck}
use Rattle.mission_model.specs.ItemCode.{answer_of}
use Rattle.mission_model.specs.PlanCode.{PlanCode, Accepted, FirstRefused}
use Rattle.mission_model.specs.PlanCheck.{Checked}
use Rattle.mission_model.proofs.Checks.{failed}

-- the first refused item is the one at the index of a check that refuses it
pub refused_at : (kind : PlanType) (items : List Item) (index place : ℕ) (code : AckCode) (item : Item) → index < length items → place ≡ length (take index items) → Accepted kind (length items) (take index items) → Err code ≡ answer_of (PlanCode kind (length items) (take index items) (get_or items index item)) → FirstRefused kind items place code
refused_at kind items index place code item within at accepted answer =
    let same : place ≡ index = at ∙ length-take-le index items (omega arith) in
    subst (λ p. FirstRefused kind items p code) (sym same) (record {
      before = accepted;
      refused = (get_or items index item, slice_get-get_or items index item within, failed (PlanCode kind (length items) (take index items) (get_or items index item)) code (sym answer));
    })

-- the check of the items up to the next one
pub checked_next : (check : PlanCheck) (kind : PlanType) (items : List Item) (index : ℕ) (item : Item) → index < length items → Checked check kind (length items) (take index items ++ get_or items index item ∷ []) → Checked check kind (length items) (take (index + 1) items)
checked_next check kind items index item within h = subst (Checked check kind (length items)) (sym (take_more items index item within)) h
