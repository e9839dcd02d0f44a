-- A plan that is written item by item, and what of a store a write leaves as it was.
use Rattle.std.specs.Prelude.{◌≡◌, ℕ, ◌+◌, List, [], ◌∷◌}
use Rattle.first_model.specs.declared.plan.Item.{Item}
use Rattle.first_model.specs.declared.plan.PlanType.{PlanType}
use Rattle.first_model.specs.declared.request.Request.TheVariants as request
use Rattle.first_store.specs.StoreState.{StoreState, of_kind, plan_of}
use Rattle.first_store.specs.Serve.{Well, after}

-- the store after these items were written for the plan of this id, one after another from a seq on
abbrev pub write_all : StoreState → PlanType → ℕ → ℕ → List Item → StoreState
write_all st kind id seq [] = st
write_all st kind id seq (item ∷ items) = write_all (after Well st (request.Write kind id seq item)) kind id (seq + 1) items

-- what is in force is the same: each plan, the mark and each generation
pub record SameInForce (st st' : StoreState) : Type 0 where
  pub plans : (kind : PlanType) → plan_of st' kind ≡ plan_of st kind
  pub generations : (kind : PlanType) → (of_kind st' kind).generation ≡ (of_kind st kind).generation
  pub mark : st'.mark ≡ st.mark
  pub mark_generation : st'.mark_generation ≡ st.mark_generation
