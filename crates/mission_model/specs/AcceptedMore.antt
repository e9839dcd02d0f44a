-- One more item without a code behind items that are accepted.
use Rattle.std.specs.Prelude.{◌≡◌, ℕ, zero, suc, ◌<◌, List, [], ◌∷◌, ◌++◌, Some, None, length, take, slice_get, refl}
use Rattle.std.proofs.Common.{inl, inr, sym, ap, ◌∙◌, arith, length-append}
use Rattle.std.proofs.lemmas.Option.{slice_get_within}
use Rattle.std.proofs.lemmas.List.{take_all, take-append-le}
use Rattle.std.proofs.lemmas.Bool.{cases_lt}
use Rattle.mission_model.specs.declared.plan.PlanType.{PlanType}
use Rattle.mission_model.specs.declared.plan.Item.{Item}
use Rattle.mission_model.specs.PlanCode.{PlanCode, Accepted}

-- what stands before the end
slice_get-append : (items more : List Item) (place : ℕ) → place < length items → slice_get (items ++ more) place ≡ slice_get items place
slice_get-append [] more place h = absurd (omega arith)
slice_get-append (item ∷ items) more zero h = refl
slice_get-append (item ∷ items) more (suc place) h = slice_get-append items more place (omega arith)

slice_get-last : (items : List Item) (item : Item) → slice_get (items ++ item ∷ []) (length items) ≡ Some item
slice_get-last [] item = refl
slice_get-last (first ∷ items) item = slice_get-last items item

some_same : {a b : Item} → Some a ≡ Some b → a ≡ b
some_same h = cc

-- one more item that has no code
pub Accepted-append : (kind : PlanType) (count : ℕ) (items : List Item) (item : Item) → Accepted kind count items → PlanCode kind count items item ≡ None → Accepted kind count (items ++ item ∷ [])
Accepted-append kind count items item accepted none place other h = elim (cases_lt place (length items)) [
  | inl before ↦ ap (λ l. PlanCode kind count l other) (take-append-le place items (item ∷ []) (omega arith)) ∙ accepted place other (sym (slice_get-append items (item ∷ []) place before) ∙ h)
  | inr past ↦
      let at_end : place ≡ length items = omega (arith, slice_get_within (items ++ item ∷ []) place other h, length-append items (item ∷ [])) in
      let same : item ≡ other = some_same (sym (slice_get-last items item) ∙ ap (slice_get (items ++ item ∷ [])) (sym at_end) ∙ h) in
      ap (λ l. PlanCode kind count l other) (ap (λ n. take n (items ++ item ∷ [])) at_end ∙ take-append-le (length items) items (item ∷ []) (omega arith) ∙ take_all (length items) items (omega arith))
      ∙ ap (PlanCode kind count items) (sym same) ∙ none
]
