-- What a check of a plan shows once it took all items; and that a mission whose first items are accepted can be completed.
use Rattle.std.specs.Prelude.{◌≡◌, ℕ, zero, suc, ◌-◌, ◌<◌, ◌≤◌, true, List, [], ◌∷◌, ◌++◌, None, length, replicate, pos, refl}
use Rattle.std.proofs.Common.{inl, inr, sym, ap, subst, ◌∙◌, arith, length-append}
use Rattle.std.proofs.lemmas.Bool.{cases_lt}
use Rattle.std.proofs.lemmas.List.{append_assoc, append-nil, length-replicate}
use Rattle.mission_model.specs.declared.limits.TheConstants.{MAX_MISSION_ITEMS}
use Rattle.mission_model.specs.declared.plan.PlanType.{PlanType}
use Rattle.mission_model.specs.declared.plan.PlanType.TheVariants.{Mission}
use Rattle.mission_model.specs.declared.plan.Param.TheVariants.{Unset}
use Rattle.mission_model.specs.declared.plan.Item.{Item}
use Rattle.mission_model.specs.declared.plan_check.PlanCheck.{PlanCheck}
use Rattle.mission_model.specs.declared.command.TheConstants.{NAV_WAYPOINT, FRAME_GLOBAL}
use Rattle.mission_model.specs.CommandRows.{rule_of-NAV_WAYPOINT}
use Rattle.mission_model.specs.ItemCode.{ItemCode}
use Rattle.mission_model.specs.PlanTypes.{limit_of}
use Rattle.mission_model.specs.PlanCode.{PlanCode, Accepted, PlanValid}
use Rattle.mission_model.specs.PlanCheck.{Checked, HasRoom}
use Rattle.mission_model.specs.AcceptedMore.{Accepted-append}

as_many : (taken room number count : ℕ) → taken ≡ number → room ≡ count → (taken < room → ⊥) → number ≤ count → number ≡ count
as_many taken room number count t r full below = elim (cases_lt taken room) [
  | inl more ↦ absurd (full more)
  | inr none ↦ omega (arith, t, r, none, below)
]

-- a check that took as many items as were announced, within the limit of the type, has accepted a valid plan
pub PlanValid-checked : (check : PlanCheck) (kind : PlanType) (count : ℕ) (items : List Item) → Checked check kind count items → length items ≡ count → count ≤ limit_of kind → PlanValid kind items
PlanValid-checked check kind count items checked whole within = record {
  within = subst (λ n. n ≤ limit_of kind) (sym whole) within;
  accepted = subst (λ n. Accepted kind n items) (sym whole) checked.accepted;
}

-- so has one that has no room left for an item, where it took no more than were announced
pub PlanValid-full : (check : PlanCheck) (kind : PlanType) (count : ℕ) (items : List Item) → Checked check kind count items → (HasRoom check → ⊥) → length items ≤ count → count ≤ limit_of kind → PlanValid kind items
PlanValid-full check kind count items checked full below within =
    PlanValid-checked check kind count items checked (as_many check.taken check.count (length items) count checked.taken checked.same_count full below) within

-- a waypoint that any mission may hold at any place
abbrev pub any_waypoint : Item
any_waypoint = record { frame = FRAME_GLOBAL; command = NAV_WAYPOINT; p1 = Unset; p2 = Unset; p3 = Unset; p4 = Unset; x = pos 0; y = pos 0; z = pos 0; auto = true }

ItemCode-any_waypoint : ItemCode Mission any_waypoint ≡ None
unfolding ItemCode
ItemCode-any_waypoint = rw rule_of-NAV_WAYPOINT refl

PlanCode-any_waypoint : (count : ℕ) (before : List Item) → PlanCode Mission count before any_waypoint ≡ None
unfolding PlanCode
PlanCode-any_waypoint count before = rw ItemCode-any_waypoint refl

Accepted-waypoints : (more count : ℕ) (items : List Item) → Accepted Mission count items → Accepted Mission count (items ++ replicate more any_waypoint)
Accepted-waypoints zero count items accepted = subst (Accepted Mission count) (sym (append-nil items)) accepted
Accepted-waypoints (suc more) count items accepted =
    subst (Accepted Mission count) (append_assoc items (any_waypoint ∷ []) (replicate more any_waypoint))
    (Accepted-waypoints more count (items ++ any_waypoint ∷ []) (Accepted-append Mission count items any_waypoint accepted (PlanCode-any_waypoint count items)))

filled : (items rest : List Item) (count : ℕ) → length items ≤ count → length rest ≡ count - length items → length (items ++ rest) ≡ count
filled items rest count below many = omega (arith, length-append items rest, many, below)

one_more : (items : List Item) (item : Item) (count : ℕ) → length items < count → length (items ++ item ∷ []) ≤ count
one_more items item count below = omega (arith, length-append items (item ∷ []), below)

-- items that make a mission of this many items of the ones before them
pub record Completion (count : ℕ) (items : List Item) : Type 0 where
  pub rest : List Item
  pub whole : length (items ++ rest) ≡ count
  pub valid : PlanValid Mission (items ++ rest)

-- items that are accepted so far can be completed to a valid mission of the announced count
pub Completion-accepted : (count : ℕ) (items : List Item) → Accepted Mission count items → length items ≤ count → count ≤ MAX_MISSION_ITEMS → Completion count items
Completion-accepted count items accepted below within =
    let rest = replicate (count - length items) any_waypoint in
    let whole : length (items ++ rest) ≡ count = filled items rest count below (length-replicate (count - length items) any_waypoint) in
    record {
      rest = rest;
      whole = whole;
      valid = record {
        within = subst (λ n. n ≤ MAX_MISSION_ITEMS) (sym whole) within;
        accepted = subst (λ n. Accepted Mission n (items ++ rest)) (sym whole) (Accepted-waypoints (count - length items) count items accepted);
      };
    }

-- so can they with one more item that is accepted after them
pub Completion-next : (count : ℕ) (items : List Item) (item : Item) → Accepted Mission count items → PlanCode Mission count items item ≡ None → length items < count → count ≤ MAX_MISSION_ITEMS → (rest : List Item) × (length (items ++ item ∷ rest) ≡ count) × PlanValid Mission (items ++ item ∷ rest)
Completion-next count items item accepted none below within =
    let done = Completion-accepted count (items ++ item ∷ []) (Accepted-append Mission count items item accepted none) (one_more items item count below) within in
    let same : (items ++ item ∷ []) ++ done.rest ≡ items ++ item ∷ done.rest = append_assoc items (item ∷ []) done.rest in
    (done.rest, sym (ap length same) ∙ done.whole, subst (PlanValid Mission) same done.valid)
