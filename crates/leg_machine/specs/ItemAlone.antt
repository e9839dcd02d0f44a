-- An item that passes by itself stands in some valid mission: for callers that look at one item, and not at a whole plan.
use Rattle.std.specs.Prelude.{◌≡◌, ◌≢◌, ℕ, zero, suc, ◌+◌, ◌-◌, ◌<◌, ◌≤◌, ◌⊎◌, false, List, ◌∷◌, Option, Some, None, length, take, replicate, slice_get, pos, refl}
use Rattle.std.proofs.Common.{sym, ap, subst, ◌∙◌, inl, inr, arith}
use Rattle.std.proofs.lemmas.Bool.Decides.{nat_tests}
use Rattle.std.proofs.lemmas.List.{length-replicate, length-take-le}
use Rattle.mission_model.specs.declared.limits.TheConstants.{MAX_MISSION_ITEMS}
use Rattle.mission_model.specs.declared.command.Jump.{Jump}
use Rattle.mission_model.specs.declared.command.TheConstants.{NAV_WAYPOINT}
use Rattle.mission_model.specs.declared.plan.Item.{Item}
use Rattle.mission_model.specs.declared.plan.Param.TheVariants.{Unset}
use Rattle.mission_model.specs.declared.plan.PlanType.TheVariants.{Mission}
use Rattle.mission_model.specs.Command.{rule_of, jump_of}
use Rattle.mission_model.specs.ItemCode.{ItemCode}
use Rattle.mission_model.specs.PlanCode.{PlanCode, Accepted, code_or, jumps_in, jump_code_at}
use Rattle.leg_machine.specs.MissionItem.{IsItemAt}

-- a jump at this index leads to another item of a mission of so many items
abbrev pub LeadsElsewhere : ℕ → ℕ → Item → Type 0
LeadsElsewhere count index item = (jump : Jump) → jump_of item ≡ Some jump → (jump.target < count) × (jump.target ≢ index)

waypoint : Item
waypoint = record { frame = 0; command = NAV_WAYPOINT; p1 = Unset; p2 = Unset; p3 = Unset; p4 = Unset; x = pos 0; y = pos 0; z = pos 0; auto = false }

-- the item behind and before so many waypoints
abbrev amid : ℕ → Item → ℕ → List Item
amid zero item after = item ∷ replicate after waypoint
amid (suc n) item after = waypoint ∷ amid n item after

length-amid : (n : ℕ) (item : Item) (after : ℕ) → length (amid n item after) ≡ n + 1 + after
length-amid zero item after = grind (arith, length-replicate after waypoint)
length-amid (suc n) item after = grind (arith, length-amid n item after)

slice_get-amid : (n : ℕ) (item : Item) (after : ℕ) → slice_get (amid n item after) n ≡ Some item
slice_get-amid zero item after = refl
slice_get-amid (suc n) item after = slice_get-amid n item after

some_same : {a b : Item} → Some a ≡ Some b → b ≡ a
some_same h = cc

among_waypoints : (n place : ℕ) (other : Item) → slice_get (replicate n waypoint) place ≡ Some other → other ≡ waypoint
among_waypoints zero place other h = absurd cc
among_waypoints (suc n) zero other h = some_same h
among_waypoints (suc n) (suc place) other h = among_waypoints n place other h

among : (n : ℕ) (item : Item) (after place : ℕ) (other : Item) → slice_get (amid n item after) place ≡ Some other → (other ≡ waypoint) ⊎ ((place ≡ n) × (other ≡ item))
among zero item after zero other h = inr (refl, some_same h)
among zero item after (suc place) other h = inl (among_waypoints after place other h)
among (suc n) item after zero other h = inl (some_same h)
among (suc n) item after (suc place) other h = elim (among n item after place other h) [
  | inl same ↦ inl same
  | inr here ↦ inr (ap (λ k. suc k) here.0, here.1)
]

jumps_in-amid : (n : ℕ) (item : Item) (after : ℕ) → jumps_in (take n (amid n item after)) ≡ 0
unfolding waypoint
jumps_in-amid zero item after = refl
jumps_in-amid (suc n) item after = grind (arith, jumps_in-amid n item after)

PlanCode-waypoint : (count : ℕ) (items : List Item) → PlanCode Mission count items waypoint ≡ None
unfolding PlanCode ItemCode rule_of waypoint
PlanCode-waypoint count items = refl

jump_code-free : (count place : ℕ) (jump : Jump) → jump.target < count → jump.target ≢ place → jump_code_at count place 0 (Some jump) ≡ None
jump_code-free count place jump below other = grind (arith, nat_tests)

jump_code-elsewhere : (count place : ℕ) (jump : Option Jump) → ((other : Jump) → jump ≡ Some other → (other.target < count) × (other.target ≢ place)) → jump_code_at count place 0 jump ≡ None
jump_code-elsewhere count place None leads = refl
jump_code-elsewhere count place (Some jump) leads = jump_code-free count place jump (leads jump refl).0 (leads jump refl).1

PlanCode-elsewhere : (count place : ℕ) (items : List Item) (item : Item) → length items ≡ place → jumps_in items ≡ 0 → ItemCode Mission item ≡ None → LeadsElsewhere count place item → PlanCode Mission count items item ≡ None
unfolding PlanCode
PlanCode-elsewhere count place items item at none code leads =
    ap (λ c. code_or c (jump_code_at count (length items) (jumps_in items) (jump_of item))) code
    ∙ ap (λ k. jump_code_at count k (jumps_in items) (jump_of item)) at
    ∙ ap (λ k. jump_code_at count place k (jump_of item)) none
    ∙ jump_code-elsewhere count place (jump_of item) leads

Accepted-amid : (count n : ℕ) (item : Item) (after : ℕ) → ItemCode Mission item ≡ None → LeadsElsewhere count n item → Accepted Mission count (amid n item after)
Accepted-amid count n item after code leads place other h = elim (among n item after place other h) [
  | inl same ↦ subst (λ i. PlanCode Mission count (take place (amid n item after)) i ≡ None) (sym same) (PlanCode-waypoint count (take place (amid n item after)))
  | inr here ↦ subst (λ i. PlanCode Mission count (take place (amid n item after)) i ≡ None) (sym here.1) (
      subst (λ k. PlanCode Mission count (take k (amid n item after)) item ≡ None) (sym here.0) (
      PlanCode-elsewhere count n (take n (amid n item after)) item (length-take-le n (amid n item after) (omega (arith, length-amid n item after))) (jumps_in-amid n item after) code leads))
]

-- an item that has no code by itself, and is no jump or leads elsewhere, stands at any index of some valid mission
pub IsItemAt-alone : (count index : ℕ) (item : Item) → index < count → count ≤ MAX_MISSION_ITEMS → ItemCode Mission item ≡ None → LeadsElsewhere count index item → IsItemAt count index item
IsItemAt-alone count index item below within code leads =
    let after = count - index - 1 in
    let same : length (amid index item after) ≡ count = omega (arith, length-amid index item after) in
    record {
      items = amid index item after;
      valid = record {
        within = subst (λ n. n ≤ MAX_MISSION_ITEMS) (sym same) within;
        accepted = subst (λ n. Accepted Mission n (amid index item after)) (sym same) (Accepted-amid count index item after code leads);
      };
      same_count = same;
      stands = slice_get-amid index item after;
    }
