-- An item that may stand at the index is one that a step may be shown.
use Rattle.std.proofs.Common.{◌≡◌, ◌≢◌, ℕ, ◌<◌, ◌≤◌, ◌==◌, ◌&&◌, ◌||◌, ◌⊎◌, Bool, true, false, not, List, [], ◌∷◌, Option, Some, None, IsSome, length, is_none, nat_lt, refl, subst, ◌∙◌, arith, inl, inr}
use Rattle.std.specs.Prelude.{if◌then◌else◌}
use Rattle.std.proofs.lemmas.Bool.Decides.{nat_tests}
use Rattle.mission_model.specs.declared.command.Jump.{Jump}
use Rattle.mission_model.specs.declared.limits.TheConstants.{MAX_JUMPS, MAX_MISSION_ITEMS}
use Rattle.mission_model.specs.declared.message.AckCode.{AckCode}
use Rattle.mission_model.specs.declared.plan.Item.{Item}
use Rattle.mission_model.specs.declared.plan.PlanType.TheVariants.{Mission}
use Rattle.mission_model.specs.declared.vehicle.Look.TheVariants.{Here}
use Rattle.mission_model.specs.Command.{jump_of}
use Rattle.mission_model.specs.ItemCode.{ItemCode}
use Rattle.mission_model.specs.Pairs.{used_of, has_pair}
use Rattle.mission_model.specs.ValidPlan.{jump_of-accepted}
use Rattle.leg_machine.specs.ItemAlone.{IsItemAt-alone}
use Rattle.leg_machine.specs.Stepping.{ShowsItem, HasRoom}
use Rattle.navigator.specs.Uses.{goes_with, allows_used, leaves_room}
use Rattle.navigator.specs.OnMission.{can_stand, leads_off, uses_of}
use Rattle.navigator.specs.NavState.{FlightState}

first_true : (p q : Bool) → (p && q) ≡ true → p ≡ true
first_true true q h = refl
first_true false q h = absurd cc

second_true : (p q : Bool) → (p && q) ≡ true → q ≡ true
second_true true q h = h
second_true false q h = absurd cc

none_true : (code : Option AckCode) → is_none code ≡ true → code ≡ None
none_true None h = refl
none_true (Some code) h = absurd cc

elsewhere : (count seq : ℕ) (target : ℕ) → (nat_lt target count && not (target == seq)) ≡ true → (target < count) × (target ≢ seq)
elsewhere count seq target h = (below count target (first_true _ _ h), other seq target (second_true _ _ h))
  where
    below : (count target : ℕ) → nat_lt target count ≡ true → target < count
    below count target h = grind (arith, nat_tests, h)

    other : (seq target : ℕ) → not (target == seq) ≡ true → target ≢ seq
    other seq target h = grind (arith, nat_tests, h)

leads : (count seq : ℕ) (o : Option Jump) (jump : Jump) → leads_off count seq o ≡ true → o ≡ Some jump → (jump.target < count) × (jump.target ≢ seq)
leads count seq None jump h is = absurd cc
leads count seq (Some other) jump h is =
    let same : other.target ≡ jump.target = some_target other jump is in
    let far = elsewhere count seq other.target h in
    (subst (λ n. n < count) same far.0, λ e. far.1 (same ∙ e))
  where
    some_target : (a b : Jump) → Some a ≡ Some b → a.target ≡ b.target
    some_target a b h = cc

cond_true : (b : Bool) (x y : Bool) → b ≡ true → (if b then x else y) ≡ x
cond_true true x y h = refl
cond_true false x y h = absurd cc

pair_by : (b : Bool) (used : ℕ) (pairs : List (ℕ × ℕ)) (seq : ℕ) → (nat_lt 0 (used_of pairs seq) ≡ true → has_pair pairs seq ≡ true) → nat_lt 0 (if b then used else used_of pairs seq) ≡ true → (if b then true else has_pair pairs seq) ≡ true
pair_by true used pairs seq rest h = refl
pair_by false used pairs seq rest h = rest h

has_pair-used : (pairs : List (ℕ × ℕ)) (seq : ℕ) → nat_lt 0 (used_of pairs seq) ≡ true → has_pair pairs seq ≡ true
has_pair-used [] seq h = absurd cc
has_pair-used ((other, used) ∷ pairs) seq h = pair_by (other == seq) used pairs seq (has_pair-used pairs seq) h

room_by : (pairs : List (ℕ × ℕ)) (seq : ℕ) (a b : Bool) → (a ≡ true → has_pair pairs seq ≡ true) → (b ≡ true → length pairs < MAX_JUMPS) → (a || b) ≡ true → (has_pair pairs seq ≡ true) ⊎ (length pairs < MAX_JUMPS)
room_by pairs seq true b left right h = inl (left refl)
room_by pairs seq false b left right h = inr (right h)

lower : (a b : ℕ) → nat_lt a b ≡ true → a < b
lower a b h = grind (arith, nat_tests, h)

room_at : (pairs : List (ℕ × ℕ)) (seq : ℕ) (o : Option Jump) → IsSome o → leaves_room pairs seq o ≡ true → (has_pair pairs seq ≡ true) ⊎ (length pairs < MAX_JUMPS)
room_at pairs seq None some h = absurd cc
room_at pairs seq (Some jump) some h = room_by pairs seq (nat_lt 0 (used_of pairs seq)) (nat_lt (length pairs) MAX_JUMPS) (has_pair-used pairs seq) (lower (length pairs) MAX_JUMPS) h

-- an item that may stand at the index may be shown there
pub stands-shows : (f : FlightState) (item : Item) → f.legs.index < f.legs.count → f.legs.count ≤ MAX_MISSION_ITEMS → can_stand (uses_of f) f.legs.count f.legs.index item ≡ true → ShowsItem f.legs (Here item)
stands-shows f item below within h =
    let first : (goes_with Mission (uses_of f) f.legs.index item && is_none (ItemCode Mission item)) ≡ true = first_true _ (leads_off f.legs.count f.legs.index (jump_of item)) h in
    let code : ItemCode Mission item ≡ None = none_true _ (second_true (goes_with Mission (uses_of f) f.legs.index item) _ first) in
    let far : leads_off f.legs.count f.legs.index (jump_of item) ≡ true = second_true (goes_with Mission (uses_of f) f.legs.index item && is_none (ItemCode Mission item)) _ h in
    λ below'. IsItemAt-alone f.legs.count f.legs.index item below within code (λ (jump : Jump) (is : jump_of item ≡ Some jump). leads f.legs.count f.legs.index (jump_of item) jump far is)

-- and there is room for its jump
pub stands-room : (f : FlightState) (item : Item) → can_stand (uses_of f) f.legs.count f.legs.index item ≡ true → HasRoom f.legs (Here item)
stands-room f item h below jump =
    let first : (goes_with Mission (uses_of f) f.legs.index item && is_none (ItemCode Mission item)) ≡ true = first_true _ (leads_off f.legs.count f.legs.index (jump_of item)) h in
    let code : ItemCode Mission item ≡ None = none_true _ (second_true (goes_with Mission (uses_of f) f.legs.index item) _ first) in
    let fit : goes_with Mission (uses_of f) f.legs.index item ≡ true = first_true _ (is_none (ItemCode Mission item)) first in
    room_at f.legs.pairs f.legs.index (jump_of item) (jump_of-accepted item jump code) (second_true (allows_used (used_of f.boot f.legs.index) (jump_of item)) _ fit)

pub ruleset stands = (stands-shows, stands-room)
