-- What the absence of a code says: of an item that a plan may hold, and of the jumps of a valid plan.
use Rattle.std.specs.Prelude.{◌≡◌, ◌≢◌, ℕ, ◌*◌, ◌/◌, ◌%◌, ◌<◌, Bool, true, false, not, ◌&&◌, cond, List, Option, Some, None, IsSome, length, take, slice_get, nat_le, nat_lt, ◌==◌, pos, refl}
use Rattle.std.proofs.Common.{sym, ap, subst, ◌∙◌, arith}
use Rattle.std.proofs.lemmas.Bool.{eqb-true}
use Rattle.std.proofs.lemmas.Bool.Decides.{nat_tests}
use Rattle.std.proofs.lemmas.List.{length-take-le}
use Rattle.std.proofs.lemmas.Option.{slice_get_within}
use Rattle.mission_model.specs.declared.limits.TheConstants.{MAX_JUMPS}
use Rattle.mission_model.specs.declared.plan.PlanType.{PlanType}
use Rattle.mission_model.specs.declared.plan.PlanType.TheVariants.{Mission}
use Rattle.mission_model.specs.declared.plan.Param.TheVariants.{Milli}
use Rattle.mission_model.specs.declared.plan.Item.{Item}
use Rattle.mission_model.specs.declared.message.AckCode.{AckCode}
use Rattle.mission_model.specs.declared.command.CommandRule.{CommandRule}
use Rattle.mission_model.specs.declared.command.Jump.{Jump}
use Rattle.mission_model.specs.declared.command.TheConstants.{DO_JUMP}
use Rattle.mission_model.specs.declared.item_check.TheConstants.{MIN_LATITUDE, MAX_LATITUDE, MIN_LONGITUDE, MAX_LONGITUDE, MIN_HEIGHT, MAX_HEIGHT}
use Rattle.mission_model.specs.Command.{rule_of, whole_number, jump_to, jump_of}
use Rattle.mission_model.specs.CommandRows.{rule_of-DO_JUMP}
use Rattle.mission_model.specs.ItemCode.{ItemCode, code_by, is_frame_of, meets, is_placed, is_between}
use Rattle.mission_model.specs.PlanCode.{PlanCode, PlanValid, jump_code_at, jumps_in, code_or, place_code}

-- an item passes each test of its command's rule
pub record Passes (rule : CommandRule) (item : Item) : Type 0 where
  pub frame : is_frame_of rule.positioned item.frame ≡ true
  pub param1 : meets rule.param1 item.p1 ≡ true
  pub param2 : meets rule.param2 item.p2 ≡ true
  pub latitude : is_placed rule.positioned MIN_LATITUDE MAX_LATITUDE item.x ≡ true
  pub longitude : is_placed rule.positioned MIN_LONGITUDE MAX_LONGITUDE item.y ≡ true
  pub height : is_placed rule.positioned MIN_HEIGHT MAX_HEIGHT item.z ≡ true

passed_first : (passes : Bool) (rest : Option AckCode) (code : AckCode) → cond passes rest (Some code) ≡ None → (passes ≡ true) × (rest ≡ None)
passed_first true rest code h = (refl, h)
passed_first false rest code h = absurd cc

-- an item without a code passes the tests of its command's rule
pub Passes-accepted : (kind : PlanType) (item : Item) (rule : CommandRule) → rule_of kind item.command ≡ Some rule → ItemCode kind item ≡ None → Passes rule item
unfolding ItemCode
Passes-accepted kind item rule row none =
    let frame = passed_first _ _ _ (sym (ap (λ r. code_by r item) row) ∙ none) in
    let param1 = passed_first _ _ _ frame.1 in
    let param2 = passed_first _ _ _ param1.1 in
    let latitude = passed_first _ _ _ param2.1 in
    let longitude = passed_first _ _ _ latitude.1 in
    let height = passed_first _ _ _ longitude.1 in
    record { frame = frame.0; param1 = param1.0; param2 = param2.0; latitude = latitude.0; longitude = longitude.0; height = height.0 }

some_only : (b : Bool) (n k : ℕ) → cond b (Some n) None ≡ Some k → (b ≡ true) × (n ≡ k)
some_only true n k h = (refl, cc)
some_only false n k h = absurd cc

-- a parameter that is a whole number is that many thousands
pub whole_number-is : (milli k : ℕ) → whole_number (Milli (pos milli)) ≡ Some k → milli ≡ 1000 * k
whole_number-is milli k h =
    let whole = some_only (milli % 1000 == 0) (milli / 1000) k h in
    let none_left : milli % 1000 ≡ 0 = eqb-true (milli % 1000) 0 whole.0 in
    omega (arith, whole.1, none_left)

second_true : (p q : Bool) → (p && q) ≡ true → q ≡ true
second_true true q h = h
second_true false q h = absurd cc

first_true : (p q : Bool) → (p && q) ≡ true → p ≡ true
first_true true q h = refl
first_true false q h = absurd cc

both_true : (p q : Bool) → p ≡ true → q ≡ true → (p && q) ≡ true
both_true p q a b = rw (a, b) refl

jump_to-some : (target repeats : Option ℕ) → is_between 0 65535 target ≡ true → is_between 0 65535 repeats ≡ true → IsSome (jump_to target repeats)
jump_to-some None repeats a b = absurd cc
jump_to-some (Some target) None a b = absurd cc
jump_to-some (Some target) (Some repeats) a b =
    subst (λ c. IsSome {T = Jump} (cond c (Some (record { target = target; repeats = repeats })) None)) (sym (both_true (nat_le target 65535) (nat_le repeats 65535) (second_true (nat_le 0 target) (nat_le target 65535) a) (second_true (nat_le 0 repeats) (nat_le repeats 65535) b))) refl

-- a DO_JUMP without a code leads somewhere
pub jump_of-accepted : (item : Item) → item.command ≡ DO_JUMP → ItemCode Mission item ≡ None → IsSome (jump_of item)
jump_of-accepted item is none =
    let passes = Passes-accepted Mission item _ (ap (rule_of Mission) is ∙ rule_of-DO_JUMP) none in
    let jump = jump_to-some (whole_number item.p1) (whole_number item.p2) passes.param1 passes.param2 in
    subst (λ b. IsSome (cond b (jump_to (whole_number item.p1) (whole_number item.p2)) None)) (sym (ap (λ c. c == DO_JUMP) is)) jump

code_or-none : (code other : Option AckCode) → code_or code other ≡ None → (code ≡ None) × (other ≡ None)
code_or-none None other h = (refl, h)
code_or-none (Some code) other h = absurd cc

no_code : (full fits : Bool) (first second : AckCode) → cond full (Some first) (cond fits None (Some second)) ≡ None → (full ≡ false) × (fits ≡ true)
no_code true fits first second h = absurd cc
no_code false true first second h = (refl, refl)
no_code false false first second h = absurd cc

fewer : (a b : ℕ) → nat_le a b ≡ false → b < a
fewer a b h = grind (arith, nat_tests)

lower : (a b : ℕ) → nat_lt a b ≡ true → a < b
lower a b h = grind (arith, nat_tests)

differs : (a b : ℕ) → not (a == b) ≡ true → a ≢ b
differs a b h = grind (arith, nat_tests)

jump_code_at-none : (count place jumps : ℕ) (jump : Jump) → jump_code_at count place jumps (Some jump) ≡ None → (jumps < MAX_JUMPS) × (jump.target < count) × (jump.target ≢ place)
jump_code_at-none count place jumps jump h =
    let free = no_code (nat_le MAX_JUMPS jumps) (nat_lt jump.target count && not (jump.target == place)) _ _ h in
    let below : nat_lt jump.target count ≡ true = first_true _ _ free.1 in
    let other : not (jump.target == place) ≡ true = second_true _ _ free.1 in
    (fewer MAX_JUMPS jumps free.0, lower jump.target count below, differs jump.target place other)

-- in a valid mission a jump leads to another item of it, and fewer jumps than the limit stand before it
pub PlanValid-jump : (items : List Item) (place : ℕ) (item : Item) (jump : Jump) → PlanValid Mission items → slice_get items place ≡ Some item → jump_of item ≡ Some jump → (jumps_in (take place items) < MAX_JUMPS) × (jump.target < length items) × (jump.target ≢ place)
unfolding PlanCode
PlanValid-jump items place item jump valid at is =
    let code : (ItemCode Mission item ≡ None) × (place_code Mission (length items) (take place items) item ≡ None) = code_or-none _ _ (valid.accepted place item at) in
    let free : (jumps_in (take place items) < MAX_JUMPS) × (jump.target < length items) × (jump.target ≢ length (take place items)) = jump_code_at-none (length items) (length (take place items)) (jumps_in (take place items)) jump (sym (ap (jump_code_at (length items) (length (take place items)) (jumps_in (take place items))) is) ∙ code.1) in
    let same : length (take place items) ≡ place = length-take-le place items (omega (arith, slice_get_within items place item at)) in
    (free.0, free.1, λ h. free.2 (h ∙ sym same))
