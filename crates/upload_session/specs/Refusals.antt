-- A code that refuses an item is neither that of an accepted plan nor that of a failed request.
use Rattle.std.specs.Prelude.{◌≡◌, ◌≢◌, ℕ, Bool, true, false, not, ◌&&◌, ◌==◌, ◌-◌, cond, List, [], ◌∷◌, Option, Some, None, Err, length, nat_le, nat_lt}
use Rattle.std.proofs.Common.{refl, subst}
use Rattle.mission_model.specs.declared.plan.PlanType.{PlanType}
use Rattle.mission_model.specs.declared.plan.PlanType.TheVariants.{Mission, Fence, Safe}
use Rattle.mission_model.specs.declared.plan.Item.{Item}
use Rattle.mission_model.specs.declared.message.AckCode.{AckCode}
use Rattle.mission_model.specs.declared.message.AckCode.TheVariants as ack
use Rattle.mission_model.specs.declared.command.CommandRule.{CommandRule}
use Rattle.mission_model.specs.declared.command.Jump.{Jump}
use Rattle.mission_model.specs.declared.limits.TheConstants.{MAX_JUMPS}
use Rattle.mission_model.specs.Command.{rule_of, jump_of, vertex_count}
use Rattle.mission_model.specs.ItemCode.{ItemCode, code_by, first_failing, is_frame_of, meets, is_placed, answer_of}
use Rattle.mission_model.specs.declared.item_check.TheConstants.{MIN_LATITUDE, MAX_LATITUDE, MIN_LONGITUDE, MAX_LONGITUDE, MIN_HEIGHT, MAX_HEIGHT}
use Rattle.mission_model.specs.PlanCode.{PlanCode, code_or, place_code, jump_code_at, jumps_in, vertex_code_in, open_polygon, is_param}

-- the code is neither that of an accepted plan nor that of a failed request
abbrev pub is_refusal : AckCode → Bool
is_refusal ack.Accepted = false
is_refusal ack.Error = false
is_refusal other = true

-- the code, where there is one, refuses
abbrev pub Refuses : Option AckCode → Type 0
Refuses None = Unit {0}
Refuses (Some code) = is_refusal code ≡ true

-- the code of each of these tests refuses
abbrev pub AllRefuse : List (Bool × AckCode) → Type 0
AllRefuse [] = Unit {0}
AllRefuse ((passes, code) ∷ tests) = (is_refusal code ≡ true) × AllRefuse tests

cond-refuses : (flag : Bool) (first second : Option AckCode) → Refuses first → Refuses second → Refuses (cond flag first second)
cond-refuses true first second h k = h
cond-refuses false first second h k = k

first_failing-refuses : (tests : List (Bool × AckCode)) → AllRefuse tests → Refuses (first_failing tests)
first_failing-refuses [] h = tt
first_failing-refuses ((passes, code) ∷ tests) h = cond-refuses passes (first_failing tests) (Some code) (first_failing-refuses tests h.1) h.0

code_by-refuses : (rule : Option CommandRule) (item : Item) → Refuses (code_by rule item)
code_by-refuses None item = refl
code_by-refuses (Some rule) item =
    first_failing-refuses (
    (is_frame_of rule.positioned item.frame, ack.UnsupportedFrame) ∷
    (meets rule.param1 item.p1, ack.InvalidParam1) ∷
    (meets rule.param2 item.p2, ack.InvalidParam2) ∷
    (is_placed rule.positioned MIN_LATITUDE MAX_LATITUDE item.x, ack.InvalidParam5X) ∷
    (is_placed rule.positioned MIN_LONGITUDE MAX_LONGITUDE item.y, ack.InvalidParam6Y) ∷
    (is_placed rule.positioned MIN_HEIGHT MAX_HEIGHT item.z, ack.InvalidParam7) ∷ [])
    (refl, (refl, (refl, (refl, (refl, (refl, tt))))))

jump_code_at-refuses : (count place jumps : ℕ) (jump : Option Jump) → Refuses (jump_code_at count place jumps jump)
jump_code_at-refuses count place jumps None = tt
jump_code_at-refuses count place jumps (Some jump) =
    cond-refuses (nat_le MAX_JUMPS jumps) (Some ack.NoSpace) _ refl (cond-refuses (nat_lt jump.target count && not (jump.target == place)) None (Some ack.Invalid) tt refl)

vertex_code_in-refuses : (polygon : List Item) (left : ℕ) (item : Item) → Refuses (vertex_code_in polygon left item)
vertex_code_in-refuses [] left item = cond-refuses (nat_le (vertex_count item) left) None (Some ack.Invalid) tt refl
vertex_code_in-refuses (first ∷ rest) left item = cond-refuses (item.command == first.command && is_param item.p1 first.p1) None (Some ack.Invalid) tt refl

place_code-refuses : (kind : PlanType) (count : ℕ) (items : List Item) (item : Item) → Refuses (place_code kind count items item)
place_code-refuses Mission count items item = jump_code_at-refuses count (length items) (jumps_in items) (jump_of item)
place_code-refuses Fence count items item = vertex_code_in-refuses (open_polygon items) (count - length items) item
place_code-refuses Safe count items item = tt

code_or-refuses : (code other : Option AckCode) → Refuses code → Refuses other → Refuses (code_or code other)
code_or-refuses None other h k = k
code_or-refuses (Some code) other h k = h

-- the code of an item at its place refuses it
pub PlanCode-refuses : (kind : PlanType) (count : ℕ) (items : List Item) (item : Item) → Refuses (PlanCode kind count items item)
unfolding PlanCode ItemCode
PlanCode-refuses kind count items item =
    code_or-refuses (ItemCode kind item) (place_code kind count items item) (code_by-refuses (rule_of kind item.command) item) (place_code-refuses kind count items item)

some_code : (code : Option AckCode) (answer : AckCode) → Err answer ≡ answer_of code → code ≡ Some answer
some_code None answer h = absurd cc
some_code (Some code) answer h = cc

-- so does the answer of a check to the item
pub answer_of-refuses : (kind : PlanType) (count : ℕ) (items : List Item) (item : Item) (code : AckCode) → Err code ≡ answer_of (PlanCode kind count items item) → is_refusal code ≡ true
answer_of-refuses kind count items item code h = subst Refuses (some_code (PlanCode kind count items item) code h) (PlanCode-refuses kind count items item)

-- a code that refuses is none of the two that do not
pub is_refusal-differs : (code other : AckCode) → is_refusal code ≡ true → is_refusal other ≡ false → code ≢ other
is_refusal-differs code other h k = λ same. cc
