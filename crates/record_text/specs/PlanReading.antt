-- What a reader finds at the front of bytes of a plan's parts: each part, and the bytes behind it.
use Rattle.std.specs.Prelude.{ℕ, zero, suc, ◌^◌, max, Bool, not, ◌&&◌, ◌==◌, if◌then◌else◌, List, [], drop, ℤ}
use Rattle.mission_model.specs.Pairs.{with_pair}
use Rattle.mission_model.specs.declared.limits.TheConstants.{MAX_JUMPS}
use Rattle.mission_model.specs.declared.plan.Item.{Item}
use Rattle.mission_model.specs.declared.plan.Param.{Param}
use Rattle.mission_model.specs.declared.plan.Param.TheVariants.{Unset, Milli}
use Rattle.mission_model.specs.declared.plan.PlanHead.{PlanHead}
use Rattle.mission_model.specs.declared.plan.PlanType.{PlanType}
use Rattle.mission_model.specs.declared.plan.PlanType.TheVariants.{Mission, Fence, Safe}
use Rattle.record_text.specs.Numbers.{byte_at, is_digit, number_at, signed_at}

-- a plan type by its first letter
unfoldable pub kind_at : List ℕ → PlanType × List ℕ
kind_at bytes =
    if byte_at bytes 0 == 109 then (Mission, drop 7 bytes) else (if byte_at bytes 0 == 102 then (Fence, drop 5 bytes) else (Safe, drop 4 bytes))

-- ID/COUNT
unfoldable pub head_at : List ℕ → PlanHead × List ℕ
head_at bytes =
    let id = number_at (2 ^ 32) bytes in
    let count = number_at (2 ^ 16) (drop 1 id.1) in
    (record { id = id.0; count = count.0 }, count.1)

-- a minus that no digit follows, or thousandths
unfoldable pub param_at : List ℕ → Param × List ℕ
param_at bytes =
    if byte_at bytes 0 == 45 && not (is_digit (byte_at bytes 1))
    then (Unset, drop 1 bytes)
    else (let found = signed_at bytes in (Milli found.0, found.1))

unfoldable pub flag_at : List ℕ → Bool × List ℕ
flag_at bytes = (byte_at bytes 0 == 49, drop 1 bytes)

-- X Y Z
unfoldable pub place_at : List ℕ → (ℤ × ℤ × ℤ) × List ℕ
place_at bytes =
    let x = signed_at bytes in
    let y = signed_at (drop 1 x.1) in
    let z = signed_at (drop 1 y.1) in
    ((x.0, y.0, z.0), z.1)

-- P1 P2 P3 P4
unfoldable pub params_at : List ℕ → (Param × Param × Param × Param) × List ℕ
params_at bytes =
    let p1 = param_at bytes in
    let p2 = param_at (drop 1 p1.1) in
    let p3 = param_at (drop 1 p2.1) in
    let p4 = param_at (drop 1 p3.1) in
    ((p1.0, p2.0, p3.0, p4.0), p4.1)

-- FRAME COMMAND P1 P2 P3 P4 X Y Z AUTO
unfoldable pub item_at : List ℕ → Item × List ℕ
item_at bytes =
    let frame = number_at (2 ^ 16) bytes in
    let command = number_at (2 ^ 16) (drop 1 frame.1) in
    let params = params_at (drop 1 command.1) in
    let place = place_at (drop 1 params.1) in
    let auto = flag_at (drop 1 place.1) in (
      record {
        frame = frame.0;
        command = command.0;
        p1 = params.0.0;
        p2 = params.0.1;
        p3 = params.0.2;
        p4 = params.0.3;
        x = place.0.0;
        y = place.0.1;
        z = place.0.2;
        auto = auto.0;
      },
      auto.1,
    )

-- a space and a digit begin a pair
abbrev pub begins_pair : List ℕ → Bool
begins_pair bytes = byte_at bytes 0 == 32 && is_digit (byte_at bytes 1)

-- SEQ:USED, behind its space
unfoldable pub pair_at : List ℕ → (ℕ × ℕ) × List ℕ
pair_at bytes =
    let seq = number_at (2 ^ 16) (drop 1 bytes) in
    let used = number_at (2 ^ 16) (drop 1 seq.1) in
    ((seq.0, used.0), used.1)

-- further pairs, so many at most, put to those before, each used at least once
unfoldable pub pairs_from : ℕ → List (ℕ × ℕ) → List ℕ → List (ℕ × ℕ) × List ℕ
pairs_from zero pairs bytes = (pairs, bytes)
pairs_from (suc room) pairs bytes =
    if begins_pair bytes
    then (let pair = pair_at bytes in pairs_from room (with_pair pairs pair.0.0 (max pair.0.1 1)) pair.1)
    else (pairs, bytes)

unfoldable pub pairs_at : List ℕ → List (ℕ × ℕ) × List ℕ
pairs_at bytes = pairs_from MAX_JUMPS [] bytes
