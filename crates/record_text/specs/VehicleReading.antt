-- What a reader finds at the front of bytes of an event, an entry of the Navigator, or a watcher's input and note, and
-- the bytes behind it.
use Rattle.std.specs.Prelude.{ℕ, ◌^◌, ◌==◌, if◌then◌else◌, List, drop, ℤ}
use Rattle.mission_model.specs.declared.plan.Item.{Item}
use Rattle.mission_model.specs.declared.vehicle.Mode.{Mode}
use Rattle.mission_model.specs.declared.vehicle.Mode.TheVariants as mode
use Rattle.mission_model.specs.declared.vehicle.NavWhat.{NavWhat}
use Rattle.mission_model.specs.declared.vehicle.NavWhat.TheVariants.{Leg, Action, Jump, JumpSpent, Done, Pending, Hold, HoldEmpty, Idle, Taken, Next, NextReturn, Ignored, ReturnLeg, ReturnSkip, ReturnHome, ReturnSafe, ReturnNone, ReturnDone}
use Rattle.mission_model.specs.declared.vehicle.VehicleLine.{VehicleLine}
use Rattle.mission_model.specs.declared.vehicle.VehicleLine.TheVariants as vehicle
use Rattle.mission_model.specs.declared.watch.Note.{Note}
use Rattle.mission_model.specs.declared.watch.WatchInput.{WatchInput}
use Rattle.record_text.specs.Numbers.{byte_at, number_at, signed_at}
use Rattle.record_text.specs.PlanReading.{kind_at, place_at, item_at}

-- a mode by its first letter
unfoldable pub mode_at : List ℕ → Mode × List ℕ
mode_at bytes =
    if byte_at bytes 0 == 104
    then (mode.Hold, drop 4 bytes)
    else (if byte_at bytes 0 == 109 then (mode.Mission, drop 7 bytes) else (mode.Return, drop 6 bytes))

-- X Y
unfoldable pub spot_at : List ℕ → (ℤ × ℤ) × List ℕ
spot_at bytes =
    let x = signed_at bytes in
    let y = signed_at (drop 1 x.1) in
    ((x.0, y.0), y.1)

-- an event by its first letter
unfoldable pub event_at : List ℕ → VehicleLine × List ℕ
event_at bytes =
    if byte_at bytes 0 == 116
    then (vehicle.Tick, drop 4 bytes)
    else (if byte_at bytes 0 == 103
    then (vehicle.Go, drop 2 bytes)
    else (if byte_at bytes 0 == 114
    then (vehicle.Reached, drop 7 bytes)
    else (if byte_at bytes 0 == 109
    then (let mode = mode_at (drop 5 bytes) in (vehicle.Mode mode.0, mode.1))
    else (let spot = spot_at (drop 9 bytes) in (vehicle.Position spot.0.0 spot.0.1, spot.1)))))

-- mission ID fence ID
unfoldable pub flown_at : List ℕ → (ℕ × ℕ) × List ℕ
flown_at bytes =
    let mission = number_at (2 ^ 32) (drop 8 bytes) in
    let fence = number_at (2 ^ 32) (drop 7 mission.1) in
    ((mission.0, fence.0), fence.1)

-- SEQ mission ID fence ID
unfoldable pub seq_flown_at : List ℕ → (ℕ × ℕ × ℕ) × List ℕ
seq_flown_at bytes =
    let seq = number_at (2 ^ 16) bytes in
    let flown = flown_at (drop 1 seq.1) in
    ((seq.0, flown.0.0, flown.0.1), flown.1)

-- SEQ mission ID fence ID ITEM
unfoldable pub target_at : List ℕ → (ℕ × ℕ × ℕ × Item) × List ℕ
target_at bytes =
    let at = seq_flown_at bytes in
    let item = item_at (drop 1 at.1) in
    ((at.0.0, at.0.1, at.0.2, item.0), item.1)

-- ` to SEQ used NUMBER mission ID fence ID` of the jump of a seq
unfoldable pub taken_at : ℕ → List ℕ → NavWhat × List ℕ
taken_at seq bytes =
    let to = number_at (2 ^ 16) (drop 4 bytes) in
    let used = number_at (2 ^ 16) (drop 6 to.1) in
    let flown = flown_at (drop 1 used.1) in
    (Jump seq to.0 used.0 flown.0.0 flown.0.1, flown.1)

-- SEQ, and what is said of its jump, by the letter behind the space
unfoldable pub jump_at : List ℕ → NavWhat × List ℕ
jump_at bytes =
    let seq = number_at (2 ^ 16) bytes in
    if byte_at seq.1 1 == 116
    then taken_at seq.0 seq.1
    else (let flown = flown_at (drop 7 seq.1) in (JumpSpent seq.0 flown.0.0 flown.0.1, flown.1))

-- `empty`, or RULE SEQ mission ID fence ID
unfoldable pub hold_at : List ℕ → NavWhat × List ℕ
hold_at bytes =
    if byte_at bytes 0 == 101
    then (HoldEmpty, drop 5 bytes)
    else (let rule = number_at (2 ^ 8) bytes in let at = seq_flown_at (drop 1 rule.1) in (Hold rule.0 at.0.0 at.0.1 at.0.2, at.1))

-- `return`, or SEQ
unfoldable pub next_at : List ℕ → NavWhat × List ℕ
next_at bytes =
    if byte_at bytes 0 == 114
    then (NextReturn, drop 6 bytes)
    else (let seq = number_at (2 ^ 16) bytes in (Next seq.0, seq.1))

-- KIND SEQ
unfoldable pub pending_at : List ℕ → NavWhat × List ℕ
pending_at bytes =
    let kind = kind_at bytes in
    let seq = number_at (2 ^ 16) (drop 1 kind.1) in
    (Pending kind.0 seq.0, seq.1)

-- SEQ safe ID fence ID ITEM
unfoldable pub safe_at : List ℕ → NavWhat × List ℕ
safe_at bytes =
    let seq = number_at (2 ^ 16) bytes in
    let safe = number_at (2 ^ 32) (drop 6 seq.1) in
    let fence = number_at (2 ^ 32) (drop 7 safe.1) in
    let item = item_at (drop 1 fence.1) in
    (ReturnSafe seq.0 safe.0 fence.0 item.0, item.1)

-- `skip` or `safe` by the second letter, and what it names
unfoldable pub return_s_at : List ℕ → NavWhat × List ℕ
return_s_at bytes =
    if byte_at bytes 1 == 107
    then (let at = seq_flown_at (drop 5 bytes) in (ReturnSkip at.0.0 at.0.1 at.0.2, at.1))
    else safe_at (drop 5 bytes)

-- a step of the way home by its first letter
unfoldable pub return_at : List ℕ → NavWhat × List ℕ
return_at bytes =
    if byte_at bytes 0 == 108
    then (let target = target_at (drop 4 bytes) in (ReturnLeg target.0.0 target.0.1 target.0.2 target.0.3, target.1))
    else (if byte_at bytes 0 == 115
    then return_s_at bytes
    else (if byte_at bytes 0 == 104
    then (let place = place_at (drop 5 bytes) in (ReturnHome (record { x = place.0.0; y = place.0.1; z = place.0.2 }), place.1))
    else (if byte_at bytes 0 == 110 then (ReturnNone, drop 4 bytes) else (ReturnDone, drop 4 bytes))))

-- an entry that is no step of a mission, by its first letter
unfoldable pub other_at : List ℕ → NavWhat × List ℕ
other_at bytes =
    if byte_at bytes 0 == 112
    then pending_at (drop 8 bytes)
    else (if byte_at bytes 0 == 104
    then hold_at (drop 5 bytes)
    else (if byte_at bytes 0 == 116
    then (Taken, drop 5 bytes)
    else (if byte_at bytes 0 == 110
    then next_at (drop 5 bytes)
    else (if byte_at bytes 1 == 100 then (Idle, drop 4 bytes) else (Ignored, drop 7 bytes)))))

-- an entry by its first letter
unfoldable pub what_at : List ℕ → NavWhat × List ℕ
what_at bytes =
    if byte_at bytes 0 == 108
    then (let target = target_at (drop 4 bytes) in (Leg target.0.0 target.0.1 target.0.2 target.0.3, target.1))
    else (if byte_at bytes 0 == 97
    then (let target = target_at (drop 7 bytes) in (Action target.0.0 target.0.1 target.0.2 target.0.3, target.1))
    else (if byte_at bytes 0 == 106
    then jump_at (drop 5 bytes)
    else (if byte_at bytes 0 == 100
    then (let flown = flown_at (drop 5 bytes) in (Done flown.0.0 flown.0.1, flown.1))
    else (if byte_at bytes 0 == 114 then return_at (drop 7 bytes) else other_at bytes))))

-- CODE A B of an input
unfoldable pub watch_input_at : List ℕ → WatchInput × List ℕ
watch_input_at bytes =
    let code = number_at (2 ^ 16) bytes in
    let spot = spot_at (drop 1 code.1) in
    (record { code = code.0; a = spot.0.0; b = spot.0.1 }, spot.1)

-- CODE A B X Y of a note
unfoldable pub note_at : List ℕ → Note × List ℕ
note_at bytes =
    let code = number_at (2 ^ 16) bytes in
    let a = number_at (2 ^ 32) (drop 1 code.1) in
    let b = number_at (2 ^ 32) (drop 1 a.1) in
    let spot = spot_at (drop 1 b.1) in
    (record { code = code.0; a = a.0; b = b.0; x = spot.0.0; y = spot.0.1 }, spot.1)
