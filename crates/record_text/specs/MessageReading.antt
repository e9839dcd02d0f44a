-- What a reader finds at the front of bytes of a message or an answer, and the bytes behind it.
use Rattle.std.specs.Prelude.{ℕ, ◌^◌, ◌==◌, if◌then◌else◌, List, drop}
use Rattle.mission_model.specs.declared.message.AckCode.{AckCode}
use Rattle.mission_model.specs.declared.message.AckCode.TheVariants.{Accepted, Error, UnsupportedFrame, Unsupported, NoSpace, Invalid, InvalidParam1, InvalidParam2, InvalidParam3, InvalidParam4, InvalidParam5X, InvalidParam6Y, InvalidParam7, InvalidSequence, Denied, OperationCancelled}
use Rattle.mission_model.specs.declared.message.Answer.{Answer}
use Rattle.mission_model.specs.declared.message.Answer.TheVariants.{RequestInt, Ack, CurrentIs, Writes, Commits, Nothing}
use Rattle.mission_model.specs.declared.message.Said.{Said}
use Rattle.mission_model.specs.declared.message.Said.TheVariants as said
use Rattle.record_text.specs.declared.messages.TheConstants.{MISSION, FENCE, SAFE, ALL_PLANS}
use Rattle.record_text.specs.Numbers.{byte_at, number_at}
use Rattle.record_text.specs.PlanReading.{item_at}
use Rattle.record_text.specs.RequestReading.{place_in_plan_at}

-- the number of a plan type or of all of them, by its first letter
unfoldable pub type_at : List ℕ → ℕ × List ℕ
type_at bytes =
    if byte_at bytes 0 == 109
    then (MISSION, drop 7 bytes)
    else (if byte_at bytes 0 == 102
    then (FENCE, drop 5 bytes)
    else (if byte_at bytes 0 == 115 then (SAFE, drop 4 bytes) else (ALL_PLANS, drop 3 bytes)))

-- TYPE N
unfoldable pub count_at : List ℕ → Said × List ℕ
count_at bytes =
    let kind = type_at bytes in
    let count = number_at (2 ^ 16) (drop 1 kind.1) in
    (said.Count kind.0 count.0, count.1)

-- a message that begins with `c`, by its second letter
unfoldable pub said_c_at : List ℕ → Said × List ℕ
said_c_at bytes =
    if byte_at bytes 1 == 111
    then count_at (drop 6 bytes)
    else (if byte_at bytes 1 == 108
    then (let kind = type_at (drop 6 bytes) in (said.ClearAll kind.0, kind.1))
    else (said.Cancel, drop 6 bytes))

-- a message by its first letter
unfoldable pub said_at : List ℕ → Said × List ℕ
said_at bytes =
    if byte_at bytes 0 == 99
    then said_c_at bytes
    else (if byte_at bytes 0 == 105
    then (let seq = number_at (2 ^ 16) (drop 5 bytes) in (said.Item seq.0, seq.1))
    else (if byte_at bytes 0 == 115
    then (let seq = number_at (2 ^ 16) (drop 12 bytes) in (said.SetCurrent seq.0, seq.1))
    else (said.Timeout, drop 7 bytes)))

-- the result of a number, the last one for any other
unfoldable pub high_code_of : ℕ → AckCode
high_code_of number =
    if number == 8 then InvalidParam3
    else (if number == 9 then InvalidParam4
    else (if number == 10 then InvalidParam5X
    else (if number == 11 then InvalidParam6Y
    else (if number == 12 then InvalidParam7
    else (if number == 13 then InvalidSequence
    else (if number == 14 then Denied else OperationCancelled))))))

unfoldable pub code_of : ℕ → AckCode
code_of number =
    if number == 0 then Accepted
    else (if number == 1 then Error
    else (if number == 2 then UnsupportedFrame
    else (if number == 3 then Unsupported
    else (if number == 4 then NoSpace
    else (if number == 5 then Invalid
    else (if number == 6 then InvalidParam1
    else (if number == 7 then InvalidParam2 else high_code_of number)))))))

-- `current SEQ` or `commit KIND ID/COUNT` by the second letter
unfoldable pub current_at : List ℕ → Answer × List ℕ
current_at bytes =
    if byte_at bytes 1 == 117
    then (let seq = number_at (2 ^ 16) (drop 8 bytes) in (CurrentIs seq.0, seq.1))
    else (let place = place_in_plan_at (drop 7 bytes) in (Commits place.0.0 place.0.1 place.0.2, place.1))

-- KIND ID/SEQ ITEM
unfoldable pub writes_at : List ℕ → Answer × List ℕ
writes_at bytes =
    let place = place_in_plan_at bytes in
    let item = item_at (drop 1 place.1) in
    (Writes place.0.0 place.0.1 place.0.2 item.0, item.1)

-- an answer by its first letter
unfoldable pub answer_at : List ℕ → Answer × List ℕ
answer_at bytes =
    if byte_at bytes 0 == 114
    then (let seq = number_at (2 ^ 16) (drop 8 bytes) in (RequestInt seq.0, seq.1))
    else (if byte_at bytes 0 == 97
    then (let code = number_at (2 ^ 8) (drop 4 bytes) in (Ack (code_of code.0), code.1))
    else (if byte_at bytes 0 == 99
    then current_at bytes
    else (if byte_at bytes 0 == 119 then writes_at (drop 6 bytes) else (Nothing, drop 4 bytes))))
