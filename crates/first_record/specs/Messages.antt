-- The texts of a link's messages and of what answers them.
use Rattle.std.specs.Prelude.{◌≡◌, ℕ, ◌⊎◌, ⊤, List, ◌++◌, codes, decimal, if◌then◌else◌, ◌==◌}
use Rattle.first_model.specs.declared.message.AckCode.{AckCode}
use Rattle.first_model.specs.declared.message.AckCode.TheVariants.{Accepted, Error, UnsupportedFrame, Unsupported, NoSpace, Invalid, InvalidParam1, InvalidParam2, InvalidParam3, InvalidParam4, InvalidParam5X, InvalidParam6Y, InvalidParam7, InvalidSequence, Denied, OperationCancelled}
use Rattle.first_model.specs.declared.message.Answer.{Answer}
use Rattle.first_model.specs.declared.message.Answer.TheVariants.{RequestInt, Ack, CurrentIs, Writes, Commits, Nothing}
use Rattle.first_model.specs.declared.message.Said.{Said}
use Rattle.first_model.specs.declared.message.Said.TheVariants as said
use Rattle.first_record.specs.declared.messages.TheConstants.{MISSION, FENCE, SAFE, ALL_PLANS}
use Rattle.first_record.specs.Plans.{item_text}
use Rattle.first_record.specs.Requests.{place_in_plan_text}

-- the number is that of a plan type or of all of them
abbrev pub IsTypeNumber : ℕ → Type 0
IsTypeNumber kind = (kind ≡ MISSION) ⊎ (kind ≡ FENCE) ⊎ (kind ≡ SAFE) ⊎ (kind ≡ ALL_PLANS)

-- each plan type that the message names is one or all of them
abbrev pub IsPrintableSaid : Said → Type 0
IsPrintableSaid (said.Count kind count) = IsTypeNumber kind
IsPrintableSaid (said.ClearAll kind) = IsTypeNumber kind
IsPrintableSaid _ = ⊤

-- the word of a plan type's number, or of all of them
abbrev pub type_text : ℕ → List ℕ
type_text kind =
    if kind == MISSION then codes "mission" else (if kind == FENCE then codes "fence" else (if kind == SAFE then codes "safe" else codes "all"))

-- a message, without its item
abbrev pub said_text : Said → List ℕ
said_text (said.Count kind count) = codes "count " ++ type_text kind ++ codes " " ++ decimal count
said_text (said.Item seq) = codes "item " ++ decimal seq
said_text (said.ClearAll kind) = codes "clear " ++ type_text kind
said_text (said.SetCurrent seq) = codes "set-current " ++ decimal seq
said_text said.Cancel = codes "cancel"
said_text said.Timeout = codes "timeout"

-- the number of a result in MAV_MISSION_RESULT
abbrev pub code_number : AckCode → ℕ
code_number Accepted = 0
code_number Error = 1
code_number UnsupportedFrame = 2
code_number Unsupported = 3
code_number NoSpace = 4
code_number Invalid = 5
code_number InvalidParam1 = 6
code_number InvalidParam2 = 7
code_number InvalidParam3 = 8
code_number InvalidParam4 = 9
code_number InvalidParam5X = 10
code_number InvalidParam6Y = 11
code_number InvalidParam7 = 12
code_number InvalidSequence = 13
code_number Denied = 14
code_number OperationCancelled = 15

-- what the vehicle answers
abbrev pub answer_text : Answer → List ℕ
answer_text (RequestInt seq) = codes "request " ++ decimal seq
answer_text (Ack code) = codes "ack " ++ decimal (code_number code)
answer_text (CurrentIs seq) = codes "current " ++ decimal seq
answer_text (Writes kind id seq item) = codes "write " ++ place_in_plan_text kind id seq ++ codes " " ++ item_text item
answer_text (Commits kind id count) = codes "commit " ++ place_in_plan_text kind id count
answer_text Nothing = codes "none"
