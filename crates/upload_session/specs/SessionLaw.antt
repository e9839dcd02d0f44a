-- What a link's session answers to each message and to each reply, and what that leaves. The cases stand
-- in the order of "Answers of a link" in docs/FORMATS.md; the first that fits is taken.
use Rattle.std.specs.Prelude.{ℕ, ◌+◌, ◌==◌, Bool, true, false, not, ◌&&◌, List, [], ◌∷◌, Option, Some, None, length, nat_lt, slice_index_or, if◌then◌else◌}
use Rattle.mission_model.specs.declared.plan.PlanHead.{PlanHead}
use Rattle.mission_model.specs.declared.plan.PlanType.{PlanType}
use Rattle.mission_model.specs.declared.plan.Item.{Item}
use Rattle.mission_model.specs.declared.request.Client.TheVariants.{Link}
use Rattle.mission_model.specs.declared.request.Request.TheVariants as request
use Rattle.mission_model.specs.declared.request.Reply.{Reply}
use Rattle.mission_model.specs.declared.request.Reply.TheVariants as reply
use Rattle.mission_model.specs.declared.message.AckCode.{AckCode}
use Rattle.mission_model.specs.declared.message.AckCode.TheVariants as ack
use Rattle.mission_model.specs.declared.message.Answer.{Answer}
use Rattle.mission_model.specs.declared.message.Answer.TheVariants as answer
use Rattle.mission_model.specs.declared.message.Message.{Message}
use Rattle.mission_model.specs.declared.message.Message.TheVariants as message
use Rattle.mission_model.specs.PlanCode.{limit_of, PlanCode}
use Rattle.request_board.specs.BoardState.{BoardState}
use Rattle.request_board.specs.BoardCalls.{asked, index_kept}
use Rattle.transfer_lock.specs.TransferState.{TransferState, last_id, has_id, begun, finished, id_taken}
use Rattle.upload_session.specs.UploadState.{Upload, with_item, UploadState, Free, Receiving, Writing, Committing, type_of, types_named}

-- an answer, and the link, the transfer and the board after it
pub record Outcome : Type 0 where
  pub answer : Answer
  pub link : UploadState
  pub transfer : TransferState
  pub board : BoardState

-- an acknowledgement that leaves the link free
abbrev pub acked : AckCode → TransferState → BoardState → Outcome
acked code t b = record { answer = answer.Ack code; link = Free; transfer = t; board = b }

-- an answer that changes nothing
abbrev pub only : Answer → UploadState → TransferState → BoardState → Outcome
only given link t b = record { answer = given; link = link; transfer = t; board = b }

-- the worker is asked to commit this plan, and these types are left to be cleared
abbrev pub commits : ℕ → PlanType → ℕ → ℕ → List PlanType → TransferState → BoardState → Outcome
commits number kind id count left t b =
    record { answer = answer.Commits kind id count; link = Committing left; transfer = t; board = asked b (Link number) (request.Commit kind id count) }

-- the worker is asked to commit the empty plan of a type under a new id
abbrev pub empties : ℕ → PlanType → List PlanType → TransferState → BoardState → Outcome
empties number kind left t b = commits number kind (last_id t kind + 1) 0 left (id_taken t kind) b

-- the first item is requested of a plan under a new id
abbrev pub receives : PlanType → ℕ → TransferState → BoardState → Outcome
receives kind count t b =
    record { answer = answer.RequestInt 0; link = Receiving (record { kind = kind; id = last_id t kind + 1; count = count; heard = [] }); transfer = id_taken t kind; board = b }

-- the transfer once this link's own, if it was receiving, has ended
abbrev pub without_own : UploadState → TransferState → TransferState
without_own (Receiving upload) t = finished t
without_own link t = t

-- another link's grant is out
abbrev pub is_held : ℕ → Option ℕ → Bool
is_held number None = false
is_held number (Some holder) = not (holder == number)

-- each of these types has an id left
abbrev pub have_ids : TransferState → List PlanType → Bool
have_ids t [] = true
have_ids t (kind ∷ kinds) = has_id t kind && have_ids t kinds

-- Count, once this link's own transfer has ended
abbrev pub count_law : ℕ → Option PlanType → ℕ → TransferState → BoardState → Outcome
count_law number None count t b = acked ack.Unsupported t b
count_law number (Some kind) count t b =
    if is_held number t.holder then acked ack.Denied t b
    else (if nat_lt (limit_of kind) count then acked ack.NoSpace t b
    else (if not (has_id t kind) then acked ack.NoSpace t b
    else (if count == 0 then empties number kind [] (begun t number) b
    else receives kind count (begun t number) b)))

-- ClearAll, once this link's own transfer has ended
abbrev pub clear_law : ℕ → List PlanType → TransferState → BoardState → Outcome
clear_law number [] t b = acked ack.Unsupported t b
clear_law number (kind ∷ left) t b =
    if is_held number t.holder then acked ack.Denied t b
    else (if not (have_ids t (kind ∷ left)) then acked ack.NoSpace t b
    else empties number kind left (begun t number) b)

-- the item that was expected, by its code after the items heard before it
abbrev pub judged_law : ℕ → Upload → ℕ → Item → Option AckCode → TransferState → BoardState → Outcome
judged_law number upload seq item (Some code) t b = acked code (finished t) b
judged_law number upload seq item None t b =
    record { answer = answer.Writes upload.kind upload.id seq item; link = Writing (with_item upload item); transfer = t; board = asked b (Link number) (request.Write upload.kind upload.id seq item) }

-- Item; the expected seq is the number of items heard
abbrev pub item_law : ℕ → UploadState → ℕ → Item → TransferState → BoardState → Outcome
item_law number (Receiving upload) seq item t b =
    if seq == length upload.heard then judged_law number upload seq item (PlanCode upload.kind upload.count upload.heard item) t b
    else only (answer.RequestInt (length upload.heard)) (Receiving upload) t b
item_law number link seq item t b = only (answer.Ack ack.InvalidSequence) link t b

-- the head of the mission in force
abbrev pub mission_head : BoardState → PlanHead
mission_head b = slice_index_or b.published 0 (record { id = 0; count = 0 })

-- SetCurrent
abbrev pub current_law : UploadState → ℕ → TransferState → BoardState → Outcome
current_law link seq t b =
    if nat_lt seq (mission_head b).count then record { answer = answer.CurrentIs seq; link = link; transfer = t; board = index_kept b (mission_head b).id seq }
    else only (answer.Ack ack.InvalidSequence) link t b

-- Cancel and Timeout
abbrev pub cancel_law : UploadState → TransferState → BoardState → Outcome
cancel_law (Receiving upload) t b = acked ack.OperationCancelled (finished t) b
cancel_law link t b = only answer.Nothing link t b

-- what a link with this number and in this state answers to a message, and what that leaves
abbrev pub message_law : ℕ → UploadState → Message → TransferState → BoardState → Outcome
message_law number link (message.Count kind count) t b = count_law number (type_of kind) count (without_own link t) b
message_law number link (message.Item seq item) t b = item_law number link seq item t b
message_law number link (message.ClearAll kind) t b = clear_law number (types_named kind) (without_own link t) b
message_law number link (message.SetCurrent seq) t b = current_law link seq t b
message_law number link message.Cancel t b = cancel_law link t b
message_law number link message.Timeout t b = cancel_law link t b

-- what it answers to the reply on the request that it waits for, and what that leaves; no other case comes
abbrev pub reply_law : ℕ → UploadState → Reply → TransferState → BoardState → Outcome
reply_law number (Writing upload) reply.Done t b =
    if nat_lt (length upload.heard) upload.count then only (answer.RequestInt (length upload.heard)) (Receiving upload) t b
    else commits number upload.kind upload.id upload.count [] t b
reply_law number (Committing (kind ∷ left)) reply.Done t b = empties number kind left t b
reply_law number (Committing []) reply.Done t b = acked ack.Accepted (finished t) b
reply_law number link reply.DiskFailed t b = acked ack.Error (finished t) b
reply_law number link (reply.Spent generation) t b = acked ack.Error (finished t) b
reply_law number link other t b = only answer.Nothing link t b
