-- A link's line asks no read, and what it and the others leave published.
use Rattle.std.proofs.Common.{◌≡◌, inl, ℕ, ◌+◌, ◌==◌, Bool, true, false, not, List, [], ◌∷◌, ◌++◌, length, Option, Some, None, nat_lt, refl, sym, subst, ap, ◌∙◌, append-nil}
use Rattle.std.specs.Prelude.{if◌then◌else◌}
use Rattle.std.specs.List.{All}
use Rattle.std.proofs.lemmas.List.Elements.{All-nil, All-cons}
use Rattle.mission_model.specs.declared.plan.Item.{Item}
use Rattle.mission_model.specs.declared.plan.PlanHead.{PlanHead}
use Rattle.mission_model.specs.declared.plan.PlanType.{PlanType}
use Rattle.mission_model.specs.declared.message.AckCode.{AckCode}
use Rattle.mission_model.specs.declared.message.AckCode.TheVariants as ack
use Rattle.mission_model.specs.declared.message.Answer.TheVariants as answer
use Rattle.mission_model.specs.declared.message.Message.{Message}
use Rattle.mission_model.specs.declared.message.Message.TheVariants as message
use Rattle.mission_model.specs.declared.request.Asked.{Asked}
use Rattle.mission_model.specs.declared.request.Client.{Client}
use Rattle.mission_model.specs.declared.request.Client.TheVariants as client
use Rattle.mission_model.specs.declared.request.Request.{Request}
use Rattle.mission_model.specs.declared.request.Request.TheVariants as request
use Rattle.mission_model.specs.declared.request.Reply.{Reply}
use Rattle.mission_model.specs.declared.request.Reply.TheVariants as reply
use Rattle.mission_model.specs.declared.flight_line.Line.{Line}
use Rattle.mission_model.specs.declared.flight_line.Line.TheVariants as line
use Rattle.mission_model.specs.PlanCode.{PlanCode}
use Rattle.mission_model.specs.PlanTypes.{type_of, types_named, limit_of}
use Rattle.request_board.specs.BoardState.{BoardState}
use Rattle.request_board.specs.BoardCalls.{heard, index_kept}
use Rattle.transfer_lock.specs.TransferState.{TransferState, begun, has_id, last_id}
use Rattle.upload_session.specs.UploadState.{UploadState, Upload, Free, Receiving, Writing, Committing}
use Rattle.upload_session.specs.SessionLaw.{Outcome, acked, only, commits, empties, receives, without_own, is_held, have_ids, count_law, clear_law, judged_law, item_law, mission_head, current_law, cancel_law, message_law, reply_law}
use Rattle.vehicle_core.specs.Told.{SharedTold, LinkTold}
use Rattle.vehicle_core.specs.ActorStep.{LinkStep}
use Rattle.vehicle_core.specs.LinkKept.{client_stays}
use Rattle.vehicle_core.specs.ReadsAsked.{IsOfPublished, AsksPublished}

-- nothing is asked
pub asks_nothing : (b b' : BoardState) → b'.waiting ≡ b.waiting → AsksPublished b b'
asks_nothing b b' same = record { left = b.waiting; asks = []; stays = inl refl; waiting = same ∙ sym (append-nil b.waiting); published = All-nil (IsOfPublished b.published) }

-- these are asked while none is taken
pub asks_more : (b b' : BoardState) (more : List (Client × Request)) → b'.waiting ≡ b.waiting ++ more → All (IsOfPublished b.published) more → AsksPublished b b'
asks_more b b' more is all = record { left = b.waiting; asks = more; stays = inl refl; waiting = is; published = all }

-- an outcome asks no read, and the heads stay
record Brings (b : BoardState) (o : Outcome) : Type 0 where
  pub asks : List (Client × Request)
  pub waiting : o.board.waiting ≡ b.waiting ++ asks
  pub no_reads : (heads : List PlanHead) → All (IsOfPublished heads) asks
  pub heads : o.board.published ≡ b.published

brings_nothing : (b : BoardState) (o : Outcome) → o.board.waiting ≡ b.waiting → o.board.published ≡ b.published → Brings b o
brings_nothing b o same heads = record { asks = []; waiting = same ∙ sym (append-nil b.waiting); no_reads = λ h. All-nil (IsOfPublished h); heads = heads }

brings_if : (b : BoardState) (test : Bool) (yes_ no_ : Outcome) → Brings b yes_ → Brings b no_ → Brings b (if test then yes_ else no_)
brings_if b true yes_ no_ h k = h
brings_if b false yes_ no_ h k = k

empties_brings : (number : ℕ) (kind : PlanType) (left : List PlanType) (t : TransferState) (b : BoardState) → Brings b (empties number kind left t b)
empties_brings number kind left t b = record {
  asks = (client.Link number, request.Commit kind (last_id t kind + 1) 0) ∷ [];
  waiting = refl;
  no_reads = λ h. All-cons (IsOfPublished h) (client.Link number, request.Commit kind (last_id t kind + 1) 0) [] tt (All-nil (IsOfPublished h));
  heads = refl;
}

judged_brings : (number : ℕ) (upload : Upload) (seq : ℕ) (item : Item) (code : Option AckCode) (t : TransferState) (b : BoardState) → Brings b (judged_law number upload seq item code t b)
judged_brings number upload seq item (Some code) t b = brings_nothing b (judged_law number upload seq item (Some code) t b) refl refl
judged_brings number upload seq item None t b = record {
  asks = (client.Link number, request.Write upload.kind upload.id seq item) ∷ [];
  waiting = refl;
  no_reads = λ h. All-cons (IsOfPublished h) (client.Link number, request.Write upload.kind upload.id seq item) [] tt (All-nil (IsOfPublished h));
  heads = refl;
}

count_brings : (number : ℕ) (kind : Option PlanType) (count : ℕ) (t : TransferState) (b : BoardState) → Brings b (count_law number kind count t b)
count_brings number None count t b = brings_nothing b (count_law number None count t b) refl refl
count_brings number (Some kind) count t b =
    let last : Outcome = if count == 0 then empties number kind [] (begun t number) b else receives kind count (begun t number) b in
    let third : Outcome = if not (has_id t kind) then acked ack.NoSpace t b else last in
    let second : Outcome = if nat_lt (limit_of kind) count then acked ack.NoSpace t b else third in
    brings_if b (is_held number t.holder) (acked ack.Denied t b) second (brings_nothing b (acked ack.Denied t b) refl refl)
    (brings_if b (nat_lt (limit_of kind) count) (acked ack.NoSpace t b) third (brings_nothing b (acked ack.NoSpace t b) refl refl)
    (brings_if b (not (has_id t kind)) (acked ack.NoSpace t b) last (brings_nothing b (acked ack.NoSpace t b) refl refl)
    (brings_if b (count == 0) (empties number kind [] (begun t number) b) (receives kind count (begun t number) b) (empties_brings number kind [] (begun t number) b) (brings_nothing b (receives kind count (begun t number) b) refl refl))))

clear_brings : (number : ℕ) (kinds : List PlanType) (t : TransferState) (b : BoardState) → Brings b (clear_law number kinds t b)
clear_brings number [] t b = brings_nothing b (clear_law number [] t b) refl refl
clear_brings number (kind ∷ left) t b =
    let last : Outcome = if not (have_ids t (kind ∷ left)) then acked ack.NoSpace t b else empties number kind left (begun t number) b in
    brings_if b (is_held number t.holder) (acked ack.Denied t b) last (brings_nothing b (acked ack.Denied t b) refl refl)
    (brings_if b (not (have_ids t (kind ∷ left))) (acked ack.NoSpace t b) (empties number kind left (begun t number) b) (brings_nothing b (acked ack.NoSpace t b) refl refl) (empties_brings number kind left (begun t number) b))

item_brings : (number : ℕ) (link : UploadState) (seq : ℕ) (item : Item) (t : TransferState) (b : BoardState) → Brings b (item_law number link seq item t b)
item_brings number (Receiving upload) seq item t b =
    brings_if b (seq == length upload.heard) (judged_law number upload seq item (PlanCode upload.kind upload.count upload.heard item) t b) (only (answer.RequestInt (length upload.heard)) (Receiving upload) t b)
    (judged_brings number upload seq item (PlanCode upload.kind upload.count upload.heard item) t b) (brings_nothing b (only (answer.RequestInt (length upload.heard)) (Receiving upload) t b) refl refl)
item_brings number Free seq item t b = brings_nothing b (item_law number Free seq item t b) refl refl
item_brings number (Writing upload) seq item t b = brings_nothing b (item_law number (Writing upload) seq item t b) refl refl
item_brings number (Committing left) seq item t b = brings_nothing b (item_law number (Committing left) seq item t b) refl refl

current_brings : (link : UploadState) (seq : ℕ) (t : TransferState) (b : BoardState) → Brings b (current_law link seq t b)
current_brings link seq t b =
    let asks : Outcome = record { answer = answer.CurrentIs seq; link = link; transfer = t; board = index_kept b (mission_head b).id seq } in
    brings_if b (nat_lt seq (mission_head b).count) asks (only (answer.Ack ack.InvalidSequence) link t b) (brings_nothing b asks refl refl) (brings_nothing b (only (answer.Ack ack.InvalidSequence) link t b) refl refl)

cancel_brings : (link : UploadState) (t : TransferState) (b : BoardState) → Brings b (cancel_law link t b)
cancel_brings (Receiving upload) t b = brings_nothing b (cancel_law (Receiving upload) t b) refl refl
cancel_brings Free t b = brings_nothing b (cancel_law Free t b) refl refl
cancel_brings (Writing upload) t b = brings_nothing b (cancel_law (Writing upload) t b) refl refl
cancel_brings (Committing left) t b = brings_nothing b (cancel_law (Committing left) t b) refl refl

message_brings : (number : ℕ) (link : UploadState) (m : Message) (t : TransferState) (b : BoardState) → Brings b (message_law number link m t b)
message_brings number link (message.Count kind count) t b = count_brings number (type_of kind) count (without_own link t) b
message_brings number link (message.Item seq item) t b = item_brings number link seq item t b
message_brings number link (message.ClearAll kind) t b = clear_brings number (types_named kind) (without_own link t) b
message_brings number link (message.SetCurrent seq) t b = current_brings link seq t b
message_brings number link message.Cancel t b = cancel_brings link t b
message_brings number link message.Timeout t b = cancel_brings link t b

reply_brings : (number : ℕ) (link : UploadState) (given : Reply) (t : TransferState) (b : BoardState) → Brings b (reply_law number link given t b)
reply_brings number (Writing upload) reply.Done t b =
    brings_if b (nat_lt (length upload.heard) upload.count) (only (answer.RequestInt (length upload.heard)) (Receiving upload) t b) (commits number upload.kind upload.id upload.count [] t b)
    (brings_nothing b (only (answer.RequestInt (length upload.heard)) (Receiving upload) t b) refl refl)
    (record {
      asks = (client.Link number, request.Commit upload.kind upload.id upload.count) ∷ [];
      waiting = refl;
      no_reads = λ h. All-cons (IsOfPublished h) (client.Link number, request.Commit upload.kind upload.id upload.count) [] tt (All-nil (IsOfPublished h));
      heads = refl;
    })
reply_brings number (Committing (kind ∷ left)) reply.Done t b = empties_brings number kind left t b
reply_brings number (Committing []) reply.Done t b = brings_nothing b (reply_law number (Committing []) reply.Done t b) refl refl
reply_brings number link reply.DiskFailed t b = brings_nothing b (reply_law number link reply.DiskFailed t b) refl refl
reply_brings number link (reply.Spent generation) t b = brings_nothing b (reply_law number link (reply.Spent generation) t b) refl refl
reply_brings number link other t b = brings_nothing b (reply_law number link other t b) refl refl

-- what a client has heard leaves what waits, and what is published
pub heard_waits : (b : BoardState) (who : Client) (rest : List (Asked × Reply)) → ((heard b who rest).waiting ≡ b.waiting) × ((heard b who rest).published ≡ b.published)
heard_waits b client.Nav rest = (refl, refl)
heard_waits b (client.Link n) rest = (refl, refl)
heard_waits b (client.Watch n) rest = (refl, refl)

pub link_asks : (t : SharedTold) (l : LinkTold) (made : Line) (t' : SharedTold) (l' : LinkTold) → LinkStep t l made t' l' → AsksPublished t.board t'.board × (t'.board.published ≡ t.board.published)
link_asks t l (line.Sent number said given) t' l' h =
    let o : Outcome = message_law l.number l.upload h.2.message t.transfer t.board in
    let brings = message_brings l.number l.upload h.2.message t.transfer t.board in
    let board : t'.board ≡ o.board = ap (λ (x : SharedTold). x.board) h.2.answers.shared in
    (asks_more t.board t'.board brings.asks (ap (λ (b : BoardState). b.waiting) board ∙ brings.waiting) (brings.no_reads t.board.published), ap (λ (b : BoardState). b.published) board ∙ brings.heads)
link_asks t l (line.Heard number given said) t' l' h =
    let before : BoardState = heard t.board (client.Link l.number) h.2.rest in
    let o : Outcome = reply_law l.number l.upload given t.transfer before in
    let brings = reply_brings l.number l.upload given t.transfer before in
    let board : t'.board ≡ o.board = ap (λ (x : SharedTold). x.board) h.2.answers.shared in
    let still = heard_waits t.board (client.Link l.number) h.2.rest in
    (asks_more t.board t'.board brings.asks (ap (λ (b : BoardState). b.waiting) board ∙ brings.waiting ∙ ap (λ w. w ++ brings.asks) still.0) (brings.no_reads t.board.published), ap (λ (b : BoardState). b.published) board ∙ brings.heads ∙ still.1)
link_asks t l other t' l' h =
    let board : t'.board ≡ t.board = ap (λ (x : SharedTold). x.board) (client_stays (client.Link l.number) t l.schedule other t' l'.schedule h.1.step).shared in
    (asks_nothing t.board t'.board (ap (λ (b : BoardState). b.waiting) board), ap (λ (b : BoardState). b.published) board)
