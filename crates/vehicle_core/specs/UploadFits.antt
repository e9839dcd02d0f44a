-- What holds between two steps of the board, the transfer and the plans that links bring.
use Rattle.std.specs.Prelude.{◌≡◌, ℕ, ◌<◌, ◌≤◌, Bool, true, false, List, [], ◌∷◌, length, Some, IfSome, if◌then◌else◌}
use Rattle.mission_model.specs.declared.plan.PlanHead.{PlanHead}
use Rattle.mission_model.specs.declared.plan.PlanType.{PlanType}
use Rattle.mission_model.specs.declared.plan.PlanType.TheVariants.{Mission}
use Rattle.mission_model.specs.declared.request.Asked.{Asked}
use Rattle.mission_model.specs.declared.request.Asked.TheVariants as about
use Rattle.mission_model.specs.declared.request.Client.{Client}
use Rattle.mission_model.specs.declared.request.Client.TheVariants.{Link}
use Rattle.mission_model.specs.PlanTypes.{head_of, limit_of}
use Rattle.request_board.specs.BoardState.{BoardState, unanswered}
use Rattle.request_board.specs.Watching.{HeadsFit}
use Rattle.transfer_lock.specs.TransferState.{TransferState, last_id}
use Rattle.upload_session.specs.UploadState.{Upload, UploadState, Free, Receiving, Writing, Committing}

-- the request brings a plan: it writes an item, or commits
abbrev pub brings : Asked → Bool
brings (about.Write kind id seq) = true
brings (about.Commit kind id count) = true
brings other = false

-- those of the requests that bring a plan
abbrev pub bringing : List (Client × Asked) → List (Client × Asked)
bringing [] = []
bringing ((client, asked) ∷ asks) = if brings asked then (client, asked) ∷ bringing asks else bringing asks

-- the id is above the published one of its type, and at most the last one that was taken
pub record IsNewId (t : TransferState) (heads : List PlanHead) (kind : PlanType) (id : ℕ) : Type 0 where
  pub above : (head_of heads kind).id < id
  pub taken : id ≤ last_id t kind

-- a write and a commit are of a plan with a new id, and a commit of one within its limit
abbrev pub BringsNew : TransferState → List PlanHead → Asked → Type 0
BringsNew t heads (about.Write kind id seq) = IsNewId t heads kind id
BringsNew t heads (about.Commit kind id count) = IsNewId t heads kind id × (count ≤ limit_of kind)
BringsNew t heads other = Unit {0}

-- the link is the one whose grant is out, and its request is of a plan with a new id
pub record IsHolders (t : TransferState) (heads : List PlanHead) (client : Client) (asked : Asked) : Type 0 where
  pub link : ℕ
  pub client_is : client ≡ Link link
  pub holder : t.holder ≡ Some link
  pub new : BringsNew t heads asked

-- of all requests that have no reply, none brings a plan, or one, and that is the holder's
abbrev pub UploadFits : TransferState → List PlanHead → List (Client × Asked) → Type 0
UploadFits t heads [] = Unit {0}
UploadFits t heads ((client, asked) ∷ []) = IsHolders t heads client asked
UploadFits t heads (first ∷ second ∷ rest) = ⊥

-- an index that is kept is of no later plan than the published mission, and is one of its items where it is of that plan
pub record IndexFits (heads : List PlanHead) (at : ℕ × ℕ) : Type 0 where
  pub earlier : at.0 ≤ (head_of heads Mission).id
  pub within : at.0 ≡ (head_of heads Mission).id → at.1 < (head_of heads Mission).count

-- The board and the transfer fit one another.
-- heads: each published count is within its limit; last: a published id is at most the last one that was taken of its type.
-- uploads: at most one request that brings a plan is without a reply; index: that of the published mission, or of an earlier one.
pub record BoardFits (t : TransferState) (b : BoardState) : Type 0 where
  pub three : (length b.published ≡ 3) × (length t.ids ≡ 3)
  pub heads : HeadsFit b.published
  pub last : (kind : PlanType) → (head_of b.published kind).id ≤ last_id t kind
  pub uploads : UploadFits t b.published (bringing (unanswered b))
  pub index : IfSome b.index (IndexFits b.published)

-- a plan that a link brings has a new id, and a count within its limit
pub record UploadIsNew (t : TransferState) (heads : List PlanHead) (u : Upload) : Type 0 where
  pub id : IsNewId t heads u.kind u.id
  pub count : u.count ≤ limit_of u.kind

abbrev pub DraftFits : TransferState → List PlanHead → UploadState → Type 0
DraftFits t heads Free = Unit {0}
DraftFits t heads (Receiving u) = UploadIsNew t heads u
DraftFits t heads (Writing u) = UploadIsNew t heads u
DraftFits t heads (Committing left) = Unit {0}
