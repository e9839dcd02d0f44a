-- What the code keeps of a link: no list of items, but a check that has accepted them.
use Rattle.std.specs.Prelude.{◌≡◌, ◌≢◌, ℕ, ◌<◌, ◌≤◌, List, [], ◌∷◌, Option, Some, None, length}
use Rattle.mission_model.specs.declared.plan.PlanType.{PlanType}
use Rattle.mission_model.specs.declared.plan.PlanType.TheVariants.{Mission, Fence, Safe}
use Rattle.mission_model.specs.declared.plan.Item.{Item}
use Rattle.mission_model.specs.declared.request.Client.TheVariants.{Link}
use Rattle.mission_model.specs.declared.request.Asked.{Asked}
use Rattle.mission_model.specs.declared.request.Asked.TheVariants as about
use Rattle.mission_model.specs.declared.message.Answer.{Answer}
use Rattle.mission_model.specs.PlanCode.{limit_of}
use Rattle.mission_model.specs.PlanCheck.{Checked, HasRoom}
use Rattle.request_board.specs.BoardState.{BoardState, HasClient, open_asks, OthersStay, PostedStays, ClientsStay}
use Rattle.transfer_lock.specs.TransferState.{TransferState, HasId, finished}
use Rattle.upload_session.specs.declared.session.Draft.{Draft}
use Rattle.upload_session.specs.declared.session.Stage.{Stage}
use Rattle.upload_session.specs.declared.session.Stage.TheVariants as stage
use Rattle.upload_session.specs.UploadState.{Upload, UploadState, Free, Receiving, Writing, Committing}
use Rattle.upload_session.specs.SessionLaw.{Outcome}

-- the link's number, and where its session stands
pub record SessionState : Type 0 where
  pub link : ℕ
  pub stage : Stage

abbrev pub types_after : PlanType → List PlanType
types_after Mission = Fence ∷ Safe ∷ []
types_after Fence = Safe ∷ []
types_after Safe = []

-- the types from this one on, in order
abbrev pub types_from : Option PlanType → List PlanType
types_from None = []
types_from (Some kind) = kind ∷ types_after kind

-- the upload of which these items were heard
abbrev pub upload_of : Draft → List Item → Upload
upload_of draft heard = record { kind = draft.kind; id = draft.id; count = draft.count; heard = heard }

-- the link of which these items were heard
abbrev pub link_of : Stage → List Item → UploadState
link_of stage.Free heard = Free
link_of (stage.Receiving draft) heard = Receiving (upload_of draft heard)
link_of (stage.Writing draft) heard = Writing (upload_of draft heard)
link_of (stage.Committing next) heard = Committing (types_from next)

-- the items of a link's upload, where it has one
abbrev pub heard_of : UploadState → List Item
heard_of Free = []
heard_of (Receiving upload) = upload.heard
heard_of (Writing upload) = upload.heard
heard_of (Committing left) = []

-- the check of the draft has accepted these items, and they are within the count, which is within the limit
pub record DraftHeard (draft : Draft) (heard : List Item) : Type 0 where
  pub checked : Checked draft.check draft.kind draft.count heard
  pub count : draft.count ≤ limit_of draft.kind
  pub within : length heard ≤ draft.count

-- these items were heard so far
abbrev pub Heard : Stage → List Item → Type 0
Heard stage.Free heard = Unit {0}
Heard (stage.Receiving draft) heard = DraftHeard draft heard × (length heard < draft.count)
Heard (stage.Writing draft) heard = DraftHeard draft heard
Heard (stage.Committing next) heard = Unit {0}

-- the answer, and what it leaves, are those of this outcome
pub record Obeys (o : Outcome) (given : Answer) (s' : SessionState) (t' : TransferState) (b' : BoardState) : Type 0 where
  pub answer : given ≡ o.answer
  pub link : link_of s'.stage (heard_of o.link) ≡ o.link
  pub heard : Heard s'.stage (heard_of o.link)
  pub transfer : t' ≡ o.transfer
  pub board : b' ≡ o.board

-- no request of the session is outstanding
abbrev pub IsReady : Stage → Type 0
IsReady stage.Free = Unit {0}
IsReady (stage.Receiving draft) = Unit {0}
IsReady (stage.Writing draft) = ⊥
IsReady (stage.Committing next) = ⊥

-- the session waits for the reply to this request: the write of an item of its upload, or a commit
abbrev pub Awaits : Stage → Asked → Type 0
Awaits (stage.Writing draft) (about.Write kind id seq) = (kind ≡ draft.kind) × (id ≡ draft.id)
Awaits (stage.Committing next) (about.Commit kind id count) = Unit {0}
Awaits other asked = ⊥

-- these are the requests of the session that are outstanding: the one that it waits for, or none
abbrev pub AwaitsOnly : Stage → List Asked → Type 0
AwaitsOnly at [] = IsReady at
AwaitsOnly at (asked ∷ []) = Awaits at asked
AwaitsOnly at (first ∷ second ∷ rest) = ⊥

-- it waits for the reply to a commit
abbrev pub IsCommitting : Stage → Type 0
IsCommitting stage.Free = ⊥
IsCommitting (stage.Receiving draft) = ⊥
IsCommitting (stage.Writing draft) = ⊥
IsCommitting (stage.Committing next) = Unit {0}

-- this link's grant is out exactly where its session is not free
abbrev pub IsHolder : Stage → ℕ → Option ℕ → Type 0
IsHolder stage.Free link holder = holder ≢ Some link
IsHolder (stage.Receiving draft) link holder = holder ≡ Some link
IsHolder (stage.Writing draft) link holder = holder ≡ Some link
IsHolder (stage.Committing next) link holder = holder ≡ Some link

-- a session holds its link's grant exactly where it is not free, and so exactly where that grant is out
abbrev pub GrantFits : SessionState → TransferState → Type 0
GrantFits s t = IsHolder s.stage s.link t.holder

-- each of these types has an id left
abbrev pub HaveIds : TransferState → List PlanType → Type 0
HaveIds t [] = Unit {0}
HaveIds t (kind ∷ kinds) = HasId t kind × HaveIds t kinds

-- the types whose commit a clearing has not asked yet
abbrev pub types_left : Stage → List PlanType
types_left stage.Free = []
types_left (stage.Receiving draft) = []
types_left (stage.Writing draft) = []
types_left (stage.Committing next) = types_from next

-- the transfer once the session has given back the grant that it may hold
abbrev pub given_back : Stage → TransferState → TransferState
given_back stage.Free t = t
given_back (stage.Receiving draft) t = finished t
given_back (stage.Writing draft) t = finished t
given_back (stage.Committing next) t = finished t

-- the requests and replies of all clients but this link are as they were; nothing but the queue of requests and the kept
-- index changes
pub record BoardKeeps (number : ℕ) (b b' : BoardState) : Type 0 where
  pub others : OthersStay (Link number) b b'
  pub posted : PostedStays b b'
  pub clients : ClientsStay b b'
  pub same : b' ≡ record b { waiting = b'.waiting; index = b'.index }

-- between two calls a session fits the transfer and the board: it holds the grant where that is out, the ids that its clearing
-- will take are left, and of its link the board has exactly the request that it waits for
pub record SessionFits (s : SessionState) (t : TransferState) (b : BoardState) : Type 0 where
  pub grant : GrantFits s t
  pub ids : HaveIds t (types_left s.stage)
  pub client : HasClient b (Link s.link)
  pub asks : AwaitsOnly s.stage (open_asks b (Link s.link))

-- what a call of a session keeps.
-- number: it is the same link's; grant: it fits the transfer; ids: those that a clearing will take are left.
-- held: a transfer that another link holds stays as it is; no_other: no other link gets the grant.
-- asks: the request that the session waits for is the only one of its link; board: other clients are as they were.
pub record Keeps (s : SessionState) (t : TransferState) (b : BoardState) (s' : SessionState) (t' : TransferState) (b' : BoardState) : Type 0 where
  pub number : s'.link ≡ s.link
  pub grant : GrantFits s' t'
  pub ids : HaveIds t' (types_left s'.stage)
  pub held : (other : ℕ) → other ≢ s.link → t.holder ≡ Some other → t' ≡ t
  pub no_other : (other : ℕ) → other ≢ s.link → t'.holder ≡ Some other → t.holder ≡ Some other
  pub asks : AwaitsOnly s'.stage (open_asks b' (Link s.link))
  pub board : BoardKeeps s.link b b'

-- a stage in which a session holds the grant; where it waits for an item, its check has room for one
abbrev pub IsBusy : Stage → Type 0
IsBusy stage.Free = ⊥
IsBusy (stage.Receiving draft) = HasRoom draft.check
IsBusy (stage.Writing draft) = Unit {0}
IsBusy (stage.Committing next) = Unit {0}
