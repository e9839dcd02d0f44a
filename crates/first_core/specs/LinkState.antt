-- A link: its number, the rest of its schedule and its session.
use Rattle.std.specs.Prelude.{◌≡◌, ℕ, ◌<◌, Bool, true, List, ◌∷◌, length, Option, None, slice_get}
use Rattle.std.specs.List.{All}
use Rattle.first_model.specs.declared.limits.TheConstants.{MAX_PLACES}
use Rattle.first_model.specs.declared.plan.Item.{Item}
use Rattle.first_model.specs.declared.plan.PlanType.TheVariants.{Mission}
use Rattle.first_model.specs.declared.request.Client.TheVariants.{Link}
use Rattle.first_model.specs.declared.schedule.InputLine.TheVariants as input
use Rattle.first_model.specs.PlainMission.{IsPlainMission}
use Rattle.first_board.specs.BoardState.{outstanding}
use Rattle.first_core.specs.SharedState.{SharedState}
use Rattle.first_model.specs.declared.schedule.InputLine.{InputLine}
use Rattle.first_core.specs.declared.link.Session.{Session}
use Rattle.first_core.specs.declared.link.Session.TheVariants.{Free, Receiving, Writing, Committing}
use Rattle.first_core.specs.ScheduleState.{ScheduleState, fresh, advanced}

pub record LinkState : Type 0 where
  pub number : ℕ
  pub schedule : ScheduleState
  pub session : Session

-- a link at the beginning of a boot
abbrev pub new_link : ℕ → List InputLine → LinkState
new_link number inputs = record { number = number; schedule = fresh inputs; session = Free }

-- the upload is over
abbrev pub link_done : LinkState → LinkState
link_done link = record { number = link.number; schedule = advanced link.schedule; session = Free }

-- the item at a seq of the upload that is the current input
abbrev pub item_at : List InputLine → ℕ → Option Item
item_at (input.Upload kind items ∷ rest) seq = slice_get items seq
item_at inputs seq = None

-- the current input is the upload of a mission of so many items
abbrev pub Uploading : List InputLine → ℕ → Type 0
Uploading (input.Upload Mission items ∷ rest) count = count ≡ length items
Uploading inputs count = ⊥

-- the current input is no upload that has begun
abbrev pub NoUpload : List InputLine → Bool → Type 0
NoUpload (input.Upload kind items ∷ rest) true = ⊥
NoUpload inputs begun = Unit {0}

-- the schedule fits the session: while an upload goes on, it is the current input and has begun, and the seq is below
-- its count
abbrev pub SessionFits : ScheduleState → Session → Type 0
SessionFits schedule Free = NoUpload schedule.inputs schedule.begun
SessionFits schedule (Receiving id count seq) = Uploading schedule.inputs count × (schedule.begun ≡ true) × (seq < count)
SessionFits schedule (Writing id count seq) = Uploading schedule.inputs count × (schedule.begun ≡ true) × (seq < count)
SessionFits schedule (Committing id count) = Uploading schedule.inputs count × (schedule.begun ≡ true)

-- an input that a link may have: the upload of a plain mission, a wait, or a meeting at one of the places
abbrev pub IsForLink : InputLine → Type 0
IsForLink (input.Upload Mission items) = IsPlainMission items
IsForLink input.Wait = Unit {0}
IsForLink (input.Meet place count) = place < MAX_PLACES
IsForLink other = ⊥

-- the requests of the link that are outstanding, by its session
abbrev pub session_out : Session → ℕ
session_out Free = 0
session_out (Receiving id count seq) = 0
session_out (Writing id count seq) = 1
session_out (Committing id count) = 1

-- the session may hear a reply
abbrev pub HearsFits : Session → Type 0
HearsFits (Writing id count seq) = seq < count
HearsFits (Committing id count) = Unit {0}
HearsFits other = ⊥

-- the link fits the shared part: a request of its own is outstanding exactly where its session waits for a reply
pub record LinkFits (s : SharedState) (l : LinkState) : Type 0 where
  pub outstanding : outstanding s.board (Link l.number) ≡ session_out l.session
  pub session : SessionFits l.schedule l.session
  pub inputs : All IsForLink l.schedule.inputs
