-- What a line of a link leaves of the board, the transfer and the plan that the link brings.
use Rattle.std.proofs.Common.{◌≡◌, ◌⊎◌, inl, inr, ℕ, ◌==◌, Bool, true, false, List, [], ◌∷◌, drop, length, Option, Some, refl, sym, subst, ap, ◌∙◌, arith}
use Rattle.std.specs.Prelude.{if◌then◌else◌}
use Rattle.std.proofs.lemmas.Bool.Decides.{nat_tests}
use Rattle.mission_model.specs.declared.plan.Item.{Item}
use Rattle.mission_model.specs.declared.request.Asked.{Asked}
use Rattle.mission_model.specs.declared.request.Client.{Client}
use Rattle.mission_model.specs.declared.request.Client.TheVariants.{Link}
use Rattle.mission_model.specs.declared.request.Reply.{Reply}
use Rattle.mission_model.specs.declared.message.Answer.{Answer}
use Rattle.mission_model.specs.declared.flight_line.Line.{Line}
use Rattle.mission_model.specs.declared.flight_line.Line.TheVariants as line
use Rattle.request_board.specs.BoardState.{BoardState, HasClient, posted, open_asks}
use Rattle.request_board.specs.BoardCalls.{heard}
use Rattle.request_board.specs.Frames.{heard_own}
use Rattle.transfer_lock.specs.TransferState.{TransferState}
use Rattle.upload_session.specs.SessionLaw.{Outcome, message_law, reply_law}
use Rattle.upload_session.specs.declared.session.Stage.{Stage}
use Rattle.upload_session.specs.declared.session.Stage.TheVariants as stage
use Rattle.upload_session.specs.SessionState.{SessionState, SessionFits, Awaits, AwaitsOnly, IsHolder, link_of}
use Rattle.upload_session.specs.Sessions.{AwaitsOnly-first}
use Rattle.vehicle_core.specs.ScheduleState.{ScheduleState}
use Rattle.vehicle_core.specs.Told.{SharedTold, LinkTold}
use Rattle.vehicle_core.specs.Ready.{has_first, Turn, Replies, Goes, Rests, has_reply, is_free, on_schedule, asking_turn}
use Rattle.vehicle_core.specs.ActorStep.{ClientStep, LinkStep, Answers, after_message, after_hearing}
use Rattle.vehicle_core.specs.UploadFits.{BoardFits, DraftFits}
use Rattle.vehicle_core.specs.UploadLaws.{SameClients, LawKeeps, HoldsGrant, message_keeps, reply_keeps, heard_fits, heard_clients}

-- What is told by a turn.

free_none : (asks : List Asked) → (length asks == 0) ≡ true → asks ≡ []
free_none [] is = refl
free_none (asked ∷ asks) is = absurd (grind (arith, nat_tests))

no_first : (replies : List (Asked × Reply)) → has_first replies ≡ false → replies ≡ []
no_first [] is = refl
no_first (first ∷ rest) is = absurd cc

goes_if : (replies free : Bool) (turn : Turn) → (if replies then Replies else (if free then turn else Rests)) ≡ Goes → (replies ≡ false) × (free ≡ true)
goes_if true free turn is = absurd cc
goes_if false true turn is = (refl, refl)
goes_if false false turn is = absurd cc

-- a client whose schedule goes on has no reply to take, and nothing outstanding
pub goes_free : (t : SharedTold) (client : Client) (s : ScheduleState) → asking_turn t client s ≡ Goes → (posted t.board client ≡ []) × (open_asks t.board client ≡ [])
goes_free t client s is =
    let both = goes_if (has_reply t.board client) (is_free t.board client) (on_schedule t client s) is in
    (no_first (posted t.board client) both.0, free_none (open_asks t.board client) both.1)

-- A meeting or a wait.

-- nothing changes but the arrivals, and the inputs that are left
pub record ClientStays (t : SharedTold) (s : ScheduleState) (t' : SharedTold) (s' : ScheduleState) : Type 0 where
  pub shared : t' ≡ record t { arrived = t'.arrived }
  pub inputs : (s'.inputs ≡ s.inputs) ⊎ (s'.inputs ≡ drop 1 s.inputs)

pub client_stays : (client : Client) (t : SharedTold) (s : ScheduleState) (made : Line) (t' : SharedTold) (s' : ScheduleState) → ClientStep client t s made t' s' → ClientStays t s t' s'
client_stays client t s (line.Arrived who place) t' s' h = record { shared = h.1.shared ∙ ap (λ (x : SharedTold). record t { arrived = x.arrived }) (sym h.1.shared); inputs = inl (ap (λ (x : ScheduleState). x.inputs) h.1.after) }
client_stays client t s (line.Met who place) t' s' h = record { shared = h.1.shared ∙ ap (λ (x : SharedTold). record t { arrived = x.arrived }) (sym h.1.shared); inputs = inr (ap (λ (x : ScheduleState). x.inputs) h.1.after) }
client_stays client t s (line.Waited who) t' s' h = record { shared = h.1.shared ∙ ap (λ (x : SharedTold). record t { arrived = x.arrived }) (sym h.1.shared); inputs = inr (ap (λ (x : ScheduleState). x.inputs) h.1.after) }
client_stays client t s (line.Boot number heads mark) t' s' h = elim h [ ]
client_stays client t s (line.BootCut number) t' s' h = elim h [ ]
client_stays client t s (line.Sent number said given) t' s' h = elim h [ ]
client_stays client t s (line.Heard number given said) t' s' h = elim h [ ]
client_stays client t s (line.Took who about) t' s' h = elim h [ ]
client_stays client t s (line.Served who given) t' s' h = elim h [ ]
client_stays client t s (line.Got about given) t' s' h = elim h [ ]
client_stays client t s (line.Nav given entry) t' s' h = elim h [ ]
client_stays client t s (line.Dropped kind seq) t' s' h = elim h [ ]
client_stays client t s (line.WatchDid number given note asks) t' s' h = elim h [ ]
client_stays client t s (line.WatchGot number about given note asks) t' s' h = elim h [ ]
client_stays client t s line.End t' s' h = elim h [ ]
client_stays client t s line.Stuck t' s' h = elim h [ ]

-- A link.

-- what a line of a link leaves
pub record LinkLeaves (t t' : SharedTold) (l' : LinkTold) : Type 0 where
  pub board : BoardFits t'.transfer t'.board
  pub draft : DraftFits t'.transfer t'.board.published l'.upload
  pub clients : SameClients t.board t'.board

-- where a link has a request outstanding, it is the only one, and the link holds the grant
abbrev pub WaitsForOne : SharedTold → LinkTold → Type 0
WaitsForOne t l = (asked : Asked) (rest : List Asked) → open_asks t.board (Link l.number) ≡ asked ∷ rest → (rest ≡ []) × (t.transfer.holder ≡ Some l.number)

answers_leave : (o : Outcome) (t : SharedTold) (l : LinkTold) (s : ScheduleState) (given : Answer) (t' : SharedTold) (l' : LinkTold) (b : BoardState) → SameClients t.board b → Answers o t l s given t' l' → LawKeeps b o → LinkLeaves t t' l'
answers_leave o t l s given t' l' b first answers keeps =
    let concrete : LinkLeaves t (record t { board = o.board; transfer = o.transfer }) (record { number = l.number; upload = o.link; schedule = s }) = record {
      board = keeps.board;
      draft = keeps.draft;
      clients = record { links = keeps.clients.links ∙ first.links; watchers = keeps.clients.watchers ∙ first.watchers };
    } in
    subst (λ (x : SharedTold × LinkTold). LinkLeaves t x.0 x.1) (λ k. (sym answers.shared k, sym answers.link k)) concrete

rests_leave : (t : SharedTold) (l : LinkTold) (t' : SharedTold) (l' : LinkTold) → BoardFits t.transfer t.board → DraftFits t.transfer t.board.published l.upload → t' ≡ record t { arrived = t'.arrived } → l' ≡ record l { schedule = l'.schedule } → LinkLeaves t t' l'
rests_leave t l t' l' fits draft shared link =
    let concrete : LinkLeaves t (record t { arrived = t'.arrived }) (record l { schedule = l'.schedule }) = record { board = fits; draft = draft; clients = record { links = refl; watchers = refl } } in
    subst (λ (x : SharedTold × LinkTold). LinkLeaves t x.0 x.1) (λ k. (sym shared k, sym link k)) concrete

pub link_step_leaves : (t : SharedTold) (l : LinkTold) (made : Line) (t' : SharedTold) (l' : LinkTold) → HasClient t.board (Link l.number) → BoardFits t.transfer t.board → HoldsGrant l.upload l.number t.transfer.holder → DraftFits t.transfer t.board.published l.upload → WaitsForOne t l → LinkStep t l made t' l' → LinkLeaves t t' l'
link_step_leaves t l (line.Sent number said given) t' l' has fits grant draft waits h =
    answers_leave (message_law l.number l.upload h.2.message t.transfer t.board) t l (after_message l.schedule.inputs given l.schedule) given t' l' t.board (record { links = refl; watchers = refl }) h.2.answers
    (message_keeps l.number l.upload h.2.message t.transfer t.board fits (goes_free t (Link l.number) l.schedule h.1).1 grant draft)
link_step_leaves t l (line.Heard number given said) t' l' has fits grant draft waits h =
    let b : BoardState = heard t.board (Link l.number) h.2.rest in
    let first : open_asks t.board (Link l.number) ≡ h.2.about ∷ open_asks b (Link l.number) = heard_own t.board (Link l.number) (h.2.about, given) h.2.rest has h.2.first in
    let one = waits h.2.about (open_asks b (Link l.number)) first in
    answers_leave (reply_law l.number l.upload given t.transfer b) t l (after_hearing l.schedule.inputs l.schedule.begun said l.schedule) said t' l' b (heard_clients t.board (Link l.number) h.2.rest) h.2.answers
    (reply_keeps l.number l.upload given t.transfer b (heard_fits t.transfer t.board (Link l.number) h.2.rest fits) one.0 one.1 draft)
link_step_leaves t l (line.Arrived who place) t' l' has fits grant draft waits h = rests_leave t l t' l' fits draft (client_stays (Link l.number) t l.schedule (line.Arrived who place) t' l'.schedule h.1.step).shared h.1.link
link_step_leaves t l (line.Met who place) t' l' has fits grant draft waits h = rests_leave t l t' l' fits draft (client_stays (Link l.number) t l.schedule (line.Met who place) t' l'.schedule h.1.step).shared h.1.link
link_step_leaves t l (line.Waited who) t' l' has fits grant draft waits h = rests_leave t l t' l' fits draft (client_stays (Link l.number) t l.schedule (line.Waited who) t' l'.schedule h.1.step).shared h.1.link
link_step_leaves t l (line.Boot number heads mark) t' l' has fits grant draft waits h = elim h.1.step [ ]
link_step_leaves t l (line.BootCut number) t' l' has fits grant draft waits h = elim h.1.step [ ]
link_step_leaves t l (line.Took who about) t' l' has fits grant draft waits h = elim h.1.step [ ]
link_step_leaves t l (line.Served who given) t' l' has fits grant draft waits h = elim h.1.step [ ]
link_step_leaves t l (line.Got about given) t' l' has fits grant draft waits h = elim h.1.step [ ]
link_step_leaves t l (line.Nav given entry) t' l' has fits grant draft waits h = elim h.1.step [ ]
link_step_leaves t l (line.Dropped kind seq) t' l' has fits grant draft waits h = elim h.1.step [ ]
link_step_leaves t l (line.WatchDid number given note asks) t' l' has fits grant draft waits h = elim h.1.step [ ]
link_step_leaves t l (line.WatchGot number about given note asks) t' l' has fits grant draft waits h = elim h.1.step [ ]
link_step_leaves t l line.End t' l' has fits grant draft waits h = elim h.1.step [ ]
link_step_leaves t l line.Stuck t' l' has fits grant draft waits h = elim h.1.step [ ]

-- what the code keeps of the session tells the same
pub grant_told : (st : Stage) (items : List Item) (number : ℕ) (holder : Option ℕ) → IsHolder st number holder → HoldsGrant (link_of st items) number holder
grant_told stage.Free items number holder h = h
grant_told (stage.Receiving d) items number holder h = h
grant_told (stage.Writing d) items number holder h = h
grant_told (stage.Committing next) items number holder h = h

awaits_holder : (st : Stage) (asked : Asked) (number : ℕ) (holder : Option ℕ) → Awaits st asked → IsHolder st number holder → holder ≡ Some number
awaits_holder stage.Free asked number holder awaits grant = absurd awaits
awaits_holder (stage.Receiving d) asked number holder awaits grant = grant
awaits_holder (stage.Writing d) asked number holder awaits grant = grant
awaits_holder (stage.Committing next) asked number holder awaits grant = grant

pub waits_one : (s : SessionState) (t : TransferState) (b : BoardState) (asked : Asked) (rest : List Asked) → SessionFits s t b → open_asks b (Link s.link) ≡ asked ∷ rest → (rest ≡ []) × (t.holder ≡ Some s.link)
waits_one s t b asked rest fits is =
    let one = AwaitsOnly-first s.stage asked rest (subst (AwaitsOnly s.stage) is fits.asks) in
    (one.1, awaits_holder s.stage asked s.link t.holder one.0 fits.grant)
