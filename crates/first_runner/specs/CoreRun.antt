-- The lines of a boot are a run of its actors: each line is made by an actor that is ready, as that actor's law says, and
-- moves the vehicle; the end comes where nobody is ready.
use Rattle.std.specs.Prelude.{◌≡◌, ℕ, suc, ◌+◌, ◌<◌, ◌≤◌, ◌⊎◌, Bool, true, false, List, [], ◌∷◌, ◌++◌, length, take, Option, Some, None, slice_get}
use Rattle.first_model.specs.declared.limits.TheConstants.{MAX_MISSION_ITEMS}
use Rattle.first_model.specs.declared.plan.PlanType.TheVariants.{Mission}
use Rattle.first_model.specs.declared.plan.PlanHead.{PlanHead}
use Rattle.first_model.specs.declared.plan.Item.{Item}
use Rattle.first_model.specs.declared.counts.Mark.{Mark}
use Rattle.first_model.specs.declared.request.Client.{Client}
use Rattle.first_model.specs.declared.request.Client.TheVariants as client
use Rattle.first_model.specs.declared.request.Asked.{Asked}
use Rattle.first_model.specs.declared.request.Reply.{Reply}
use Rattle.first_model.specs.declared.request.Reply.TheVariants as reply
use Rattle.first_model.specs.declared.message.AckCode.TheVariants.{Accepted, Error, NoSpace}
use Rattle.first_model.specs.declared.message.Answer.{Answer}
use Rattle.first_model.specs.declared.message.Answer.TheVariants as answer
use Rattle.first_model.specs.declared.message.Said.{Said}
use Rattle.first_model.specs.declared.message.Said.TheVariants as said
use Rattle.first_model.specs.declared.vehicle.NavWhat.{NavWhat}
use Rattle.first_model.specs.declared.vehicle.NavWhat.TheVariants as what
use Rattle.first_model.specs.declared.schedule.BootScript.{BootScript}
use Rattle.first_model.specs.declared.schedule.InputLine.{InputLine}
use Rattle.first_model.specs.declared.schedule.InputLine.TheVariants as input
use Rattle.first_model.specs.declared.flight_line.Actor.{Actor}
use Rattle.first_model.specs.declared.flight_line.Line.{Line}
use Rattle.first_model.specs.declared.flight_line.Line.TheVariants as line
use Rattle.first_model.specs.PlanCode.{PlanCode}
use Rattle.first_board.specs.BoardState.{limit}
use Rattle.first_vehicle.specs.VehicleState.{VehicleState, mission_count, index_taken, head_at, booted}
use Rattle.first_vehicle.specs.VehicleStep.{Moves}
use Rattle.first_core.specs.ScheduleState.{ScheduleState}
use Rattle.first_runner.specs.BootTold.{BootTold, LinkTold, SessionTold, Free, Receiving, Writing, Committing, open_asks, next_reply, in_service, link_at, schedule_of, is_known, wanted, told_after, begun}
use Rattle.first_runner.specs.BootReady.{maker_of, is_ready, is_any_ready, is_finished}
use Rattle.first_runner.specs.Round.{round_of}

-- the current input of a schedule is this one
abbrev pub IsCurrent : InputLine → ScheduleState → Type 0
IsCurrent current schedule = (rest : List InputLine) × (schedule.inputs ≡ current ∷ rest)

-- the Count of an upload that has not begun, of a plan within the limit: its first item is requested where an id is left
abbrev pub SaysCount : BootTold → LinkTold → ℕ → ℕ → Answer → Type 0
SaysCount t l kind count given =
    (items : List Item) × IsCurrent (input.Upload Mission items) l.schedule × (l.schedule.begun ≡ false) × (kind ≡ 0) × (count ≡ length items) × (0 < count) × (count ≤ MAX_MISSION_ITEMS)
    × (((t.last_id < 4294967295) × (given ≡ answer.RequestInt 0)) ⊎ ((t.last_id ≡ 4294967295) × (given ≡ answer.Ack NoSpace)))

-- the item of an upload that is requested, which the plan check accepts behind those before it: it is to be written
abbrev pub SaysItem : LinkTold → SessionTold → ℕ → Answer → Type 0
SaysItem l (Receiving id count next) seq given =
    (items : List Item) × IsCurrent (input.Upload Mission items) l.schedule × (seq ≡ next) × (item : Item) × (slice_get items seq ≡ Some item) × (PlanCode Mission count (take seq items) item ≡ None)
    × (given ≡ answer.Writes Mission id seq item)
SaysItem l session seq given = ⊥

-- a message of a link and its answer
abbrev pub SaysLaw : BootTold → LinkTold → Said → Answer → Type 0
SaysLaw t l (said.Count kind count) given = SaysCount t l kind count given
SaysLaw t l (said.Item seq) given = SaysItem l l.session seq given
SaysLaw t l other given = ⊥

-- the answer to a reply that is done: the next item is requested, or after the last one the commit is asked; after the
-- commit the upload is accepted
abbrev pub DoneLaw : SessionTold → Answer → Type 0
DoneLaw (Writing id count seq) given = ((seq + 1 < count) × (given ≡ answer.RequestInt (seq + 1))) ⊎ ((seq + 1 ≡ count) × (given ≡ answer.Commits Mission id count))
DoneLaw (Committing id count) given = given ≡ answer.Ack Accepted
DoneLaw session given = ⊥

-- the answer to a reply
abbrev pub HearsLaw : SessionTold → Reply → Answer → Type 0
HearsLaw session reply.Done given = DoneLaw session given
HearsLaw session other given = given ≡ answer.Ack Error

-- what an event shows of the item at the index, and how much it asks: the item is pending exactly where the mission has
-- one there that is not known, and a leg only where it is known; other events ask nothing
abbrev pub ShowsLaw : BootTold → VehicleState → NavWhat → ℕ → Type 0
ShowsLaw t v (what.Pending kind seq) asks = (kind ≡ Mission) × (seq ≡ v.index) × (v.index < mission_count v) × (is_known t v.mission.id v.index ≡ false) × (asks ≡ length (wanted t v))
ShowsLaw t v (what.Leg seq mission fence item) asks = (is_known t v.mission.id v.index ≡ true) × (asks ≡ length (wanted t v))
ShowsLaw t v other asks = asks ≡ 0

-- what the law of its actor says of a line. A reply goes first: no other step comes while one waits to be taken
abbrev pub LineLaw : BootTold → VehicleState → Line → Type 0
LineLaw t v (line.Took client asked) = (in_service t ≡ None) × (slice_get t.asked t.taken ≡ Some (client, asked))
LineLaw t v (line.Served client given) = (asked : Asked) × (in_service t ≡ Some (client, asked))
LineLaw t v (line.Sent link message given) = (next_reply t (client.Link link) ≡ None) × SaysLaw t (link_at t link) message given
LineLaw t v (line.Heard link given said) = (asked : Asked) × (next_reply t (client.Link link) ≡ Some (asked, given)) × HearsLaw (link_at t link).session given said
LineLaw t v (line.Got asked given) = next_reply t client.Nav ≡ Some (asked, given)
LineLaw t v (line.Nav event entry) = (next_reply t client.Nav ≡ None) × IsCurrent (input.Vehicle event) t.nav × ShowsLaw t v entry.what entry.asked
LineLaw t v (line.Arrived client place) = (next_reply t client ≡ None) × (count : ℕ) × IsCurrent (input.Meet place count) (schedule_of t client) × ((schedule_of t client).begun ≡ false)
LineLaw t v (line.Met client place) = (next_reply t client ≡ None) × (count : ℕ) × IsCurrent (input.Meet place count) (schedule_of t client) × ((schedule_of t client).begun ≡ true)
LineLaw t v (line.Waited client) = (next_reply t client ≡ None) × IsCurrent input.Wait (schedule_of t client)
LineLaw t v other = ⊥

-- no client has asked more, and not taken the reply, than its limit
abbrev pub IsWithin : BootTold → Type 0
IsWithin t = (client : Client) → length (open_asks t client) ≤ limit client

-- a line is lawful after what was told; v is the vehicle, once an event has taken the wanted index
pub record Lawful (t : BootTold) (v : VehicleState) (line : Line) : Type 0 where
  pub maker : Actor
  pub made_by : maker_of line ≡ Some maker
  pub ready : is_ready t maker ≡ true
  pub law : LineLaw t v line
  pub within : IsWithin (told_after t v line)

-- the lines lead from what was told, and the vehicle, to what is told after them, and the vehicle then
abbrev pub Goes : BootTold → VehicleState → List Line → BootTold → VehicleState → Type 0
Goes t v [] t' v' = (t' ≡ t) × (v' ≡ v)
Goes t v (line ∷ lines) t' v' = (mid : VehicleState) × Lawful t (index_taken v v.wanted) line × Moves v line mid × Goes (told_after t (index_taken v v.wanted) line) mid lines t' v'

-- how a part ends: nobody is ready, and every schedule is finished or one is not
abbrev pub Ends : BootTold → List Actor → Line → Type 0
Ends t actors line.End = (is_any_ready t actors ≡ false) × (is_finished t ≡ true)
Ends t actors line.Stuck = (is_any_ready t actors ≡ false) × (is_finished t ≡ false)
Ends t actors other = ⊥

-- the first line of a boot whose mark is on its mission, and the lines of its actors as far as they come
pub record Partly (boot : BootScript) (lines : List Line) : Type 0 where
  pub heads : List PlanHead
  pub mark : Mark
  pub body : List Line
  pub lines_are : lines ≡ line.Boot 1 heads mark ∷ body
  pub mission : mark.id ≡ (head_at heads 0).id
  pub index : mark.index ≤ (head_at heads 0).count
  pub told : BootTold
  pub vehicle : VehicleState
  pub goes : Goes (begun boot (head_at heads 0).id) (booted heads mark) body told vehicle

-- the record of the boot, whole: such lines, and then its end
pub record CoreRun (boot : BootScript) (lines : List Line) : Type 0 where
  pub front : List Line
  pub last : Line
  pub lines_are : lines ≡ front ++ last ∷ []
  pub part : Partly boot front
  pub ends : Ends part.told (round_of boot.links) last

-- the record of the boot, as far as it came: empty, stopped within the part, or whole
abbrev pub CoreSoFar : BootScript → List Line → Type 0
CoreSoFar boot lines = (lines ≡ []) ⊎ Partly boot lines ⊎ CoreRun boot lines
