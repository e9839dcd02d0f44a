-- What each line of a record says of the vehicle: where it holds, and what it does. Forms of lines that no run makes yet
-- never come; the work that brings such a form writes its row.
use Rattle.std.specs.Prelude.{◌≡◌, ◌≢◌, ℕ, ◌+◌, ◌<◌, ◌≤◌, ◌==◌, ◌&&◌, not, Bool, true, false, List, length, Option, Some, None, option_map}
use Rattle.first_model.specs.declared.counts.Mark.{Mark}
use Rattle.first_model.specs.declared.command.TheConstants.{NAV_LOITER_UNLIM}
use Rattle.first_model.specs.declared.limits.TheConstants.{LAST_GENERATION}
use Rattle.first_model.specs.declared.plan.PlanType.{PlanType}
use Rattle.first_model.specs.declared.plan.PlanHead.{PlanHead}
use Rattle.first_model.specs.declared.plan.Item.{Item}
use Rattle.first_model.specs.declared.request.Client.{Client}
use Rattle.first_model.specs.declared.request.Asked.{Asked}
use Rattle.first_model.specs.declared.request.Asked.TheVariants as about
use Rattle.first_model.specs.declared.request.Reply.{Reply}
use Rattle.first_model.specs.declared.request.Reply.TheVariants as reply
use Rattle.first_model.specs.declared.message.AckCode.TheVariants.{Accepted}
use Rattle.first_model.specs.declared.message.Answer.{Answer}
use Rattle.first_model.specs.declared.message.Answer.TheVariants as answer
use Rattle.first_model.specs.declared.vehicle.Mode.{Mode}
use Rattle.first_model.specs.declared.vehicle.Mode.TheVariants as mode
use Rattle.first_model.specs.declared.vehicle.VehicleLine.{VehicleLine}
use Rattle.first_model.specs.declared.vehicle.VehicleLine.TheVariants as event
use Rattle.first_model.specs.declared.vehicle.NavWhat.{NavWhat}
use Rattle.first_model.specs.declared.vehicle.NavWhat.TheVariants as what
use Rattle.first_model.specs.declared.flight_line.Line.{Line}
use Rattle.first_model.specs.declared.flight_line.Line.TheVariants as line
use Rattle.first_model.specs.Legs.{is_leg}
use Rattle.first_model.specs.PlanCode.{PlanValid}
use Rattle.first_vehicle.specs.PlanState.{told, told_at, CanBe, draft_of, with_written}
use Rattle.first_vehicle.specs.VehicleState.{VehicleState, plan_of, with_item_told, mission_count, head_at, booted, committed, last_served, reply_of, ended, index_taken, in_mission_mode}

-- the first boot of the record: its plans are as named, with their items untold; its mark is on this mission, at most at
-- its end
pub record Boots (number : ℕ) (heads : List PlanHead) (mark : Mark) (v' : VehicleState) : Type 0 where
  pub first : number ≡ 1
  pub mission : mark.id ≡ (head_at heads 0).id
  pub index : mark.index ≤ (head_at heads 0).count
  pub after : v' ≡ booted heads mark

-- the worker takes a request while none is in service; that marks are asked comes with the Navigator that keeps them
abbrev pub Takes : VehicleState → Client → Asked → VehicleState → Type 0
Takes v client (about.SetMark mark) v' = ⊥
Takes v client asked v' = (v.service ≡ None) × (v' ≡ record v { service = Some (client, asked) })

-- a read gives the plan's item, or tells an item that was untold
pub record Reads (v : VehicleState) (kind : PlanType) (id seq : ℕ) (item : Item) (v' : VehicleState) : Type 0 where
  pub in_force : id ≡ (plan_of v kind).id
  pub within : seq < length (plan_of v kind).items
  pub item_is : CanBe (told_at (plan_of v kind) seq) item
  pub after : v' ≡ with_item_told v kind seq item

-- a read of a plan that is not in force names the one that is
pub record IsStale (v : VehicleState) (kind : PlanType) (id now : ℕ) (v' : VehicleState) : Type 0 where
  pub in_force : now ≡ (plan_of v kind).id
  pub other : id ≢ now
  pub after : v' ≡ v

-- a draft that is whole and valid, of a higher id than the plan in force, takes its place
pub record Commits (v : VehicleState) (kind : PlanType) (id count : ℕ) (v' : VehicleState) : Type 0 where
  pub higher : (plan_of v kind).id < id
  pub whole : length (draft_of v.drafts kind id) ≡ count
  pub valid : PlanValid kind (draft_of v.drafts kind id)
  pub after : v' ≡ committed v kind (told id (draft_of v.drafts kind id))

-- what a service does by its reply; a commit of which the generation is spent changes nothing. A device that fails and a
-- power that is cut come with the store on a disk
abbrev pub Replies : VehicleState → Asked → Reply → VehicleState → Type 0
Replies v (about.Read kind id seq) (reply.Item item) v' = Reads v kind id seq item v'
Replies v (about.Read kind id seq) (reply.Stale now) v' = IsStale v kind id now v'
Replies v (about.Write kind id seq) reply.Done v' = v' ≡ v
Replies v (about.Commit kind id count) reply.Done v' = Commits v kind id count v'
Replies v (about.Commit kind id count) (reply.Spent last) v' = (last ≡ LAST_GENERATION) × (v' ≡ v)
Replies v asked given v' = ⊥

-- the request in service is served: its client has this reply
pub record Serves (v : VehicleState) (client : Client) (given : Reply) (v' : VehicleState) : Type 0 where
  pub asked : Asked
  pub in_service : v.service ≡ Some (client, asked)
  pub replies : Replies (ended v client asked given) asked given v'

-- the answer to a message: an item is written behind those of its draft; an index within the mission is asked for. No
-- message by itself is answered that an upload is accepted
abbrev pub Says : VehicleState → Answer → VehicleState → Type 0
Says v (answer.Ack Accepted) v' = ⊥
Says v (answer.Writes kind id seq item) v' = (seq ≡ length (draft_of v.drafts kind id)) × (v' ≡ record v { drafts = with_written v.drafts kind id item })
Says v (answer.CurrentIs seq) v' = (seq < mission_count v) × (v' ≡ record v { wanted = Some seq })
Says v other v' = v' ≡ v

-- a commit that is done
abbrev pub IsDoneCommit : Asked → Reply → Type 0
IsDoneCommit (about.Commit kind id count) reply.Done = Unit {0}
IsDoneCommit asked given = ⊥

-- an upload is answered accepted only once its commit is done
abbrev pub MayAnswer : Asked → Reply → Answer → Type 0
MayAnswer asked given (answer.Ack Accepted) = IsDoneCommit asked given
MayAnswer asked given other = Unit {0}

-- a link hears the reply of its request that was served last
pub record Hears (v : VehicleState) (link : ℕ) (given : Reply) (said : Answer) (v' : VehicleState) : Type 0 where
  pub asked : Asked
  pub served : option_map reply_of (last_served v.served link) ≡ Some (asked, given)
  pub answer : MayAnswer asked given said
  pub after : v' ≡ v

-- the leg of the item at the index, of the plans in force
pub record Flies (v : VehicleState) (seq mission fence : ℕ) (item : Item) (v' : VehicleState) : Type 0 where
  pub seq_is : seq ≡ v.index
  pub mission_is : mission ≡ v.mission.id
  pub fence_is : fence ≡ v.fence.id
  pub item_is : told_at v.mission v.index ≡ Some item
  pub leg : is_leg item.command ≡ true
  pub after : v' ≡ record v { at_leg = true }

-- the mission's end, of the plans in force
pub record IsOver (v : VehicleState) (mission fence : ℕ) (v' : VehicleState) : Type 0 where
  pub some : 0 < mission_count v
  pub end : v.index ≡ mission_count v
  pub mission_is : mission ≡ v.mission.id
  pub fence_is : fence ≡ v.fence.id
  pub after : v' ≡ v

-- a look in Mission mode; that a mission is judged, and that an item is no leg, come with the Navigator that judges
-- missions and follows jumps
abbrev pub LooksOn : VehicleState → NavWhat → VehicleState → Type 0
LooksOn v what.HoldEmpty v' = (mission_count v ≡ 0) × (v' ≡ v)
LooksOn v (what.Pending kind seq) v' = (0 < mission_count v) × (v' ≡ v)
LooksOn v (what.Done mission fence) v' = IsOver v mission fence v'
LooksOn v (what.Leg seq mission fence item) v' = Flies v seq mission fence item v'
LooksOn v other v' = ⊥

-- a look by the mode; returns come later
abbrev pub Looks : VehicleState → Mode → NavWhat → VehicleState → Type 0
Looks v mode.Hold what.Idle v' = v' ≡ v
Looks v mode.Mission given v' = LooksOn v given v'
Looks v other given v' = ⊥

-- the item is an unlimited loiter, which is never reached
abbrev pub is_endless : Option Item → Bool
is_endless None = false
is_endless (Some item) = item.command == NAV_LOITER_UNLIM

-- a leg of the index was shown, and its item can be reached
abbrev pub can_go_on : VehicleState → Bool
can_go_on v = v.at_leg && not (is_endless (told_at v.mission v.index))

-- a shown leg that is reached makes the next index; else nothing was reached
abbrev pub Reaches : VehicleState → NavWhat → VehicleState → Type 0
Reaches v (what.Next index) v' = (can_go_on v ≡ true) × (index ≡ v.index + 1) × (v' ≡ record v { index = index; at_leg = false })
Reaches v what.Ignored v' = (can_go_on v ≡ false) × (v' ≡ v)
Reaches v other v' = ⊥

-- a mode is taken; the mode of returns, and positions, come with returns
abbrev pub Switches : VehicleState → Mode → VehicleState → Type 0
Switches v mode.Hold v' = v' ≡ record v { mode = mode.Hold }
Switches v mode.Mission v' = v' ≡ in_mission_mode v
Switches v mode.Return v' = ⊥

-- an event and what the Navigator does at it
abbrev pub Acts : VehicleState → VehicleLine → NavWhat → VehicleState → Type 0
Acts v event.Tick given v' = Looks v v.mode given v'
Acts v event.Go given v' = Looks v v.mode given v'
Acts v event.Reached given v' = (v.mode ≢ mode.Return) × Reaches v given v'
Acts v (event.Mode mode) what.Taken v' = Switches v mode v'
Acts v other given v' = ⊥

-- a line once a boot is up; another boot, and a boot that is cut before it is up, come with boots over a disk. What has no
-- row changes nothing
abbrev pub Moves : VehicleState → Line → VehicleState → Type 0
Moves v (line.Boot number heads mark) v' = ⊥
Moves v (line.BootCut number) v' = ⊥
Moves v (line.Took client asked) v' = Takes v client asked v'
Moves v (line.Served client given) v' = Serves v client given v'
Moves v (line.Sent link said given) v' = Says v given v'
Moves v (line.Heard link given said) v' = Hears v link given said v'
Moves v (line.Nav event entry) v' = Acts (index_taken v v.wanted) event entry.what v'
Moves v other v' = v' ≡ v

-- a line before the first boot is up: the boot, or a line that says nothing of the vehicle
abbrev pub Begins : Line → Option VehicleState → Type 0
Begins (line.Boot number heads mark) (Some v') = Boots number heads mark v'
Begins (line.Boot number heads mark) None = ⊥
Begins (line.BootCut number) new = ⊥
Begins (line.Took client asked) new = ⊥
Begins (line.Served client given) new = ⊥
Begins (line.Sent link said given) new = ⊥
Begins (line.Heard link given said) new = ⊥
Begins (line.Nav event entry) new = ⊥
Begins other new = new ≡ None

-- one line, from the vehicle before it to the vehicle after it; there is none before the first boot is up
abbrev pub VehicleStep : Option VehicleState → Line → Option VehicleState → Type 0
VehicleStep None line new = Begins line new
VehicleStep (Some v) line (Some v') = Moves v line v'
VehicleStep (Some v) line None = ⊥
