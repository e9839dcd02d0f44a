-- The lines of the links.
use Rattle.std.specs.Prelude.{◌≡◌, ℕ, ◌<◌, true, length, Some}
use Rattle.std.specs.Option.{option_map}
use Rattle.mission_model.specs.declared.request.Asked.{Asked}
use Rattle.mission_model.specs.declared.request.Asked.TheVariants as about
use Rattle.mission_model.specs.declared.request.Reply.{Reply}
use Rattle.mission_model.specs.declared.request.Reply.TheVariants as reply
use Rattle.mission_model.specs.declared.message.AckCode.TheVariants.{Accepted}
use Rattle.mission_model.specs.declared.message.Answer.{Answer}
use Rattle.mission_model.specs.declared.message.Answer.TheVariants as answer
use Rattle.plan_vehicle.specs.Drafts.{draft_of, with_written}
use Rattle.plan_vehicle.specs.VehicleState.{VehicleState, mission_count}
use Rattle.plan_vehicle.specs.Requests.{last_served, reply_of}

-- what the answer to a message does: an item is written behind those of its draft; an index within the mission is asked
-- for. No message by itself is answered that an upload is accepted
abbrev pub Answers : VehicleState → Answer → VehicleState → Type 0
Answers v (answer.Ack Accepted) v' = ⊥
Answers v (answer.Writes kind id seq item) v' = (seq ≡ length (draft_of v.drafts kind id)) × (v' ≡ record v { drafts = with_written v.drafts kind id item })
Answers v (answer.CurrentIs seq) v' = (seq < mission_count v) × (v' ≡ record v { wanted = Some seq })
Answers v other v' = v' ≡ v

-- a link's message is handled
pub record Says (v : VehicleState) (given : Answer) (v' : VehicleState) : Type 0 where
  pub up : v.is_up ≡ true
  pub answers : Answers v given v'

-- a commit that is done
abbrev pub IsDoneCommit : Asked → Reply → Type 0
IsDoneCommit (about.Commit kind id count) reply.Done = Unit {0}
IsDoneCommit asked given = ⊥

-- an upload is answered accepted only once its commit is done
abbrev pub MayAnswer : Asked → Reply → Answer → Type 0
MayAnswer asked given (answer.Ack Accepted) = IsDoneCommit asked given
MayAnswer asked given other = Unit {0}

-- a link hears the reply of its request that was served last
pub record Hears (v : VehicleState) (link : ℕ) (given : Reply) (said : Answer) (v' : VehicleState) : Type 0 where
  pub asked : Asked
  pub served : option_map reply_of (last_served v.served link) ≡ Some (asked, given)
  pub answer : MayAnswer asked given said
  pub after : v' ≡ v
