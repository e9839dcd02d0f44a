-- Lines leave no choice: from one vehicle a line leads to at most one, and so do the lines of a run.
use Rattle.std.specs.Prelude.{◌≡◌, List, [], ◌∷◌, Option, Some, None}
use Rattle.std.proofs.Common.{sym, ap, ◌∙◌, subst}
use Rattle.first_model.specs.declared.request.Client.{Client}
use Rattle.first_model.specs.declared.request.Asked.{Asked}
use Rattle.first_model.specs.declared.request.Asked.TheVariants as about
use Rattle.first_model.specs.declared.request.Reply.{Reply}
use Rattle.first_model.specs.declared.request.Reply.TheVariants as reply
use Rattle.first_model.specs.declared.message.AckCode.TheVariants.{Accepted}
use Rattle.first_model.specs.declared.message.Answer.{Answer}
use Rattle.first_model.specs.declared.message.Answer.TheVariants as answer
use Rattle.first_model.specs.declared.vehicle.Mode.{Mode}
use Rattle.first_model.specs.declared.vehicle.Mode.TheVariants as mode
use Rattle.first_model.specs.declared.vehicle.VehicleLine.{VehicleLine}
use Rattle.first_model.specs.declared.vehicle.VehicleLine.TheVariants as event
use Rattle.first_model.specs.declared.vehicle.NavWhat.{NavWhat}
use Rattle.first_model.specs.declared.vehicle.NavWhat.TheVariants as what
use Rattle.first_model.specs.declared.flight_line.Line.{Line}
use Rattle.first_model.specs.declared.flight_line.Line.TheVariants as line
use Rattle.first_vehicle.specs.VehicleState.{VehicleState, ended}
use Rattle.first_vehicle.specs.VehicleStep.{VehicleStep, Moves, Takes, Replies, Serves, Says, Acts, Looks, LooksOn, Reaches, Switches, Begins}
use Rattle.first_vehicle.specs.VehicleRun.{Lines}

Takes-one : (v : VehicleState) (client : Client) (asked : Asked) (a b : VehicleState) → Takes v client asked a → Takes v client asked b → a ≡ b
Takes-one v client (about.SetMark mark) a b h k = absurd h
Takes-one v client asked a b h k = h.1 ∙ sym k.1

Replies-one : (v : VehicleState) (asked : Asked) (given : Reply) (a b : VehicleState) → Replies v asked given a → Replies v asked given b → a ≡ b
Replies-one v (about.Read kind id seq) (reply.Item item) a b h k = h.after ∙ sym k.after
Replies-one v (about.Read kind id seq) (reply.Stale now) a b h k = h.after ∙ sym k.after
Replies-one v (about.Write kind id seq) reply.Done a b h k = h ∙ sym k
Replies-one v (about.Commit kind id count) reply.Done a b h k = h.after ∙ sym k.after
Replies-one v (about.Commit kind id count) (reply.Spent last) a b h k = h.1 ∙ sym k.1
Replies-one v asked given a b h k = absurd h

-- what a client asked, where something is in service
abbrev asked_in : Asked → Option (Client × Asked) → Asked
asked_in asked None = asked
asked_in asked (Some service) = service.1

same_asked : (client : Client) (asked other : Asked) → ◌≡◌ {A = Option (Client × Asked)} (Some (client, asked)) (Some (client, other)) → asked ≡ other
same_asked client asked other h = ap (asked_in asked) h

Serves-one : (v : VehicleState) (client : Client) (given : Reply) (a b : VehicleState) → Serves v client given a → Serves v client given b → a ≡ b
Serves-one v client given a b h k =
    let same : k.asked ≡ h.asked = same_asked client k.asked h.asked (sym k.in_service ∙ h.in_service) in
    Replies-one (ended v client h.asked given) h.asked given a b h.replies (subst (λ asked. Replies (ended v client asked given) asked given b) same k.replies)

Says-one : (v : VehicleState) (given : Answer) (a b : VehicleState) → Says v given a → Says v given b → a ≡ b
Says-one v (answer.Ack Accepted) a b h k = absurd h
Says-one v (answer.Writes kind id seq item) a b h k = h.1 ∙ sym k.1
Says-one v (answer.CurrentIs seq) a b h k = h.1 ∙ sym k.1
Says-one v other a b h k = h ∙ sym k

LooksOn-one : (v : VehicleState) (given : NavWhat) (a b : VehicleState) → LooksOn v given a → LooksOn v given b → a ≡ b
LooksOn-one v what.HoldEmpty a b h k = h.1 ∙ sym k.1
LooksOn-one v (what.Pending kind seq) a b h k = h.1 ∙ sym k.1
LooksOn-one v (what.Done mission fence) a b h k = h.after ∙ sym k.after
LooksOn-one v (what.Leg seq mission fence item) a b h k = h.after ∙ sym k.after
LooksOn-one v other a b h k = absurd h

Looks-one : (v : VehicleState) (mode : Mode) (given : NavWhat) (a b : VehicleState) → Looks v mode given a → Looks v mode given b → a ≡ b
Looks-one v mode.Hold what.Idle a b h k = h ∙ sym k
Looks-one v mode.Mission given a b h k = LooksOn-one v given a b h k
Looks-one v mode given a b h k = absurd h

Reaches-one : (v : VehicleState) (given : NavWhat) (a b : VehicleState) → Reaches v given a → Reaches v given b → a ≡ b
Reaches-one v (what.Next index) a b h k = h.2 ∙ sym k.2
Reaches-one v what.Ignored a b h k = h.1 ∙ sym k.1
Reaches-one v given a b h k = absurd h

Switches-one : (v : VehicleState) (mode : Mode) (a b : VehicleState) → Switches v mode a → Switches v mode b → a ≡ b
Switches-one v mode.Hold a b h k = h ∙ sym k
Switches-one v mode.Mission a b h k = h ∙ sym k
Switches-one v mode.Return a b h k = absurd h

Acts-one : (v : VehicleState) (event : VehicleLine) (given : NavWhat) (a b : VehicleState) → Acts v event given a → Acts v event given b → a ≡ b
Acts-one v event.Tick given a b h k = Looks-one v v.mode given a b h k
Acts-one v event.Go given a b h k = Looks-one v v.mode given a b h k
Acts-one v event.Reached given a b h k = Reaches-one v given a b h.1 k.1
Acts-one v (event.Mode mode) what.Taken a b h k = Switches-one v mode a b h k
Acts-one v other given a b h k = absurd h

-- a line leads a vehicle to at most one
pub Moves-one : (v : VehicleState) (line : Line) (a b : VehicleState) → Moves v line a → Moves v line b → a ≡ b
Moves-one v (line.Boot number heads mark) a b h k = absurd h
Moves-one v (line.BootCut number) a b h k = absurd h
Moves-one v (line.Took client asked) a b h k = Takes-one v client asked a b h k
Moves-one v (line.Served client given) a b h k = Serves-one v client given a b h k
Moves-one v (line.Sent link said given) a b h k = Says-one v given a b h k
Moves-one v (line.Heard link given said) a b h k = h.after ∙ sym k.after
Moves-one v (line.Nav event entry) a b h k = Acts-one _ event entry.what a b h k
Moves-one v other a b h k = h ∙ sym k

Begins-one : (line : Line) (a b : Option VehicleState) → Begins line a → Begins line b → a ≡ b
Begins-one (line.Boot number heads mark) (Some a) (Some b) h k = ap (λ v. Some v) (h.after ∙ sym k.after)
Begins-one (line.Boot number heads mark) None b h k = absurd h
Begins-one (line.Boot number heads mark) (Some a) None h k = absurd k
Begins-one (line.BootCut number) a b h k = absurd h
Begins-one (line.Took client asked) a b h k = absurd h
Begins-one (line.Served client given) a b h k = absurd h
Begins-one (line.Sent link said given) a b h k = absurd h
Begins-one (line.Heard link given said) a b h k = absurd h
Begins-one (line.Nav event entry) a b h k = absurd h
Begins-one other a b h k = h ∙ sym k

-- a line leads to at most one vehicle
pub VehicleStep-one : (old : Option VehicleState) (line : Line) (a b : Option VehicleState) → VehicleStep old line a → VehicleStep old line b → a ≡ b
VehicleStep-one None line a b h k = Begins-one line a b h k
VehicleStep-one (Some v) line (Some a) (Some b) h k = ap (λ w. Some w) (Moves-one v line a b h k)
VehicleStep-one (Some v) line None b h k = absurd h
VehicleStep-one (Some v) line (Some a) None h k = absurd k

-- lines lead to at most one vehicle
pub Lines-one : (lines : List Line) (old a b : Option VehicleState) → Lines old lines a → Lines old lines b → a ≡ b
Lines-one [] old a b h k = h ∙ sym k
Lines-one (line ∷ lines) old a b h k =
    let same : k.0 ≡ h.0 = VehicleStep-one old line k.0 h.0 k.1 h.1 in
    Lines-one lines h.0 a b h.2 (subst (λ mid. Lines mid lines b) same k.2)
