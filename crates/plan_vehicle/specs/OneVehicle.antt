-- Lines leave no choice: from one vehicle a line leads to at most one, and so do the lines of a run.
use Rattle.std.specs.Prelude.{◌≡◌, ℕ, ◌≤◌, Bool, true, false, List, [], ◌∷◌, length, take, Option, Some, None, refl}
use Rattle.std.proofs.Common.{sym, ap, ap₂, ◌∙◌, subst, inl, inr, arith}
use Rattle.std.proofs.lemmas.List.{length-take-le, length-map}
use Rattle.mission_model.specs.declared.counts.Mark.{Mark}
use Rattle.mission_model.specs.declared.plan.PlanType.{PlanType}
use Rattle.mission_model.specs.declared.plan.PlanType.TheVariants.{Mission, Fence, Safe}
use Rattle.mission_model.specs.declared.plan.PlanHead.{PlanHead}
use Rattle.mission_model.specs.declared.request.Client.{Client}
use Rattle.mission_model.specs.declared.request.Asked.{Asked}
use Rattle.mission_model.specs.declared.request.Asked.TheVariants as about
use Rattle.mission_model.specs.declared.request.Reply.{Reply}
use Rattle.mission_model.specs.declared.request.Reply.TheVariants as reply
use Rattle.mission_model.specs.declared.message.AckCode.TheVariants.{Accepted}
use Rattle.mission_model.specs.declared.message.Answer.{Answer}
use Rattle.mission_model.specs.declared.message.Answer.TheVariants as answer
use Rattle.mission_model.specs.declared.vehicle.Look.{Look}
use Rattle.mission_model.specs.declared.vehicle.Mode.{Mode}
use Rattle.mission_model.specs.declared.vehicle.Mode.TheVariants as mode
use Rattle.mission_model.specs.declared.vehicle.VehicleLine.{VehicleLine}
use Rattle.mission_model.specs.declared.vehicle.VehicleLine.TheVariants as event
use Rattle.mission_model.specs.declared.vehicle.NavWhat.{NavWhat}
use Rattle.mission_model.specs.declared.vehicle.NavWhat.TheVariants as what
use Rattle.mission_model.specs.declared.flight_line.Line.{Line}
use Rattle.mission_model.specs.declared.flight_line.Line.TheVariants as line
use Rattle.mission_model.specs.PlainMark.{PlainMark, plain_mark}
use Rattle.mission_model.specs.PlanTypes.{head_of}
use Rattle.return_mode.specs.declared.plan.ReturnOut.{ReturnOut}
use Rattle.return_mode.specs.ReturnState.{ReturnState, after_out}
use Rattle.plan_vehicle.specs.PlanState.{plan_head}
use Rattle.plan_vehicle.specs.Drafts.{draft_of}
use Rattle.plan_vehicle.specs.VehicleState.{VehicleState, plan_of}
use Rattle.plan_vehicle.specs.Boots.{IsNamed, CanApply, applied, booted, Finds, Meets}
use Rattle.plan_vehicle.specs.Requests.{Replies, Fails, ended, Serves}
use Rattle.plan_vehicle.specs.Messages.{Answers}
use Rattle.plan_vehicle.specs.MissionEvents.{LooksOn, ReachesOn, index_taken}
use Rattle.plan_vehicle.specs.ReturnEvents.{IsWay, Shows, LooksBack, ReachesBack}
use Rattle.plan_vehicle.specs.VehicleStep.{VehicleStep, Looks, Reaches, Acts, passing}
use Rattle.plan_vehicle.specs.VehicleRun.{Lines}

head_for : (kind : PlanType) (v : VehicleState) (heads : List PlanHead) (mark : Mark) → IsNamed v heads mark → plan_head (plan_of v kind) ≡ head_of heads kind
head_for Mission v heads mark h = h.plans.mission
head_for Fence v heads mark h = h.plans.fence
head_for Safe v heads mark h = h.plans.safe

same_head : (kind : PlanType) (a b : VehicleState) (heads : List PlanHead) (mark : Mark) → IsNamed a heads mark → IsNamed b heads mark → plan_head (plan_of a kind) ≡ plan_head (plan_of b kind)
same_head kind a b heads mark h k = head_for kind a heads mark h ∙ sym (head_for kind b heads mark k)

-- the plan of the type of a commit that is made has its id and count
plan_of-applied : (v : VehicleState) (kind : PlanType) (id count : ℕ) → count ≤ length (draft_of v.drafts kind id) → plan_head (plan_of (applied v (about.Commit kind id count)) kind) ≡ record { id = id; count = count }
plan_of-applied v Mission id count within = ap (λ n. record { id = id; count = n }) (length-map (take count (draft_of v.drafts Mission id)) (λ item. Some item) ∙ length-take-le count (draft_of v.drafts Mission id) within)
plan_of-applied v Fence id count within = ap (λ n. record { id = id; count = n }) (length-map (take count (draft_of v.drafts Fence id)) (λ item. Some item) ∙ length-take-le count (draft_of v.drafts Fence id) within)
plan_of-applied v Safe id count within = ap (λ n. record { id = id; count = n }) (length-map (take count (draft_of v.drafts Safe id)) (λ item. Some item) ∙ length-take-le count (draft_of v.drafts Safe id) within)

-- a commit that is made cannot be told from the vehicle as it was, or from a mark: its plan is newer
newer_shows : (v found : VehicleState) (kind : PlanType) (id count : ℕ) (heads : List PlanHead) (mark : Mark) → CanApply v (about.Commit kind id count) → plan_head (plan_of found kind) ≡ plan_head (plan_of v kind) → IsNamed (applied v (about.Commit kind id count)) heads mark → IsNamed found heads mark → ⊥
newer_shows v found kind id count heads mark can same h k =
    let made : (plan_of (applied v (about.Commit kind id count)) kind).id ≡ id = ap (λ (x : PlanHead). x.id) (plan_of-applied v kind id count can.1) in
    let is : (plan_of (applied v (about.Commit kind id count)) kind).id ≡ (plan_of v kind).id = ap (λ (x : PlanHead). x.id) (same_head kind _ found heads mark h k ∙ same) in
    omega (arith, can.0, made, is)

-- the marks of two that are named alike
same_mark : (a b : VehicleState) (heads : List PlanHead) (mark : Mark) → IsNamed a heads mark → IsNamed b heads mark → a.mark ≡ b.mark
same_mark a b heads mark h k = h.same_mark ∙ sym k.same_mark

-- two commits of one type that are named alike are the same
same_commit : (v : VehicleState) (kind : PlanType) (id count id' count' : ℕ) (heads : List PlanHead) (mark : Mark) → CanApply v (about.Commit kind id count) → CanApply v (about.Commit kind id' count') → IsNamed (applied v (about.Commit kind id count)) heads mark → IsNamed (applied v (about.Commit kind id' count')) heads mark → applied v (about.Commit kind id count) ≡ applied v (about.Commit kind id' count')
same_commit v kind id count id' count' heads mark can can' h k =
    let heads_are : ◌≡◌ {A = PlanHead} (record { id = id; count = count }) (record { id = id'; count = count' }) = sym (plan_of-applied v kind id count can.1) ∙ same_head kind _ _ heads mark h k ∙ plan_of-applied v kind id' count' can'.1 in
    ap₂ (λ i n. applied v (about.Commit kind i n)) (ap (λ (x : PlanHead). x.id) heads_are) (ap (λ (x : PlanHead). x.count) heads_are)

-- and so are two commits that are named alike
commits_one : (v : VehicleState) (kind other : PlanType) (id count id' count' : ℕ) (heads : List PlanHead) (mark : Mark) → CanApply v (about.Commit kind id count) → CanApply v (about.Commit other id' count') → IsNamed (applied v (about.Commit kind id count)) heads mark → IsNamed (applied v (about.Commit other id' count')) heads mark → applied v (about.Commit kind id count) ≡ applied v (about.Commit other id' count')
commits_one v Mission Mission id count id' count' heads mark can can' h k = same_commit v Mission id count id' count' heads mark can can' h k
commits_one v Fence Fence id count id' count' heads mark can can' h k = same_commit v Fence id count id' count' heads mark can can' h k
commits_one v Safe Safe id count id' count' heads mark can can' h k = same_commit v Safe id count id' count' heads mark can can' h k
commits_one v Mission Fence id count id' count' heads mark can can' h k = absurd (newer_shows v (applied v (about.Commit Fence id' count')) Mission id count heads mark can refl h k)
commits_one v Mission Safe id count id' count' heads mark can can' h k = absurd (newer_shows v (applied v (about.Commit Safe id' count')) Mission id count heads mark can refl h k)
commits_one v Fence Mission id count id' count' heads mark can can' h k = absurd (newer_shows v (applied v (about.Commit Mission id' count')) Fence id count heads mark can refl h k)
commits_one v Fence Safe id count id' count' heads mark can can' h k = absurd (newer_shows v (applied v (about.Commit Safe id' count')) Fence id count heads mark can refl h k)
commits_one v Safe Mission id count id' count' heads mark can can' h k = absurd (newer_shows v (applied v (about.Commit Mission id' count')) Safe id count heads mark can refl h k)
commits_one v Safe Fence id count id' count' heads mark can can' h k = absurd (newer_shows v (applied v (about.Commit Fence id' count')) Safe id count heads mark can refl h k)

-- a mark leaves the plans
plan_of-marked : (v : VehicleState) (kind : PlanType) (mark : Mark) → plan_head (plan_of (applied v (about.SetMark mark)) kind) ≡ plan_head (plan_of v kind)
plan_of-marked v Mission mark = refl
plan_of-marked v Fence mark = refl
plan_of-marked v Safe mark = refl

-- the vehicle with a mark is told by that mark
abbrev marked : VehicleState → PlainMark → VehicleState
marked v mark = record v { mark = mark }

-- a mark that is there already changes nothing
as_was : (v : VehicleState) (mark : PlainMark) → mark ≡ v.mark → marked v mark ≡ v
as_was v mark same = ap (marked v) same

marked-one : (v : VehicleState) (m n : Mark) (heads : List PlanHead) (mark : Mark) → IsNamed (applied v (about.SetMark m)) heads mark → IsNamed (applied v (about.SetMark n)) heads mark → applied v (about.SetMark m) ≡ applied v (about.SetMark n)
marked-one v m n heads mark h k = ap (marked v) (same_mark (applied v (about.SetMark m)) (applied v (about.SetMark n)) heads mark h k)

-- two changes that a boot cannot tell from one another are one
changes_one : (v : VehicleState) (a b : Asked) (heads : List PlanHead) (mark : Mark) → CanApply v a → CanApply v b → IsNamed (applied v a) heads mark → IsNamed (applied v b) heads mark → applied v a ≡ applied v b
changes_one v (about.Commit kind id count) (about.Commit other id' count') heads mark can can' h k = commits_one v kind other id count id' count' heads mark can can' h k
changes_one v (about.Commit kind id count) (about.SetMark m) heads mark can can' h k = absurd (newer_shows v (applied v (about.SetMark m)) kind id count heads mark can (plan_of-marked v kind m) h k)
changes_one v (about.SetMark m) (about.Commit kind id count) heads mark can can' h k = absurd (newer_shows v (applied v (about.SetMark m)) kind id count heads mark can' (plan_of-marked v kind m) k h)
changes_one v (about.SetMark m) (about.SetMark n) heads mark can can' h k = marked-one v m n heads mark h k
changes_one v (about.Read kind id seq) b heads mark can can' h k = absurd can
changes_one v (about.Write kind id seq) b heads mark can can' h k = absurd can
changes_one v a b heads mark can can' h k = absurd can'

-- nor can it tell one from the vehicle as it was
no_change : (v : VehicleState) (a : Asked) (heads : List PlanHead) (mark : Mark) → CanApply v a → IsNamed (applied v a) heads mark → IsNamed v heads mark → applied v a ≡ v
no_change v (about.Commit kind id count) heads mark can h k = absurd (newer_shows v v kind id count heads mark can refl h k)
no_change v (about.SetMark m) heads mark can h k = as_was v (plain_mark m) (h.same_mark ∙ sym k.same_mark)
no_change v (about.Read kind id seq) heads mark can h k = absurd can
no_change v (about.Write kind id seq) heads mark can h k = absurd can

-- what a boot finds is told by its line
Finds-one : (v a b : VehicleState) (heads : List PlanHead) (mark : Mark) → Finds v a → Finds v b → IsNamed a heads mark → IsNamed b heads mark → a ≡ b
Finds-one v a b heads mark (inl h) (inl k) na nb = h ∙ sym k
Finds-one v a b heads mark (inl h) (inr k) na nb = h ∙ sym (k.3 ∙ no_change v k.0 heads mark k.2 (subst (λ x. IsNamed x heads mark) k.3 nb) (subst (λ x. IsNamed x heads mark) h na))
Finds-one v a b heads mark (inr h) (inl k) na nb = (h.3 ∙ no_change v h.0 heads mark h.2 (subst (λ x. IsNamed x heads mark) h.3 na) (subst (λ x. IsNamed x heads mark) k nb)) ∙ sym k
Finds-one v a b heads mark (inr h) (inr k) na nb = h.3 ∙ changes_one v h.0 k.0 heads mark h.2 k.2 (subst (λ x. IsNamed x heads mark) h.3 na) (subst (λ x. IsNamed x heads mark) k.3 nb) ∙ sym k.3

Meets-one : (up : Bool) (v : VehicleState) (heads : List PlanHead) (mark : Mark) (a b : VehicleState) → Meets up v heads mark a → Meets up v heads mark b → a ≡ b
Meets-one false v heads mark a b h k = h.is_named ∙ sym k.is_named
Meets-one true v heads mark a b h k = Finds-one v a b heads mark h.finds k.finds h.names k.names

Fails-one : (v : VehicleState) (asked : Asked) (a b : VehicleState) → Fails v asked a → Fails v asked b → a ≡ b
Fails-one v asked a b (inl h) (inl k) = h.1 ∙ sym k.1
Fails-one v asked a b (inl h) (inr k) = absurd (k.0 h.0)
Fails-one v asked a b (inr h) (inl k) = absurd (h.0 k.0)
Fails-one v asked a b (inr h) (inr k) = h.1 ∙ sym k.1

Replies-one : (v : VehicleState) (asked : Asked) (given : Reply) (a b : VehicleState) → Replies v asked given a → Replies v asked given b → a ≡ b
Replies-one v (about.Read kind id seq) (reply.Item item) a b h k = h.after ∙ sym k.after
Replies-one v (about.Read kind id seq) (reply.Stale now) a b h k = h.after ∙ sym k.after
Replies-one v (about.Write kind id seq) reply.Done a b h k = h ∙ sym k
Replies-one v (about.Commit kind id count) reply.Done a b h k = h.1 ∙ sym k.1
Replies-one v (about.Commit kind id count) (reply.Spent generation) a b h k = h.1 ∙ sym k.1
Replies-one v (about.SetMark mark) reply.Done a b h k = h.1 ∙ sym k.1
Replies-one v (about.SetMark mark) (reply.Stale now) a b h k = h.after ∙ sym k.after
Replies-one v (about.SetMark mark) (reply.Spent generation) a b h k = h.1 ∙ sym k.1
Replies-one v asked reply.DiskFailed a b h k = Fails-one v asked a b h k
Replies-one v asked reply.PowerOff a b h k = Fails-one v asked a b h k
Replies-one v asked given a b h k = absurd h

-- what a client asked, where something is in service
abbrev asked_in : Asked → Option (Client × Asked) → Asked
asked_in asked None = asked
asked_in asked (Some service) = service.1

same_asked : (client : Client) (asked other : Asked) → ◌≡◌ {A = Option (Client × Asked)} (Some (client, asked)) (Some (client, other)) → asked ≡ other
same_asked client asked other h = ap (asked_in asked) h

Serves-one : (v : VehicleState) (client : Client) (given : Reply) (a b : VehicleState) → Serves v client given a → Serves v client given b → a ≡ b
Serves-one v client given a b h k =
    let same : k.asked ≡ h.asked = same_asked client k.asked h.asked (sym k.in_service ∙ h.in_service) in
    Replies-one (ended v client h.asked given) h.asked given a b h.replies (subst (λ asked. Replies (ended v client asked given) asked given b) same k.replies)

Answers-one : (v : VehicleState) (given : Answer) (a b : VehicleState) → Answers v given a → Answers v given b → a ≡ b
Answers-one v (answer.Ack Accepted) a b h k = absurd h
Answers-one v (answer.Writes kind id seq item) a b h k = h.1 ∙ sym k.1
Answers-one v (answer.CurrentIs seq) a b h k = h.1 ∙ sym k.1
Answers-one v other a b h k = h ∙ sym k

LooksOn-one : (v : VehicleState) (given : NavWhat) (a b : VehicleState) → LooksOn v given a → LooksOn v given b → a ≡ b
LooksOn-one v what.HoldEmpty a b h k = h.1 ∙ sym k.1
LooksOn-one v (what.Pending kind seq) a b h k = h.1 ∙ sym k.1
LooksOn-one v (what.Hold rule seq mission fence) a b h k = h.1 ∙ sym k.1
LooksOn-one v (what.Leg seq mission fence item) a b h k = h.2 ∙ sym k.2
LooksOn-one v (what.Action seq mission fence item) a b h k = h.2 ∙ sym k.2
LooksOn-one v (what.Jump seq to used mission fence) a b h k = h.2 ∙ sym k.2
LooksOn-one v (what.JumpSpent seq mission fence) a b h k = h.1 ∙ sym k.1
LooksOn-one v (what.Done mission fence) a b h k = h.1 ∙ sym k.1
LooksOn-one v other a b h k = absurd h

ReachesOn-one : (v : VehicleState) (given : NavWhat) (a b : VehicleState) → ReachesOn v given a → ReachesOn v given b → a ≡ b
ReachesOn-one v (what.Next index) a b h k = h.2 ∙ sym k.2
ReachesOn-one v what.Ignored a b h k = h.1 ∙ sym k.1
ReachesOn-one v given a b h k = absurd h

pub IsWay-one : (v : VehicleState) (before : Option ReturnState) (a b : ReturnState) → IsWay v before a → IsWay v before b → a ≡ b
IsWay-one v None a b h k = h.1 ∙ sym k.1
IsWay-one v (Some before) a b h k = h ∙ sym k

Shows-one : (v : VehicleState) (look other : Look) (shown : ReturnOut) (a b : VehicleState) → Shows v look shown a → Shows v other shown b → a ≡ b
Shows-one v look other shown a b h k = h.after ∙ ap (λ way. record v { way = Some (after_out way shown) }) (IsWay-one v v.way h.way k.way h.is_way k.is_way) ∙ sym k.after

LooksBack-one : (v : VehicleState) (given : NavWhat) (a b : VehicleState) → LooksBack v given a → LooksBack v given b → a ≡ b
LooksBack-one v (what.Pending kind seq) a b h k = h ∙ sym k
LooksBack-one v (what.ReturnLeg seq mission fence item) a b h k = Shows-one v _ _ _ a b h.2 k.2
LooksBack-one v (what.ReturnSkip seq mission fence) a b h k = Shows-one v _ _ _ a b h.3 k.3
LooksBack-one v (what.ReturnHome home) a b h k = Shows-one v _ _ _ a b h.1 k.1
LooksBack-one v (what.ReturnSafe seq safe fence item) a b h k = Shows-one v _ _ _ a b h.3 k.3
LooksBack-one v what.ReturnNone a b h k = Shows-one v _ _ _ a b h k
LooksBack-one v what.ReturnDone a b h k = Shows-one v _ _ _ a b h k
LooksBack-one v other a b h k = absurd h

ReachesBack-one : (v : VehicleState) (given : NavWhat) (a b : VehicleState) → ReachesBack v given a → ReachesBack v given b → a ≡ b
ReachesBack-one v what.NextReturn a b h k = h.1 ∙ sym k.1
ReachesBack-one v what.Ignored a b h k = h.1 ∙ sym k.1
ReachesBack-one v given a b h k = absurd h

Looks-one : (mode : Mode) (v : VehicleState) (given : NavWhat) (a b : VehicleState) → Looks mode v given a → Looks mode v given b → a ≡ b
Looks-one mode.Hold v what.Idle a b h k = h ∙ sym k
Looks-one mode.Hold v other a b h k = absurd h
Looks-one mode.Mission v given a b h k = LooksOn-one v given a b h k
Looks-one mode.Return v given a b h k = LooksBack-one v given a b h k

Reaches-one : (mode : Mode) (v : VehicleState) (given : NavWhat) (a b : VehicleState) → Reaches mode v given a → Reaches mode v given b → a ≡ b
Reaches-one mode.Return v given a b h k = ReachesBack-one v given a b h k
Reaches-one other v given a b h k = ReachesOn-one v given a b h k

Acts-one : (v : VehicleState) (event : VehicleLine) (given : NavWhat) (a b : VehicleState) → Acts v event given a → Acts v event given b → a ≡ b
Acts-one v event.Tick given a b h k = Looks-one v.mode v given a b h k
Acts-one v event.Go given a b h k = Looks-one v.mode v given a b h k
Acts-one v event.Reached given a b h k = Reaches-one v.mode v given a b h k
Acts-one v (event.Mode mode) what.Taken a b h k = h ∙ sym k
Acts-one v (event.Position x y) what.Taken a b h k = h ∙ sym k
Acts-one v other given a b h k = absurd h

-- a line leads a vehicle to at most one
pub VehicleStep-one : (v : VehicleState) (line : Line) (a b : VehicleState) → VehicleStep v line a → VehicleStep v line b → a ≡ b
VehicleStep-one v (line.Boot number heads mark) a b h k = h.after ∙ ap (λ x. booted x number) (Meets-one v.is_up v heads mark h.found k.found h.meets k.meets) ∙ sym k.after
VehicleStep-one v (line.BootCut number) a b h k = h.after ∙ sym k.after
VehicleStep-one v (line.Took client asked) a b h k = h.after ∙ sym k.after
VehicleStep-one v (line.Served client given) a b h k = Serves-one v client given a b h k
VehicleStep-one v (line.Sent link said given) a b h k = Answers-one v given a b h.answers k.answers
VehicleStep-one v (line.Heard link given said) a b h k = h.after ∙ sym k.after
VehicleStep-one v (line.Nav event entry) a b h k = h.after ∙ ap passing (Acts-one (index_taken v v.wanted) event entry.what h.acted k.acted h.acts k.acts) ∙ sym k.after
VehicleStep-one v other a b h k = h ∙ sym k

-- lines lead to at most one vehicle
pub Lines-one : (lines : List Line) (old a b : VehicleState) → Lines old lines a → Lines old lines b → a ≡ b
Lines-one [] old a b h k = h ∙ sym k
Lines-one (line ∷ lines) old a b h k =
    let same : k.0 ≡ h.0 = VehicleStep-one old line k.0 h.0 k.1 h.1 in
    Lines-one lines h.0 a b h.2 (subst (λ mid. Lines mid lines b) same k.2)
