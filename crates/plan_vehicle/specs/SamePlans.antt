-- Plans do not change: once a boot is up, a plan of one type is followed by itself, with more of it told, or by a plan of
-- a higher id. It is replaced where a commit is done, and where a boot finds that a failed one was made; nowhere else.
use Rattle.std.specs.Prelude.{◌≡◌, ℕ, ◌+◌, ◌==◌, ◌<◌, ◌≤◌, true, List, [], ◌∷◌, ◌++◌, length, take, Option, Some, None, refl}
use Rattle.std.proofs.Common.{sym, ap, ◌∙◌, subst, inl, inr, arith, length-set, ⊎_elim}
use Rattle.std.proofs.lemmas.Bool.{cases_eq, cond_both}
use Rattle.std.proofs.lemmas.List.{get_or-set_same, get_or-set_other}
use Rattle.mission_model.specs.declared.plan.PlanType.{PlanType}
use Rattle.mission_model.specs.declared.plan.PlanType.TheVariants.{Mission, Fence, Safe}
use Rattle.mission_model.specs.declared.plan.Item.{Item}
use Rattle.mission_model.specs.declared.request.Asked.{Asked}
use Rattle.mission_model.specs.declared.request.Asked.TheVariants as about
use Rattle.mission_model.specs.declared.request.Reply.{Reply}
use Rattle.mission_model.specs.declared.request.Reply.TheVariants as reply
use Rattle.mission_model.specs.declared.message.AckCode.TheVariants.{Accepted}
use Rattle.mission_model.specs.declared.message.Answer.{Answer}
use Rattle.mission_model.specs.declared.message.Answer.TheVariants as answer
use Rattle.mission_model.specs.declared.vehicle.Mode.{Mode}
use Rattle.mission_model.specs.declared.vehicle.Mode.TheVariants as mode
use Rattle.mission_model.specs.declared.vehicle.VehicleLine.{VehicleLine}
use Rattle.mission_model.specs.declared.vehicle.VehicleLine.TheVariants as event
use Rattle.mission_model.specs.declared.vehicle.NavWhat.{NavWhat}
use Rattle.mission_model.specs.declared.vehicle.NavWhat.TheVariants as what
use Rattle.mission_model.specs.declared.flight_line.Line.{Line}
use Rattle.mission_model.specs.declared.flight_line.Line.TheVariants as line
use Rattle.mission_model.specs.PlainMark.{plain_mark}
use Rattle.mission_model.specs.Pairs.{with_pair}
use Rattle.return_mode.specs.ReturnState.{ReturnState}
use Rattle.plan_vehicle.specs.PlanState.{PlanState, told, told_at, CanBe, with_told}
use Rattle.plan_vehicle.specs.Drafts.{draft_of, with_written}
use Rattle.plan_vehicle.specs.VehicleState.{VehicleState, plan_of, with_plan, mission_count}
use Rattle.plan_vehicle.specs.Boots.{CanApply, applied, booted, Finds, Meets}
use Rattle.plan_vehicle.specs.Requests.{Reads, Replies, Fails, ended, begun_anew, committed, CanCommit}
use Rattle.plan_vehicle.specs.Messages.{Answers}
use Rattle.plan_vehicle.specs.MissionEvents.{LooksOn, ReachesOn, index_taken, moved, mode_after}
use Rattle.plan_vehicle.specs.ReturnEvents.{LooksBack, ReachesBack}
use Rattle.plan_vehicle.specs.VehicleStep.{VehicleStep, Looks, Reaches, Acts, in_mode, rewound, passing}
use Rattle.plan_vehicle.specs.VehicleRun.{Lines}

-- the plan is the same, with more of it told, or one of a higher id
pub record Follows (old new : PlanState) : Type 0 where
  pub id : old.id ≤ new.id
  pub count : old.id ≡ new.id → length old.items ≡ length new.items
  pub told : old.id ≡ new.id → (seq : ℕ) (item : Item) → told_at old seq ≡ Some item → told_at new seq ≡ Some item

-- each plan of the vehicle is followed so, and a boot is up before and after
pub record PlansFollow (old new : VehicleState) : Type 0 where
  pub mission : Follows old.mission new.mission
  pub fence : Follows old.fence new.fence
  pub safe : Follows old.safe new.safe
  pub up : old.is_up ≡ true → new.is_up ≡ true

pub Follows-self : (plan : PlanState) → Follows plan plan
Follows-self plan = record { id = omega arith; count = λ _. refl; told = λ _ seq item h. h }

between : (a b c : ℕ) → a ≤ b → b ≤ c → a ≡ c → a ≡ b
between a b c h k e = omega (arith, h, k, e)

pub Follows-on : (a b c : PlanState) → Follows a b → Follows b c → Follows a c
Follows-on a b c h k = record {
  id = omega (arith, h.id, k.id);
  count = λ same. let first = between a.id b.id c.id h.id k.id same in h.count first ∙ k.count (sym first ∙ same);
  told = λ same seq item at. let first = between a.id b.id c.id h.id k.id same in k.told (sym first ∙ same) seq item (h.told first seq item at);
}

differ : (a b : ℕ) → a < b → a ≡ b → ⊥
differ a b h e = omega (arith, h, e)

-- a plan of a higher id follows any
Follows-newer : (old new : PlanState) → old.id < new.id → Follows old new
Follows-newer old new h = record { id = omega (arith, h); count = λ same. absurd (differ old.id new.id h same); told = λ same. absurd (differ old.id new.id h same) }

pub PlansFollow-self : (v : VehicleState) → PlansFollow v v
PlansFollow-self v = record { mission = Follows-self v.mission; fence = Follows-self v.fence; safe = Follows-self v.safe; up = λ up. up }

pub PlansFollow-on : (a b c : VehicleState) → PlansFollow a b → PlansFollow b c → PlansFollow a c
PlansFollow-on a b c h k = record { mission = Follows-on a.mission b.mission c.mission h.mission k.mission; fence = Follows-on a.fence b.fence c.fence h.fence k.fence; safe = Follows-on a.safe b.safe c.safe h.safe k.safe; up = λ up. k.up (h.up up) }

-- where the plans stay
stay : (v w : VehicleState) → w.mission ≡ v.mission → w.fence ≡ v.fence → w.safe ≡ v.safe → w.is_up ≡ v.is_up → PlansFollow v w
stay v w m f s up = record {
  mission = subst (Follows v.mission) (sym m) (Follows-self v.mission);
  fence = subst (Follows v.fence) (sym f) (Follows-self v.fence);
  safe = subst (Follows v.safe) (sym s) (Follows-self v.safe);
  up = λ h. up ∙ h;
}

to : (v w v' : VehicleState) → v' ≡ w → PlansFollow v w → PlansFollow v v'
to v w v' after h = subst (PlansFollow v) (sym after) h

told_here : (plan : PlanState) (seq : ℕ) (item : Item) (other : ℕ) (it : Item) → seq < length plan.items → CanBe (told_at plan seq) item → told_at plan other ≡ Some it → other ≡ seq → told_at (with_told plan seq item) other ≡ Some it
told_here plan seq item other it within can at same =
    let was : told_at plan seq ≡ Some it = ap (told_at plan) (sym same) ∙ at in
    let is : it ≡ item = subst (λ o. CanBe o item) was can in
    ap (told_at (with_told plan seq item)) same ∙ get_or-set_same plan.items seq (Some item) None within ∙ ap (λ i. Some i) (sym is)

-- an item that is told is told from then on
told_more : (plan : PlanState) (seq : ℕ) (item : Item) → seq < length plan.items → CanBe (told_at plan seq) item → Follows plan (with_told plan seq item)
told_more plan seq item within can = record {
  id = omega arith;
  count = λ _. sym (length-set plan.items seq (Some item));
  told = λ _ other it at. ⊎_elim (λ (same : other ≡ seq). told_here plan seq item other it within can at same) (λ (apart : other ≡ seq → ⊥). get_or-set_other plan.items seq other (Some item) None apart ∙ at) (cases_eq other seq);
}

reads_follow : (v : VehicleState) (kind : PlanType) (id seq : ℕ) (item : Item) (v' : VehicleState) → Reads v kind id seq item v' → PlansFollow v v'
reads_follow v Mission id seq item v' h = to v (record v { mission = with_told v.mission seq item }) v' h.after (record { mission = told_more v.mission seq item h.within h.item_is; fence = Follows-self v.fence; safe = Follows-self v.safe; up = λ up. up })
reads_follow v Fence id seq item v' h = to v (record v { fence = with_told v.fence seq item }) v' h.after (record { mission = Follows-self v.mission; fence = told_more v.fence seq item h.within h.item_is; safe = Follows-self v.safe; up = λ up. up })
reads_follow v Safe id seq item v' h = to v (record v { safe = with_told v.safe seq item }) v' h.after (record { mission = Follows-self v.mission; fence = Follows-self v.fence; safe = told_more v.safe seq item h.within h.item_is; up = λ up. up })

-- a newer plan in the place of one
newer_follows : (v : VehicleState) (kind : PlanType) (plan : PlanState) → (plan_of v kind).id < plan.id → PlansFollow v (with_plan v kind plan)
newer_follows v Mission plan h = record { mission = Follows-newer v.mission plan h; fence = Follows-self v.fence; safe = Follows-self v.safe; up = λ up. up }
newer_follows v Fence plan h = record { mission = Follows-self v.mission; fence = Follows-newer v.fence plan h; safe = Follows-self v.safe; up = λ up. up }
newer_follows v Safe plan h = record { mission = Follows-self v.mission; fence = Follows-self v.fence; safe = Follows-newer v.safe plan h; up = λ up. up }

begun_follows : (v : VehicleState) (kind : PlanType) → PlansFollow v (begun_anew v kind)
begun_follows v Mission = stay v (begun_anew v Mission) refl refl refl refl
begun_follows v Fence = stay v (begun_anew v Fence) refl refl refl refl
begun_follows v Safe = stay v (begun_anew v Safe) refl refl refl refl

commit_follows : (v : VehicleState) (kind : PlanType) (id count : ℕ) (v' : VehicleState) → CanCommit v kind id count → v' ≡ committed v kind id → PlansFollow v v'
commit_follows v kind id count v' can after =
    let plan : PlanState = told id (draft_of v.drafts kind id) in
    to v (committed v kind id) v' after (PlansFollow-on v (with_plan v kind plan) (committed v kind id) (newer_follows v kind plan can.higher) (begun_follows (with_plan v kind plan) kind))

change_follows : (v : VehicleState) (change : Asked) → CanApply v change → PlansFollow v (applied v change)
change_follows v (about.Commit kind id count) can = newer_follows v kind (told id (take count (draft_of v.drafts kind id))) can.0
change_follows v (about.SetMark mark) can = stay v (applied v (about.SetMark mark)) refl refl refl refl
change_follows v (about.Read kind id seq) can = absurd can
change_follows v (about.Write kind id seq) can = absurd can

finds_follow : (v found : VehicleState) → Finds v found → PlansFollow v found
finds_follow v found (inl same) = to v v found same (PlansFollow-self v)
finds_follow v found (inr change) = to v (applied v change.0) found change.3 (change_follows v change.0 change.2)

same_follows : (v v' : VehicleState) → v' ≡ v → PlansFollow v v'
same_follows v v' after = to v v v' after (PlansFollow-self v)

fails_follow : (v : VehicleState) (asked : Asked) (v' : VehicleState) → Fails v asked v' → PlansFollow v v'
fails_follow v asked v' (inl h) = to v (record v { maybe = v.maybe ++ asked ∷ [] }) v' h.1 (stay v (record v { maybe = v.maybe ++ asked ∷ [] }) refl refl refl refl)
fails_follow v asked v' (inr h) = same_follows v v' h.1

replies_follow : (v : VehicleState) (asked : Asked) (given : Reply) (v' : VehicleState) → Replies v asked given v' → PlansFollow v v'
replies_follow v (about.Read kind id seq) (reply.Item item) v' h = reads_follow v kind id seq item v' h
replies_follow v (about.Read kind id seq) (reply.Stale now) v' h = same_follows v v' h.after
replies_follow v (about.Write kind id seq) reply.Done v' h = same_follows v v' h
replies_follow v (about.Commit kind id count) reply.Done v' h = commit_follows v kind id count v' h.0 h.1
replies_follow v (about.Commit kind id count) (reply.Spent generation) v' h = same_follows v v' h.1
replies_follow v (about.SetMark mark) reply.Done v' h = to v (record v { mark = plain_mark mark }) v' h.1 (stay v (record v { mark = plain_mark mark }) refl refl refl refl)
replies_follow v (about.SetMark mark) (reply.Stale now) v' h = same_follows v v' h.after
replies_follow v (about.SetMark mark) (reply.Spent generation) v' h = same_follows v v' h.1
replies_follow v asked reply.DiskFailed v' h = fails_follow v asked v' h
replies_follow v asked reply.PowerOff v' h = fails_follow v asked v' h
replies_follow v asked given v' h = absurd h

answers_follow : (v : VehicleState) (given : Answer) (v' : VehicleState) → Answers v given v' → PlansFollow v v'
answers_follow v (answer.Ack Accepted) v' h = absurd h
answers_follow v (answer.Writes kind id seq item) v' h = to v (record v { drafts = with_written v.drafts kind id item }) v' h.1 (stay v (record v { drafts = with_written v.drafts kind id item }) refl refl refl refl)
answers_follow v (answer.CurrentIs seq) v' h = to v (record v { wanted = Some seq }) v' h.1 (stay v (record v { wanted = Some seq }) refl refl refl refl)
answers_follow v other v' h = same_follows v v' h

moved_follows : (v v' : VehicleState) (index : ℕ) (counts : List (ℕ × ℕ)) → v' ≡ moved v index counts → PlansFollow v v'
moved_follows v v' index counts after = to v (moved v index counts) v' after (stay v (moved v index counts) refl refl refl refl)

looks_on_follow : (v : VehicleState) (given : NavWhat) (v' : VehicleState) → LooksOn v given v' → PlansFollow v v'
looks_on_follow v what.HoldEmpty v' h = same_follows v v' h.1
looks_on_follow v (what.Pending kind seq) v' h = same_follows v v' h.1
looks_on_follow v (what.Hold rule seq mission fence) v' h = same_follows v v' h.1
looks_on_follow v (what.Leg seq mission fence item) v' h = to v (record v { at_leg = true }) v' h.2 (stay v (record v { at_leg = true }) refl refl refl refl)
looks_on_follow v (what.Action seq mission fence item) v' h = to v (record (moved v (v.index + 1) v.counts) { mode = mode_after v.mode item }) v' h.2 (stay v (record (moved v (v.index + 1) v.counts) { mode = mode_after v.mode item }) refl refl refl refl)
looks_on_follow v (what.Jump seq there used mission fence) v' h = moved_follows v v' there (with_pair v.counts v.index used) h.2
looks_on_follow v (what.JumpSpent seq mission fence) v' h = moved_follows v v' (v.index + 1) v.counts h.1
looks_on_follow v (what.Done mission fence) v' h = same_follows v v' h.1
looks_on_follow v other v' h = absurd h

reaches_on_follow : (v : VehicleState) (given : NavWhat) (v' : VehicleState) → ReachesOn v given v' → PlansFollow v v'
reaches_on_follow v (what.Next index) v' h = moved_follows v v' index v.counts h.2
reaches_on_follow v what.Ignored v' h = same_follows v v' h.1
reaches_on_follow v given v' h = absurd h

on_way : (v v' : VehicleState) (way : Option ReturnState) → v' ≡ record v { way = way } → PlansFollow v v'
on_way v v' way after = to v (record v { way = way }) v' after (stay v (record v { way = way }) refl refl refl refl)

looks_back_follow : (v : VehicleState) (given : NavWhat) (v' : VehicleState) → LooksBack v given v' → PlansFollow v v'
looks_back_follow v (what.Pending kind seq) v' h = same_follows v v' h
looks_back_follow v (what.ReturnLeg seq mission fence item) v' h = on_way v v' _ h.2.after
looks_back_follow v (what.ReturnSkip seq mission fence) v' h = on_way v v' _ h.3.after
looks_back_follow v (what.ReturnHome home) v' h = on_way v v' _ h.1.after
looks_back_follow v (what.ReturnSafe seq safe fence item) v' h = on_way v v' _ h.3.after
looks_back_follow v what.ReturnNone v' h = on_way v v' _ h.after
looks_back_follow v what.ReturnDone v' h = on_way v v' _ h.after
looks_back_follow v other v' h = absurd h

reaches_back_follow : (v : VehicleState) (given : NavWhat) (v' : VehicleState) → ReachesBack v given v' → PlansFollow v v'
reaches_back_follow v what.NextReturn v' h = on_way v v' _ h.1
reaches_back_follow v what.Ignored v' h = same_follows v v' h.1
reaches_back_follow v given v' h = absurd h

looks_follow : (in_force : Mode) (v : VehicleState) (given : NavWhat) (v' : VehicleState) → Looks in_force v given v' → PlansFollow v v'
looks_follow mode.Hold v what.Idle v' h = same_follows v v' h
looks_follow mode.Hold v other v' h = absurd h
looks_follow mode.Mission v given v' h = looks_on_follow v given v' h
looks_follow mode.Return v given v' h = looks_back_follow v given v' h

reaches_follow : (in_force : Mode) (v : VehicleState) (given : NavWhat) (v' : VehicleState) → Reaches in_force v given v' → PlansFollow v v'
reaches_follow mode.Return v given v' h = reaches_back_follow v given v' h
reaches_follow other v given v' h = reaches_on_follow v given v' h

rewound_follows : (v : VehicleState) → PlansFollow v (rewound v)
rewound_follows v = cond_both (v.index == mission_count v) (moved v 0 []) v (PlansFollow v) (λ _. stay v (moved v 0 []) refl refl refl refl) (λ _. PlansFollow-self v)

mode_follows : (v : VehicleState) (taken : Mode) → PlansFollow v (in_mode v taken)
mode_follows v mode.Hold = stay v (in_mode v mode.Hold) refl refl refl refl
mode_follows v mode.Mission = PlansFollow-on v (rewound v) (in_mode v mode.Mission) (rewound_follows v) (stay (rewound v) (in_mode v mode.Mission) refl refl refl refl)
mode_follows v mode.Return = stay v (in_mode v mode.Return) refl refl refl refl

acts_follow : (v : VehicleState) (input : VehicleLine) (given : NavWhat) (v' : VehicleState) → Acts v input given v' → PlansFollow v v'
acts_follow v event.Tick given v' h = looks_follow v.mode v given v' h
acts_follow v event.Go given v' h = looks_follow v.mode v given v' h
acts_follow v event.Reached given v' h = reaches_follow v.mode v given v' h
acts_follow v (event.Mode taken) what.Taken v' h = to v (in_mode v taken) v' h (mode_follows v taken)
acts_follow v (event.Position x y) what.Taken v' h = to v (record v { position = Some (x, y) }) v' h (stay v (record v { position = Some (x, y) }) refl refl refl refl)
acts_follow v other given v' h = absurd h

index_follows : (v : VehicleState) (wanted : Option ℕ) → PlansFollow v (index_taken v wanted)
index_follows v None = PlansFollow-self v
index_follows v (Some index) = stay v (index_taken v (Some index)) refl refl refl refl

-- once a boot is up, each line keeps the plans, or puts newer ones in their places
pub PlansFollow-step : (v : VehicleState) (line : Line) (v' : VehicleState) → v.is_up ≡ true → VehicleStep v line v' → PlansFollow v v'
PlansFollow-step v (line.Boot number heads mark) v' up h =
    let meets = subst (λ b. Meets b v heads mark h.found) up h.meets in
    to v (booted h.found number) v' h.after (PlansFollow-on v h.found (booted h.found number) (finds_follow v h.found meets.finds) (record { mission = Follows-self h.found.mission; fence = Follows-self h.found.fence; safe = Follows-self h.found.safe; up = λ _. refl }))
PlansFollow-step v (line.BootCut number) v' up h = to v (record v { boots = number }) v' h.after (stay v (record v { boots = number }) refl refl refl refl)
PlansFollow-step v (line.Took client asked) v' up h = to v (record v { service = Some (client, asked) }) v' h.after (stay v (record v { service = Some (client, asked) }) refl refl refl refl)
PlansFollow-step v (line.Served client given) v' up h = PlansFollow-on v (ended v client h.asked given) v' (stay v (ended v client h.asked given) refl refl refl refl) (replies_follow (ended v client h.asked given) h.asked given v' h.replies)
PlansFollow-step v (line.Sent link said given) v' up h = answers_follow v given v' h.answers
PlansFollow-step v (line.Heard link given said) v' up h = same_follows v v' h.after
PlansFollow-step v (line.Nav input entry) v' up h =
    let taken = index_taken v v.wanted in
    to v (passing h.acted) v' h.after (PlansFollow-on v taken (passing h.acted) (index_follows v v.wanted) (PlansFollow-on taken h.acted (passing h.acted) (acts_follow taken input entry.what h.acted h.acts) (stay h.acted (passing h.acted) refl refl refl refl)))
PlansFollow-step v other v' up h = same_follows v v' h

-- and so do lines
pub PlansFollow-lines : (lines : List Line) (v v' : VehicleState) → v.is_up ≡ true → Lines v lines v' → PlansFollow v v'
PlansFollow-lines [] v v' up h = same_follows v v' h
PlansFollow-lines (line ∷ lines) v v' up h =
    let first = PlansFollow-step v line h.0 up h.1 in
    PlansFollow-on v h.0 v' first (PlansFollow-lines lines h.0 v' (first.up up) h.2)
