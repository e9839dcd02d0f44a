-- What a line of the Navigator leaves, and that it fits still.
use Rattle.std.proofs.Common.{◌≡◌, ◌≢◌, ◌⊎◌, inl, inr, ℕ, ◌<◌, ◌≤◌, Bool, true, false, List, [], ◌∷◌, ◌++◌, drop, Option, Some, None, refl, sym, subst, ap, ◌∙◌, arith, append_assoc, append-nil}
use Rattle.std.specs.Prelude.{IfSome, if◌then◌else◌}
use Rattle.std.specs.List.{All}
use Rattle.std.proofs.lemmas.Bool.Decides.{nat_tests}
use Rattle.std.proofs.lemmas.List.Elements.{All-tail}
use Rattle.mission_model.specs.declared.counts.Mark.{Mark}
use Rattle.mission_model.specs.declared.plan.Item.{Item}
use Rattle.mission_model.specs.declared.plan.PlanHead.{PlanHead}
use Rattle.mission_model.specs.declared.plan.PlanType.{PlanType}
use Rattle.mission_model.specs.declared.plan.PlanType.TheVariants.{Mission, Fence, Safe}
use Rattle.mission_model.specs.declared.request.Asked.{Asked}
use Rattle.mission_model.specs.declared.request.Asked.TheVariants as ask
use Rattle.mission_model.specs.declared.request.Client.{Client}
use Rattle.mission_model.specs.declared.request.Client.TheVariants.{Nav}
use Rattle.mission_model.specs.declared.request.Reply.{Reply}
use Rattle.mission_model.specs.declared.request.Request.{Request}
use Rattle.mission_model.specs.declared.schedule.InputLine.{InputLine}
use Rattle.mission_model.specs.declared.vehicle.NavEntry.{NavEntry}
use Rattle.mission_model.specs.declared.vehicle.NavWhat.{NavWhat}
use Rattle.mission_model.specs.declared.vehicle.NavWhat.TheVariants as what
use Rattle.mission_model.specs.declared.vehicle.VehicleLine.{VehicleLine}
use Rattle.mission_model.specs.declared.vehicle.VehicleLine.TheVariants as event
use Rattle.mission_model.specs.declared.flight_line.Line.{Line}
use Rattle.mission_model.specs.declared.flight_line.Line.TheVariants as line
use Rattle.mission_model.specs.BootScripts.{NavInput}
use Rattle.mission_model.specs.Replies.{CanHear}
use Rattle.mission_model.specs.PlanTypes.{head_of}
use Rattle.request_board.specs.Asks.{in_service, listed, abouts, own_abouts, replied}
use Rattle.request_board.specs.BoardState.{BoardState, posted, open_asks, unanswered, OthersStay}
use Rattle.request_board.specs.BoardCalls.{heard}
use Rattle.request_board.specs.Clients.{abouts-append, own_abouts-append, other_first}
use Rattle.request_board.specs.Frames.{posted_alike}
use Rattle.transfer_lock.specs.TransferState.{TransferState}
use Rattle.client_cache.specs.CacheState.{has_id, id_of, count_of}
use Rattle.client_cache.specs.Wants.{reads}
use Rattle.navigator.specs.Caches.{SamePlan-got}
use Rattle.navigator.specs.NavState.{NavState, NavTaken, with_taken, cache_of}
use Rattle.navigator.specs.Standing.{mark_answered}
use Rattle.navigator.specs.Meeting.{is_done}
use Rattle.navigator.specs.EventLaw.{CanTick}
use Rattle.navigator.specs.NavCalls.{reply_taken, drop_taken, Happens, Hears, Drops}
use Rattle.navigator.specs.Asking.{head_met, mark_requests, HasAsked}
use Rattle.navigator.specs.NextEvent.{event_heads, event_asks}
use Rattle.navigator.specs.Outstanding.{asked_by_call, asked_by_others, can_tick}
use Rattle.vehicle_core.specs.ScheduleState.{ScheduleState}
use Rattle.vehicle_core.specs.Told.{SharedTold, NavTold}
use Rattle.vehicle_core.specs.ActorStep.{with_board, after_event, NavStep, NavGets, NavDrops, NavActs}
use Rattle.vehicle_core.specs.LinkActs.{CanHearAll}
use Rattle.vehicle_core.specs.UploadFits.{bringing, IndexFits, BoardFits}
use Rattle.vehicle_core.specs.UploadLaws.{bringing-append, heard_fits, unbrought_fits}
use Rattle.vehicle_core.specs.Leaves.{HeadRises, ClientKeeps}
use Rattle.vehicle_core.specs.LinkKept.{client_stays}
use Rattle.vehicle_core.specs.WatchKept.{heard_keeps}
use Rattle.vehicle_core.specs.Fits.{NavAdopts}

-- Beside a board.

id_is : (head : Option PlanHead) (id : ℕ) → has_id head id ≡ true → id_of head ≡ id
id_is None id is = absurd cc
id_is (Some head) id is = grind (arith, nat_tests, is)

index_within : (heads : List PlanHead) (index : Option (ℕ × ℕ)) → IfSome index (IndexFits heads) → IfSome index (λ at. at.0 ≡ (head_of heads Mission).id → at.1 < (head_of heads Mission).count)
index_within heads None fits = fits
index_within heads (Some at) fits = fits.within

pub may_tick : (n : NavState) (items : List Item) (t : TransferState) (b : BoardState) → BoardFits t b → NavAdopts (with_taken n items) b → CanTick n b
may_tick n items t b fits adopts = can_tick n items b adopts.asked (record { counts = fits.heads; same = adopts.same; index = index_within b.published b.index fits.index })

-- what others do leaves what the Navigator has adopted no later than the published mission
pub adopts_left : (v : NavTaken) (b b' : BoardState) → open_asks b' Nav ≡ open_asks b Nav → HeadRises (head_of b.published Mission) (head_of b'.published Mission) → NavAdopts v b → NavAdopts v b'
adopts_left v b b' same (inl stays) adopts = record {
  earlier = omega (arith, adopts.earlier, ap (λ (x : PlanHead). x.id) stays);
  same = λ is. ap (λ (x : PlanHead). x.count) stays ∙ adopts.same (ap (λ (x : PlanHead). has_id v.mission.cache.head x.id) (sym stays) ∙ is);
  asked = asked_by_others v b b' same adopts.asked;
}
adopts_left v b b' same (inr later) adopts = record {
  earlier = omega (arith, adopts.earlier, later);
  same = λ is. absurd (omega (arith, adopts.earlier, later, id_is v.mission.cache.head (head_of b'.published Mission).id is));
  asked = asked_by_others v b b' same adopts.asked;
}

-- with the same mission adopted and the same heads
adopts_same : (v v' : NavTaken) (b b' : BoardState) → v'.mission.cache.head ≡ v.mission.cache.head → b'.published ≡ b.published → HasAsked v' b' → NavAdopts v b → NavAdopts v' b'
adopts_same v v' b b' head heads asked adopts = record {
  earlier = subst (λ (x : Option PlanHead × List PlanHead). id_of x.0 ≤ (head_of x.1 Mission).id) (λ k. (sym head k, sym heads k)) adopts.earlier;
  same = subst (λ (x : Option PlanHead × List PlanHead). has_id x.0 (head_of x.1 Mission).id ≡ true → (head_of x.1 Mission).count ≡ count_of x.0) (λ k. (sym head k, sym heads k)) adopts.same;
  asked = asked;
}

-- What a line leaves.

pub record NavLeaves (t : SharedTold) (n : NavTold) (t' : SharedTold) (n' : NavTold) : Type 0 where
  pub board : BoardFits t'.transfer t'.board
  pub keeps : ClientKeeps Nav t t'
  pub transfer : t'.transfer ≡ t.transfer
  pub adopts : NavAdopts n'.nav t'.board
  pub replies : (t.power ≡ true → CanHearAll (posted t.board Nav)) → t'.power ≡ true → CanHearAll (posted t'.board Nav)
  pub inputs : All NavInput n.schedule.inputs → All NavInput n'.schedule.inputs

same_keeps : (client : Client) (t : SharedTold) (places : List ℕ) → ClientKeeps client t (record t { arrived = places })
same_keeps client t places = record { same = record { links = refl; watchers = refl }; others = λ other apart. (refl, refl); published = refl; service = refl; power = refl }

behind : (inputs : List InputLine) → All NavInput inputs → All NavInput (drop 1 inputs)
behind [] all = all
behind (input ∷ inputs) all = All-tail NavInput input inputs all

kept_or_behind : (inputs left : List InputLine) → (left ≡ inputs) ⊎ (left ≡ drop 1 inputs) → All NavInput inputs → All NavInput left
kept_or_behind inputs left (inl same) all = subst (All NavInput) (sym same) all
kept_or_behind inputs left (inr less) all = subst (All NavInput) (sym less) (behind inputs all)

-- A reply.

reply_head : (v : NavTaken) (asked : Asked) (given : Reply) → (reply_taken v asked given).mission.cache.head ≡ v.mission.cache.head
reply_head v (ask.Read kind id seq) given = (SamePlan-got v.mission.cache (ask.Read kind id seq) given).head
reply_head v (ask.Write kind id seq) given = refl
reply_head v (ask.Commit kind id count) given = refl
reply_head v (ask.SetMark mark) given = at_id (has_id v.mission.cache.head mark.id)
  where
    at_id : (b : Bool) → (if b then record v { flight = record v.flight { marks = mark_answered v.flight.marks (is_done given) } } else v).mission.cache.head ≡ v.mission.cache.head
    at_id true = refl
    at_id false = refl

heard_heads : (b : BoardState) (rest : List (Asked × Reply)) → (heard b Nav rest).published ≡ b.published
heard_heads b rest = refl

got_leaves : (t : SharedTold) (n : NavTold) (about : Asked) (given : Reply) (t' : SharedTold) (n' : NavTold) → BoardFits t.transfer t.board → NavAdopts n.nav t.board → NavGets t n about given t' n' → NavLeaves t n t' n'
got_leaves t n about given t' n' fits adopts h =
    let b : BoardState = heard t.board Nav h.rest in
    let v : NavTaken = reply_taken n.nav about given in
    let concrete : NavLeaves t n (with_board t b) (record n { nav = v }) = record {
      board = heard_fits t.transfer t.board Nav h.rest fits;
      keeps = heard_keeps t Nav h.rest;
      transfer = refl;
      adopts = adopts_same n.nav v t.board b (reply_head n.nav about given) refl (asked_by_call (Hears about given) n.nav t.board v b (record { rest = h.rest; first = h.first; board = refl; nav = refl }) adopts.asked) adopts;
      replies = λ can on. All-tail (λ (said : Asked × Reply). CanHear said.0 said.1) (about, given) h.rest (subst CanHearAll h.first (can on));
      inputs = λ all. all;
    } in
    subst (λ (x : SharedTold × NavTold). NavLeaves t n x.0 x.1) (λ k. (sym h.shared k, sym h.nav k)) concrete

-- A drop.

drop_head : (v : NavTaken) (kind : PlanType) (seq : ℕ) → (drop_taken v kind seq).mission.cache.head ≡ v.mission.cache.head
drop_head v Mission seq = refl
drop_head v Fence seq = refl
drop_head v Safe seq = refl

dropped_leaves : (t : SharedTold) (n : NavTold) (kind : PlanType) (seq : ℕ) (t' : SharedTold) (n' : NavTold) → BoardFits t.transfer t.board → NavAdopts n.nav t.board → NavDrops t n kind seq t' n' → NavLeaves t n t' n'
dropped_leaves t n kind seq t' n' fits adopts h =
    let v : NavTaken = drop_taken n.nav kind seq in
    let concrete : NavLeaves t n t (record n { nav = v }) = record {
      board = fits;
      keeps = same_keeps Nav t t.arrived;
      transfer = refl;
      adopts = adopts_same n.nav v t.board t.board (drop_head n.nav kind seq) refl (asked_by_call (Drops kind seq) n.nav t.board v t.board (record { owed = h.owed; board = refl; nav = refl }) adopts.asked) adopts;
      replies = λ can on. can on;
      inputs = λ all. all;
    } in
    subst (λ (x : SharedTold × NavTold). NavLeaves t n x.0 x.1) (λ k. (sym h.shared k, sym h.nav k)) concrete

-- An event.

no_reads : (kind : PlanType) (id : ℕ) (seqs : List ℕ) → bringing (abouts (reads Nav kind id seqs)) ≡ []
no_reads kind id [] = refl
no_reads kind id (seq ∷ seqs) = no_reads kind id seqs

no_marks : (marks : List Mark) → bringing (abouts (mark_requests marks)) ≡ []
no_marks [] = refl
no_marks (mark ∷ marks) = no_marks marks

none_brought : (kind : PlanType) (id : ℕ) (seqs : List ℕ) (marks : List Mark) → bringing (abouts (reads Nav kind id seqs ++ mark_requests marks)) ≡ []
none_brought kind id seqs marks =
    ap bringing (abouts-append (reads Nav kind id seqs) (mark_requests marks))
    ∙ bringing-append (abouts (reads Nav kind id seqs)) (abouts (mark_requests marks))
    ∙ ap (λ l. l ++ bringing (abouts (mark_requests marks))) (no_reads kind id seqs)
    ∙ no_marks marks

other_reads : (other : Client) (kind : PlanType) (id : ℕ) (seqs : List ℕ) → other ≢ Nav → own_abouts other (abouts (reads Nav kind id seqs)) ≡ []
other_reads other kind id [] apart = refl
other_reads other kind id (seq ∷ seqs) apart = other_first other Nav (ask.Read kind id seq) (abouts (reads Nav kind id seqs)) apart ∙ other_reads other kind id seqs apart

other_marks : (other : Client) (marks : List Mark) → other ≢ Nav → own_abouts other (abouts (mark_requests marks)) ≡ []
other_marks other [] apart = refl
other_marks other (mark ∷ marks) apart = other_first other Nav (ask.SetMark mark) (abouts (mark_requests marks)) apart ∙ other_marks other marks apart

-- requests of the Navigator that wait behind all others are no others'
others_same : (b : BoardState) (index : Option (ℕ × ℕ)) (kind : PlanType) (id : ℕ) (seqs : List ℕ) (marks : List Mark) → OthersStay Nav b (record b { index = index; waiting = b.waiting ++ (reads Nav kind id seqs ++ mark_requests marks) })
others_same b index kind id seqs marks other apart =
    let first : List (Client × Asked) = listed (in_service b.service) in
    let rs : List (Client × Request) = reads Nav kind id seqs in
    let ms : List (Client × Request) = mark_requests marks in
    let b' : BoardState = record b { index = index; waiting = b.waiting ++ (rs ++ ms) } in
    let none : own_abouts other (abouts (rs ++ ms)) ≡ [] =
    ap (own_abouts other) (abouts-append rs ms) ∙ own_abouts-append other (abouts rs) (abouts ms) ∙ ap (λ l. l ++ own_abouts other (abouts ms)) (other_reads other kind id seqs apart) ∙ other_marks other marks apart in
    let asks : own_abouts other (unanswered b') ≡ own_abouts other (unanswered b) =
    ap (λ l. own_abouts other (first ++ l)) (abouts-append b.waiting (rs ++ ms))
    ∙ ap (own_abouts other) (sym (append_assoc first (abouts b.waiting) (abouts (rs ++ ms))))
    ∙ own_abouts-append other (first ++ abouts b.waiting) (abouts (rs ++ ms))
    ∙ ap (λ l. own_abouts other (unanswered b) ++ l) none
    ∙ append-nil (own_abouts other (unanswered b)) in
    let same : posted b' other ≡ posted b other = posted_alike b b' other refl refl refl in
    (same, ap (λ l. replied l ++ own_abouts other (unanswered b')) same ∙ ap (λ l. replied (posted b other) ++ l) asks)

met_earlier : (h : Option PlanHead) (p : PlanHead) → id_of (head_met h p) ≤ p.id
met_earlier h p = at_id (has_id h p.id) refl
  where
    at_id : (b : Bool) → has_id h p.id ≡ b → id_of (if b then h else Some p) ≤ p.id
    at_id true is = omega (arith, id_is h p.id is)
    at_id false is = omega arith

met_count : (h : Option PlanHead) (p : PlanHead) → (has_id h p.id ≡ true → p.count ≡ count_of h) → p.count ≡ count_of (head_met h p)
met_count h p same = at_id (has_id h p.id) refl
  where
    at_id : (b : Bool) → has_id h p.id ≡ b → p.count ≡ count_of (if b then h else Some p)
    at_id true is = same is
    at_id false is = refl

event_inputs : (given : VehicleLine) (shown : NavWhat) (s : ScheduleState) → All NavInput s.inputs → All NavInput (after_event given shown s).inputs
event_inputs event.Go (what.Pending kind seq) s all = all
event_inputs event.Go (what.Leg seq mission fence item) s all = behind s.inputs all
event_inputs event.Go (what.Action seq mission fence item) s all = behind s.inputs all
event_inputs event.Go (what.Jump seq to used mission fence) s all = behind s.inputs all
event_inputs event.Go (what.JumpSpent seq mission fence) s all = behind s.inputs all
event_inputs event.Go (what.Done mission fence) s all = behind s.inputs all
event_inputs event.Go (what.Hold rule seq mission fence) s all = behind s.inputs all
event_inputs event.Go what.HoldEmpty s all = behind s.inputs all
event_inputs event.Go what.Idle s all = behind s.inputs all
event_inputs event.Go what.Taken s all = behind s.inputs all
event_inputs event.Go (what.Next index) s all = behind s.inputs all
event_inputs event.Go what.NextReturn s all = behind s.inputs all
event_inputs event.Go what.Ignored s all = behind s.inputs all
event_inputs event.Go (what.ReturnLeg seq mission fence item) s all = behind s.inputs all
event_inputs event.Go (what.ReturnSkip seq mission fence) s all = behind s.inputs all
event_inputs event.Go (what.ReturnHome home) s all = behind s.inputs all
event_inputs event.Go (what.ReturnSafe seq safe fence item) s all = behind s.inputs all
event_inputs event.Go what.ReturnNone s all = behind s.inputs all
event_inputs event.Go what.ReturnDone s all = behind s.inputs all
event_inputs event.Tick shown s all = behind s.inputs all
event_inputs event.Reached shown s all = behind s.inputs all
event_inputs (event.Mode to) shown s all = behind s.inputs all
event_inputs (event.Position x y) shown s all = behind s.inputs all

acts_leave : (t : SharedTold) (n : NavTold) (given : VehicleLine) (entry : NavEntry) (t' : SharedTold) (n' : NavTold) → BoardFits t.transfer t.board → NavAdopts n.nav t.board → NavActs t n given entry t' n' → NavLeaves t n t' n'
acts_leave t n given entry t' n' fits adopts h =
    let b : BoardState = t.board in
    let own = adopts.asked.windows in
    let a = event_asks n.nav b given entry n'.nav t'.board own h.law in
    let head : n'.nav.mission.cache.head ≡ head_met n.nav.mission.cache.head (head_of b.published Mission) = event_heads n.nav b given entry n'.nav t'.board own h.law Mission in
    let id : ℕ = id_of (cache_of a.kind n'.nav).head in
    let more : List (Client × Request) = reads Nav a.kind id a.seqs ++ mark_requests a.marks in
    let b' : BoardState = record b { index = None; waiting = b.waiting ++ more } in
    let board : t'.board ≡ b' = a.board ∙ ap (λ (w : List (Client × Request)). record b { index = None; waiting = w }) (append_assoc b.waiting (reads Nav a.kind id a.seqs) (mark_requests a.marks)) in
    let shared : t' ≡ with_board t b' = h.shared ∙ ap (with_board t) board in
    let heads : t'.board.published ≡ b.published = ap (λ (x : BoardState). x.published) board in
    let keeps : ClientKeeps Nav t (with_board t b') = record { same = record { links = refl; watchers = refl }; others = others_same b None a.kind id a.seqs a.marks; published = refl; service = refl; power = refl } in
    record {
      board = subst (λ (x : SharedTold). BoardFits x.transfer x.board) (sym shared) (unbrought_fits t.transfer b more None fits (none_brought a.kind id a.seqs a.marks) tt);
      keeps = subst (ClientKeeps Nav t) (sym shared) keeps;
      transfer = ap (λ (x : SharedTold). x.transfer) shared;
      adopts = record {
        earlier = subst (λ (x : Option PlanHead × List PlanHead). id_of x.0 ≤ (head_of x.1 Mission).id) (λ k. (sym head k, sym heads k)) (met_earlier n.nav.mission.cache.head (head_of b.published Mission));
        same = subst (λ (x : Option PlanHead × List PlanHead). has_id x.0 (head_of x.1 Mission).id ≡ true → (head_of x.1 Mission).count ≡ count_of x.0) (λ k. (sym head k, sym heads k)) (λ is. met_count n.nav.mission.cache.head (head_of b.published Mission) adopts.same);
        asked = asked_by_call (Happens given entry) n.nav b n'.nav t'.board h.law adopts.asked;
      };
      replies = λ can on. subst CanHearAll (sym (ap (λ (x : BoardState). posted x Nav) board)) (can (sym (ap (λ (x : SharedTold). x.power) shared) ∙ on));
      inputs = λ all. subst (λ (x : ScheduleState). All NavInput x.inputs) (sym h.after) (event_inputs given entry.what n.schedule all);
    }

-- A meeting or a wait.

rests_leave : (t : SharedTold) (n : NavTold) (t' : SharedTold) (n' : NavTold) → BoardFits t.transfer t.board → NavAdopts n.nav t.board → t' ≡ record t { arrived = t'.arrived } → n'.nav ≡ n.nav → (n'.schedule.inputs ≡ n.schedule.inputs) ⊎ (n'.schedule.inputs ≡ drop 1 n.schedule.inputs) → NavLeaves t n t' n'
rests_leave t n t' n' fits adopts shared nav left =
    let u : SharedTold = record t { arrived = t'.arrived } in
    let concrete : NavLeaves t n u n' = record {
      board = fits;
      keeps = same_keeps Nav t t'.arrived;
      transfer = refl;
      adopts = subst (λ (v : NavTaken). NavAdopts v t.board) (sym nav) adopts;
      replies = λ can on. can on;
      inputs = λ all. kept_or_behind n.schedule.inputs n'.schedule.inputs left all;
    } in
    subst (λ (x : SharedTold). NavLeaves t n x n') (sym shared) concrete

pub nav_step_leaves : (t : SharedTold) (n : NavTold) (made : Line) (t' : SharedTold) (n' : NavTold) → BoardFits t.transfer t.board → NavAdopts n.nav t.board → NavStep t n made t' n' → NavLeaves t n t' n'
nav_step_leaves t n (line.Got about given) t' n' fits adopts h = got_leaves t n about given t' n' fits adopts h.1
nav_step_leaves t n (line.Dropped kind seq) t' n' fits adopts h = dropped_leaves t n kind seq t' n' fits adopts h.1
nav_step_leaves t n (line.Nav given entry) t' n' fits adopts h = acts_leave t n given entry t' n' fits adopts h.1
nav_step_leaves t n (line.Arrived who place) t' n' fits adopts h = let c = client_stays Nav t n.schedule (line.Arrived who place) t' n'.schedule h.1.step in rests_leave t n t' n' fits adopts c.shared h.1.nav c.inputs
nav_step_leaves t n (line.Met who place) t' n' fits adopts h = let c = client_stays Nav t n.schedule (line.Met who place) t' n'.schedule h.1.step in rests_leave t n t' n' fits adopts c.shared h.1.nav c.inputs
nav_step_leaves t n (line.Waited who) t' n' fits adopts h = let c = client_stays Nav t n.schedule (line.Waited who) t' n'.schedule h.1.step in rests_leave t n t' n' fits adopts c.shared h.1.nav c.inputs
nav_step_leaves t n (line.Boot number heads mark) t' n' fits adopts h = elim h.1.step [ ]
nav_step_leaves t n (line.BootCut number) t' n' fits adopts h = elim h.1.step [ ]
nav_step_leaves t n (line.Sent number said given) t' n' fits adopts h = elim h.1.step [ ]
nav_step_leaves t n (line.Heard number given said) t' n' fits adopts h = elim h.1.step [ ]
nav_step_leaves t n (line.Took who about) t' n' fits adopts h = elim h.1.step [ ]
nav_step_leaves t n (line.Served who given) t' n' fits adopts h = elim h.1.step [ ]
nav_step_leaves t n (line.WatchDid number given note asks) t' n' fits adopts h = elim h.1.step [ ]
nav_step_leaves t n (line.WatchGot number about given note asks) t' n' fits adopts h = elim h.1.step [ ]
nav_step_leaves t n line.End t' n' fits adopts h = elim h.1.step [ ]
nav_step_leaves t n line.Stuck t' n' fits adopts h = elim h.1.step [ ]
