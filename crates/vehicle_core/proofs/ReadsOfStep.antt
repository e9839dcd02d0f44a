-- Each line asks reads of published plans alone: the reads of watchers and of the Navigator, and what each line leaves of them.
use Rattle.std.proofs.Common.{◌≡◌, ◌≢◌, ◌⊎◌, inl, inr, ℕ, suc, zero, ◌<◌, ◌≤◌, ◌==◌, Bool, true, false, List, [], ◌∷◌, ◌++◌, drop, length, Option, Some, None, slice_get, slice_set, refl, sym, subst, ap, ◌∙◌, arith, append_assoc, append-nil, true≢false}
use Rattle.std.specs.Prelude.{if◌then◌else◌}
use Rattle.std.specs.List.{All}
use Rattle.std.proofs.lemmas.Bool.Decides.{nat_tests}
use Rattle.std.proofs.lemmas.List.Elements.{All-nil, All-cons, All-head, All-tail, All-append}
use Rattle.mission_model.specs.declared.counts.Mark.{Mark}
use Rattle.mission_model.specs.declared.plan.PlanHead.{PlanHead}
use Rattle.mission_model.specs.declared.plan.PlanType.{PlanType}
use Rattle.mission_model.specs.declared.plan.PlanType.TheVariants.{Mission, Fence, Safe}
use Rattle.mission_model.specs.declared.flight_line.Actor.TheVariants as actor
use Rattle.mission_model.specs.declared.flight_line.Line.{Line}
use Rattle.mission_model.specs.declared.flight_line.Line.TheVariants as line
use Rattle.mission_model.specs.declared.request.Asked.{Asked}
use Rattle.mission_model.specs.declared.request.Asked.TheVariants as about
use Rattle.mission_model.specs.declared.request.Client.{Client}
use Rattle.mission_model.specs.declared.request.Client.TheVariants as client
use Rattle.mission_model.specs.declared.request.Request.{Request}
use Rattle.mission_model.specs.declared.request.Request.TheVariants as request
use Rattle.mission_model.specs.declared.request.Reply.{Reply}
use Rattle.mission_model.specs.declared.schedule.BootScript.{BootScript}
use Rattle.mission_model.specs.declared.schedule.InputLine.{InputLine}
use Rattle.mission_model.specs.declared.flight_line.Actor.{Actor}
use Rattle.mission_model.specs.declared.vehicle.BootState.{BootState}
use Rattle.mission_model.specs.declared.vehicle.NavEntry.{NavEntry}
use Rattle.mission_model.specs.declared.vehicle.VehicleLine.{VehicleLine}
use Rattle.mission_model.specs.declared.watch.WatchOut.{WatchOut}
use Rattle.mission_model.specs.PlanTypes.{head_of}
use Rattle.mission_model.specs.Replies.{CanHear}
use Rattle.mission_model.specs.Shown.{asked_of}
use Rattle.request_board.specs.BoardState.{BoardState, HasClient, posted, open_asks}
use Rattle.request_board.specs.BoardCalls.{heard, answered, taken}
use Rattle.request_board.specs.Frames.{heard_own, with_waiting}
use Rattle.request_board.specs.Watching.{Awaited, Answers, HeadsFit, IsPublished, IsTold}
use Rattle.request_board.specs.WatchLaw.{WatchRules, reads_of}
use Rattle.client_cache.specs.CacheState.{CacheState, has_id, id_of, count_of}
use Rattle.client_cache.specs.Wants.{reads}
use Rattle.navigator.specs.Asking.{OwnWindows, EventAsks, head_met, mark_requests}
use Rattle.navigator.specs.Caches.{SamePlan-got}
use Rattle.navigator.specs.EventLaw.{EventLaw, nav_at_boot}
use Rattle.navigator.specs.NavCalls.{reply_taken, drop_taken}
use Rattle.navigator.specs.NavState.{NavTaken, FlightState, cache_of}
use Rattle.navigator.specs.NextEvent.{event_heads, event_windows, event_asks}
use Rattle.navigator.specs.Standing.{mark_answered}
use Rattle.navigator.specs.Meeting.{is_done}
use Rattle.vehicle_core.specs.declared.local.Local.{Local}
use Rattle.vehicle_core.specs.declared.local.Role.{Role}
use Rattle.vehicle_core.specs.declared.local.Role.TheVariants as role
use Rattle.vehicle_core.specs.declared.shared.Shared.{Shared}
use Rattle.vehicle_core.specs.Told.{SharedTold, LinkTold, NavTold, WatchTold, ActorTold, BootTold, Worker, Link, Nav, Watch, links_begun, nav_begun, watches_begun, begun}
use Rattle.vehicle_core.specs.SharedState.{shared_told}
use Rattle.vehicle_core.specs.ActorStep.{ActorStep, NavStep, WatcherStep, all_asked, with_board}
use Rattle.vehicle_core.specs.CoreRun.{LineStep}
use Rattle.vehicle_core.specs.LinkActs.{CanHearAll}
use Rattle.vehicle_core.specs.LinkKept.{client_stays}
use Rattle.vehicle_core.specs.LocalState.{role_told}
use Rattle.vehicle_core.specs.NavActs.{nav_told}
use Rattle.vehicle_core.specs.Records.{ready_on}
use Rattle.vehicle_core.specs.Steps.{RoleFits}
use Rattle.mission_model.specs.declared.plan.Item.{Item}
use Rattle.vehicle_core.specs.WatchActs.{WatchAsks}
use Rattle.vehicle_core.specs.WatchKept.{AnswersWell, told_one}
use Rattle.vehicle_core.specs.WorkerKept.{served_rises}
use Rattle.vehicle_core.specs.Leaves.{HeadRises}
use Rattle.vehicle_core.specs.UploadFits.{BoardFits}
use Rattle.vehicle_core.specs.CoreState.{CoreState, CoreFits, Tells, IsTold as IsToldOf, AreTold}
use Rattle.vehicle_core.specs.ReadsAsked.{IsOfPublished, AsksPublished, WindowsFit, NavsFit}
use Rattle.vehicle_core.proofs.CoreSteps.{set_at}
use Rattle.vehicle_core.proofs.Names.{step_named}
use Rattle.vehicle_core.proofs.PowerEnds.{told_true}
use Rattle.vehicle_core.proofs.ReadsOfLinks.{asks_nothing, asks_more, heard_waits, link_asks}

-- Windows.

is_of : (head : Option PlanHead) (id : ℕ) → has_id head id ≡ true → id_of head ≡ id
is_of None id is = absurd cc
is_of (Some head) id is = grind (arith, nat_tests, is)

pub windows_rise : (v : NavTaken) (old new : List PlanHead) → ((kind : PlanType) → HeadRises (head_of old kind) (head_of new kind)) → WindowsFit v old → WindowsFit v new
windows_rise v old new rises fits = record {
  own = fits.own;
  earlier = λ kind. elim (rises kind) [ inl same ↦ omega (arith, fits.earlier kind, ap (λ (h : PlanHead). h.id) same) | inr later ↦ omega (arith, fits.earlier kind, later) ];
  same = λ kind is. elim (rises kind) [
    | inl same ↦ fits.same kind (ap (λ (h : PlanHead). has_id (cache_of kind v).head h.id) (sym same) ∙ is) ∙ ap (λ (h : PlanHead). Some h) (sym same)
    | inr later ↦ absurd (omega (arith, fits.earlier kind, later, is_of (cache_of kind v).head (head_of new kind).id is))
  ];
}

-- windows on the same plans
windows_same : (v v' : NavTaken) (heads : List PlanHead) → ((kind : PlanType) → (cache_of kind v').head ≡ (cache_of kind v).head) → OwnWindows v' → WindowsFit v heads → WindowsFit v' heads
windows_same v v' heads same own fits = record {
  own = own;
  earlier = λ kind. subst (λ (h : Option PlanHead). id_of h ≤ (head_of heads kind).id) (sym (same kind)) (fits.earlier kind);
  same = λ kind. subst (λ (h : Option PlanHead). has_id h (head_of heads kind).id ≡ true → h ≡ Some (head_of heads kind)) (sym (same kind)) (fits.same kind);
}

-- so do the same windows
windows_like : (v v' : NavTaken) (heads : List PlanHead) → ((kind : PlanType) → cache_of kind v' ≡ cache_of kind v) → WindowsFit v heads → WindowsFit v' heads
windows_like v v' heads same fits =
    windows_same v v' heads (λ kind. ap (λ (c : CacheState). c.head) (same kind))
    (record { client = λ kind. ap (λ (c : CacheState). c.client) (same kind) ∙ fits.own.client kind; kind = λ kind. ap (λ (c : CacheState). c.kind) (same kind) ∙ fits.own.kind kind }) fits

windows_if : (b : Bool) (v w : NavTaken) (heads : List PlanHead) → WindowsFit v heads → WindowsFit w heads → WindowsFit (if b then v else w) heads
windows_if true v w heads h k = h
windows_if false v w heads h k = k

flight_cache : (v : NavTaken) (f : FlightState) (kind : PlanType) → cache_of kind (record v { flight = f }) ≡ cache_of kind v
flight_cache v f Mission = refl
flight_cache v f Fence = refl
flight_cache v f Safe = refl

-- an event adopts what is published
adopts : (v : NavTaken) (heads : List PlanHead) (kind : PlanType) → WindowsFit v heads → head_met (cache_of kind v).head (head_of heads kind) ≡ Some (head_of heads kind)
adopts v heads kind fits = elim (told_true (has_id (cache_of kind v).head (head_of heads kind).id)) [
  | inl is ↦ ap (λ b. if b then (cache_of kind v).head else Some (head_of heads kind)) is ∙ fits.same kind is
  | inr apart ↦ ap (λ b. if b then (cache_of kind v).head else Some (head_of heads kind)) apart
]

windows_new : (v : NavTaken) (heads : List PlanHead) → OwnWindows v → ((kind : PlanType) → (cache_of kind v).head ≡ Some (head_of heads kind)) → WindowsFit v heads
windows_new v heads own is = record {
  own = own;
  earlier = λ kind. subst (λ (h : Option PlanHead). id_of h ≤ (head_of heads kind).id) (sym (is kind)) (omega arith);
  same = λ kind given. is kind;
}

pub windows_at_boot : (boot : BootScript) (state : BootState) → WindowsFit (nav_at_boot boot.params boot.home state) state.heads
windows_at_boot boot state = windows_new (nav_at_boot boot.params boot.home state) state.heads
    (record { client = λ kind. own_client boot state kind; kind = λ kind. own_kind boot state kind })
    (λ kind. own_head boot state kind)
  where
    own_client : (boot : BootScript) (state : BootState) (kind : PlanType) → (cache_of kind (nav_at_boot boot.params boot.home state)).client ≡ client.Nav
    own_client boot state Mission = refl
    own_client boot state Fence = refl
    own_client boot state Safe = refl

    own_kind : (boot : BootScript) (state : BootState) (kind : PlanType) → (cache_of kind (nav_at_boot boot.params boot.home state)).kind ≡ kind
    own_kind boot state Mission = refl
    own_kind boot state Fence = refl
    own_kind boot state Safe = refl

    own_head : (boot : BootScript) (state : BootState) (kind : PlanType) → (cache_of kind (nav_at_boot boot.params boot.home state)).head ≡ Some (head_of state.heads kind)
    own_head boot state Mission = refl
    own_head boot state Fence = refl
    own_head boot state Safe = refl

-- The Navigator.

reads_all : (heads : List PlanHead) (kind : PlanType) (id : ℕ) (seqs : List ℕ) → id ≡ (head_of heads kind).id → All (λ seq. seq < (head_of heads kind).count) seqs → All (IsOfPublished heads) (reads client.Nav kind id seqs)
reads_all heads kind id [] is within = All-nil (IsOfPublished heads)
reads_all heads kind id (seq ∷ seqs) is within =
    All-cons (IsOfPublished heads) (client.Nav, request.Read kind id seq) (reads client.Nav kind id seqs) (is, All-head (λ n. n < (head_of heads kind).count) seq seqs within) (reads_all heads kind id seqs is (All-tail (λ n. n < (head_of heads kind).count) seq seqs within))

marks_all : (heads : List PlanHead) (marks : List Mark) → All (IsOfPublished heads) (mark_requests marks)
marks_all heads [] = All-nil (IsOfPublished heads)
marks_all heads (mark ∷ marks) = All-cons (IsOfPublished heads) (client.Nav, request.SetMark mark) (mark_requests marks) tt (marks_all heads marks)

-- what a line of the Navigator asks and leaves
pub record NavReads (t : SharedTold) (t' : SharedTold) (n' : NavTold) : Type 0 where
  pub asks : AsksPublished t.board t'.board
  pub heads : t'.board.published ≡ t.board.published
  pub windows : WindowsFit n'.nav t.board.published

event_reads : (v : NavTaken) (b : BoardState) (given : VehicleLine) (entry : NavEntry) (v' : NavTaken) (b' : BoardState) → WindowsFit v b.published → EventLaw v b given entry v' b' → AsksPublished b b' × (b'.published ≡ b.published) × WindowsFit v' b.published
event_reads v b given entry v' b' fits e =
    let asks : EventAsks v b v' b' = event_asks v b given entry v' b' fits.own e in
    let is : (kind : PlanType) → (cache_of kind v').head ≡ Some (head_of b.published kind) = λ kind. event_heads v b given entry v' b' fits.own e kind ∙ adopts v b.published kind fits in
    let waits : b'.waiting ≡ b.waiting ++ (reads client.Nav asks.kind (id_of (cache_of asks.kind v').head) asks.seqs ++ mark_requests asks.marks) =
    ap (λ (x : BoardState). x.waiting) asks.board ∙ append_assoc b.waiting (reads client.Nav asks.kind (id_of (cache_of asks.kind v').head) asks.seqs) (mark_requests asks.marks) in (
      asks_more b b' (reads client.Nav asks.kind (id_of (cache_of asks.kind v').head) asks.seqs ++ mark_requests asks.marks) waits
          (All-append (IsOfPublished b.published) (reads client.Nav asks.kind (id_of (cache_of asks.kind v').head) asks.seqs) (mark_requests asks.marks)
          (reads_all b.published asks.kind (id_of (cache_of asks.kind v').head) asks.seqs (ap id_of (is asks.kind)) (subst (λ (h : Option PlanHead). All (λ seq. seq < count_of h) asks.seqs) (is asks.kind) asks.has))
          (marks_all b.published asks.marks)),
      ap (λ (x : BoardState). x.published) asks.board,
      windows_new v' b.published (event_windows v b given entry v' b' fits.own e) is,
    )

-- a reply that is taken leaves each window on its plan
reply_windows : (v : NavTaken) (asked : Asked) (given : Reply) (heads : List PlanHead) → WindowsFit v heads → WindowsFit (reply_taken v asked given) heads
reply_windows v (about.Read kind id seq) given heads fits = windows_same v (reply_taken v (about.Read kind id seq) given) heads (λ k. got_head v kind id seq given k) (record { client = λ k. got_client v kind id seq given k ∙ fits.own.client k; kind = λ k. got_kind v kind id seq given k ∙ fits.own.kind k }) fits where
  got_head : (v : NavTaken) (kind : PlanType) (id seq : ℕ) (given : Reply) (k : PlanType) → (cache_of k (reply_taken v (about.Read kind id seq) given)).head ≡ (cache_of k v).head
  got_head v kind id seq given Mission = (SamePlan-got v.mission.cache (about.Read kind id seq) given).head
  got_head v kind id seq given Fence = (SamePlan-got v.fence.cache (about.Read kind id seq) given).head
  got_head v kind id seq given Safe = (SamePlan-got v.safe.cache (about.Read kind id seq) given).head

  got_client : (v : NavTaken) (kind : PlanType) (id seq : ℕ) (given : Reply) (k : PlanType) → (cache_of k (reply_taken v (about.Read kind id seq) given)).client ≡ (cache_of k v).client
  got_client v kind id seq given Mission = (SamePlan-got v.mission.cache (about.Read kind id seq) given).client
  got_client v kind id seq given Fence = (SamePlan-got v.fence.cache (about.Read kind id seq) given).client
  got_client v kind id seq given Safe = (SamePlan-got v.safe.cache (about.Read kind id seq) given).client

  got_kind : (v : NavTaken) (kind : PlanType) (id seq : ℕ) (given : Reply) (k : PlanType) → (cache_of k (reply_taken v (about.Read kind id seq) given)).kind ≡ (cache_of k v).kind
  got_kind v kind id seq given Mission = (SamePlan-got v.mission.cache (about.Read kind id seq) given).kind
  got_kind v kind id seq given Fence = (SamePlan-got v.fence.cache (about.Read kind id seq) given).kind
  got_kind v kind id seq given Safe = (SamePlan-got v.safe.cache (about.Read kind id seq) given).kind
reply_windows v (about.Write kind id seq) given heads fits = fits
reply_windows v (about.Commit kind id count) given heads fits = fits
reply_windows v (about.SetMark mark) given heads fits =
    let marked : FlightState = record v.flight { marks = mark_answered v.flight.marks (is_done given) } in
    windows_if (has_id v.mission.cache.head mark.id) (record v { flight = marked }) v heads (windows_like v (record v { flight = marked }) heads (λ k. flight_cache v marked k) fits) fits

dropped_head : (v : NavTaken) (kind : PlanType) (seq : ℕ) (k : PlanType) → (cache_of k (drop_taken v kind seq)).head ≡ (cache_of k v).head
dropped_head v Mission seq Mission = refl
dropped_head v Mission seq Fence = refl
dropped_head v Mission seq Safe = refl
dropped_head v Fence seq Mission = refl
dropped_head v Fence seq Fence = refl
dropped_head v Fence seq Safe = refl
dropped_head v Safe seq Mission = refl
dropped_head v Safe seq Fence = refl
dropped_head v Safe seq Safe = refl

dropped_client : (v : NavTaken) (kind : PlanType) (seq : ℕ) (k : PlanType) → (cache_of k (drop_taken v kind seq)).client ≡ (cache_of k v).client
dropped_client v Mission seq Mission = refl
dropped_client v Mission seq Fence = refl
dropped_client v Mission seq Safe = refl
dropped_client v Fence seq Mission = refl
dropped_client v Fence seq Fence = refl
dropped_client v Fence seq Safe = refl
dropped_client v Safe seq Mission = refl
dropped_client v Safe seq Fence = refl
dropped_client v Safe seq Safe = refl

dropped_kind : (v : NavTaken) (kind : PlanType) (seq : ℕ) (k : PlanType) → (cache_of k (drop_taken v kind seq)).kind ≡ (cache_of k v).kind
dropped_kind v Mission seq Mission = refl
dropped_kind v Mission seq Fence = refl
dropped_kind v Mission seq Safe = refl
dropped_kind v Fence seq Mission = refl
dropped_kind v Fence seq Fence = refl
dropped_kind v Fence seq Safe = refl
dropped_kind v Safe seq Mission = refl
dropped_kind v Safe seq Fence = refl
dropped_kind v Safe seq Safe = refl

drop_windows : (v : NavTaken) (kind : PlanType) (seq : ℕ) (heads : List PlanHead) → WindowsFit v heads → WindowsFit (drop_taken v kind seq) heads
drop_windows v kind seq heads fits = windows_same v (drop_taken v kind seq) heads (λ k. dropped_head v kind seq k) (record { client = λ k. dropped_client v kind seq k ∙ fits.own.client k; kind = λ k. dropped_kind v kind seq k ∙ fits.own.kind k }) fits

nav_reads : (t : SharedTold) (n : NavTold) (made : Line) (t' : SharedTold) (n' : NavTold) → WindowsFit n.nav t.board.published → NavStep t n made t' n' → NavReads t t' n'
nav_reads t n (line.Got asked given) t' n' fits h =
    let board : t'.board ≡ heard t.board client.Nav h.1.rest = ap (λ (x : SharedTold). x.board) h.1.shared in
    let still = heard_waits t.board client.Nav h.1.rest in
    record {
      asks = asks_nothing t.board t'.board (ap (λ (b : BoardState). b.waiting) board ∙ still.0);
      heads = ap (λ (b : BoardState). b.published) board ∙ still.1;
      windows = subst (λ (x : NavTold). WindowsFit x.nav t.board.published) (sym h.1.nav) (reply_windows n.nav asked given t.board.published fits);
    }
nav_reads t n (line.Dropped kind seq) t' n' fits h =
    let board : t'.board ≡ t.board = ap (λ (x : SharedTold). x.board) h.1.shared in
    record {
      asks = asks_nothing t.board t'.board (ap (λ (b : BoardState). b.waiting) board);
      heads = ap (λ (b : BoardState). b.published) board;
      windows = subst (λ (x : NavTold). WindowsFit x.nav t.board.published) (sym h.1.nav) (drop_windows n.nav kind seq t.board.published fits);
    }
nav_reads t n (line.Nav given entry) t' n' fits h =
    let r = event_reads n.nav t.board given entry n'.nav t'.board fits h.1.law in
    record { asks = r.0; heads = r.1; windows = r.2 }
nav_reads t n other t' n' fits h =
    let board : t'.board ≡ t.board = ap (λ (x : SharedTold). x.board) (client_stays client.Nav t n.schedule other t' n'.schedule h.1.step).shared in
    record {
      asks = asks_nothing t.board t'.board (ap (λ (b : BoardState). b.waiting) board);
      heads = ap (λ (b : BoardState). b.published) board;
      windows = subst (λ (x : NavTaken). WindowsFit x t.board.published) (sym h.1.nav) fits;
    }

-- Watchers.

asked_one : (b : BoardState) (number : ℕ) (read : Option (PlanType × ℕ × ℕ)) → IsPublished b.published read → AsksPublished b (all_asked b (client.Watch number) (reads_of read)) × ((all_asked b (client.Watch number) (reads_of read)).published ≡ b.published)
asked_one b number None published = (asks_nothing b b refl, refl)
asked_one b number (Some (kind, id, seq)) published = (
  asks_more b (all_asked b (client.Watch number) (reads_of (Some (kind, id, seq)))) ((client.Watch number, request.Read kind id seq) ∷ []) refl
      (All-cons (IsOfPublished b.published) (client.Watch number, request.Read kind id seq) [] published (All-nil (IsOfPublished b.published))),
  refl,
)

-- the same board, but for what is posted
asked_after : (b mid b' : BoardState) → mid.waiting ≡ b.waiting → mid.published ≡ b.published → AsksPublished mid b' × (b'.published ≡ mid.published) → AsksPublished b b' × (b'.published ≡ b.published)
asked_after b mid b' waits heads h = (
  record {
    left = h.0.left;
    asks = h.0.asks;
    stays = elim h.0.stays [ inl same ↦ inl (same ∙ waits) | inr first ↦ inr (first.0, sym waits ∙ first.1) ];
    waiting = h.0.waiting;
    published = subst (λ (x : List PlanHead). All (IsOfPublished x) h.0.asks) heads h.0.published;
  },
  h.1 ∙ heads,
)

-- what the step of a watcher rests on
pub record WatchRests {W : Type 0} (waits : W → Awaited) (t : SharedTold) (w : WatchTold W) : Type 0 where
  pub heads : HeadsFit t.board.published
  pub has : HasClient t.board (client.Watch w.number)
  pub replies : CanHearAll (posted t.board (client.Watch w.number))
  pub asks : WatchAsks w.watch.busy (waits w.watch.watcher) t.board.published (open_asks t.board (client.Watch w.number))

-- what a line asks, and how it lets published heads rise
pub record StepReads (t t' : SharedTold) : Type 0 where
  pub asks : AsksPublished t.board t'.board
  pub rises : (kind : PlanType) → HeadRises (head_of t.board.published kind) (head_of t'.board.published kind)

same_rises : (t t' : SharedTold) → AsksPublished t.board t'.board × (t'.board.published ≡ t.board.published) → StepReads t t'
same_rises t t' h = record { asks = h.0; rises = λ kind. inl (ap (λ (heads : List PlanHead). head_of heads kind) h.1) }

module _ {W : Type 0} where
  watch_reads : (rules : WatchRules W) (waits : W → Awaited) (t : SharedTold) (w : WatchTold W) (made : Line) (t' : SharedTold) (w' : WatchTold W) → AnswersWell rules waits → WatchRests waits t w → WatcherStep rules t w made t' w' → AsksPublished t.board t'.board × (t'.board.published ≡ t.board.published)
  watch_reads rules waits t w (line.WatchDid number given note asks) t' w' well rests h =
      let out : WatchOut × W = rules.works w.watch.watcher given t.board.published in
      let answers = well.works w.watch.watcher given t.board.published rests.heads in
      let board : t'.board ≡ all_asked t.board (client.Watch w.number) (reads_of out.0.read) = ap (λ (x : SharedTold). x.board) h.2.shared ∙ ap (λ (r : List Request). all_asked t.board (client.Watch w.number) r) h.2.law.asked in
      subst (λ (b : BoardState). AsksPublished t.board b × (b.published ≡ t.board.published)) (sym board) (asked_one t.board w.number out.0.read answers.read)
  watch_reads rules waits t w (line.WatchGot number asked given note asks) t' w' well rests h =
      let who : Client = client.Watch w.number in
      let b : BoardState = heard t.board who h.2.rest in
      let still = heard_waits t.board who h.2.rest in
      let own_asks : open_asks t.board who ≡ asked ∷ open_asks b who = heard_own t.board who (asked, given) h.2.rest rests.has h.2.first in
      let can : CanHearAll ((asked, given) ∷ h.2.rest) = subst CanHearAll h.2.first rests.replies in
      let one = told_one w.watch.busy (waits w.watch.watcher) t.board.published asked given (open_asks t.board who) (open_asks b who) rests.asks own_asks (All-head (λ (said : Asked × Reply). CanHear said.0 said.1) (asked, given) h.2.rest can) in
      let out : WatchOut × W = rules.tells w.watch.watcher asked given t.board.published in
      let answers = well.tells w.watch.watcher asked given t.board.published rests.heads one.0 in
      let board : t'.board ≡ all_asked b who (reads_of out.0.read) = ap (λ (x : SharedTold). x.board) h.2.shared ∙ ap (λ (r : List Request). all_asked b who r) h.2.law.asked in
      asked_after t.board b t'.board still.0 still.1
      (subst (λ (x : BoardState). AsksPublished b x × (x.published ≡ b.published)) (sym board) (asked_one b w.number out.0.read (subst (λ (heads : List PlanHead). IsPublished heads out.0.read) (sym still.1) answers.read)))
  watch_reads rules waits t w other t' w' well rests h = elim h [ ]

  -- All lines.

  -- what the step of an actor rests on
  abbrev pub ReadsRest : (W → Awaited) → SharedTold → ActorTold W → Type 0
  ReadsRest waits t Worker = BoardFits t.transfer t.board
  ReadsRest waits t (Link l) = Unit {0}
  ReadsRest waits t (Nav n) = WindowsFit n.nav t.board.published
  ReadsRest waits t (Watch w) = WatchRests waits t w

  worker_reads : (rules : WatchRules W) (t : SharedTold) (made : Line) (t' : SharedTold) (a' : ActorTold W) → BoardFits t.transfer t.board → ActorStep rules t Worker made t' a' → StepReads t t'
  worker_reads rules t (line.Took who shown) t' Worker fits h =
      let board : t'.board ≡ taken t.board (who, h.request) h.rest = ap (λ (x : SharedTold). x.board) h.shared in
      record {
        asks = record { left = h.rest; asks = []; stays = inr ((who, h.request), h.first); waiting = ap (λ (b : BoardState). b.waiting) board ∙ sym (append-nil h.rest); published = All-nil (IsOfPublished t.board.published) };
        rises = λ kind. inl (ap (λ (b : BoardState). head_of b.published kind) board);
      }
  worker_reads rules t (line.Served who given) t' Worker fits h =
      let board : t'.board ≡ answered t.board who (asked_of h.request) given = ap (λ (x : SharedTold). x.board) h.shared in
      record {
        asks = asks_nothing t.board t'.board (ap (λ (b : BoardState). b.waiting) board ∙ (with_waiting t.board who (posted t.board who ++ (asked_of h.request, given) ∷ [])).0);
        rises = λ kind. subst (λ (b : BoardState). HeadRises (head_of t.board.published kind) (head_of b.published kind)) (sym board) (served_rises t.transfer t.board who h.request given h.service fits kind);
      }
  worker_reads rules t other t' a' fits h = elim h [ ]

  pub step_reads : (rules : WatchRules W) (waits : W → Awaited) (t : SharedTold) (a : ActorTold W) (made : Line) (t' : SharedTold) (a' : ActorTold W) → AnswersWell rules waits → ReadsRest waits t a → ActorStep rules t a made t' a' → StepReads t t'
  step_reads rules waits t Worker made t' a' well rests h = worker_reads rules t made t' a' rests h
  step_reads rules waits t (Link l) made t' (Link l') well rests h = same_rises t t' (link_asks t l made t' l' h)
  step_reads rules waits t (Nav n) made t' (Nav n') well rests h = let r = nav_reads t n made t' n' rests h in same_rises t t' (r.asks, r.heads)
  step_reads rules waits t (Watch w) made t' (Watch w') well rests h = same_rises t t' (watch_reads rules waits t w made t' w' well rests h)
  step_reads rules waits t a made t' a' well rests h = elim h [ ]

  worker_stays : (rules : WatchRules W) (t : SharedTold) (made : Line) (t' : SharedTold) (n' : NavTold) → ActorStep rules t Worker made t' (Nav n') → ⊥
  worker_stays rules t made t' n' h = let named = step_named rules t Worker made t' (Nav n') h in cc

  -- the Navigator's windows behind its own line
  step_windows : (rules : WatchRules W) (waits : W → Awaited) (t : SharedTold) (a : ActorTold W) (made : Line) (t' : SharedTold) (n' : NavTold) → ReadsRest waits t a → ActorStep rules t a made t' (Nav n') → WindowsFit n'.nav t.board.published
  step_windows rules waits t (Nav n) made t' n' rests h = (nav_reads t n made t' n' rests h).windows
  step_windows rules waits t Worker made t' n' rests h = absurd (worker_stays rules t made t' n' h)
  step_windows rules waits t (Link l) made t' n' rests h = elim h [ ]
  step_windows rules waits t (Watch w) made t' n' rests h = elim h [ ]

  -- a local's actor rests on what the local fits
  told_back : (ls : List (Local W)) (actors : List (ActorTold W)) (k : ℕ) (a : ActorTold W) → AreTold ls actors → slice_get actors k ≡ Some a → (l : Local W) × (slice_get ls k ≡ Some l) × IsToldOf l a
  told_back [] [] k a told at = absurd cc
  told_back [] (b ∷ actors) k a told at = elim told [ ]
  told_back (l ∷ ls) [] k a told at = elim told [ ]
  told_back (l ∷ ls) (b ∷ actors) zero a told at =
      let is : b ≡ a = cc in
      (l, refl, subst (λ (x : ActorTold W). IsToldOf l x) is told.0)
  told_back (l ∷ ls) (b ∷ actors) (suc k) a told at = told_back ls actors k a told.1 at

  role_rests : (waits : W → Awaited) (s : Shared) (arrived : List ℕ) (r : Role W) (items : List Item) (board : BoardFits s.transfer s.board) → s.power ≡ true → RoleFits waits s r → ((n : NavTold) → role_told r items ≡ Nav n → WindowsFit n.nav s.board.published) → ReadsRest waits (shared_told s arrived) (role_told r items)
  role_rests waits s arrived (role.Worker taken) items board on fits navs = board
  role_rests waits s arrived (role.Link l) items board on fits navs = tt
  role_rests waits s arrived (role.Nav n) items board on fits navs = navs (nav_told n items) refl
  role_rests waits s arrived (role.Watch w) items board on fits navs = record { heads = fits.heads; has = fits.client; replies = fits.replies on; asks = fits.asks }

  -- what a line of a core asks, and what it leaves of the windows
  pub line_reads : (rules : WatchRules W) (waits : W → Awaited) (c : CoreState W) (t t' : BootTold W) (made : Line) → AnswersWell rules waits → CoreFits waits c → Tells c.shared c.locals t → NavsFit t → LineStep rules t made t' → AsksPublished t.shared.board t'.shared.board × NavsFit t'
  line_reads rules waits c t t' made well fits tells navs step =
      let back = told_back c.locals t.actors step.place step.old tells.actors step.at in
      let own = (fits.each step.place back.0 back.1).1 in
      let arrived : List ℕ = t.shared.arrived in
      let on : c.shared.power ≡ true = sym (ap (λ (x : SharedTold). x.power) tells.shared) ∙ ready_on t.shared step.old step.ready in
      let rests : ReadsRest waits t.shared step.old =
      subst (λ (x : SharedTold). ReadsRest waits x step.old) (sym tells.shared)
      (subst (λ (a : ActorTold W). ReadsRest waits (shared_told c.shared arrived) a) (sym back.2.told)
      (role_rests waits c.shared arrived back.0.role back.2.items own.shared.board on own.role
      (λ n is. subst (λ (x : SharedTold). WindowsFit n.nav x.board.published) tells.shared (navs step.place n (step.at ∙ ap (λ (x : ActorTold W). Some x) (back.2.told ∙ is)))))) in
      let reads = step_reads rules waits t.shared step.old made t'.shared step.new well rests step.step in (
        reads.asks,
        λ place n at. windows_rise n.nav t.shared.board.published t'.shared.board.published reads.rises
            (elim (set_at t.actors step.place place step.new (Nav n) (subst (λ (actors : List (ActorTold W)). slice_get actors place ≡ Some (Nav n)) step.actors at)) [
              | inl here ↦ step_windows rules waits t.shared step.old made t'.shared n rests (subst (λ (a : ActorTold W). ActorStep rules t.shared step.old made t'.shared a) (sym here.1) step.step)
              | inr there ↦ navs place n there.1
            ]),
      )

  -- the Navigator of a boot
  watches_none : (number : ℕ) (own : List W) (inputs : List (Actor × InputLine)) (place : ℕ) (n : NavTold) → slice_get (watches_begun number own inputs) place ≡ Some (Nav n) → ⊥
  watches_none number [] inputs place n at = cc
  watches_none number (w ∷ own) inputs zero n at = cc
  watches_none number (w ∷ own) inputs (suc place) n at = watches_none (suc number) own inputs place n at

  links_one : (number count : ℕ) (inputs : List (Actor × InputLine)) (begun_nav : NavTold) (number' : ℕ) (own : List W) (place : ℕ) (n : NavTold) → slice_get (links_begun number count inputs ++ Nav begun_nav ∷ watches_begun number' own inputs) place ≡ Some (Nav n) → n ≡ begun_nav
  links_one number zero inputs begun_nav number' own zero n at = cc
  links_one number zero inputs begun_nav number' own (suc place) n at = absurd (watches_none number' own inputs place n at)
  links_one number (suc count) inputs begun_nav number' own zero n at = absurd cc
  links_one number (suc count) inputs begun_nav number' own (suc place) n at = links_one (suc number) count inputs begun_nav number' own place n at

  pub navs_begun : (boot : BootScript) (state : BootState) (own : List W) → NavsFit (begun boot state own)
  navs_begun boot state own zero n at = absurd cc
  navs_begun boot state own (suc place) n at =
      let is : n ≡ nav_begun boot state = links_one 0 boot.links boot.inputs (nav_begun boot state) 0 own place n at in
      subst (λ (x : NavTold). WindowsFit x.nav state.heads) (sym is) (windows_at_boot boot state)
