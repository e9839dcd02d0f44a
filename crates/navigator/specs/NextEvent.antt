-- An event leaves what the next one needs: the published plans are adopted, and the requests that the Navigator has
-- outstanding are those that it asked. So do a reply, a drop, and what others do to the board.
use Rattle.std.proofs.Common.{◌≡◌, ℕ, ◌<◌, ◌≤◌, inl, inr, Bool, true, false, List, [], ◌∷◌, ◌++◌, length, Option, Some, None, refl, sym, ap, subst, ◌∙◌, arith, append-nil}
use Rattle.std.specs.Prelude.{if◌then◌else◌}
use Rattle.std.specs.List.{All}
use Rattle.std.proofs.lemmas.List.Elements.{All-nil, All-cons}
use Rattle.mission_model.specs.declared.counts.Mark.{Mark}
use Rattle.mission_model.specs.declared.plan.PlanHead.{PlanHead}
use Rattle.mission_model.specs.declared.plan.PlanType.{PlanType}
use Rattle.mission_model.specs.declared.plan.PlanType.TheVariants.{Mission, Fence, Safe}
use Rattle.mission_model.specs.declared.request.Client.{Client}
use Rattle.mission_model.specs.declared.request.Client.TheVariants.{Nav}
use Rattle.mission_model.specs.declared.request.Request.{Request}
use Rattle.mission_model.specs.declared.vehicle.NavEntry.{NavEntry}
use Rattle.mission_model.specs.declared.vehicle.VehicleLine.{VehicleLine}
use Rattle.mission_model.specs.PlainMark.{PlainMark, plain_mark}
use Rattle.mission_model.specs.PlanTypes.{head_of}
use Rattle.request_board.specs.BoardState.{BoardState}
use Rattle.client_cache.specs.CacheState.{CacheState, has_id, id_of, count_of, adopted}
use Rattle.client_cache.specs.Wants.{reads}
use Rattle.leg_machine.specs.MachineState.{MachineState, set_to}
use Rattle.navigator.specs.Standing.{MarksState}
use Rattle.navigator.specs.NavState.{FlightState, NavTaken, cache_of}
use Rattle.navigator.specs.Meeting.{is_new, FlightMet, PlansMet, AsksMark, place_of}
use Rattle.navigator.specs.EventLaw.{EventLaw, index_met}
use Rattle.navigator.specs.Asking.{head_met, marks_kept, OwnWindows, mark_requests, EventAsks}
use Rattle.navigator.specs.Looks.{KeepsPlans, keeps_plan, keeps_same, keeps_itself, keeps_windows, AsksReads, act_asks}

-- What is adopted.

if-head : (b : Bool) (c d : CacheState) → (if b then c else d).head ≡ (if b then c.head else d.head)
if-head true c d = refl
if-head false c d = refl

if-client : (b : Bool) (c d : CacheState) → d.client ≡ c.client → (if b then c else d).client ≡ c.client
if-client true c d same = refl
if-client false c d same = same

if-kind : (b : Bool) (c d : CacheState) → d.kind ≡ c.kind → (if b then c else d).kind ≡ c.kind
if-kind true c d same = refl
if-kind false c d same = same

pub adopted_head : (c : CacheState) (head : PlanHead) → (adopted c head).head ≡ head_met c.head head
adopted_head c head = if-head (has_id c.head head.id) c _

pub met_heads : (v : NavTaken) (heads : List PlanHead) (met : NavTaken) → PlansMet v heads met → (kind : PlanType) → (cache_of kind met).head ≡ head_met (cache_of kind v).head (head_of heads kind)
met_heads v heads met m Mission = ap (λ (w : NavTaken). w.mission.cache.head) m.rest ∙ adopted_head v.mission.cache (head_of heads Mission)
met_heads v heads met m Fence = ap (λ (w : NavTaken). w.fence.cache.head) m.rest ∙ adopted_head v.fence.cache (head_of heads Fence)
met_heads v heads met m Safe = ap (λ (w : NavTaken). w.safe.cache.head) m.rest ∙ adopted_head v.safe.cache (head_of heads Safe)

met_cache : (v : NavTaken) (heads : List PlanHead) (met : NavTaken) → PlansMet v heads met → (kind : PlanType) → cache_of kind met ≡ adopted (cache_of kind v) (head_of heads kind)
met_cache v heads met m Mission = ap (λ (w : NavTaken). w.mission.cache) m.rest
met_cache v heads met m Fence = ap (λ (w : NavTaken). w.fence.cache) m.rest
met_cache v heads met m Safe = ap (λ (w : NavTaken). w.safe.cache) m.rest

pub met_windows : (v : NavTaken) (heads : List PlanHead) (met : NavTaken) → PlansMet v heads met → OwnWindows v → OwnWindows met
met_windows v heads met m own = record {
  client = λ k. ap (λ (c : CacheState). c.client) (met_cache v heads met m k) ∙ if-client (has_id (cache_of k v).head (head_of heads k).id) (cache_of k v) _ refl ∙ own.client k;
  kind = λ k. ap (λ (c : CacheState). c.kind) (met_cache v heads met m k) ∙ if-kind (has_id (cache_of k v).head (head_of heads k).id) (cache_of k v) _ refl ∙ own.kind k;
}

flight_marks : (b : Bool) (head : PlanHead) (old new : FlightState) → FlightMet b head old new → new.marks.asked ≡ (if b then [] else old.marks.asked)
flight_marks true head old new h = h.3
flight_marks false head old new h = ap (λ (f : FlightState). f.marks.asked) h

pub keeps_index : (v : NavTaken) (at : Option (ℕ × ℕ)) → KeepsPlans v (index_met v at)
keeps_index v None = keeps_itself v
keeps_index v (Some (id, seq)) = at_id (has_id v.mission.cache.head id)
  where
    at_id : (b : Bool) → KeepsPlans v (if b then record v { flight = record v.flight { legs = set_to v.flight.legs seq } } else v)
    at_id true = record { mission = keeps_plan v.mission; fence = keeps_plan v.fence; safe = keeps_plan v.safe; marks = refl }
    at_id false = keeps_itself v

-- what the mark leaves
mark_marks : (id : ℕ) (f : FlightState) (b : BoardState) (f' : FlightState) (b' : BoardState) → AsksMark id f b f' b' → (marks : List Mark) × (b' ≡ record b { waiting = b.waiting ++ mark_requests marks }) × (f'.marks.asked ≡ f.marks.asked ++ marks) × (length marks ≤ 1) × All (λ mark. plain_mark mark ≡ place_of id f') marks
mark_marks id f b f' b' (inl rests) = (
  [],
  rests.board ∙ ap (λ (w : List (Client × Request)). record b { waiting = w }) (sym (append-nil b.waiting)),
  ap (λ (g : FlightState). g.marks.asked) rests.flight ∙ sym (append-nil f.marks.asked),
  omega arith,
  All-nil (λ (mark : Mark). plain_mark mark ≡ place_of id f'),
)
mark_marks id f b f' b' (inr asks) = (
  asks.mark ∷ [],
  asks.board,
  ap (λ (g : FlightState). g.marks.asked) asks.flight,
  omega arith,
  All-cons (λ (mark : Mark). plain_mark mark ≡ place_of id f') asks.mark [] (asks.place ∙ ap (λ (l : MachineState). (let p : PlainMark = record { id = id; index = l.index; pairs = l.pairs } in p)) (sym (ap (λ (g : FlightState). g.legs) asks.flight))) (All-nil (λ (mark : Mark). plain_mark mark ≡ place_of id f')),
)

-- The event.

keeps_rest : (mid v' : NavTaken) → v' ≡ record mid { flight = v'.flight } → (k : PlanType) → cache_of k v' ≡ cache_of k mid
keeps_rest mid v' rest Mission = ap (λ (w : NavTaken). w.mission.cache) rest
keeps_rest mid v' rest Fence = ap (λ (w : NavTaken). w.fence.cache) rest
keeps_rest mid v' rest Safe = ap (λ (w : NavTaken). w.safe.cache) rest

-- the plans of before the line is acted on
pub record Entered (v : NavTaken) (b : BoardState) (line : VehicleLine) (entry : NavEntry) (v' : NavTaken) (b' : BoardState) (e : EventLaw v b line entry v' b') : Type 0 where
  pub windows : OwnWindows (index_met e.met b.index)
  pub acts : AsksReads (index_met e.met b.index) (record b { index = None }) e.mid e.board

entered : (v : NavTaken) (b : BoardState) (line : VehicleLine) (entry : NavEntry) (v' : NavTaken) (b' : BoardState) → OwnWindows v → (e : EventLaw v b line entry v' b') → Entered v b line entry v' b' e
entered v b line entry v' b' own e =
    let windows : OwnWindows (index_met e.met b.index) = keeps_windows e.met (index_met e.met b.index) (keeps_index e.met b.index) (met_windows v b.published e.met e.heads own) in
    record { windows = windows; acts = act_asks line (index_met e.met b.index) (record b { index = None }) entry.what e.mid e.board windows e.acts }

-- what the line does leaves the plans
pub keeps_acts : (v : NavTaken) (b : BoardState) (line : VehicleLine) (entry : NavEntry) (v' : NavTaken) (b' : BoardState) → OwnWindows v → (e : EventLaw v b line entry v' b') → KeepsPlans (index_met e.met b.index) e.mid
keeps_acts v b line entry v' b' own e = (entered v b line entry v' b' own e).acts.keeps

-- the plans of an event's end are those that it met
pub event_heads : (v : NavTaken) (b : BoardState) (line : VehicleLine) (entry : NavEntry) (v' : NavTaken) (b' : BoardState) → OwnWindows v → EventLaw v b line entry v' b' → (kind : PlanType) → (cache_of kind v').head ≡ head_met (cache_of kind v).head (head_of b.published kind)
event_heads v b line entry v' b' own e kind =
    let r = entered v b line entry v' b' own e in
    ap (λ (c : CacheState). c.head) (keeps_rest e.mid v' e.rest kind)
    ∙ (keeps_same (index_met e.met b.index) e.mid r.acts.keeps kind).head
    ∙ (keeps_same e.met (index_met e.met b.index) (keeps_index e.met b.index) kind).head
    ∙ met_heads v b.published e.met e.heads kind

pub event_windows : (v : NavTaken) (b : BoardState) (line : VehicleLine) (entry : NavEntry) (v' : NavTaken) (b' : BoardState) → OwnWindows v → EventLaw v b line entry v' b' → OwnWindows v'
event_windows v b line entry v' b' own e =
    let r = entered v b line entry v' b' own e in
    let mid : OwnWindows e.mid = keeps_windows (index_met e.met b.index) e.mid r.acts.keeps r.windows in
    record {
      client = λ k. ap (λ (c : CacheState). c.client) (keeps_rest e.mid v' e.rest k) ∙ mid.client k;
      kind = λ k. ap (λ (c : CacheState). c.kind) (keeps_rest e.mid v' e.rest k) ∙ mid.kind k;
    }

pub event_asks : (v : NavTaken) (b : BoardState) (line : VehicleLine) (entry : NavEntry) (v' : NavTaken) (b' : BoardState) → OwnWindows v → EventLaw v b line entry v' b' → EventAsks v b v' b'
event_asks v b line entry v' b' own e =
    let r = entered v b line entry v' b' own e in
    let m = mark_marks (id_of e.mid.mission.cache.head) e.mid.flight e.board v'.flight b' e.mark in
    let kind : PlanType = r.acts.kind in
    let head : (k : PlanType) → (cache_of k (index_met e.met b.index)).head ≡ (cache_of k v').head = λ k. sym (ap (λ (c : CacheState). c.head) (keeps_rest e.mid v' e.rest k) ∙ (keeps_same (index_met e.met b.index) e.mid r.acts.keeps k).head) in
    let kept : e.mid.flight.marks.asked ≡ marks_kept v (head_of b.published Mission) =
    ap (λ (s : MarksState). s.asked) r.acts.keeps.marks
    ∙ ap (λ (s : MarksState). s.asked) (keeps_index e.met b.index).marks
    ∙ flight_marks (is_new v.mission.cache (head_of b.published Mission)) (head_of b.published Mission) v.flight e.met.flight e.heads.flight in
    record {
      kind = kind;
      seqs = r.acts.seqs;
      marks = m.0;
      board = m.1
          ∙ ap (λ (x : BoardState). record x { waiting = x.waiting ++ mark_requests m.0 }) r.acts.board
          ∙ ap (λ (h : Option PlanHead). record b { index = None; waiting = (b.waiting ++ reads Nav kind (id_of h) r.acts.seqs) ++ mark_requests m.0 }) (head kind);
      has = subst (λ (h : Option PlanHead). All (λ seq. seq < count_of h) r.acts.seqs) (head kind) r.acts.has;
      place = subst (λ (n : ℕ). All (λ mark. plain_mark mark ≡ place_of n v'.flight) m.0) (sym (ap (λ (c : CacheState). id_of c.head) (keeps_rest e.mid v' e.rest Mission))) m.4;
      one = m.3;
      asked = m.2 ∙ ap (λ (l : List Mark). l ++ m.0) kept;
    }
