-- What an event leaves adopted, what it asks, and of which requests the Navigator knows.
use Rattle.std.specs.Prelude.{◌≡◌, ℕ, ◌<◌, ◌≤◌, true, List, [], ◌∷◌, ◌++◌, length, Option, Some, None, IfSome, if◌then◌else◌}
use Rattle.std.specs.List.{All}
use Rattle.mission_model.specs.declared.counts.Mark.{Mark}
use Rattle.mission_model.specs.declared.plan.PlanHead.{PlanHead}
use Rattle.mission_model.specs.declared.plan.PlanType.{PlanType}
use Rattle.mission_model.specs.declared.plan.PlanType.TheVariants.{Mission}
use Rattle.mission_model.specs.declared.request.Asked.{Asked}
use Rattle.mission_model.specs.declared.request.Asked.TheVariants as about
use Rattle.mission_model.specs.declared.request.Client.{Client}
use Rattle.mission_model.specs.declared.request.Client.TheVariants.{Nav}
use Rattle.mission_model.specs.declared.request.Request.{Request}
use Rattle.mission_model.specs.declared.request.Request.TheVariants as request
use Rattle.mission_model.specs.PlainMark.{plain_mark}
use Rattle.mission_model.specs.PlanTypes.{head_of, limit_of}
use Rattle.request_board.specs.BoardState.{BoardState, open_asks}
use Rattle.client_cache.specs.CacheState.{has_id, id_of, count_of}
use Rattle.client_cache.specs.Wants.{reads}
use Rattle.navigator.specs.NavState.{NavTaken, cache_of}
use Rattle.navigator.specs.Meeting.{is_new, place_of}

-- the adopted head once this head was met: the same, where it has the id, and else the met one
abbrev pub head_met : Option PlanHead → PlanHead → Option PlanHead
head_met adopted head = if has_id adopted head.id then adopted else Some head

-- the marks that were asked for the mission, where it stays; none where another is published
abbrev pub marks_kept : NavTaken → PlanHead → List Mark
marks_kept v head = if is_new v.mission.cache head then [] else v.flight.marks.asked

-- the three windows are the Navigator's, each on the plan of its type
pub record OwnWindows (v : NavTaken) : Type 0 where
  pub client : (kind : PlanType) → (cache_of kind v).client ≡ Nav
  pub kind : (kind : PlanType) → (cache_of kind v).kind ≡ kind

-- requests of these marks
abbrev pub mark_requests : List Mark → List (Client × Request)
mark_requests [] = []
mark_requests (mark ∷ marks) = (Nav, request.SetMark mark) ∷ mark_requests marks

-- What an event asks: reads of items of one adopted plan, and behind them at most one mark, which is that of the place. They
-- wait behind all other requests; the kept index is taken, and nothing else of the board changes.
pub record EventAsks (v : NavTaken) (b : BoardState) (v' : NavTaken) (b' : BoardState) : Type 0 where
  pub kind : PlanType
  pub seqs : List ℕ
  pub marks : List Mark
  pub board : b' ≡ record b { index = None; waiting = (b.waiting ++ reads Nav kind (id_of (cache_of kind v').head) seqs) ++ mark_requests marks }
  pub has : All (λ seq. seq < count_of (cache_of kind v').head) seqs
  pub place : All (λ mark. plain_mark mark ≡ place_of (id_of v'.mission.cache.head) v'.flight) marks
  pub one : length marks ≤ 1
  pub asked : v'.flight.marks.asked ≡ marks_kept v (head_of b.published Mission) ++ marks

-- the marks among these requests
abbrev pub marks_of : List Asked → List Mark
marks_of [] = []
marks_of (about.SetMark mark ∷ asks) = mark ∷ marks_of asks
marks_of (about.Read kind id seq ∷ asks) = marks_of asks
marks_of (about.Write kind id seq ∷ asks) = marks_of asks
marks_of (about.Commit kind id count ∷ asks) = marks_of asks

-- The requests that the Navigator has outstanding on the board are those that it asked: the marks that stand and have no
-- reply are the last of the marks among them, and all are of the adopted mission.
pub record HasAsked (v : NavTaken) (b : BoardState) : Type 0 where
  pub windows : OwnWindows v
  pub earlier : List Mark
  pub marks : marks_of (open_asks b Nav) ≡ earlier ++ v.flight.marks.asked
  pub ids : All (λ mark. has_id v.mission.cache.head mark.id ≡ true) v.flight.marks.asked

-- A board beside which an event may happen, but for the marks that were asked: each published count is within its limit; the
-- published mission, where its id is the adopted one, has the adopted count; a kept index of it is one of its items.
pub record StandsBeside (adopted : Option PlanHead) (b : BoardState) : Type 0 where
  pub counts : (kind : PlanType) → (head_of b.published kind).count ≤ limit_of kind
  pub same : has_id adopted (head_of b.published Mission).id ≡ true → (head_of b.published Mission).count ≡ count_of adopted
  pub index : IfSome b.index (λ at. at.0 ≡ (head_of b.published Mission).id → at.1 < (head_of b.published Mission).count)
