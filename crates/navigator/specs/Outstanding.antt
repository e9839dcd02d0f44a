-- That the Navigator's outstanding requests are those that it asked stays, through its events, its replies, its drops and
-- what others do.
use Rattle.std.proofs.Common.{◌≡◌, ℕ, ◌<◌, ◌≤◌, ◌==◌, Bool, true, false, not, List, [], ◌∷◌, ◌++◌, length, Option, Some, None, refl, sym, ap, subst, ◌∙◌, arith, append_assoc, append-nil, length-append}
use Rattle.std.specs.Prelude.{IfSome, if◌then◌else◌}
use Rattle.std.specs.List.{All}
use Rattle.std.proofs.lemmas.Bool.Decides.{nat_tests}
use Rattle.std.proofs.lemmas.List.Elements.{All-nil, All-append, All-head, All-tail}
use Rattle.mission_model.specs.declared.counts.Mark.{Mark}
use Rattle.mission_model.specs.declared.plan.Home.{Home}
use Rattle.mission_model.specs.declared.plan.Item.{Item}
use Rattle.mission_model.specs.declared.plan.Params.{Params}
use Rattle.mission_model.specs.declared.plan.PlanHead.{PlanHead}
use Rattle.mission_model.specs.declared.plan.PlanType.{PlanType}
use Rattle.mission_model.specs.declared.plan.PlanType.TheVariants.{Mission, Fence, Safe}
use Rattle.mission_model.specs.declared.request.Asked.{Asked}
use Rattle.mission_model.specs.declared.request.Asked.TheVariants as about
use Rattle.mission_model.specs.declared.request.Client.{Client}
use Rattle.mission_model.specs.declared.request.Client.TheVariants.{Nav}
use Rattle.mission_model.specs.declared.request.Reply.{Reply}
use Rattle.mission_model.specs.declared.request.Request.{Request}
use Rattle.mission_model.specs.declared.vehicle.BootState.{BootState}
use Rattle.mission_model.specs.declared.vehicle.NavEntry.{NavEntry}
use Rattle.mission_model.specs.declared.vehicle.VehicleLine.{VehicleLine}
use Rattle.mission_model.specs.PlainMark.{PlainMark, plain_mark}
use Rattle.mission_model.specs.PlanTypes.{head_of, limit_of}
use Rattle.request_board.specs.Asks.{in_service, listed, abouts, own_abouts, replied}
use Rattle.request_board.specs.BoardState.{BoardState, open_asks, outstanding}
use Rattle.request_board.specs.Clients.{abouts-append, own_abouts-append}
use Rattle.request_board.specs.Frames.{heard_own}
use Rattle.client_cache.specs.CacheState.{CacheState, has_id, id_of, count_of}
use Rattle.client_cache.specs.Moves.{moved}
use Rattle.client_cache.specs.Wants.{reads}
use Rattle.navigator.specs.Caches.{SamePlan, SamePlan-got}
use Rattle.navigator.specs.Standing.{MarksState, answered_from, mark_answered}
use Rattle.navigator.specs.NavState.{FlightState, NavState, NavTaken, with_taken, cache_of, with_cache}
use Rattle.navigator.specs.Meeting.{is_new, is_done, place_of}
use Rattle.navigator.specs.EventLaw.{EventLaw, CanTick, nav_at_boot}
use Rattle.navigator.specs.NavCalls.{reply_taken, drop_taken, NavCall, Happens, Hears, Drops, Others, IsOwn, Does}
use Rattle.navigator.specs.Asking.{head_met, marks_kept, OwnWindows, mark_requests, marks_of, HasAsked, StandsBeside}
use Rattle.navigator.specs.Looks.{KeepsPlans, keeps_same, keeps_with, moved_quiet, keeps_itself, keeps_trans, keeps_owed, own_marks}
use Rattle.navigator.specs.NextEvent.{event_heads, event_windows, event_asks}

-- Marks among requests.

marks_of-append : (xs ys : List Asked) → marks_of (xs ++ ys) ≡ marks_of xs ++ marks_of ys
marks_of-append [] ys = refl
marks_of-append (about.SetMark mark ∷ xs) ys = ap (λ l. mark ∷ l) (marks_of-append xs ys)
marks_of-append (about.Read kind id seq ∷ xs) ys = marks_of-append xs ys
marks_of-append (about.Write kind id seq ∷ xs) ys = marks_of-append xs ys
marks_of-append (about.Commit kind id count ∷ xs) ys = marks_of-append xs ys

fewer_marks : (asks : List Asked) → length (marks_of asks) ≤ length asks
fewer_marks [] = omega arith
fewer_marks (about.SetMark mark ∷ asks) = omega (arith, fewer_marks asks)
fewer_marks (about.Read kind id seq ∷ asks) = omega (arith, fewer_marks asks)
fewer_marks (about.Write kind id seq ∷ asks) = omega (arith, fewer_marks asks)
fewer_marks (about.Commit kind id count ∷ asks) = omega (arith, fewer_marks asks)

no_marks : (kind : PlanType) (id : ℕ) (seqs : List ℕ) → marks_of (own_abouts Nav (abouts (reads Nav kind id seqs))) ≡ []
no_marks kind id [] = refl
no_marks kind id (seq ∷ seqs) = no_marks kind id seqs

only_marks : (marks : List Mark) → marks_of (own_abouts Nav (abouts (mark_requests marks))) ≡ marks
only_marks [] = refl
only_marks (mark ∷ marks) = ap (λ l. mark ∷ l) (only_marks marks)

-- requests that wait behind all others
behind_asks : (b : BoardState) (index : Option (ℕ × ℕ)) (more : List (Client × Request)) → open_asks (record b { index = index; waiting = b.waiting ++ more }) Nav ≡ open_asks b Nav ++ own_abouts Nav (abouts more)
behind_asks b index more =
    let first : List (Client × Asked) = listed (in_service b.service) in
    ap (λ l. replied b.nav_posted ++ own_abouts Nav (first ++ l)) (abouts-append b.waiting more)
    ∙ ap (λ l. replied b.nav_posted ++ own_abouts Nav l) (sym (append_assoc first (abouts b.waiting) (abouts more)))
    ∙ ap (λ l. replied b.nav_posted ++ l) (own_abouts-append Nav (first ++ abouts b.waiting) (abouts more))
    ∙ sym (append_assoc (replied b.nav_posted) (own_abouts Nav (first ++ abouts b.waiting)) (own_abouts Nav (abouts more)))

marks_behind : (b : BoardState) (index : Option (ℕ × ℕ)) (kind : PlanType) (id : ℕ) (seqs : List ℕ) (marks : List Mark) → marks_of (open_asks (record b { index = index; waiting = (b.waiting ++ reads Nav kind id seqs) ++ mark_requests marks }) Nav) ≡ marks_of (open_asks b Nav) ++ marks
marks_behind b index kind id seqs marks =
    let rs : List (Client × Request) = reads Nav kind id seqs in
    let ms : List (Client × Request) = mark_requests marks in
    ap (λ (w : List (Client × Request)). marks_of (open_asks (record b { index = index; waiting = w }) Nav)) (append_assoc b.waiting rs ms)
    ∙ ap marks_of (behind_asks b index (rs ++ ms))
    ∙ marks_of-append (open_asks b Nav) (own_abouts Nav (abouts (rs ++ ms)))
    ∙ ap (λ l. marks_of (open_asks b Nav) ++ l) (
    ap (λ l. marks_of (own_abouts Nav l)) (abouts-append rs ms)
    ∙ ap marks_of (own_abouts-append Nav (abouts rs) (abouts ms))
    ∙ marks_of-append (own_abouts Nav (abouts rs)) (own_abouts Nav (abouts ms))
    ∙ ap (λ l. l ++ marks_of (own_abouts Nav (abouts ms))) (no_marks kind id seqs)
    ∙ only_marks marks)

-- as many marks as stand without a reply are outstanding at the least
pub marks_outstanding : (v : NavTaken) (b : BoardState) → HasAsked v b → length v.flight.marks.asked ≤ outstanding b Nav
marks_outstanding v b h = last (marks_of (open_asks b Nav)) h.earlier v.flight.marks.asked (outstanding b Nav) h.marks (fewer_marks (open_asks b Nav))
  where
    last : (all earlier asked : List Mark) (n : ℕ) → all ≡ earlier ++ asked → length all ≤ n → length asked ≤ n
    last all earlier asked n is le = omega (arith, ap (λ (l : List Mark). length l) is, length-append earlier asked, le)

-- so an event may happen beside a board whose heads and index are in order
pub can_tick : (n : NavState) (items : List Item) (b : BoardState) → HasAsked (with_taken n items) b → StandsBeside n.mission.cache.head b → CanTick n b
can_tick n items b h stands = record { counts = stands.counts; same = stands.same; index = stands.index; marks = marks_outstanding (with_taken n items) b h }

-- The event.

same_id : (n : ℕ) → (n == n) ≡ true
same_id n = grind (arith, nat_tests)

met_if : (b : Bool) (p q : PlanHead) → has_id (if b then Some q else Some p) (id_of (if b then Some q else Some p)) ≡ true
met_if true p q = same_id q.id
met_if false p q = same_id p.id

own_id : (h : Option PlanHead) (p : PlanHead) → has_id (head_met h p) (id_of (head_met h p)) ≡ true
own_id None p = same_id p.id
own_id (Some q) p = met_if (q.id == p.id) p q

-- the marks that were kept are of the mission that is adopted then
kept_if : (b : Bool) (h : Option PlanHead) (p : PlanHead) (asked : List Mark) → All (λ mark. has_id h mark.id ≡ true) asked → All (λ mark. has_id (if b then h else Some p) mark.id ≡ true) (if not b then [] else asked)
kept_if true h p asked all = all
kept_if false h p asked all = All-nil (λ (mark : Mark). (p.id == mark.id) ≡ true)

mark_id : (h : Option PlanHead) (marks : List Mark) (f : FlightState) → has_id h (id_of h) ≡ true → All (λ mark. plain_mark mark ≡ place_of (id_of h) f) marks → All (λ mark. has_id h mark.id ≡ true) marks
mark_id h marks f own all k d lt = ap (λ (p : PlainMark). has_id h p.id) (all k d lt) ∙ own

-- what is kept of the marks is the end of those that are asked
kept_end : (b : Bool) (all earlier asked marks : List Mark) → all ≡ earlier ++ asked → (es : List Mark) × (all ++ marks ≡ es ++ ((if b then [] else asked) ++ marks))
kept_end true all earlier asked marks is = (all, refl)
kept_end false all earlier asked marks is = (earlier, ap (λ l. l ++ marks) is ∙ append_assoc earlier asked marks)

pub asked_by_event : (v : NavTaken) (b : BoardState) (line : VehicleLine) (entry : NavEntry) (v' : NavTaken) (b' : BoardState) → EventLaw v b line entry v' b' → HasAsked v b → HasAsked v' b'
asked_by_event v b line entry v' b' e h =
    let a = event_asks v b line entry v' b' h.windows e in
    let head : v'.mission.cache.head ≡ head_met v.mission.cache.head (head_of b.published Mission) = event_heads v b line entry v' b' h.windows e Mission in
    let ends = kept_end (is_new v.mission.cache (head_of b.published Mission)) (marks_of (open_asks b Nav)) h.earlier v.flight.marks.asked a.marks h.marks in
    let own : has_id v'.mission.cache.head (id_of v'.mission.cache.head) ≡ true = subst (λ (x : Option PlanHead). has_id x (id_of x) ≡ true) (sym head) (own_id v.mission.cache.head (head_of b.published Mission)) in
    let kept : All (λ mark. has_id v'.mission.cache.head mark.id ≡ true) (marks_kept v (head_of b.published Mission)) = subst (λ (x : Option PlanHead). All (λ mark. has_id x mark.id ≡ true) (marks_kept v (head_of b.published Mission))) (sym head) (kept_if (has_id v.mission.cache.head (head_of b.published Mission).id) v.mission.cache.head (head_of b.published Mission) v.flight.marks.asked h.ids) in
    record {
      windows = event_windows v b line entry v' b' h.windows e;
      earlier = ends.0;
      marks = ap (λ (x : BoardState). marks_of (open_asks x Nav)) a.board
          ∙ marks_behind b None a.kind (id_of (cache_of a.kind v').head) a.seqs a.marks
          ∙ ends.1
          ∙ ap (λ l. ends.0 ++ l) (sym a.asked);
      ids = subst (λ (l : List Mark). All (λ mark. has_id v'.mission.cache.head mark.id ≡ true) l) (sym a.asked) (All-append (λ (mark : Mark). has_id v'.mission.cache.head mark.id ≡ true) (marks_kept v (head_of b.published Mission)) a.marks kept (mark_id v'.mission.cache.head a.marks v'.flight own a.place));
    }

-- A reply.

tail_same : (x y : Mark) (xs ys : List Mark) → x ∷ xs ≡ y ∷ ys → xs ≡ ys
tail_same x y xs ys h = cc

head_same : (x y : Mark) (xs ys : List Mark) → x ∷ xs ≡ y ∷ ys → x ≡ y
head_same x y xs ys h = cc

answered_end : (mark stood : Mark) (done : Bool) (rest earlier asked : List Mark) → mark ∷ rest ≡ earlier ++ asked → (es : List Mark) × (rest ≡ es ++ (answered_from stood done asked).asked)
answered_end mark stood done rest earlier [] is = (rest, sym (append-nil rest))
answered_end mark stood done rest [] (a ∷ others) is = ([], tail_same mark a rest others is)
answered_end mark stood done rest (e ∷ es) (a ∷ others) is = (es ++ a ∷ [], tail_same mark e rest (es ++ a ∷ others) is ∙ sym (append_assoc es (a ∷ []) others))

answered_ids : (h : Option PlanHead) (stood : Mark) (done : Bool) (asked : List Mark) → All (λ mark. has_id h mark.id ≡ true) asked → All (λ mark. has_id h mark.id ≡ true) (answered_from stood done asked).asked
answered_ids h stood done [] all = All-nil (λ (mark : Mark). has_id h mark.id ≡ true)
answered_ids h stood done (a ∷ others) all = All-tail (λ (mark : Mark). has_id h mark.id ≡ true) a others all

-- a mark of another mission is none of those that stand
other_end : (h : Option PlanHead) (mark : Mark) (rest earlier asked : List Mark) → has_id h mark.id ≡ false → All (λ mark. has_id h mark.id ≡ true) asked → mark ∷ rest ≡ earlier ++ asked → (es : List Mark) × (rest ≡ es ++ asked)
other_end h mark rest [] [] other ids is = absurd cc
other_end h mark rest [] (a ∷ others) other ids is = absurd (no_both (has_id h a.id) (All-head (λ (mark : Mark). has_id h mark.id ≡ true) a others ids) (ap (λ (m : Mark). has_id h m.id) (sym (head_same mark a rest others is)) ∙ other))
  where
    no_both : (b : Bool) → b ≡ true → b ≡ false → ⊥
    no_both true t f = cc
    no_both false t f = cc
other_end h mark rest (e ∷ es) asked other ids is = (es, tail_same mark e rest (es ++ asked) is)

-- with the same windows and the same marks
asked_same : (v v' : NavTaken) (b b' : BoardState) → ((kind : PlanType) → SamePlan (cache_of kind v) (cache_of kind v')) → v'.flight.marks ≡ v.flight.marks → marks_of (open_asks b' Nav) ≡ marks_of (open_asks b Nav) → HasAsked v b → HasAsked v' b'
asked_same v v' b b' plans marks same h = record {
  windows = record { client = λ k. (plans k).client ∙ h.windows.client k; kind = λ k. (plans k).kind ∙ h.windows.kind k };
  earlier = h.earlier;
  marks = same ∙ h.marks ∙ ap (λ (s : MarksState). h.earlier ++ s.asked) (sym marks);
  ids = subst (λ (s : MarksState). All (λ mark. has_id v'.mission.cache.head mark.id ≡ true) s.asked) (sym marks)
      (subst (λ (x : Option PlanHead). All (λ mark. has_id x mark.id ≡ true) v.flight.marks.asked) (sym (plans Mission).head) h.ids);
}

got_windows : (v : NavTaken) (kind : PlanType) (id seq : ℕ) (given : Reply) (k : PlanType) → SamePlan (cache_of k v) (cache_of k (reply_taken v (about.Read kind id seq) given))
got_windows v kind id seq given Mission = SamePlan-got v.mission.cache (about.Read kind id seq) given
got_windows v kind id seq given Fence = SamePlan-got v.fence.cache (about.Read kind id seq) given
got_windows v kind id seq given Safe = SamePlan-got v.safe.cache (about.Read kind id seq) given

with_marks : (v : NavTaken) (b' : BoardState) (m : MarksState) (windows : OwnWindows v) (earlier : List Mark) → marks_of (open_asks b' Nav) ≡ earlier ++ m.asked → All (λ mark. has_id v.mission.cache.head mark.id ≡ true) m.asked → HasAsked (record v { flight = record v.flight { marks = m } }) b'
with_marks v b' m windows earlier marks ids = record { windows = own_marks v m windows; earlier = earlier; marks = marks; ids = ids }

asked_by_mark : (b : Bool) (v : NavTaken) (x x' : BoardState) (mark : Mark) (done : Bool) → has_id v.mission.cache.head mark.id ≡ b → open_asks x Nav ≡ about.SetMark mark ∷ open_asks x' Nav → HasAsked v x → HasAsked (if b then record v { flight = record v.flight { marks = answered_from v.flight.marks.stood done v.flight.marks.asked } } else v) x'
asked_by_mark true v x x' mark done is first h =
    let ends = answered_end mark v.flight.marks.stood done (marks_of (open_asks x' Nav)) h.earlier v.flight.marks.asked (sym (ap marks_of first) ∙ h.marks) in
    with_marks v x' (answered_from v.flight.marks.stood done v.flight.marks.asked) h.windows ends.0 ends.1 (answered_ids v.mission.cache.head v.flight.marks.stood done v.flight.marks.asked h.ids)
asked_by_mark false v x x' mark done is first h =
    let ends = other_end v.mission.cache.head mark (marks_of (open_asks x' Nav)) h.earlier v.flight.marks.asked is h.ids (sym (ap marks_of first) ∙ h.marks) in
    record { windows = h.windows; earlier = ends.0; marks = ends.1; ids = h.ids }

pub asked_by_reply : (v : NavTaken) (b b' : BoardState) (asked : Asked) (given : Reply) → open_asks b Nav ≡ asked ∷ open_asks b' Nav → HasAsked v b → HasAsked (reply_taken v asked given) b'
asked_by_reply v b b' (about.Read kind id seq) given first h = asked_same v (reply_taken v (about.Read kind id seq) given) b b' (got_windows v kind id seq given) refl (sym (ap marks_of first)) h
asked_by_reply v b b' (about.Write kind id seq) given first h = asked_same v v b b' (keeps_same v v (keeps_itself v)) refl (sym (ap marks_of first)) h
asked_by_reply v b b' (about.Commit kind id count) given first h = asked_same v v b b' (keeps_same v v (keeps_itself v)) refl (sym (ap marks_of first)) h
asked_by_reply v b b' (about.SetMark mark) given first h = asked_by_mark (has_id v.mission.cache.head mark.id) v b b' mark (is_done given) refl first h

-- A drop, what others do, and a boot.

pub keeps_drop : (v : NavTaken) (kind : PlanType) (seq : ℕ) → KeepsPlans v (drop_taken v kind seq)
keeps_drop v kind seq =
    let c : CacheState = moved (cache_of kind v) seq (length (cache_of kind v).known) in
    let u : NavTaken = with_cache kind c v in
    keeps_trans v u (record u { owed = None }) (keeps_with kind c v (moved_quiet (cache_of kind v) seq)) (keeps_owed u None)

pub asked_by_drop : (v : NavTaken) (b : BoardState) (kind : PlanType) (seq : ℕ) → HasAsked v b → HasAsked (drop_taken v kind seq) b
asked_by_drop v b kind seq h = asked_same v (drop_taken v kind seq) b b (keeps_same v (drop_taken v kind seq) (keeps_drop v kind seq)) (keeps_drop v kind seq).marks refl h

pub asked_by_others : (v : NavTaken) (b b' : BoardState) → open_asks b' Nav ≡ open_asks b Nav → HasAsked v b → HasAsked v b'
asked_by_others v b b' same h = asked_same v v b b' (keeps_same v v (keeps_itself v)) refl (ap marks_of same) h

pub asked_at_boot : (params : Params) (home : Option Home) (boot : BootState) (b : BoardState) → HasAsked (nav_at_boot params home boot) b
asked_at_boot params home boot b = record {
  windows = record { client = client; kind = kind };
  earlier = marks_of (open_asks b Nav);
  marks = sym (append-nil (marks_of (open_asks b Nav)));
  ids = All-nil (λ (mark : Mark). has_id (nav_at_boot params home boot).mission.cache.head mark.id ≡ true);
}
  where
    client : (k : PlanType) → (cache_of k (nav_at_boot params home boot)).client ≡ Nav
    client Mission = refl
    client Fence = refl
    client Safe = refl

    kind : (k : PlanType) → (cache_of k (nav_at_boot params home boot)).kind ≡ k
    kind Mission = refl
    kind Fence = refl
    kind Safe = refl

-- Any of these.

pub asked_by_call : (call : NavCall) (v : NavTaken) (b : BoardState) (v' : NavTaken) (b' : BoardState) → Does v b call v' b' → HasAsked v b → HasAsked v' b'
asked_by_call (Happens line entry) v b v' b' does h = asked_by_event v b line entry v' b' does h
asked_by_call (Hears asked given) v b v' b' does h =
    let first : open_asks b Nav ≡ asked ∷ open_asks b' Nav = heard_own b Nav (asked, given) does.rest tt does.first ∙ ap (λ (x : BoardState). asked ∷ open_asks x Nav) (sym does.board) in
    subst (λ (w : NavTaken). HasAsked w b') (sym does.nav) (asked_by_reply v b b' asked given first h)
asked_by_call (Drops kind seq) v b v' b' does h =
    subst (λ (w : NavTaken). HasAsked w b') (sym does.nav) (subst (λ (x : BoardState). HasAsked (drop_taken v kind seq) x) (sym does.board) (asked_by_drop v b kind seq h))
asked_by_call Others v b v' b' does h = subst (λ (w : NavTaken). HasAsked w b') (sym does.0) (asked_by_others v b b' does.1 h)

-- What the Navigator does itself leaves a board beside which an event may happen.

met_count : (h : Option PlanHead) (p : PlanHead) → (has_id h p.id ≡ true → p.count ≡ count_of h) → p.count ≡ count_of (head_met h p)
met_count h p same = at_id (has_id h p.id) refl
  where
    at_id : (b : Bool) → has_id h p.id ≡ b → p.count ≡ count_of (if b then h else Some p)
    at_id true is = same is
    at_id false is = refl

stands_same : (h h' : Option PlanHead) (b b' : BoardState) → h' ≡ h → b'.published ≡ b.published → b'.index ≡ b.index → StandsBeside h b → StandsBeside h' b'
stands_same h h' b b' head published index s = record {
  counts = subst (λ (l : List PlanHead). (kind : PlanType) → (head_of l kind).count ≤ limit_of kind) (sym published) s.counts;
  same = subst (λ (x : Option PlanHead). has_id x (head_of b'.published Mission).id ≡ true → (head_of b'.published Mission).count ≡ count_of x) (sym head)
      (subst (λ (l : List PlanHead). has_id h (head_of l Mission).id ≡ true → (head_of l Mission).count ≡ count_of h) (sym published) s.same);
  index = subst (λ (o : Option (ℕ × ℕ)). IfSome o (λ at. at.0 ≡ (head_of b'.published Mission).id → at.1 < (head_of b'.published Mission).count)) (sym index)
      (subst (λ (l : List PlanHead). IfSome b.index (λ at. at.0 ≡ (head_of l Mission).id → at.1 < (head_of l Mission).count)) (sym published) s.index);
}

stands_by_event : (v : NavTaken) (b : BoardState) (line : VehicleLine) (entry : NavEntry) (v' : NavTaken) (b' : BoardState) → EventLaw v b line entry v' b' → OwnWindows v → StandsBeside v.mission.cache.head b → StandsBeside v'.mission.cache.head b'
stands_by_event v b line entry v' b' e own s =
    let a = event_asks v b line entry v' b' own e in
    let p : PlanHead = head_of b.published Mission in
    let n : Option PlanHead = head_met v.mission.cache.head p in
    let met : StandsBeside n (record b { index = None }) = record { counts = s.counts; same = λ is. met_count v.mission.cache.head p s.same; index = tt } in
    stands_same n v'.mission.cache.head (record b { index = None }) b' (event_heads v b line entry v' b' own e Mission) (ap (λ (x : BoardState). x.published) a.board) (ap (λ (x : BoardState). x.index) a.board) met

reply_head : (v : NavTaken) (asked : Asked) (given : Reply) → (reply_taken v asked given).mission.cache.head ≡ v.mission.cache.head
reply_head v (about.Read kind id seq) given = (SamePlan-got v.mission.cache (about.Read kind id seq) given).head
reply_head v (about.Write kind id seq) given = refl
reply_head v (about.Commit kind id count) given = refl
reply_head v (about.SetMark mark) given = at_id (has_id v.mission.cache.head mark.id)
  where
    at_id : (b : Bool) → (if b then record v { flight = record v.flight { marks = mark_answered v.flight.marks (is_done given) } } else v).mission.cache.head ≡ v.mission.cache.head
    at_id true = refl
    at_id false = refl

pub stands_by_call : (call : NavCall) (v : NavTaken) (b : BoardState) (v' : NavTaken) (b' : BoardState) → IsOwn call → Does v b call v' b' → HasAsked v b → StandsBeside v.mission.cache.head b → StandsBeside v'.mission.cache.head b'
stands_by_call (Happens line entry) v b v' b' own does h s = stands_by_event v b line entry v' b' does h.windows s
stands_by_call (Hears asked given) v b v' b' own does h s =
    stands_same v.mission.cache.head v'.mission.cache.head b b' (ap (λ (w : NavTaken). w.mission.cache.head) does.nav ∙ reply_head v asked given) (ap (λ (x : BoardState). x.published) does.board) (ap (λ (x : BoardState). x.index) does.board) s
stands_by_call (Drops kind seq) v b v' b' own does h s =
    stands_same v.mission.cache.head v'.mission.cache.head b b' (ap (λ (w : NavTaken). w.mission.cache.head) does.nav ∙ (keeps_drop v kind seq).mission.same.head) (ap (λ (x : BoardState). x.published) does.board) (ap (λ (x : BoardState). x.index) does.board) s
stands_by_call Others v b v' b' own does h s = absurd own
