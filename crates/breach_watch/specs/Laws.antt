-- A breach watch keeps the laws of watchers: it reads vertices of the published fence alone, and comes to an end.
use Rattle.std.specs.Prelude.{◌≡◌, ℕ, ℤ, ◌+◌, ◌<◌, ◌==◌, Bool, true, false, List, [], ◌∷◌, ◌++◌, Option, Some, None, length, refl, if◌then◌else◌}
use Rattle.std.proofs.Common.{arith, sym, ap, subst, length-append}
use Rattle.std.proofs.lemmas.Bool.Decides.{nat_tests}
use Rattle.mission_model.specs.declared.message.AckCode.{AckCode}
use Rattle.mission_model.specs.declared.plan.Item.{Item}
use Rattle.mission_model.specs.declared.plan.PlanHead.{PlanHead}
use Rattle.mission_model.specs.declared.plan.PlanType.TheVariants.{Fence}
use Rattle.mission_model.specs.declared.request.Asked.{Asked}
use Rattle.mission_model.specs.declared.request.Reply.{Reply}
use Rattle.mission_model.specs.declared.request.Reply.TheVariants as reply
use Rattle.mission_model.specs.declared.watch.WatchInput.{WatchInput}
use Rattle.mission_model.specs.declared.watch.WatchOut.{WatchOut}
use Rattle.mission_model.specs.Fence.{is_allowed}
use Rattle.mission_model.specs.PlanCode.{groups_within}
use Rattle.mission_model.specs.PlanTypes.{head_of}
use Rattle.request_board.specs.Watching.{Awaited, Answers, HeadsFit, IsTold}
use Rattle.request_board.specs.Silence.{silence}
use Rattle.breach_watch.specs.declared.note.TheConstants.{REPLACED}
use Rattle.breach_watch.specs.declared.watch.BreachWatch.{BreachWatch}
use Rattle.breach_watch.specs.FenceSoFar.{with_vertex, code_of_next}
use Rattle.breach_watch.specs.Breaches.{kept_verdict, verdict_on, judged, asks_next, looked, moved, works, lost, joined, answered, tells, waits, left}

-- an empty fence allows every place
pub is_allowed-nil : (x y : ℤ) → is_allowed [] x y ≡ true
unfolding is_allowed groups_within
is_allowed-nil x y = refl

not_empty : (count : ℕ) → (count == 0) ≡ false → 0 < count
not_empty count h = grind (arith, nat_tests)

-- what is judged at once reads nothing; what is not is of a fence that has a first vertex
looked-answers : (w : BreachWatch) (heads : List PlanHead) (verdict : Option Bool) → (verdict ≡ None → 0 < (head_of heads Fence).count) → Answers heads (looked w (head_of heads Fence) verdict).0 (waits (looked w (head_of heads Fence) verdict).1)
looked-answers w heads (Some allowed) some = record { read = tt; more = refl; next = tt }
looked-answers w heads None some = record { read = (refl, some refl); more = refl; next = refl }

none-count : (b : Bool) (count : ℕ) (allowed : Bool) (verdict : Option Bool) → (count == 0) ≡ b → (if b then Some allowed else verdict) ≡ None → 0 < count
none-count true count allowed verdict is none = absurd cc
none-count false count allowed verdict is none = not_empty count is

-- what an input begins reads the first vertex of the published fence, or nothing
pub works-answers : (w : BreachWatch) (input : WatchInput) (heads : List PlanHead) → HeadsFit heads → Answers heads (works w input heads).0 (waits (works w input heads).1)
works-answers w input heads fit =
    let w' = moved w input.a input.b in
    let head = head_of heads Fence in
    looked-answers w' heads (verdict_on w' head) (none-count (head.count == 0) head.count (is_allowed [] w'.x w'.y) (kept_verdict w'.kept head.id w'.x w'.y) refl)

-- what holds of an answer to a reply: it is a watcher's, and fewer vertices are left where the input goes on
record Leads (heads : List PlanHead) (w : BreachWatch) (out : WatchOut × BreachWatch) : Type 0 where
  answers : Answers heads out.0 (waits out.1)
  fewer : out.0.more ≡ true → left out.1 < left w

lost-leads : (heads : List PlanHead) (v w : BreachWatch) (code b : ℕ) → Leads heads v (lost w code b)
lost-leads heads v w code b = record { answers = record { read = tt; more = refl; next = tt }; fewer = λ more. absurd cc }

-- `read_on`, by whether the fence is whole
abbrev read_on_by : BreachWatch → Bool → WatchOut × BreachWatch
read_on_by w b = if b
    then (judged w w.reading.head.id (is_allowed w.reading.items w.x w.y), record w { kept = Some (record { id = w.reading.head.id; fence = w.reading.items }) })
    else (asks_next w, w)

fewer : (come count come_before count_before : ℕ) → (come == count) ≡ false → count ≡ count_before → come ≡ come_before + 1 → come_before < count_before → come < count
fewer come count come_before count_before is same longer within = grind (arith, nat_tests)

read_on-leads : (heads : List PlanHead) (v w : BreachWatch) (b : Bool) → (length w.reading.items == w.reading.head.count) ≡ b → w.reading.head ≡ v.reading.head → length w.reading.items ≡ length v.reading.items + 1 → length v.reading.items < v.reading.head.count → head_of heads Fence ≡ w.reading.head → Leads heads v (read_on_by w b)
read_on-leads heads v w true is head longer within same = record { answers = record { read = tt; more = refl; next = tt }; fewer = λ more. absurd cc }
read_on-leads heads v w false is head longer within same =
    let more : length w.reading.items < w.reading.head.count = fewer _ _ _ _ is (ap (λ (h : PlanHead). h.count) head) longer within in
    record {
      answers = record {
        read = (ap (λ (h : PlanHead). h.id) (sym same), subst (λ (h : PlanHead). length w.reading.items < h.count) (sym same) more);
        more = refl;
        next = ap (λ (h : PlanHead). (let a : Awaited = record { kind = Fence; head = h; seq = length w.reading.items } in a)) (sym same);
      };
      fewer = λ _. omega (arith, longer, within, ap (λ (h : PlanHead). h.count) head);
    }

joined-leads : (heads : List PlanHead) (w : BreachWatch) (item : Item) (code : Option AckCode) → length w.reading.items < w.reading.head.count → head_of heads Fence ≡ w.reading.head → Leads heads w (joined w item code)
joined-leads heads w item None within same =
    read_on-leads heads w (record w { reading = with_vertex w.reading item }) (length (w.reading.items ++ item ∷ []) == w.reading.head.count) refl refl (omega (arith, length-append w.reading.items (item ∷ []))) within same
joined-leads heads w item (Some code) within same = lost-leads heads w w _ _

silent-leads : (heads : List PlanHead) (w : BreachWatch) → Leads heads w (silence, w)
silent-leads heads w = record { answers = record { read = tt; more = refl; next = tt }; fewer = λ more. absurd cc }

answered-leads : (heads : List PlanHead) (w : BreachWatch) (given : Reply) → length w.reading.items < w.reading.head.count → head_of heads Fence ≡ w.reading.head → Leads heads w (answered w given)
answered-leads heads w (reply.Item item) within same = joined-leads heads w item (code_of_next w.reading item) within same
answered-leads heads w reply.DiskFailed within same = lost-leads heads w w _ _
answered-leads heads w (reply.Stale id) within same = silent-leads heads w
answered-leads heads w reply.Done within same = silent-leads heads w
answered-leads heads w reply.PowerOff within same = silent-leads heads w
answered-leads heads w (reply.Spent generation) within same = silent-leads heads w

same_id : (m n : ℕ) → (m == n) ≡ true → m ≡ n
same_id m n h = grind (arith, nat_tests)

still-leads : (heads : List PlanHead) (w : BreachWatch) (given : Reply) (b : Bool) → ((head_of heads Fence).id == w.reading.head.id) ≡ b → length w.reading.items < w.reading.head.count → ((head_of heads Fence).id ≡ w.reading.head.id → head_of heads Fence ≡ w.reading.head) → Leads heads w (if b then answered w given else lost w REPLACED (head_of heads Fence).id)
still-leads heads w given true is within same = answered-leads heads w given within (same (same_id _ _ is))
still-leads heads w given false is within same = lost-leads heads w w _ _

tells-leads : (w : BreachWatch) (asked : Asked) (given : Reply) (heads : List PlanHead) → IsTold (waits w) asked given heads → Leads heads w (tells w asked given heads)
tells-leads w asked (reply.Stale id) heads told = lost-leads heads w w _ _
tells-leads w asked (reply.Item item) heads told = still-leads heads w (reply.Item item) _ refl told.within told.same_head
tells-leads w asked reply.DiskFailed heads told = still-leads heads w reply.DiskFailed _ refl told.within told.same_head
tells-leads w asked reply.Done heads told = still-leads heads w reply.Done _ refl told.within told.same_head
tells-leads w asked reply.PowerOff heads told = still-leads heads w reply.PowerOff _ refl told.within told.same_head
tells-leads w asked (reply.Spent generation) heads told = still-leads heads w (reply.Spent generation) _ refl told.within told.same_head

-- what a reply brings reads the next vertex of the fence, which is published still, or nothing
pub tells-answers : (w : BreachWatch) (asked : Asked) (given : Reply) (heads : List PlanHead) → HeadsFit heads → IsTold (waits w) asked given heads → Answers heads (tells w asked given heads).0 (waits (tells w asked given heads).1)
tells-answers w asked given heads fit told = (tells-leads w asked given heads told).answers

-- a watch that goes on has fewer vertices left
pub left-falls : (w : BreachWatch) (asked : Asked) (given : Reply) (heads : List PlanHead) → HeadsFit heads → IsTold (waits w) asked given heads → (tells w asked given heads).0.more ≡ true → left (tells w asked given heads).1 < left w
left-falls w asked given heads fit told = (tells-leads w asked given heads told).fewer
