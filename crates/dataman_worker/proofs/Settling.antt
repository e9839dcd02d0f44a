-- A service once a doubt was settled, or where it could not be.
use Rattle.std.proofs.Common.{◌≡◌, ◌≢◌, ◌⊎◌, inl, inr, ℕ, ◌+◌, ◌-◌, ◌<◌, ◌≤◌, Bool, false, IsTrue, List, Option, Some, None, refl, sym, ap, ◌∙◌, subst, arith}
use Rattle.std.specs.Prelude.{IsSome, slice_get}
use Rattle.std.proofs.lemmas.Bool.{false≢true}
use Rattle.std.proofs.lemmas.Option.{slice_get_within}
use Rattle.mission_model.specs.declared.plan.PlanType.{PlanType}
use Rattle.mission_model.specs.declared.plan.PlanType.TheVariants.{Mission, Fence, Safe}
use Rattle.mission_model.specs.declared.plan.PlanHead.{PlanHead}
use Rattle.mission_model.specs.declared.request.Request.{Request}
use Rattle.mission_model.specs.declared.request.Request.TheVariants as request
use Rattle.mission_model.specs.declared.request.Reply.{Reply}
use Rattle.mission_model.specs.declared.request.Reply.TheVariants as reply
use Rattle.mission_model.specs.PlanCode.{PlanValid, limit_of}
use Rattle.mission_model.specs.PlainMark.{plain_mark}
use Rattle.disk_model.specs.declared.disk.DiskFault.{DiskFault}
use Rattle.disk_model.specs.declared.disk.DiskFault.TheVariants as fault
use Rattle.disk_model.specs.Disk.{DiskState, Meter}
use Rattle.disk_model.specs.Meters.{Uncut}
use Rattle.disk_model.specs.Moments.{LeavesOnly, leaves_weaker, runs_on}
use Rattle.plan_store.specs.StoreState.{StoredPlan, StoreState, Change, settled}
use Rattle.plan_store.specs.Serve.{Fate, Well, InSettling, InRequest, InOpening, Serve, after}
use Rattle.plan_store.specs.Fates.{CallsDevice, Suits}
use Rattle.plan_store.specs.CanServe.{CanServe, MarkFits}
use Rattle.bank_state.specs.declared.parts.Parts.{Parts}
use Rattle.bank_state.specs.declared.parts.Doubt.{Doubt}
use Rattle.bank_state.specs.StandsFor.{HasItems}
use Rattle.bank_state.specs.Frames.{length-items_in}
use Rattle.bank_state.specs.Counting.{uncut_on, cut_on, cut_wider}
use Rattle.bank_state.specs.Ledger.{Ledger, ledger_of, items_in, plan_in}
use Rattle.bank_state.specs.Outcomes.{RefusedBy}
use Rattle.bank_state.specs.Store.{IsStore, StandsNow, doubt_in}
use Rattle.dataman_worker.specs.Holds.{Holds, MayStandFor, holding_of}
use Rattle.dataman_worker.specs.CanAsk.{CanAsk, CanPut}
use Rattle.dataman_worker.specs.Answers.{calm, settling, changes_of, reads_of, fault_told, HasCalls, LeftBy, NotSettled, NotServed, Made, Unmade, Answers}
use Rattle.dataman_worker.specs.Served.{UnlessOff, IsOfService, Served}
use Rattle.dataman_worker.proofs.Records.{Limited, Same, limited, plan_same}
use Rattle.dataman_worker.proofs.Holding.{may_stand, may_be, unless_off, holds_same}
use Rattle.dataman_worker.proofs.Quiet.{of_disk, told_alike}

-- items that stand in a bank stand there where the records are the same
items_stay : (kind : PlanType) (bank : ℕ) (head : PlanHead) (old new : List ℕ) → head.count ≤ limit_of kind → Same old new → HasItems kind bank (plan_in kind bank head old) old → HasItems kind bank (plan_in kind bank head new) new
items_stay kind bank head old new within same has seq item at =
    let plan : plan_in kind bank head new ≡ plan_in kind bank head old = plan_same kind bank head old new within same in
    let below : seq < head.count = omega (arith, slice_get_within (items_in kind bank head.count new) seq item at, length-items_in kind bank head.count new) in
    same kind bank seq (omega (arith, below, within)) ∙ has seq item (sym (ap (λ (p : StoredPlan). slice_get p.items seq) plan) ∙ at)

can_put : (ledger : Ledger) (kind : PlanType) (id count : ℕ) (old new : DiskState) → new.tells ≡ old.tells → (IsTrue new.tells → Same old.seen new.seen) → CanPut ledger old kind id count → CanPut (calm ledger) new kind id count
can_put ledger kind id count old new tells same can =
    let bank = 1 - (ledger.entries kind).bank in
    let head : PlanHead = record { id = id; count = count } in
    record {
      newer = can.newer;
      within = can.within;
      written = λ told. items_stay kind bank head old.seen new.seen can.within (same told) (can.written (subst (λ (b : Bool). IsTrue b) tells told));
      valid = λ told. subst (λ (p : StoredPlan). PlanValid kind p.items) (sym (plan_same kind bank head old.seen new.seen can.within (same told))) (can.valid (subst (λ (b : Bool). IsTrue b) tells told));
    }

-- what could be asked can be asked once the doubt is settled
pub can_still : (asked : Request) (ledger : Ledger) (old new : DiskState) → Limited ledger → new.tells ≡ old.tells → (IsTrue new.tells → Same old.seen new.seen) → CanAsk ledger old asked → CanAsk (calm ledger) new asked
can_still (request.Read kind id seq) ledger old new limits tells same can = can
can_still (request.Write kind id seq item) ledger old new limits tells same can = can
can_still (request.Commit kind id count) ledger old new limits tells same can = can_put ledger kind id count old new tells same can
can_still (request.SetMark mark) ledger old new limits tells same can = λ own told.
    subst (λ (p : StoredPlan). MarkFits (plain_mark mark) p) (sym (plan_same Mission (ledger.entries Mission).bank (ledger.entries Mission).head old.seen new.seen (limits.counts Mission) (same told)))
    (can own (subst (λ (b : Bool). IsTrue b) tells told))

-- calls after those that settled the doubt
uncut_after : (n k r : ℕ) (old mid new : Meter) → Uncut n 0 old mid → Uncut (0 + k) r mid new → Uncut (n + k) r old new
uncut_after n k r old mid new first second =
    subst (λ (x : ℕ × ℕ). Uncut x.0 x.1 old new) (let a : n + (0 + k) ≡ n + k = omega arith in let b : 0 + r ≡ r = omega arith in λ i. (a i, b i)) (uncut_on n 0 (0 + k) r old mid new first second)

refused_after : (f : DiskFault) (n k r : ℕ) (old mid new : Meter) → Uncut n 0 old mid → RefusedBy (0 + k) r mid new f → RefusedBy (n + k) r old new f
refused_after fault.Failed n k r old mid new first refused =
    let rest = refused.1 in (
      omega (arith, first.faults, refused.0),
      (
        n + rest.0,
        0 + rest.1,
        omega (arith, rest.2),
        omega (arith, rest.3),
        uncut_on n 0 rest.0 rest.1 old mid new first rest.4,
      ),
    )
refused_after fault.Cut n k r old mid new first refused = λ on.
    cut_wider (n + (0 + k)) (0 + r) (n + k) r old new (omega arith) (omega arith) (cut_on n 0 (0 + k) r old mid new first (refused (first.no_cut.power ∙ on)))

has_calls : (asked : Request) (before : Ledger) → HasCalls asked (calm before) → HasCalls asked before
has_calls (request.Read kind id seq) before calls = calls
has_calls (request.Write kind id seq item) before calls = tt
has_calls (request.Commit kind id count) before calls = calls
has_calls (request.SetMark mark) before calls = calls

left_by : (asked : Request) (f : DiskFault) (before after : Ledger) → LeftBy asked f (calm before) after → LeftBy asked f before after
left_by (request.Read kind id seq) f before after left = left
left_by (request.Write kind id seq item) f before after left = left
left_by (request.Commit kind id count) fault.Failed before after left = left
left_by (request.Commit kind id count) fault.Cut before after left = left
left_by (request.SetMark mark) fault.Failed before after left = left
left_by (request.SetMark mark) fault.Cut before after left = left

made_after : (asked : Request) (before after by : Ledger) (old mid new : Meter) → Uncut (settling before.doubt) 0 old mid → mid.faults ≡ old.faults → Made asked (calm before) after by mid new → Made asked before after by old new
made_after asked before after by old mid new first calm_so_far made = record {
  calls = has_calls asked before made.calls;
  done = made.done;
  made = uncut_after (settling before.doubt) (changes_of asked) (reads_of asked) old mid new first made.made;
  no_fault = made.no_fault ∙ calm_so_far;
}

unmade_after : (before after : Ledger) (old mid new : Meter) → Uncut (settling before.doubt) 0 old mid → mid.faults ≡ old.faults → Unmade (calm before) after mid new → Unmade before after old new
unmade_after before after old mid new first calm_so_far unmade = record {
  same = unmade.same;
  made = subst (λ (n : ℕ). Uncut n 0 old new) (let a : settling before.doubt + 0 ≡ settling before.doubt = omega arith in a) (uncut_on (settling before.doubt) 0 0 0 old mid new first unmade.made);
  no_fault = unmade.no_fault ∙ calm_so_far;
}

not_served_after : (f : DiskFault) (asked : Request) (before after : Ledger) (old mid new : Meter) → Uncut (settling before.doubt) 0 old mid → mid.faults ≡ old.faults
    → NotSettled f (calm before) after mid new ⊎ NotServed asked f (calm before) after mid new → NotSettled f before after old new ⊎ NotServed asked f before after old new
not_served_after f asked before after old mid new first calm_so_far (inl not_settled) = absurd (false≢true not_settled.doubted)
not_served_after f asked before after old mid new first calm_so_far (inr not_served) = inr (record {
  calls = has_calls asked before not_served.calls;
  left = left_by asked f before after not_served.left;
  refused = refused_after f (settling before.doubt) (changes_of asked) (reads_of asked) old mid new first not_served.refused;
})

-- The answer once the doubt is settled is the answer of the whole service.
pub answers_after : (given : Reply) (asked : Request) (tells : Bool) (before after : Ledger) (old mid new : Meter) → Uncut (settling before.doubt) 0 old mid → mid.faults ≡ old.faults → Answers asked tells (calm before) after mid new given → Answers asked tells before after old new given
answers_after (reply.Item item) (request.Read kind id seq) tells before after old mid new first calm_so_far answers = made_after (request.Read kind id seq) before after (calm before) old mid new first calm_so_far answers
answers_after (reply.Item item) (request.Write kind id seq x) tells before after old mid new first calm_so_far answers = absurd answers
answers_after (reply.Item item) (request.Commit kind id count) tells before after old mid new first calm_so_far answers = absurd answers
answers_after (reply.Item item) (request.SetMark mark) tells before after old mid new first calm_so_far answers = absurd answers
answers_after (reply.Stale n) (request.Read kind id seq) tells before after old mid new first calm_so_far answers = (answers.0, stale answers.1)
  where
    stale : ((id ≢ n) × Unmade (calm before) after mid new) ⊎ ((tells ≡ false) × Made (request.Read kind id seq) (calm before) after (calm (calm before)) mid new)
        → ((id ≢ n) × Unmade before after old new) ⊎ ((tells ≡ false) × Made (request.Read kind id seq) before after (calm before) old new)
    stale (inl other) = inl (other.0, unmade_after before after old mid new first calm_so_far other.1)
    stale (inr untold) = inr (untold.0, made_after (request.Read kind id seq) before after (calm before) old mid new first calm_so_far untold.1)
answers_after (reply.Stale n) (request.Write kind id seq x) tells before after old mid new first calm_so_far answers = absurd answers
answers_after (reply.Stale n) (request.Commit kind id count) tells before after old mid new first calm_so_far answers = absurd answers
answers_after (reply.Stale n) (request.SetMark mark) tells before after old mid new first calm_so_far answers = (answers.0, answers.1, unmade_after before after old mid new first calm_so_far answers.2)
answers_after reply.Done (request.Read kind id seq) tells before after old mid new first calm_so_far answers = absurd answers
answers_after reply.Done (request.Write kind id seq x) tells before after old mid new first calm_so_far answers = made_after (request.Write kind id seq x) before after (calm before) old mid new first calm_so_far answers
answers_after reply.Done (request.Commit kind id count) tells before after old mid new first calm_so_far answers = made_after (request.Commit kind id count) before after _ old mid new first calm_so_far answers
answers_after reply.Done (request.SetMark mark) tells before after old mid new first calm_so_far answers = made_after (request.SetMark mark) before after _ old mid new first calm_so_far answers
answers_after reply.DiskFailed asked tells before after old mid new first calm_so_far answers = not_served_after fault.Failed asked before after old mid new first calm_so_far answers
answers_after reply.PowerOff asked tells before after old mid new first calm_so_far answers = not_served_after fault.Cut asked before after old mid new first calm_so_far answers
answers_after (reply.Spent g) (request.Read kind id seq) tells before after old mid new first calm_so_far answers = absurd answers
answers_after (reply.Spent g) (request.Write kind id seq x) tells before after old mid new first calm_so_far answers = absurd answers
answers_after (reply.Spent g) (request.Commit kind id count) tells before after old mid new first calm_so_far answers = (answers.0, answers.1, unmade_after before after old mid new first calm_so_far answers.2)
answers_after (reply.Spent g) (request.SetMark mark) tells before after old mid new first calm_so_far answers = (answers.0, answers.1, answers.2, unmade_after before after old mid new first calm_so_far answers.3)

-- what can be served can be served by the store without its doubt
pub can_serve_still : (st : StoreState) (asked : Request) → CanServe st asked → CanServe (settled st) asked
can_serve_still st (request.Read Mission id seq) can = can
can_serve_still st (request.Read Fence id seq) can = can
can_serve_still st (request.Read Safe id seq) can = can
can_serve_still st (request.Write Mission id seq item) can = can
can_serve_still st (request.Write Fence id seq item) can = can
can_serve_still st (request.Write Safe id seq item) can = can
can_serve_still st (request.Commit Mission id count) can = can
can_serve_still st (request.Commit Fence id count) can = can
can_serve_still st (request.Commit Safe id count) can = can
can_serve_still st (request.SetMark mark) can = can

calls_still : (st : StoreState) (asked : Request) → CallsDevice (settled st) asked → CallsDevice st asked
calls_still st (request.Read Mission id seq) calls = calls
calls_still st (request.Read Fence id seq) calls = calls
calls_still st (request.Read Safe id seq) calls = calls
calls_still st (request.Write kind id seq item) calls = calls
calls_still st (request.Commit Mission id count) calls = calls
calls_still st (request.Commit Fence id count) calls = calls
calls_still st (request.Commit Safe id count) calls = calls
calls_still st (request.SetMark mark) calls = calls

-- each image while the doubt was settled
settled_leaves : (st : StoreState) (parts : Parts) (old mid : DiskState) → Holds st (ledger_of parts) old.seen → LeavesOnly old mid (StandsNow (ledger_of parts) old) → LeavesOnly old mid (MayStandFor st)
settled_leaves st parts old mid holds leaves = leaves_weaker old mid (StandsNow (ledger_of parts) old) (MayStandFor st) (λ c stands. may_stand st parts old c holds stands) leaves

-- The service of the store without its doubt is that of the whole.
pub served_after : (st : StoreState) (asked : Request) (given : Reply) (parts : Parts) (now : Ledger) (old mid new : DiskState) → Holds st (ledger_of parts) old.seen → LeavesOnly old mid (StandsNow (ledger_of parts) old)
    → Served (settled st) asked given now mid new → Served st asked given now old new
served_after st asked given parts now old mid new holds leaves served = go served.fate served.suits served.serve served.holds served.now
  where
    since : LeavesOnly old new (IsOfService st asked)
    since = runs_on old mid new (IsOfService st asked)
        (leaves_weaker old mid (MayStandFor st) (IsOfService st asked) (λ c may. inl may) (settled_leaves st parts old mid holds leaves))
        (leaves_weaker mid new (IsOfService (settled st) asked) (IsOfService st asked) each served.since)
      where
        each : (c : List ℕ) → IsOfService (settled st) asked c → IsOfService st asked c
        each c (inl of) = inl (may_be (holding_of st) st.doubt c of)
        each c (inr of) = inr of

    go : (fate : Fate) → Suits fate (settled st) asked → Serve fate (settled st) asked given (after fate (settled st) asked) → UnlessOff given (Holds (after fate (settled st) asked) now new.seen)
        → ((c : List ℕ) → new.images c → MayStandFor (after fate (settled st) asked) c) → Served st asked given now old new
    go Well suits serve held here = record { fate = Well; suits = tt; serve = record { reply = serve.reply; store = refl }; holds = held; since = since; now = here }
    go (InSettling f) suits serve held here = absurd (false≢true suits)
    go (InRequest f) suits serve held here = record { fate = InRequest f; suits = calls_still st asked suits; serve = record { reply = serve.reply; store = refl }; holds = held; since = since; now = here }
    go (InOpening f) suits serve held here = record { fate = InOpening f; suits = (suits.0, calls_still st asked suits.1); serve = record { reply = serve.reply; store = refl }; holds = held; since = since; now = here }

some_doubt : (ledger : Ledger) (d : Option Doubt) (seen : List ℕ) → IsSome d → IsSome (doubt_in ledger d seen)
some_doubt ledger None seen some = absurd (false≢true some)
some_doubt ledger (Some d) seen some = refl

-- A service of which the disk refused to settle the doubt.
pub unsettled : (f : DiskFault) (st : StoreState) (asked : Request) (parts : Parts) (now : Ledger) (old mid : DiskState) → IsStore parts old → Holds st (ledger_of parts) old.seen → Same old.seen mid.seen → LeavesOnly old mid (StandsNow (ledger_of parts) old)
    → NotSettled f (ledger_of parts) now old.meter mid.meter → Served st asked (fault_told f) now old mid
unsettled f st asked parts now old mid store holds same leaves not_settled =
    let all : LeavesOnly old mid (MayStandFor st) = settled_leaves st parts old mid holds leaves in
    record {
      fate = InSettling (of_disk f);
      suits = subst (λ (d : Option Change). IsSome d) (sym holds.doubt) (some_doubt (ledger_of parts) parts.doubt old.seen not_settled.doubted);
      serve = record { reply = told_alike f; store = refl };
      holds = unless_off (fault_told f) (Holds st now mid.seen) (subst (λ (l : Ledger). Holds st l mid.seen) (sym not_settled.same) (holds_same st (ledger_of parts) old.seen mid.seen (limited parts old store) same holds));
      since = leaves_weaker old mid (MayStandFor st) (IsOfService st asked) (λ c may. inl may) all;
      now = all.now;
    }
