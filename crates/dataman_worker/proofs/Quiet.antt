-- Services that leave what is in force: reads, writes, and what is answered without a call.
use Rattle.std.proofs.Common.{◌≡◌, ◌≢◌, inl, ℕ, ◌==◌, Bool, false, List, Some, None, refl, sym, ap, ◌∙◌, subst}
use Rattle.std.specs.Prelude.{slice_get, if◌then◌else◌}
use Rattle.std.proofs.lemmas.Bool.{eq-eqb, ne_eqb}
use Rattle.mission_model.specs.declared.plan.PlanType.{PlanType}
use Rattle.mission_model.specs.declared.plan.PlanType.TheVariants.{Mission}
use Rattle.mission_model.specs.PlainMark.{plain_mark}
use Rattle.mission_model.specs.declared.plan.Item.{Item}
use Rattle.mission_model.specs.declared.counts.Mark.{Mark}
use Rattle.mission_model.specs.declared.request.Request.{Request}
use Rattle.mission_model.specs.declared.request.Request.TheVariants as request
use Rattle.mission_model.specs.declared.request.Reply.{Reply}
use Rattle.mission_model.specs.declared.request.Reply.TheVariants as reply
use Rattle.disk_model.specs.declared.disk.DiskFault.{DiskFault}
use Rattle.disk_model.specs.declared.disk.DiskFault.TheVariants as fault
use Rattle.disk_model.specs.Disk.{DiskState, IsSound, Still, Elapses}
use Rattle.disk_model.specs.Moments.{LeavesOnly, started, first_call, leaves_weaker}
use Rattle.plan_store.specs.StoreState.{StoredPlan, StoreState, SetMark, plan_of, settled}
use Rattle.plan_store.specs.Serve.{Fault, Failed, Cut, Fate, Well, InRequest, by_fate, found, read_reply, change_reply, changed_at, reply_to, after, fault_reply}
use Rattle.plan_store.specs.Fates.{Suits}
use Rattle.bank_state.specs.declared.parts.Parts.{Parts}
use Rattle.bank_state.specs.Plans.{Holding}
use Rattle.bank_state.specs.StandsFor.{IsOf}
use Rattle.bank_state.specs.Ledger.{Ledger, ledger_of, plan_by}
use Rattle.bank_state.specs.Store.{IsStore}
use Rattle.dataman_worker.specs.Holds.{Holds, holding_of}
use Rattle.dataman_worker.specs.Answers.{fault_told}
use Rattle.dataman_worker.specs.Served.{IsOfService, Served}
use Rattle.dataman_worker.proofs.Holding.{stands, may_be, holds_calm, unless_off, plan_settled}

-- a fault of the disk, in the store's words
abbrev pub of_disk : DiskFault → Fault
of_disk fault.Failed = Failed
of_disk fault.Cut = Cut

pub told_alike : (f : DiskFault) → fault_told f ≡ fault_reply (of_disk f)
told_alike fault.Failed = refl
told_alike fault.Cut = refl

-- a service that leaves what is in force, and no doubt
pub quiet : (st : StoreState) (asked : Request) (given : Reply) (fate : Fate) (ledger : Ledger) (old new : DiskState) → Suits fate st asked → given ≡ reply_to fate st asked
    → Holds (after fate st asked) ledger new.seen → holding_of (after fate st asked) ≡ holding_of st → (after fate st asked).doubt ≡ None
    → LeavesOnly old new (IsOf (holding_of st)) → Served st asked given ledger old new
quiet st asked given fate ledger old new suits is holds same calm leaves = record {
  fate = fate;
  suits = suits;
  serve = record { reply = is; store = refl };
  holds = unless_off given (Holds (after fate st asked) ledger new.seen) holds;
  since = leaves_weaker old new (IsOf (holding_of st)) (IsOfService st asked) (λ c of. inl (may_be (holding_of st) st.doubt c of)) leaves;
  now = λ c left. may_be (holding_of (after fate st asked)) (after fate st asked).doubt c (subst (λ (h : Holding). IsOf h c) (sym same) (leaves.now c left));
}

-- each image of a store without a doubt
pub stands_calm : (st : StoreState) (parts : Parts) (disk : DiskState) → IsSound disk → IsStore parts disk → Holds st (ledger_of parts) disk.seen → parts.doubt ≡ None → (c : List ℕ) → disk.images c → IsOf (holding_of st) c
stands_calm st parts disk sound store holds none c left =
    stands (settled st) parts disk sound store (holds_calm st (ledger_of parts) disk.seen none holds) c left

-- calls that change nothing
pub still_leaves : (st : StoreState) (parts : Parts) (old new : DiskState) → IsSound old → IsStore parts old → Holds st (ledger_of parts) old.seen → parts.doubt ≡ None → Still old new → Elapses old new → LeavesOnly old new (IsOf (holding_of st))
still_leaves st parts old new sound store holds none still time =
    let here = stands_calm st parts old sound store holds none in
    first_call old new (IsOf (holding_of st)) sound here time (λ c left. here c (still.images c left))

pub nothing_leaves : (st : StoreState) (parts : Parts) (disk : DiskState) → IsSound disk → IsStore parts disk → Holds st (ledger_of parts) disk.seen → parts.doubt ≡ None → LeavesOnly disk disk (IsOf (holding_of st))
nothing_leaves st parts disk sound store holds none = started disk (IsOf (holding_of st)) sound (stands_calm st parts disk sound store holds none)

-- the reply to a read of the plan in force
own_read : (fate : Fate) (plan : StoredPlan) (id seq : ℕ) → plan.id ≡ id → read_reply fate plan id seq ≡ by_fate fate (found plan.id (slice_get plan.items seq))
own_read fate plan id seq same = ap (λ (own : Bool). if own then by_fate fate (found plan.id (slice_get plan.items seq)) else reply.Stale plan.id) (eq-eqb plan.id id same)

-- and to a read of another
other_read : (fate : Fate) (plan : StoredPlan) (id seq : ℕ) → plan.id ≢ id → read_reply fate plan id seq ≡ reply.Stale plan.id
other_read fate plan id seq apart = ap (λ (own : Bool). if own then by_fate fate (found plan.id (slice_get plan.items seq)) else reply.Stale plan.id) (ne_eqb plan.id id apart)

-- the id in force
pub own_id : (st : StoreState) (ledger : Ledger) (seen : List ℕ) (kind : PlanType) → Holds st ledger seen → (plan_of st kind).id ≡ (ledger.entries kind).head.id
own_id st ledger seen kind holds = ap (λ (p : StoredPlan). p.id) (holds.plans kind)

-- a read of another id
pub read_stale : (st : StoreState) (kind : PlanType) (id seq n : ℕ) (parts : Parts) (disk : DiskState) → IsSound disk → IsStore parts disk → parts.doubt ≡ None → Holds st (ledger_of parts) disk.seen
    → n ≡ ((ledger_of parts).entries kind).head.id → id ≢ n → Served st (request.Read kind id seq) (reply.Stale n) (ledger_of parts) disk disk
read_stale st kind id seq n parts disk sound store none holds is apart =
    let plan = plan_of (settled st) kind in
    let own : plan.id ≡ n = ap (λ (p : StoredPlan). p.id) (plan_settled st kind) ∙ own_id st (ledger_of parts) disk.seen kind holds ∙ sym is in
    let told : reply.Stale n ≡ reply_to Well st (request.Read kind id seq) = sym (other_read Well plan id seq (λ e. apart (sym e ∙ own)) ∙ ap (λ (k : ℕ). reply.Stale k) own) in
    quiet st (request.Read kind id seq) (reply.Stale n) Well (ledger_of parts) disk disk tt told (holds_calm st (ledger_of parts) disk.seen none holds) refl refl (nothing_leaves st parts disk sound store holds none)

-- a read that gives an item
pub read_given : (st : StoreState) (kind : PlanType) (id seq : ℕ) (item : Item) (parts : Parts) (old new : DiskState) → IsSound old → IsStore parts old → parts.doubt ≡ None → Holds st (ledger_of parts) old.seen
    → id ≡ ((ledger_of parts).entries kind).head.id → Some item ≡ slice_get (plan_by (ledger_of parts) kind old.seen).items seq → Still old new → Elapses old new
    → Served st (request.Read kind id seq) (reply.Item item) (ledger_of parts) old new
read_given st kind id seq item parts old new sound store none holds is at still time =
    let plan = plan_of (settled st) kind in
    let own : plan.id ≡ id = ap (λ (p : StoredPlan). p.id) (plan_settled st kind) ∙ own_id st (ledger_of parts) old.seen kind holds ∙ sym is in
    let there : slice_get plan.items seq ≡ Some item = ap (λ (p : StoredPlan). slice_get p.items seq) (plan_settled st kind ∙ holds.plans kind) ∙ sym at in
    let told : reply.Item item ≡ reply_to Well st (request.Read kind id seq) = sym (own_read Well plan id seq own ∙ ap (found plan.id) there) in
    let after : Holds (settled st) (ledger_of parts) new.seen = subst (λ (l : List ℕ). Holds (settled st) (ledger_of parts) l) (sym still.seen) (holds_calm st (ledger_of parts) old.seen none holds) in
    quiet st (request.Read kind id seq) (reply.Item item) Well (ledger_of parts) old new tt told after refl refl (still_leaves st parts old new sound store holds none still time)

-- a read that the disk refused
pub read_refused : (st : StoreState) (kind : PlanType) (id seq : ℕ) (f : DiskFault) (parts : Parts) (old new : DiskState) → IsSound old → IsStore parts old → parts.doubt ≡ None → Holds st (ledger_of parts) old.seen
    → id ≡ ((ledger_of parts).entries kind).head.id → Still old new → Elapses old new → Served st (request.Read kind id seq) (fault_told f) (ledger_of parts) old new
read_refused st kind id seq f parts old new sound store none holds is still time =
    let plan = plan_of (settled st) kind in
    let own : (plan_of st kind).id ≡ id = own_id st (ledger_of parts) old.seen kind holds ∙ sym is in
    let told : fault_told f ≡ reply_to (InRequest (of_disk f)) st (request.Read kind id seq) = told_alike f ∙ sym (own_read (InRequest (of_disk f)) plan id seq (ap (λ (p : StoredPlan). p.id) (plan_settled st kind) ∙ own)) in
    let after : Holds (settled st) (ledger_of parts) new.seen = subst (λ (l : List ℕ). Holds (settled st) (ledger_of parts) l) (sym still.seen) (holds_calm st (ledger_of parts) old.seen none holds) in
    quiet st (request.Read kind id seq) (fault_told f) (InRequest (of_disk f)) (ledger_of parts) old new own told after refl refl (still_leaves st parts old new sound store holds none still time)

-- a mark of another mission
pub mark_stale : (st : StoreState) (mark : Mark) (n : ℕ) (parts : Parts) (disk : DiskState) → IsSound disk → IsStore parts disk → parts.doubt ≡ None → Holds st (ledger_of parts) disk.seen
    → n ≡ ((ledger_of parts).entries Mission).head.id → mark.id ≢ n → Served st (request.SetMark mark) (reply.Stale n) (ledger_of parts) disk disk
mark_stale st mark n parts disk sound store none holds is apart =
    let own : st.mission.plan.id ≡ n = own_id st (ledger_of parts) disk.seen Mission holds ∙ sym is in
    let other : (st.mission.plan.id == mark.id) ≡ false = ne_eqb st.mission.plan.id mark.id (λ e. apart (sym e ∙ own)) in
    let told : reply.Stale n ≡ reply_to Well st (request.SetMark mark) = sym (ap (λ (b : Bool). if b then change_reply Well st.mark_generation else reply.Stale st.mission.plan.id) other ∙ ap (λ (k : ℕ). reply.Stale k) own) in
    let left : after Well st (request.SetMark mark) ≡ settled st = ap (λ (b : Bool). if b then changed_at st.mark_generation Well (settled st) (SetMark (plain_mark mark)) else settled st) other in
    quiet st (request.SetMark mark) (reply.Stale n) Well (ledger_of parts) disk disk tt told
    (subst (λ (s : StoreState). Holds s (ledger_of parts) disk.seen) (sym left) (holds_calm st (ledger_of parts) disk.seen none holds))
    (ap holding_of left) (ap (λ (s : StoreState). s.doubt) left) (nothing_leaves st parts disk sound store holds none)
