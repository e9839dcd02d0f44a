-- The service of a change: the commit of a plan, or a mark.
use Rattle.std.proofs.Common.{◌≡◌, ◌≢◌, ◌⊎◌, inl, inr, ⊎_elim, ℕ, ◌+◌, ◌-◌, ◌<◌, Bool, true, false, List, Some, None, Result, Ok, Err, is_ok, refl, sym, ap, ◌∙◌, subst, arith}
use Rattle.std.specs.Prelude.{OnOk, IfErr, if◌then◌else◌, is_some}
use Rattle.std.proofs.lemmas.Bool.{eq-eqb, ne_eqb, false≢true, true≢false}
use Rattle.mission_model.specs.declared.limits.TheConstants.{LAST_GENERATION}
use Rattle.mission_model.specs.declared.plan.PlanType.{PlanType}
use Rattle.mission_model.specs.declared.plan.PlanType.TheVariants.{Mission, Fence, Safe}
use Rattle.mission_model.specs.declared.plan.Item.{Item}
use Rattle.mission_model.specs.declared.counts.Mark.{Mark}
use Rattle.mission_model.specs.declared.request.Request.{Request}
use Rattle.mission_model.specs.declared.request.Request.TheVariants as request
use Rattle.mission_model.specs.declared.request.Reply.TheVariants as reply
use Rattle.mission_model.specs.PlainMark.{plain_mark}
use Rattle.disk_model.specs.Disk.{DiskState, IsSound}
use Rattle.disk_model.specs.Moments.{LeavesOnly, leaves_weaker}
use Rattle.gated_cell.specs.declared.fault.CellFault.{CellFault}
use Rattle.gated_cell.specs.declared.fault.CellFault.TheVariants as cell_fault
use Rattle.plan_store.specs.declared.places.Written.{Written}
use Rattle.plan_store.specs.StoreState.{KindState, StoredPlan, StoreState, Change, Commit, SetMark, of_kind, plan_of, drafted, applied, settled}
use Rattle.plan_store.specs.Serve.{Fault, Failed, Cut, Fate, Well, InRequest, InOpening, by_fate, change_reply, changed_at, answer_to, after_answer, reply_to, after}
use Rattle.plan_store.specs.Serve as serve
use Rattle.plan_store.specs.Fates.{CallsDevice, OpensGate}
use Rattle.plan_store.specs.CanServe.{CanCommit}
use Rattle.bank_state.specs.declared.parts.Parts.{Parts}
use Rattle.bank_state.specs.declared.parts.Doubt.{Doubt}
use Rattle.bank_state.specs.declared.parts.Doubt.TheVariants as doubt
use Rattle.bank_state.specs.Plans.{Holding, changed}
use Rattle.bank_state.specs.StandsFor.{IsOf}
use Rattle.bank_state.specs.Ledger.{Ledger, ledger_of, plan_by, draft_by, holding_in, change_in, done, items_in}
use Rattle.bank_state.specs.Store.{IsStore}
use Rattle.bank_state.specs.Outcomes.{LedgerAfter, StoreAfter}
use Rattle.bank_state.specs.Swap.{NotDone}
use Rattle.dataman_worker.specs.Holds.{Holds, HasDrafts, MayStandFor, holding_of}
use Rattle.dataman_worker.specs.Asking.{items_in-drafted}
use Rattle.dataman_worker.specs.Answers.{calm, change_told}
use Rattle.dataman_worker.specs.Served.{IsOfService, Served}
use Rattle.dataman_worker.proofs.Records.{DoubtLimited, Same, limited, plan_same}
use Rattle.dataman_worker.proofs.Holding.{holding_is, stands, may_be, changed_is, is_calm, holds_same, holds_calm}
use Rattle.dataman_worker.proofs.Quiet.{quiet, nothing_leaves}

-- how the change of banks went, as they tell it
pub record Ran (d : Doubt) (generation : ℕ) (parts now : Parts) (old new : DiskState) (result : Result (Unit {0}) CellFault) : Type 1 where
  pub did : OnOk result (ledger_of now ≡ done d (ledger_of parts))
  pub err : IfErr result (LedgerAfter d (ledger_of parts) (ledger_of now))
  pub store : OnOk result (IsStore now new)
  pub kept : IfErr result (StoreAfter now new)
  pub records : Same old.seen new.seen
  pub any_moment : LeavesOnly old new (λ c. IsOf (holding_in (ledger_of parts) old.seen) c ⊎ IsOf (changed (holding_in (ledger_of parts) old.seen) (change_in (ledger_of parts) d old.seen)) c)
  pub refused : IfErr result (NotDone generation old.meter new.meter)
  pub spent : generation ≡ LAST_GENERATION → (is_ok result ≡ false) × (new ≡ old)
  pub only_spent : generation ≡ LAST_GENERATION → result ≡ Err (cell_fault.Spent LAST_GENERATION)

-- what a store does with the request of a change
pub record Puts (st : StoreState) (asked : Request) (change : Change) (generation : ℕ) : Type 0 where
  pub opens : OpensGate asked
  pub calls : generation ≢ LAST_GENERATION → CallsDevice st asked
  pub reply : (fate : Fate) → answer_to fate (settled st) asked ≡ change_reply fate generation
  pub left : (fate : Fate) → after_answer fate (settled st) asked ≡ changed_at generation fate (settled st) change

-- the store with a change in doubt
abbrev pub doubting : StoreState → Change → StoreState
doubting st change = record (settled st) { doubt = Some change }

-- a change of the banks is the same where their records are
pub change_same : (ledger : Ledger) (d : Doubt) (old new : List ℕ) → DoubtLimited (Some d) → Same old new → change_in ledger d new ≡ change_in ledger d old
change_same ledger (doubt.Plan kind head) old new within same = ap (Commit kind) (plan_same kind (1 - (ledger.entries kind).bank) head old new within same)
change_same ledger (doubt.Mark mark) old new within same = refl

none_some : (w : Written) → None ≡ Some w → ⊥
none_some w is = false≢true (ap is_some is)

-- the banks after a commit hold the store after it
holds_plan : (st : StoreState) (ledger : Ledger) (kind : PlanType) (head : _) (seen : List ℕ) → Holds st ledger seen
    → Holds (applied (settled st) (Commit kind (draft_by ledger kind head seen))) (done (doubt.Plan kind head) (calm ledger)) seen
holds_plan st ledger Mission head seen holds = record { plans = plans; generations = generations; drafts = drafts; mark = refl; mark_generation = holds.mark_generation; doubt = refl }
  where
    plans : (kind : PlanType) → plan_of (applied (settled st) (Commit Mission (draft_by ledger Mission head seen))) kind ≡ plan_by (done (doubt.Plan Mission head) (calm ledger)) kind seen
    plans Mission = refl
    plans Fence = holds.plans Fence
    plans Safe = holds.plans Safe

    generations : (kind : PlanType) → (of_kind (applied (settled st) (Commit Mission (draft_by ledger Mission head seen))) kind).generation ≡ ((done (doubt.Plan Mission head) (calm ledger)).entries kind).generation
    generations Mission = ap (λ (n : ℕ). n + 1) (holds.generations Mission)
    generations Fence = holds.generations Fence
    generations Safe = holds.generations Safe

    drafts : (kind : PlanType) → let after = done (doubt.Plan Mission head) (calm ledger) in HasDrafts (of_kind (applied (settled st) (Commit Mission (draft_by ledger Mission head seen))) kind).drafts (after.entries kind).head.id kind (1 - (after.entries kind).bank) seen
    drafts Mission = λ seq w below at newer. absurd (none_some w at)
    drafts Fence = holds.drafts Fence
    drafts Safe = holds.drafts Safe
holds_plan st ledger Fence head seen holds = record { plans = plans; generations = generations; drafts = drafts; mark = holds.mark; mark_generation = holds.mark_generation; doubt = refl }
  where
    plans : (kind : PlanType) → plan_of (applied (settled st) (Commit Fence (draft_by ledger Fence head seen))) kind ≡ plan_by (done (doubt.Plan Fence head) (calm ledger)) kind seen
    plans Mission = holds.plans Mission
    plans Fence = refl
    plans Safe = holds.plans Safe

    generations : (kind : PlanType) → (of_kind (applied (settled st) (Commit Fence (draft_by ledger Fence head seen))) kind).generation ≡ ((done (doubt.Plan Fence head) (calm ledger)).entries kind).generation
    generations Mission = holds.generations Mission
    generations Fence = ap (λ (n : ℕ). n + 1) (holds.generations Fence)
    generations Safe = holds.generations Safe

    drafts : (kind : PlanType) → let after = done (doubt.Plan Fence head) (calm ledger) in HasDrafts (of_kind (applied (settled st) (Commit Fence (draft_by ledger Fence head seen))) kind).drafts (after.entries kind).head.id kind (1 - (after.entries kind).bank) seen
    drafts Mission = holds.drafts Mission
    drafts Fence = λ seq w below at newer. absurd (none_some w at)
    drafts Safe = holds.drafts Safe
holds_plan st ledger Safe head seen holds = record { plans = plans; generations = generations; drafts = drafts; mark = holds.mark; mark_generation = holds.mark_generation; doubt = refl }
  where
    plans : (kind : PlanType) → plan_of (applied (settled st) (Commit Safe (draft_by ledger Safe head seen))) kind ≡ plan_by (done (doubt.Plan Safe head) (calm ledger)) kind seen
    plans Mission = holds.plans Mission
    plans Fence = holds.plans Fence
    plans Safe = refl

    generations : (kind : PlanType) → (of_kind (applied (settled st) (Commit Safe (draft_by ledger Safe head seen))) kind).generation ≡ ((done (doubt.Plan Safe head) (calm ledger)).entries kind).generation
    generations Mission = holds.generations Mission
    generations Fence = holds.generations Fence
    generations Safe = ap (λ (n : ℕ). n + 1) (holds.generations Safe)

    drafts : (kind : PlanType) → let after = done (doubt.Plan Safe head) (calm ledger) in HasDrafts (of_kind (applied (settled st) (Commit Safe (draft_by ledger Safe head seen))) kind).drafts (after.entries kind).head.id kind (1 - (after.entries kind).bank) seen
    drafts Mission = holds.drafts Mission
    drafts Fence = holds.drafts Fence
    drafts Safe = λ seq w below at newer. absurd (none_some w at)

-- and those after a mark the store after that
holds_mark : (st : StoreState) (ledger : Ledger) (mark : Mark) (seen : List ℕ) → Holds st ledger seen → Holds (applied (settled st) (SetMark (plain_mark mark))) (done (doubt.Mark mark) (calm ledger)) seen
holds_mark st ledger mark seen holds = record { plans = plans; generations = generations; drafts = drafts; mark = refl; mark_generation = ap (λ (n : ℕ). n + 1) holds.mark_generation; doubt = refl }
  where
    plans : (kind : PlanType) → plan_of (applied (settled st) (SetMark (plain_mark mark))) kind ≡ plan_by (done (doubt.Mark mark) (calm ledger)) kind seen
    plans Mission = holds.plans Mission
    plans Fence = holds.plans Fence
    plans Safe = holds.plans Safe

    generations : (kind : PlanType) → (of_kind (applied (settled st) (SetMark (plain_mark mark))) kind).generation ≡ ((done (doubt.Mark mark) (calm ledger)).entries kind).generation
    generations Mission = holds.generations Mission
    generations Fence = holds.generations Fence
    generations Safe = holds.generations Safe

    drafts : (kind : PlanType) → let after = done (doubt.Mark mark) (calm ledger) in HasDrafts (of_kind (applied (settled st) (SetMark (plain_mark mark))) kind).drafts (after.entries kind).head.id kind (1 - (after.entries kind).bank) seen
    drafts Mission = holds.drafts Mission
    drafts Fence = holds.drafts Fence
    drafts Safe = holds.drafts Safe

pub holds_done : (st : StoreState) (ledger : Ledger) (d : Doubt) (seen : List ℕ) → Holds st ledger seen → Holds (applied (settled st) (change_in ledger d seen)) (done d (calm ledger)) seen
holds_done st ledger (doubt.Plan kind head) seen holds = holds_plan st ledger kind head seen holds
holds_done st ledger (doubt.Mark mark) seen holds = holds_mark st ledger mark seen holds

-- the change in doubt is that of the banks, whatever else was in doubt
doubt_kept : (ledger : Ledger) (d : Doubt) (seen : List ℕ) → change_in ledger d seen ≡ change_in (record ledger { doubt = Some d }) d seen
doubt_kept ledger (doubt.Plan Mission head) seen = refl
doubt_kept ledger (doubt.Plan Fence head) seen = refl
doubt_kept ledger (doubt.Plan Safe head) seen = refl
doubt_kept ledger (doubt.Mark mark) seen = refl

-- banks with a change in doubt hold the store with it
pub holds_doubting : (st : StoreState) (ledger : Ledger) (d : Doubt) (seen : List ℕ) → Holds st ledger seen → Holds (doubting st (change_in ledger d seen)) (record ledger { doubt = Some d }) seen
holds_doubting st ledger d seen holds = record { plans = plans; generations = generations; drafts = drafts; mark = holds.mark; mark_generation = holds.mark_generation; doubt = ap (λ (x : Change). Some x) (doubt_kept ledger d seen) }
  where
    plans : (kind : PlanType) → plan_of (doubting st (change_in ledger d seen)) kind ≡ plan_by (record ledger { doubt = Some d }) kind seen
    plans Mission = holds.plans Mission
    plans Fence = holds.plans Fence
    plans Safe = holds.plans Safe

    generations : (kind : PlanType) → (of_kind (doubting st (change_in ledger d seen)) kind).generation ≡ ((record ledger { doubt = Some d }).entries kind).generation
    generations Mission = holds.generations Mission
    generations Fence = holds.generations Fence
    generations Safe = holds.generations Safe

    drafts : (kind : PlanType) → HasDrafts (of_kind (doubting st (change_in ledger d seen)) kind).drafts (ledger.entries kind).head.id kind (1 - (ledger.entries kind).bank) seen
    drafts Mission = holds.drafts Mission
    drafts Fence = holds.drafts Fence
    drafts Safe = holds.drafts Safe

-- the reply of a change whose cell is not at the last generation, and the store then
reply_open : (st : StoreState) (asked : Request) (change : Change) (generation : ℕ) (fate : Fate) → Puts st asked change generation → generation ≢ LAST_GENERATION → answer_to fate (settled st) asked ≡ by_fate fate reply.Done
reply_open st asked change generation fate puts goes = puts.reply fate ∙ ap (λ (last : Bool). if last then reply.Spent generation else by_fate fate reply.Done) (ne_eqb generation LAST_GENERATION goes)

left_open : (st : StoreState) (asked : Request) (change : Change) (generation : ℕ) (fate : Fate) → Puts st asked change generation → generation ≢ LAST_GENERATION → after_answer fate (settled st) asked ≡ serve.changed fate (settled st) change
left_open st asked change generation fate puts goes = puts.left fate ∙ ap (λ (last : Bool). if last then settled st else serve.changed fate (settled st) change) (ne_eqb generation LAST_GENERATION goes)

-- and where it is
reply_last : (st : StoreState) (asked : Request) (change : Change) (generation : ℕ) (fate : Fate) → Puts st asked change generation → generation ≡ LAST_GENERATION → answer_to fate (settled st) asked ≡ reply.Spent generation
reply_last st asked change generation fate puts last = puts.reply fate ∙ ap (λ (last : Bool). if last then reply.Spent generation else by_fate fate reply.Done) (eq-eqb generation LAST_GENERATION last)

left_last : (st : StoreState) (asked : Request) (change : Change) (generation : ℕ) (fate : Fate) → Puts st asked change generation → generation ≡ LAST_GENERATION → after_answer fate (settled st) asked ≡ settled st
left_last st asked change generation fate puts last = puts.left fate ∙ ap (λ (last : Bool). if last then settled st else serve.changed fate (settled st) change) (eq-eqb generation LAST_GENERATION last)

-- what an image of a change may be
abbrev Either : StoreState → Change → List ℕ → Type 0
Either st change c = IsOf (holding_of st) c ⊎ IsOf (changed (holding_of st) change) c

either_by : (st : StoreState) (ledger : Ledger) (d : Doubt) (change : Change) (old new : DiskState) → Holds st ledger old.seen → change_in ledger d old.seen ≡ change
    → LeavesOnly old new (λ c. IsOf (holding_in ledger old.seen) c ⊎ IsOf (changed (holding_in ledger old.seen) (change_in ledger d old.seen)) c) → LeavesOnly old new (Either st change)
either_by st ledger d change old new holds is leaves =
    leaves_weaker old new (λ c. IsOf (holding_in ledger old.seen) c ⊎ IsOf (changed (holding_in ledger old.seen) (change_in ledger d old.seen)) c) (Either st change) each leaves
  where
    each : (c : List ℕ) → IsOf (holding_in ledger old.seen) c ⊎ IsOf (changed (holding_in ledger old.seen) (change_in ledger d old.seen)) c → Either st change c
    each c of =
        subst (λ (h : Holding). IsOf h c ⊎ IsOf (changed h change) c) (sym (holding_is st ledger old.seen holds))
        (subst (λ (x : Change). IsOf (holding_in ledger old.seen) c ⊎ IsOf (changed (holding_in ledger old.seen) x) c) is of)

-- is one of the service, where the cell is not at the last generation
service_by : (st : StoreState) (asked : Request) (change : Change) (generation : ℕ) (old new : DiskState) → Puts st asked change generation → generation ≢ LAST_GENERATION → LeavesOnly old new (Either st change) → LeavesOnly old new (IsOfService st asked)
service_by st asked change generation old new puts goes leaves = leaves_weaker old new (Either st change) (IsOfService st asked) each leaves
  where
    each : (c : List ℕ) → Either st change c → IsOfService st asked c
    each c (inl of) = inl (may_be (holding_of st) st.doubt c of)
    each c (inr of) = inr (subst (λ (h : Holding). IsOf h c) (sym (ap holding_of (left_open st asked change generation Well puts goes) ∙ changed_is (settled st) change)) of)

-- whether a change was refused for its cell's last generation
abbrev is_spent : Result (Unit {0}) CellFault → Bool
is_spent (Ok u) = false
is_spent (Err cell_fault.Failed) = false
is_spent (Err cell_fault.Cut) = false
is_spent (Err (cell_fault.Spent g)) = true
is_spent (Err (cell_fault.Twins g)) = false

-- The service, by how the change went.
pub change_served : (result : Result (Unit {0}) CellFault) (st : StoreState) (asked : Request) (change : Change) (d : Doubt) (generation : ℕ) (parts now : Parts) (old new : DiskState)
    → IsSound old → IsSound new → IsStore parts old → parts.doubt ≡ None → Holds st (ledger_of parts) old.seen → DoubtLimited (Some d) → change_in (ledger_of parts) d old.seen ≡ change
    → Puts st asked change generation → Ran d generation parts now old new result → Served st asked (change_told result) (ledger_of now) old new
change_served (Ok u) st asked change d generation parts now old new sound_old sound_new store none holds within is puts ran =
    let goes : generation ≢ LAST_GENERATION = λ last. true≢false (ran.spent last).0 in
    let here : Holds st (ledger_of parts) new.seen = holds_same st (ledger_of parts) old.seen new.seen (limited parts old store) ran.records holds in
    let same : change_in (ledger_of parts) d new.seen ≡ change = change_same (ledger_of parts) d old.seen new.seen within ran.records ∙ is in
    let ledger : done d (calm (ledger_of parts)) ≡ ledger_of now = ap (done d) (is_calm (ledger_of parts) none) ∙ sym ran.did in
    let left : after Well st asked ≡ applied (settled st) change = left_open st asked change generation Well puts goes in
    let after_it : Holds (after Well st asked) (ledger_of now) new.seen =
    subst (λ (s : StoreState). Holds s (ledger_of now) new.seen) (sym left)
    (subst (λ (l : Ledger). Holds (applied (settled st) change) l new.seen) ledger
    (subst (λ (x : Change). Holds (applied (settled st) x) (done d (calm (ledger_of parts))) new.seen) same (holds_done st (ledger_of parts) d new.seen here))) in
    record {
      fate = Well;
      suits = tt;
      serve = record { reply = sym (reply_open st asked change generation Well puts goes); store = refl };
      holds = after_it;
      since = service_by st asked change generation old new puts goes (either_by st (ledger_of parts) d change old new holds is ran.any_moment);
      now = stands (after Well st asked) now new sound_new ran.store after_it;
    }
change_served (Err cell_fault.Failed) st asked change d generation parts now old new sound_old sound_new store none holds within is puts ran = ⊎_elim unopened half_open ran.err
  where
    goes : generation ≢ LAST_GENERATION
    goes last = false≢true (ap is_spent (ran.only_spent last))

    here : Holds st (ledger_of parts) new.seen
    here = holds_same st (ledger_of parts) old.seen new.seen (limited parts old store) ran.records holds

    same : change_in (ledger_of parts) d new.seen ≡ change
    same = change_same (ledger_of parts) d old.seen new.seen within ran.records ∙ is

    since : LeavesOnly old new (IsOfService st asked)
    since = service_by st asked change generation old new puts goes (either_by st (ledger_of parts) d change old new holds is ran.any_moment)

    unopened : ledger_of now ≡ ledger_of parts → Served st asked reply.DiskFailed (ledger_of now) old new
    unopened kept =
        let left : after (InRequest Failed) st asked ≡ settled st = left_open st asked change generation (InRequest Failed) puts goes in
        let after_it : Holds (after (InRequest Failed) st asked) (ledger_of now) new.seen =
        subst (λ (s : StoreState). Holds s (ledger_of now) new.seen) (sym left)
        (subst (λ (l : Ledger). Holds (settled st) l new.seen) (sym kept) (holds_calm st (ledger_of parts) new.seen none here)) in
        record {
          fate = InRequest Failed;
          suits = puts.calls goes;
          serve = record { reply = sym (reply_open st asked change generation (InRequest Failed) puts goes); store = refl };
          holds = after_it;
          since = since;
          now = stands (after (InRequest Failed) st asked) now new sound_new ran.kept after_it;
        }

    half_open : ledger_of now ≡ record (ledger_of parts) { doubt = Some d } → Served st asked reply.DiskFailed (ledger_of now) old new
    half_open kept =
        let left : after (InOpening Failed) st asked ≡ doubting st change = left_open st asked change generation (InOpening Failed) puts goes in
        let after_it : Holds (after (InOpening Failed) st asked) (ledger_of now) new.seen =
        subst (λ (s : StoreState). Holds s (ledger_of now) new.seen) (sym left)
        (subst (λ (l : Ledger). Holds (doubting st change) l new.seen) (sym kept)
        (subst (λ (x : Change). Holds (doubting st x) (record (ledger_of parts) { doubt = Some d }) new.seen) same (holds_doubting st (ledger_of parts) d new.seen here))) in
        record {
          fate = InOpening Failed;
          suits = (puts.opens, puts.calls goes);
          serve = record { reply = sym (reply_open st asked change generation (InOpening Failed) puts goes); store = refl };
          holds = after_it;
          since = since;
          now = stands (after (InOpening Failed) st asked) now new sound_new ran.kept after_it;
        }
change_served (Err cell_fault.Cut) st asked change d generation parts now old new sound_old sound_new store none holds within is puts ran =
    let goes : generation ≢ LAST_GENERATION = λ last. false≢true (ap is_spent (ran.only_spent last)) in
    let either : LeavesOnly old new (Either st change) = either_by st (ledger_of parts) d change old new holds is ran.any_moment in
    let left : after (InOpening Cut) st asked ≡ doubting st change = left_open st asked change generation (InOpening Cut) puts goes in
    record {
      fate = InOpening Cut;
      suits = (puts.opens, puts.calls goes);
      serve = record { reply = sym (reply_open st asked change generation (InOpening Cut) puts goes); store = refl };
      holds = tt;
      since = service_by st asked change generation old new puts goes either;
      now = λ c left_image. subst (λ (s : StoreState). MayStandFor s c) (sym left) (either.now c left_image);
    }
change_served (Err (cell_fault.Spent g)) st asked change d generation parts now old new sound_old sound_new store none holds within is puts ran =
    let last : generation ≡ LAST_GENERATION = ran.refused.1 in
    let spent : reply.Spent g ≡ reply.Spent generation = ap (λ (n : ℕ). reply.Spent n) ran.refused.0 in
    let still : new ≡ old = (ran.spent last).1 in
    let left : after Well st asked ≡ settled st = left_last st asked change generation Well puts last in
    let here : Holds (settled st) (ledger_of parts) new.seen = holds_calm st (ledger_of parts) new.seen none (holds_same st (ledger_of parts) old.seen new.seen (limited parts old store) ran.records holds) in
    quiet st asked (reply.Spent g) Well (ledger_of now) old new tt (spent ∙ sym (reply_last st asked change generation Well puts last))
    (subst (λ (s : StoreState). Holds s (ledger_of now) new.seen) (sym left) (subst (λ (l : Ledger). Holds (settled st) l new.seen) (sym ran.err) here))
    (ap holding_of left) (ap (λ (s : StoreState). s.doubt) left)
    (subst (λ (x : DiskState). LeavesOnly old x (IsOf (holding_of st))) (sym still) (nothing_leaves st parts old sound_old store holds none))
change_served (Err (cell_fault.Twins g)) st asked change d generation parts now old new sound_old sound_new store none holds within is puts ran = absurd ran.refused

-- a kind of a store with or without its doubt
pub kind_settled : (st : StoreState) (kind : PlanType) → of_kind (settled st) kind ≡ of_kind st kind
kind_settled st Mission = refl
kind_settled st Fence = refl
kind_settled st Safe = refl

-- a commit, as the store has it
abbrev pub commit_of : StoreState → PlanType → ℕ → ℕ → Change
commit_of st kind id count = Commit kind (record { id = id; items = drafted (of_kind (settled st) kind).drafts id count })

pub puts_commit : (st : StoreState) (kind : PlanType) (id count : ℕ) → Puts st (request.Commit kind id count) (commit_of st kind id count) (of_kind (settled st) kind).generation
puts_commit st kind id count = record {
  opens = tt;
  calls = λ goes last. goes (ap (λ (k : KindState). k.generation) (kind_settled st kind) ∙ last);
  reply = λ fate. refl;
  left = λ fate. refl;
}

-- is that of the banks
pub commit_is : (st : StoreState) (ledger : Ledger) (kind : PlanType) (id count : ℕ) (seen : List ℕ) → Holds st ledger seen → CanCommit (of_kind st kind) kind id count
    → change_in ledger (doubt.Plan kind (record { id = id; count = count })) seen ≡ commit_of st kind id count
commit_is st ledger kind id count seen holds can =
    let entry = ledger.entries kind in
    let newer : entry.head.id < id = omega (arith, can.newer, ap (λ (p : StoredPlan). p.id) (holds.plans kind)) in
    let items : items_in kind (1 - entry.bank) count seen ≡ drafted (of_kind st kind).drafts id count = items_in-drafted (of_kind st kind).drafts entry.head.id id kind (1 - entry.bank) count seen newer can.within can.written (holds.drafts kind) in
    let drafts : drafted (of_kind st kind).drafts id count ≡ drafted (of_kind (settled st) kind).drafts id count = sym (ap (λ (k : KindState). drafted k.drafts id count) (kind_settled st kind)) in
    ap (λ (xs : List Item). Commit kind (record { id = id; items = xs })) (items ∙ drafts)

-- a mark of the mission in force, as the store has it
pub puts_mark : (st : StoreState) (mark : Mark) → st.mission.plan.id ≡ mark.id → Puts st (request.SetMark mark) (SetMark (plain_mark mark)) st.mark_generation
puts_mark st mark own = record {
  opens = tt;
  calls = λ goes. (own, goes);
  reply = λ fate. ap (λ (b : Bool). if b then change_reply fate st.mark_generation else reply.Stale st.mission.plan.id) (eq-eqb st.mission.plan.id mark.id own);
  left = λ fate. ap (λ (b : Bool). if b then changed_at st.mark_generation fate (settled st) (SetMark (plain_mark mark)) else settled st) (eq-eqb st.mission.plan.id mark.id own);
}
