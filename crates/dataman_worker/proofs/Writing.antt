-- The service of a write: its record and no other changes, and so does what was written for the next plan.
use Rattle.std.proofs.Common.{◌≡◌, ◌≢◌, ⊎_elim, ℕ, ◌-◌, ◌<◌, ◌==◌, ◌&&◌, Bool, true, false, List, Option, Some, None, refl, sym, ap, ◌∙◌, subst, arith}
use Rattle.std.specs.Prelude.{if◌then◌else◌, unwrap_or, is_some}
use Rattle.std.proofs.lemmas.Bool.{cases_eq, eq-eqb, ne_eqb, false≢true}
use Rattle.mission_model.specs.declared.plan.PlanType.{PlanType}
use Rattle.mission_model.specs.declared.plan.PlanType.TheVariants.{Mission, Fence, Safe}
use Rattle.mission_model.specs.declared.plan.Item.{Item}
use Rattle.mission_model.specs.declared.request.Request.TheVariants as request
use Rattle.mission_model.specs.declared.request.Reply.TheVariants as reply
use Rattle.mission_model.specs.Command.{is_kind}
use Rattle.mission_model.specs.PlanCode.{limit_of}
use Rattle.disk_model.specs.declared.disk.DiskFault.{DiskFault}
use Rattle.disk_model.specs.Disk.{DiskState}
use Rattle.disk_model.specs.Moments.{LeavesOnly, leaves_weaker}
use Rattle.plan_store.specs.declared.places.Written.{Written}
use Rattle.plan_store.specs.StoreState.{Drafts, StoreState, of_kind, with_kind, plan_of, put, settled}
use Rattle.plan_store.specs.Serve.{Fate, Well, InRequest, reply_to, after}
use Rattle.plan_store.specs.Fates.{Suits}
use Rattle.mission_model.specs.declared.request.Reply.{Reply}
use Rattle.bank_state.specs.declared.parts.Doubt.{Doubt}
use Rattle.bank_state.specs.declared.parts.Parts.{Parts}
use Rattle.bank_state.specs.Plans.{Holding}
use Rattle.bank_state.specs.StandsFor.{IsOf, record_in}
use Rattle.bank_state.specs.Ledger.{Ledger, ledger_of, plan_by, holding_in}
use Rattle.bank_state.specs.Frames.{items_same}
use Rattle.bank_state.specs.Store.{IsStore, doubt_in}
use Rattle.dataman_worker.specs.Holds.{Holds, HasDrafts, holding_of}
use Rattle.dataman_worker.specs.Answers.{fault_told}
use Rattle.dataman_worker.specs.Served.{Served}
use Rattle.dataman_worker.proofs.Records.{Limited, limited}
use Rattle.dataman_worker.proofs.Holding.{holding_is, holds_calm}
use Rattle.dataman_worker.proofs.Quiet.{of_disk, told_alike, quiet}

-- every record but one is the same
abbrev pub Others : PlanType → ℕ → ℕ → List ℕ → List ℕ → Type 0
Others kind bank seq old new = (other : PlanType) (side place : ℕ) → side < 2 → place < limit_of other → ((is_kind other kind && side == bank && place == seq) ≡ false) → record_in other side place new ≡ record_in other side place old

-- a bank is not its spare one
not_spare : (bank : ℕ) → bank < 2 → (bank == 1 - bank) ≡ false
not_spare bank within = ne_eqb bank (1 - bank) (λ same. absurd (omega (arith, within, same)))

-- no record of a plan in force is the one that is written
in_force_apart : (ledger : Ledger) (kind other : PlanType) (place seq : ℕ) → Limited ledger → (is_kind other kind && (ledger.entries other).bank == 1 - (ledger.entries kind).bank && place == seq) ≡ false
in_force_apart ledger Mission Mission place seq limits = ap (λ (b : Bool). b && place == seq) (not_spare (ledger.entries Mission).bank (limits.banks Mission))
in_force_apart ledger Fence Fence place seq limits = ap (λ (b : Bool). b && place == seq) (not_spare (ledger.entries Fence).bank (limits.banks Fence))
in_force_apart ledger Safe Safe place seq limits = ap (λ (b : Bool). b && place == seq) (not_spare (ledger.entries Safe).bank (limits.banks Safe))
in_force_apart ledger Mission Fence place seq limits = refl
in_force_apart ledger Mission Safe place seq limits = refl
in_force_apart ledger Fence Mission place seq limits = refl
in_force_apart ledger Fence Safe place seq limits = refl
in_force_apart ledger Safe Mission place seq limits = refl
in_force_apart ledger Safe Fence place seq limits = refl

-- what was written for a kind, with something else at a seq
put_drafts : (drafts : Drafts) (own : ℕ) (kind : PlanType) (bank seq : ℕ) (given : Option Written) (old new : List ℕ) → HasDrafts drafts own kind bank old
    → ((place : ℕ) → place < limit_of kind → (place == seq) ≡ false → record_in kind bank place new ≡ record_in kind bank place old)
    → ((w : Written) → given ≡ Some w → record_in kind bank seq new ≡ Some (record { kind = kind; id = w.id; seq = seq; item = w.item }))
    → HasDrafts (put drafts seq given) own kind bank new
put_drafts drafts own kind bank seq given old new has others here place w below at newer = ⊎_elim same apart (cases_eq place seq)
  where
    same : place ≡ seq → record_in kind bank place new ≡ Some (record { kind = kind; id = w.id; seq = place; item = w.item })
    same is =
        let there : given ≡ Some w = sym (ap (λ (own : Bool). if own then given else drafts place) (eq-eqb place seq is)) ∙ at in
        subst (λ (k : ℕ). record_in kind bank k new ≡ Some (record { kind = kind; id = w.id; seq = k; item = w.item })) (sym is) (here w there)

    apart : place ≢ seq → record_in kind bank place new ≡ Some (record { kind = kind; id = w.id; seq = place; item = w.item })
    apart differ =
        let there : drafts place ≡ Some w = sym (ap (λ (own : Bool). if own then given else drafts place) (ne_eqb place seq differ)) ∙ at in
        others place below (ne_eqb place seq differ) ∙ has place w below there newer

-- the store with something else at a seq of a kind
abbrev pub with_draft : StoreState → PlanType → ℕ → Option Written → StoreState
with_draft st kind seq given = with_kind st kind (record (of_kind st kind) { drafts = put (of_kind st kind).drafts seq given })

-- that leaves what is in force
pub same_holding : (st : StoreState) (kind : PlanType) (seq : ℕ) (given : Option Written) → holding_of (with_draft st kind seq given) ≡ holding_of st
same_holding st Mission seq given = refl
same_holding st Fence seq given = refl
same_holding st Safe seq given = refl

pub same_doubt : (st : StoreState) (kind : PlanType) (seq : ℕ) (given : Option Written) → (with_draft st kind seq given).doubt ≡ st.doubt
same_doubt st Mission seq given = refl
same_doubt st Fence seq given = refl
same_doubt st Safe seq given = refl

-- the bank that is written
abbrev spare : Ledger → PlanType → ℕ
spare ledger kind = 1 - (ledger.entries kind).bank

and_false : (b : Bool) → (b && false) ≡ false
and_false true = refl
and_false false = refl

-- what the banks hold after a write, done or not
pub holds_put : (st : StoreState) (ledger : Ledger) (kind : PlanType) (seq : ℕ) (given : Option Written) (old new : List ℕ) → Limited ledger → st.doubt ≡ None → ledger.doubt ≡ None → Holds st ledger old
    → Others kind (1 - (ledger.entries kind).bank) seq old new
    → ((w : Written) → given ≡ Some w → record_in kind (1 - (ledger.entries kind).bank) seq new ≡ Some (record { kind = kind; id = w.id; seq = seq; item = w.item }))
    → Holds (with_draft st kind seq given) ledger new
holds_put st ledger kind seq given old new limits calm_st calm_ledger holds others here = record {
  plans = λ other. plan_kept kind other ∙ holds.plans other ∙ sym (read_same other);
  generations = λ other. generation_kept kind other ∙ holds.generations other;
  drafts = λ other. drafts kind other others here;
  mark = mark_kept kind ∙ holds.mark;
  mark_generation = mark_generation_kept kind ∙ holds.mark_generation;
  doubt = same_doubt st kind seq given ∙ calm_st ∙ sym (ap (λ (d : Option Doubt). doubt_in ledger d new) calm_ledger);
}
  where
    plan_kept : (kind other : PlanType) → plan_of (with_draft st kind seq given) other ≡ plan_of st other
    plan_kept Mission Mission = refl
    plan_kept Mission Fence = refl
    plan_kept Mission Safe = refl
    plan_kept Fence Mission = refl
    plan_kept Fence Fence = refl
    plan_kept Fence Safe = refl
    plan_kept Safe Mission = refl
    plan_kept Safe Fence = refl
    plan_kept Safe Safe = refl

    generation_kept : (kind other : PlanType) → (of_kind (with_draft st kind seq given) other).generation ≡ (of_kind st other).generation
    generation_kept Mission Mission = refl
    generation_kept Mission Fence = refl
    generation_kept Mission Safe = refl
    generation_kept Fence Mission = refl
    generation_kept Fence Fence = refl
    generation_kept Fence Safe = refl
    generation_kept Safe Mission = refl
    generation_kept Safe Fence = refl
    generation_kept Safe Safe = refl

    mark_kept : (kind : PlanType) → (with_draft st kind seq given).mark ≡ st.mark
    mark_kept Mission = refl
    mark_kept Fence = refl
    mark_kept Safe = refl

    mark_generation_kept : (kind : PlanType) → (with_draft st kind seq given).mark_generation ≡ st.mark_generation
    mark_generation_kept Mission = refl
    mark_generation_kept Fence = refl
    mark_generation_kept Safe = refl

    read_same : (other : PlanType) → plan_by ledger other new ≡ plan_by ledger other old
    read_same other =
        let entry = ledger.entries other in
        let items = items_same other entry.bank entry.head.count old new (λ place below. others other entry.bank place (limits.banks other) (omega (arith, below, limits.counts other)) (in_force_apart ledger kind other place seq limits)) in
        λ i. record { id = entry.head.id; items = items i }

    -- of the kind that was written
    mine : (kind : PlanType) → (is_kind kind kind ≡ true) → Others kind (spare ledger kind) seq old new
        → ((w : Written) → given ≡ Some w → record_in kind (spare ledger kind) seq new ≡ Some (record { kind = kind; id = w.id; seq = seq; item = w.item }))
        → HasDrafts (put (of_kind st kind).drafts seq given) (ledger.entries kind).head.id kind (spare ledger kind) new
    mine kind own others here = put_drafts (of_kind st kind).drafts (ledger.entries kind).head.id kind (spare ledger kind) seq given old new (holds.drafts kind)
        (λ place below differ. others kind (spare ledger kind) place (omega arith) below (ap (λ (b : Bool). is_kind kind kind && spare ledger kind == spare ledger kind && b) differ ∙ and_false (is_kind kind kind && spare ledger kind == spare ledger kind))) here

    -- of another kind
    theirs : (kind other : PlanType) → (is_kind other kind ≡ false) → Others kind (spare ledger kind) seq old new → HasDrafts (of_kind st other).drafts (ledger.entries other).head.id other (spare ledger other) new
    theirs kind other apart others place w below at newer =
        others other (spare ledger other) place (omega arith) below (ap (λ (b : Bool). b && spare ledger other == spare ledger kind && place == seq) apart) ∙ holds.drafts other place w below at newer

    drafts : (kind other : PlanType) → Others kind (spare ledger kind) seq old new
        → ((w : Written) → given ≡ Some w → record_in kind (spare ledger kind) seq new ≡ Some (record { kind = kind; id = w.id; seq = seq; item = w.item }))
        → HasDrafts (of_kind (with_draft st kind seq given) other).drafts (ledger.entries other).head.id other (spare ledger other) new
    drafts Mission Mission others here = mine Mission refl others here
    drafts Mission Fence others here = theirs Mission Fence refl others
    drafts Mission Safe others here = theirs Mission Safe refl others
    drafts Fence Mission others here = theirs Fence Mission refl others
    drafts Fence Fence others here = mine Fence refl others here
    drafts Fence Safe others here = theirs Fence Safe refl others
    drafts Safe Mission others here = theirs Safe Mission refl others
    drafts Safe Fence others here = theirs Safe Fence refl others
    drafts Safe Safe others here = mine Safe refl others here

-- what a write leaves of each image
wrote_leaves : (st : StoreState) (parts : Parts) (old new : DiskState) → Holds st (ledger_of parts) old.seen → LeavesOnly old new (IsOf (holding_in (ledger_of parts) old.seen)) → LeavesOnly old new (IsOf (holding_of st))
wrote_leaves st parts old new holds leaves =
    leaves_weaker old new (IsOf (holding_in (ledger_of parts) old.seen)) (IsOf (holding_of st)) (λ c is. subst (λ (h : Holding). IsOf h c) (sym (holding_is st (ledger_of parts) old.seen holds)) is) leaves

-- a write, done or not
write_by : (st : StoreState) (kind : PlanType) (id seq : ℕ) (item : Item) (fate : Fate) (given : Option Written) (told : Reply) (parts : Parts) (old new : DiskState) → Suits fate st (request.Write kind id seq item)
    → told ≡ reply_to fate st (request.Write kind id seq item) → after fate st (request.Write kind id seq item) ≡ with_draft (settled st) kind seq given
    → IsStore parts old → parts.doubt ≡ None → Holds st (ledger_of parts) old.seen
    → Others kind (1 - ((ledger_of parts).entries kind).bank) seq old.seen new.seen
    → ((w : Written) → given ≡ Some w → record_in kind (1 - ((ledger_of parts).entries kind).bank) seq new.seen ≡ Some (record { kind = kind; id = w.id; seq = seq; item = w.item }))
    → LeavesOnly old new (IsOf (holding_in (ledger_of parts) old.seen))
    → Served st (request.Write kind id seq item) told (ledger_of parts) old new
write_by st kind id seq item fate given told parts old new suits is left store none holds others here leaves =
    let ledger = ledger_of parts in
    let put = holds_put (settled st) ledger kind seq given old.seen new.seen (limited parts old store) refl none (holds_calm st ledger old.seen none holds) others here in
    quiet st (request.Write kind id seq item) told fate ledger old new suits is (subst (λ (s : StoreState). Holds s ledger new.seen) (sym left) put)
    (ap holding_of left ∙ same_holding (settled st) kind seq given) (ap (λ (s : StoreState). s.doubt) left ∙ same_doubt (settled st) kind seq given)
    (wrote_leaves st parts old new holds leaves)

pub write_done : (st : StoreState) (kind : PlanType) (id seq : ℕ) (item : Item) (parts : Parts) (old new : DiskState) → IsStore parts old → parts.doubt ≡ None → Holds st (ledger_of parts) old.seen
    → Others kind (1 - ((ledger_of parts).entries kind).bank) seq old.seen new.seen
    → record_in kind (1 - ((ledger_of parts).entries kind).bank) seq new.seen ≡ Some (record { kind = kind; id = id; seq = seq; item = item })
    → LeavesOnly old new (IsOf (holding_in (ledger_of parts) old.seen))
    → Served st (request.Write kind id seq item) reply.Done (ledger_of parts) old new
write_done st kind id seq item parts old new store none holds others here leaves =
    write_by st kind id seq item Well (Some (record { id = id; item = item })) reply.Done parts old new tt refl refl store none holds others
    (λ w is. let same : record { id = id; item = item } ≡ w = ap (λ (o : Option Written). unwrap_or o w) is in here ∙ (λ i. Some (record { kind = kind; id = (same i).id; seq = seq; item = (same i).item }))) leaves

pub write_refused : (st : StoreState) (kind : PlanType) (id seq : ℕ) (item : Item) (f : DiskFault) (parts : Parts) (old new : DiskState) → IsStore parts old → parts.doubt ≡ None → Holds st (ledger_of parts) old.seen
    → Others kind (1 - ((ledger_of parts).entries kind).bank) seq old.seen new.seen
    → LeavesOnly old new (IsOf (holding_in (ledger_of parts) old.seen))
    → Served st (request.Write kind id seq item) (fault_told f) (ledger_of parts) old new
write_refused st kind id seq item f parts old new store none holds others leaves =
    write_by st kind id seq item (InRequest (of_disk f)) None (fault_told f) parts old new tt (told_alike f) refl store none holds others (λ w is. absurd (false≢true (ap is_some is))) leaves
