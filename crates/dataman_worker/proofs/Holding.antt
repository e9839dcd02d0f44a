-- Banks that hold a store: what their images stand for, and what they hold after calls that leave their records.
use Rattle.std.proofs.Common.{◌≡◌, inl, ℕ, ◌-◌, List, Option, Some, None, refl, sym, ◌∙◌, subst}
use Rattle.mission_model.specs.declared.plan.PlanType.{PlanType}
use Rattle.mission_model.specs.declared.plan.PlanType.TheVariants.{Mission, Fence, Safe}
use Rattle.mission_model.specs.declared.request.Reply.{Reply}
use Rattle.mission_model.specs.declared.request.Reply.TheVariants as reply
use Rattle.disk_model.specs.Disk.{DiskState, IsSound}
use Rattle.plan_store.specs.StoreState.{StoreState, Change, Commit, SetMark, of_kind, plan_of, settled, applied}
use Rattle.bank_state.specs.declared.parts.Parts.{Parts}
use Rattle.bank_state.specs.Plans.{Holding, changed}
use Rattle.bank_state.specs.StandsFor.{IsOf}
use Rattle.bank_state.specs.Ledger.{Ledger, ledger_of, holding_in}
use Rattle.bank_state.specs.Store.{IsStore, MayBe, StandsNow}
use Rattle.bank_state.specs.Moments.{store_stands}
use Rattle.dataman_worker.specs.Holds.{Holds, HasDrafts, MayStandFor, holding_of}
use Rattle.dataman_worker.specs.Answers.{calm}
use Rattle.dataman_worker.specs.Served.{UnlessOff}
use Rattle.dataman_worker.proofs.Records.{Limited, Same, plan_same, doubt_same}

-- what is held is what the banks say
pub holding_is : (st : StoreState) (ledger : Ledger) (seen : List ℕ) → Holds st ledger seen → holding_of st ≡ holding_in ledger seen
holding_is st ledger seen holds = λ i. record { plans = record { mission = holds.plans Mission i; fence = holds.plans Fence i; safe = holds.plans Safe i }; mark = holds.mark i }

-- what an image of the banks stands for
pub may_stand : (st : StoreState) (parts : Parts) (disk : DiskState) (c : List ℕ) → Holds st (ledger_of parts) disk.seen → StandsNow (ledger_of parts) disk c → MayStandFor st c
may_stand st parts disk c holds stands =
    subst (λ (h : Holding). MayBe h st.doubt c) (sym (holding_is st (ledger_of parts) disk.seen holds))
    (subst (λ (d : Option Change). MayBe (holding_in (ledger_of parts) disk.seen) d c) (sym holds.doubt) stands)

-- each image of banks that hold a store
pub stands : (st : StoreState) (parts : Parts) (disk : DiskState) → IsSound disk → IsStore parts disk → Holds st (ledger_of parts) disk.seen → (c : List ℕ) → disk.images c → MayStandFor st c
stands st parts disk sound store holds c left = may_stand st parts disk c holds (store_stands parts disk sound store c left)

-- what stands for the store may stand for it
pub may_be : (h : Holding) (d : Option Change) (c : List ℕ) → IsOf h c → MayBe h d c
may_be h None c is = is
may_be h (Some change) c is = inl is

-- without a doubt nothing else does
pub must_be : (h : Holding) (d : Option Change) (c : List ℕ) → d ≡ None → MayBe h d c → IsOf h c
must_be h d c none may = subst (λ (d : Option Change). MayBe h d c) none may

-- a change of the store is one of what it holds
pub changed_is : (st : StoreState) (change : Change) → holding_of (applied st change) ≡ changed (holding_of st) change
changed_is st (Commit Mission plan) = refl
changed_is st (Commit Fence plan) = refl
changed_is st (Commit Safe plan) = refl
changed_is st (SetMark mark) = refl

-- and leaves no doubt where there was none
pub still_calm : (st : StoreState) (change : Change) → (applied (settled st) change).doubt ≡ None
still_calm st (Commit Mission plan) = refl
still_calm st (Commit Fence plan) = refl
still_calm st (Commit Safe plan) = refl
still_calm st (SetMark mark) = refl

-- banks without a doubt
pub is_calm : (ledger : Ledger) → ledger.doubt ≡ None → calm ledger ≡ ledger
is_calm ledger none = λ i. record ledger { doubt = sym none i }

-- the records stay
pub holds_same : (st : StoreState) (ledger : Ledger) (old new : List ℕ) → Limited ledger → Same old new → Holds st ledger old → Holds st ledger new
holds_same st ledger old new limits same holds = record {
  plans = λ kind. holds.plans kind ∙ sym (plan_same kind (ledger.entries kind).bank (ledger.entries kind).head old new (limits.counts kind) same);
  generations = holds.generations;
  drafts = λ kind seq written below at newer. same kind (1 - (ledger.entries kind).bank) seq below ∙ holds.drafts kind seq written below at newer;
  mark = holds.mark;
  mark_generation = holds.mark_generation;
  doubt = holds.doubt ∙ sym (doubt_same ledger ledger.doubt old new limits.doubt same);
}

-- what is in force and its generations are those of a store with or without its doubt
pub plan_settled : (st : StoreState) (kind : PlanType) → plan_of (settled st) kind ≡ plan_of st kind
plan_settled st Mission = refl
plan_settled st Fence = refl
plan_settled st Safe = refl

pub generation_settled : (st : StoreState) (kind : PlanType) → (of_kind (settled st) kind).generation ≡ (of_kind st kind).generation
generation_settled st Mission = refl
generation_settled st Fence = refl
generation_settled st Safe = refl

-- the doubt was settled
pub holds_settled : (st : StoreState) (ledger : Ledger) (seen : List ℕ) → Holds st ledger seen → Holds (settled st) (calm ledger) seen
holds_settled st ledger seen holds = record {
  plans = λ kind. plan_settled st kind ∙ holds.plans kind;
  generations = λ kind. generation_settled st kind ∙ holds.generations kind;
  drafts = drafts;
  mark = holds.mark;
  mark_generation = holds.mark_generation;
  doubt = refl;
}
  where
    drafts : (kind : PlanType) → HasDrafts (of_kind (settled st) kind).drafts (ledger.entries kind).head.id kind (1 - (ledger.entries kind).bank) seen
    drafts Mission = holds.drafts Mission
    drafts Fence = holds.drafts Fence
    drafts Safe = holds.drafts Safe

-- banks without a doubt hold a store without one
pub holds_calm : (st : StoreState) (ledger : Ledger) (seen : List ℕ) → ledger.doubt ≡ None → Holds st ledger seen → Holds (settled st) ledger seen
holds_calm st ledger seen none holds = subst (λ (l : Ledger). Holds (settled st) l seen) (is_calm ledger none) (holds_settled st ledger seen holds)

-- what is known after any reply
pub unless_off : (given : Reply) (P : Type 0) → P → UnlessOff given P
unless_off (reply.Item item) P p = p
unless_off (reply.Stale n) P p = p
unless_off reply.Done P p = p
unless_off reply.DiskFailed P p = p
unless_off reply.PowerOff P p = tt
unless_off (reply.Spent g) P p = p
