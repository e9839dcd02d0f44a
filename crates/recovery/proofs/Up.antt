-- The banks of a boot, and what it tells of them.
use Rattle.dataman_layout.specs.declared.layout.Layout.TheVariants.{Two}
use Rattle.std.specs.Prelude.{◌≡◌, ◌≤◌, ℕ, IsTrue, List, [], ◌∷◌, Option, None, Ok}
use Rattle.std.proofs.Common.{sym, ap, subst, arith, ◌∙◌}
use Rattle.mission_model.specs.declared.limits.TheConstants.{STORE_BYTES}
use Rattle.mission_model.specs.declared.plan.PlanType.TheVariants.{Mission, Fence, Safe}
use Rattle.mission_model.specs.declared.vehicle.BootState.{BootState}
use Rattle.mission_model.specs.PlainMark.{PlainMark}
use Rattle.disk_model.specs.Disk.{DiskState, IsSound}
use Rattle.bank_state.specs.declared.parts.Parts.{Parts}
use Rattle.bank_state.specs.Plans.{Plans, head_of}
use Rattle.bank_state.specs.StandsFor.{StandsIn, StandsFor, IsOf}
use Rattle.bank_state.specs.Ledger.{Ledger, ledger_of, plan_by, holding_in}
use Rattle.bank_state.specs.Store.{IsStore}
use Rattle.bank_state.specs.Gathered.{IsReady}
use Rattle.bank_state.specs.Standing.{calm_of, stands_now}
use Rattle.bank_state.specs.Frames.{head_of-plan_in}
use Rattle.bank_state.specs.OnePair.{one_pair}
use Rattle.recovery.specs.declared.fault.BootFault.{BootFault}
use Rattle.recovery.specs.declared.fault.BootFault.TheVariants.{NotAStore, UnknownVersion, BadCell, BadItem, DiskFailed, PowerOff}
use Rattle.recovery.specs.declared.finding.Found.{Found}
use Rattle.recovery.specs.Booting.{StandsAgain, FoundBy, BootCalls, Boots, parts_of}
use Rattle.recovery.specs.Faults.{fault_in}
use Rattle.recovery.specs.Migration.{items_named}
use Rattle.recovery.specs.Standing.{Tells, TellsBanks, items_of}
use Rattle.recovery.specs.Steps.{StoppedBy, IsOfDisk}
use Rattle.recovery.proofs.Exactly.{no_fault, exactly}
use Rattle.recovery.proofs.Gathered.{ready_of}

-- the banks of what was found are ready
pub ready_found : (before : ℕ) (a z : DiskState) → IsSound z → (is : Found) → Boots before a z (Ok is) → STORE_BYTES ≤ a.meter.size → IsReady (parts_of is) z
ready_found before a z sound is boots room =
    ready_of z sound boots.ends.0.only boots.ends.1 is.states is.mark_cell is.mark (omega (arith, boots.steady.size, room)) boots.ends.0.states boots.ends.0.place boots.ends.0.calm boots.ends.0.read

-- what is read stands for what its banks say
pub stands_up : (parts : Parts) (z : DiskState) → IsSound z → parts.doubt ≡ None → IsStore parts z → IsTrue z.tells → IsOf (holding_in (ledger_of parts) z.seen) z.seen
stands_up parts z sound calm store told = stands_now parts z z.seen sound (calm_of parts z calm store) (sound.seen_is_left told)

-- what is told of the banks is told of what they say
tells_held : (state : BootState) (ledger : Ledger) (image : List ℕ) → TellsBanks state ledger → Tells state (holding_in ledger image).plans (holding_in ledger image).mark
tells_held state ledger image tells = record {
  heads = tells.heads ∙ (λ i. head_at Mission i ∷ head_at Fence i ∷ head_at Safe i ∷ []);
  marked = tells.marked;
}
  where
    head_at : (kind : _) → (ledger.entries kind).head ≡ head_of (plan_by ledger kind image)
    head_at kind = sym (head_of-plan_in kind (ledger.entries kind).bank (ledger.entries kind).head image)

-- and of anything that the bytes stand for
pub tells_just : (state : BootState) (ledger : Ledger) (image : List ℕ) (plans : Plans) (mark : PlainMark) → TellsBanks state ledger → IsOf (holding_in ledger image) image → StandsFor image plans mark → Tells state plans mark
tells_just state ledger image plans mark tells stands other =
    let same = one_pair image (holding_in ledger image).plans plans (holding_in ledger image).mark mark stands other in
    subst (λ (m : PlainMark). Tells state plans m) same.1 (subst (λ (p : Plans). Tells state p (holding_in ledger image).mark) same.0 (tells_held state ledger image tells))

pub none_is_disk : (f : BootFault) → StoppedBy None f → IsOfDisk f
none_is_disk DiskFailed stopped = tt
none_is_disk PowerOff stopped = tt
none_is_disk (NotAStore byte) stopped = absurd cc
none_is_disk (UnknownVersion number) stopped = absurd cc
none_is_disk (BadCell number) stopped = absurd cc
none_is_disk (BadItem kind seq) stopped = absurd cc

-- over bytes that stand for something only the disk can stop it
pub sound_down : (image : List ℕ) (plans : Plans) (mark : PlainMark) (f : BootFault) → StandsFor image plans mark → StoppedBy (fault_in image) f → IsOfDisk f
sound_down image plans mark f stands stopped = none_is_disk f (subst (λ (o : Option BootFault). StoppedBy o f) (no_fault stands.0 image plans mark stands.1) stopped)

-- and all that they stand for is told
pub just_up : (state : BootState) (parts : Parts) (a y : DiskState) → IsSound y → parts.doubt ≡ None → IsStore parts y → TellsBanks state (ledger_of parts) → y.tells ≡ a.tells → (IsTrue a.tells → StandsAgain a.seen y.seen)
    → IsTrue a.tells → (plans : Plans) (mark : PlainMark) → StandsFor a.seen plans mark → Tells state plans mark × StandsIn Two y.seen plans mark
just_up state parts a y sound calm store tells same again told plans mark stands =
    let here = again told plans mark stands in
    (tells_just state (ledger_of parts) y.seen plans mark tells (stands_up parts y sound calm store (subst (λ b. IsTrue b) (sym same) told)) (Two, here), here)

pub some_up : (image : List ℕ) → fault_in image ≡ None → (plans : Plans) × (mark : PlainMark) × StandsFor image plans mark
some_up image none = (exactly image).0 none

-- the items that were found are those that are told
pub calls_up : (a z : DiskState) (is : Found) (state : BootState) → TellsBanks state (ledger_of (parts_of is)) → FoundBy 1 (items_named is.states) a z → BootCalls (items_of state.heads) a z
calls_up a z is state tells by = subst (λ (n : ℕ). BootCalls n a z) same by
  where
    same : items_named is.states ≡ items_of state.heads
    same =
        let here : items_named is.states ≡ items_of (is.states.mission.head ∷ is.states.fence.head ∷ is.states.safe.head ∷ []) = omega arith in
        here ∙ sym (ap items_of tells.heads)
