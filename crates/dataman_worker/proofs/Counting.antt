-- The calls of a request, by the disk's counts.
use Rattle.std.proofs.Common.{◌≡◌, ◌≢◌, ◌⊎◌, inl, inr, ◌+◌, ℕ, Bool, IsTrue, Option, None, sym, ap, ◌∙◌, subst, arith}
use Rattle.std.specs.Prelude.{Ok, Err, IsSome}
use Rattle.std.proofs.lemmas.Bool.{false≢true}
use Rattle.mission_model.specs.declared.request.Reply.{Reply}
use Rattle.mission_model.specs.declared.request.Reply.TheVariants as reply
use Rattle.disk_model.specs.declared.disk.CutAt.{CutAt}
use Rattle.mission_model.specs.declared.request.Request.{Request}
use Rattle.disk_model.specs.declared.disk.DiskFault.{DiskFault}
use Rattle.disk_model.specs.declared.disk.DiskFault.TheVariants as fault
use Rattle.disk_model.specs.Disk.{Meter, AfterRead, AfterChange}
use Rattle.disk_model.specs.Every.{Steady}
use Rattle.disk_model.specs.Meters.{Uncut, uncut_start, uncut_read, uncut_change, cut_in_read, cut_in_change, ok_is_uncut, failed_is_uncut, failed_rose, cut_comes}
use Rattle.bank_state.specs.declared.parts.Doubt.{Doubt}
use Rattle.bank_state.specs.Ledger.{Ledger}
use Rattle.bank_state.specs.Outcomes.{RefusedBy}
use Rattle.dataman_worker.specs.Answers.{settling, changes_of, reads_of, HasCalls, LeftBy, NotSettled, NotServed, Made, Answers, fault_told}

-- one read
pub one_read : (old new : Meter) (u : Unit {0}) → AfterRead old new (Ok u) → Uncut 0 1 old new
one_read old new u after = uncut_read 0 0 old old new (Ok u) (uncut_start old) (ok_is_uncut _ old new u after.call) after

pub read_refusal : (f : DiskFault) (old new : Meter) → AfterRead old new (Err f) → RefusedBy 0 1 old new f
read_refusal fault.Failed old new after = (failed_rose _ old new after.call, (0, 1, omega arith, omega arith, uncut_read 0 0 old old new (Err fault.Failed) (uncut_start old) (failed_is_uncut _ old new after.call) after))
read_refusal fault.Cut old new after = λ on. cut_in_read 0 0 old old new (Err fault.Cut) (uncut_start old) (cut_comes _ old new on after.call) after

pub read_steady : (old new : Meter) (r : _) → AfterRead old new r → Steady old new
read_steady old new r after = record { size = after.call.size; can_cut = after.call.can_cut; faults = after.call.faults }

-- one write
pub one_change : (old new : Meter) (u : Unit {0}) → AfterChange old new (Ok u) → Uncut 1 0 old new
one_change old new u after = uncut_change 0 0 old old new (Ok u) (uncut_start old) (ok_is_uncut _ old new u after.call) after

pub change_refusal : (f : DiskFault) (old new : Meter) → AfterChange old new (Err f) → RefusedBy 1 0 old new f
change_refusal fault.Failed old new after = (failed_rose _ old new after.call, (1, 0, omega arith, omega arith, uncut_change 0 0 old old new (Err fault.Failed) (uncut_start old) (failed_is_uncut _ old new after.call) after))
change_refusal fault.Cut old new after = λ on. cut_in_change 0 0 old old new (Err fault.Cut) (uncut_start old) (cut_comes _ old new on after.call) after

pub change_steady : (old new : Meter) (r : _) → AfterChange old new r → Steady old new
change_steady old new r after = record { size = after.call.size; can_cut = after.call.can_cut; faults = after.call.faults }

-- without a doubt a request makes its own calls alone
own_calls : (d : Option Doubt) (k r : ℕ) (old new : Meter) → d ≡ None → Uncut k r old new → Uncut (settling d + k) r old new
own_calls d k r old new none uncut = subst (λ (n : ℕ). Uncut n r old new) (sym (ap (λ (o : Option Doubt). settling o + k) none ∙ omega arith)) uncut

own_refusal : (d : Option Doubt) (f : DiskFault) (k r : ℕ) (old new : Meter) → d ≡ None → RefusedBy k r old new f → RefusedBy (settling d + k) r old new f
own_refusal d f k r old new none refused = subst (λ (n : ℕ). RefusedBy n r old new f) (sym (ap (λ (o : Option Doubt). settling o + k) none ∙ omega arith)) refused

-- a request that was done
pub made : (asked : Request) (before after by : Ledger) (old new : Meter) → before.doubt ≡ None → HasCalls asked before → after ≡ by → Uncut (changes_of asked) (reads_of asked) old new → new.faults ≡ old.faults → Made asked before after by old new
made asked before after by old new none calls is uncut no_fault = record { calls = calls; done = is; made = own_calls before.doubt (changes_of asked) (reads_of asked) old new none uncut; no_fault = no_fault }

-- a request of which a call was refused
pub not_served : (f : DiskFault) (asked : Request) (tells : Bool) (before after : Ledger) (old new : Meter) → before.doubt ≡ None → HasCalls asked before → LeftBy asked f before after → RefusedBy (changes_of asked) (reads_of asked) old new f → Answers asked tells before after old new (fault_told f)
not_served fault.Failed asked tells before after old new none calls left refused = inr (record { calls = calls; left = left; refused = own_refusal before.doubt fault.Failed (changes_of asked) (reads_of asked) old new none refused })
not_served fault.Cut asked tells before after old new none calls left refused = inr (record { calls = calls; left = left; refused = own_refusal before.doubt fault.Cut (changes_of asked) (reads_of asked) old new none refused })

-- why the power is off
off_by_cut : (asked : Request) (before after : Ledger) (old new : Meter) → NotSettled fault.Cut before after old new ⊎ NotServed asked fault.Cut before after old new → IsTrue old.power → IsSome old.armed
off_by_cut asked before after old new (inl not_settled) on = (not_settled.refused on).comes.armed
off_by_cut asked before after old new (inr not_served) on = (not_served.refused on).comes.armed

-- While the power is on and no cut is armed, the power does not go.
pub powered : (given : Reply) (asked : Request) (tells : Bool) (before after : Ledger) (old new : Meter) → Answers asked tells before after old new given → IsTrue old.power → old.armed ≡ None → given ≢ reply.PowerOff
powered given asked tells before after old new answers on none off =
    let why = subst (λ (r : Reply). Answers asked tells before after old new r) off answers in
    false≢true (subst (λ (o : Option CutAt). IsSome o) none (off_by_cut asked before after old new why on))
