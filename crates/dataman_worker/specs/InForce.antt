-- What is in force after a service that the disk refused.
use Rattle.std.proofs.Common.{◌≡◌, Bool, inl, inr, ap}
use Rattle.mission_model.specs.declared.request.Request.{Request}
use Rattle.mission_model.specs.declared.request.Request.TheVariants as request
use Rattle.mission_model.specs.declared.request.Reply.TheVariants as reply
use Rattle.disk_model.specs.declared.disk.DiskFault.{DiskFault}
use Rattle.disk_model.specs.declared.disk.DiskFault.TheVariants as fault
use Rattle.disk_model.specs.Disk.{Meter}
use Rattle.bank_state.specs.declared.parts.Doubt.{Doubt}
use Rattle.bank_state.specs.Ledger.{Ledger}
use Rattle.dataman_worker.specs.Answers.{LeftBy, RefusedChange, Answers}

change_keeps : (change : Doubt) (f : DiskFault) (before after : Ledger) → RefusedChange change f before after → after.entries ≡ before.entries
change_keeps change fault.Failed before after (inl same) = ap (λ (l : Ledger). l.entries) same
change_keeps change fault.Failed before after (inr doubted) = ap (λ (l : Ledger). l.entries) doubted
change_keeps change fault.Cut before after same = ap (λ (l : Ledger). l.entries) same

left_keeps : (asked : Request) (f : DiskFault) (before after : Ledger) → LeftBy asked f before after → after.entries ≡ before.entries
left_keeps (request.Read kind id seq) f before after same = ap (λ (l : Ledger). l.entries) same
left_keeps (request.Write kind id seq item) f before after same = ap (λ (l : Ledger). l.entries) same
left_keeps (request.Commit kind id count) f before after left = change_keeps _ f before after left
left_keeps (request.SetMark mark) f before after left = change_keeps _ f before after left

-- after a fault the same plans are in force
pub failed_keeps : (asked : Request) (tells : Bool) (before after : Ledger) (old new : Meter) → Answers asked tells before after old new reply.DiskFailed → after.entries ≡ before.entries
failed_keeps asked tells before after old new (inl not_settled) = ap (λ (l : Ledger). l.entries) not_settled.same
failed_keeps asked tells before after old new (inr not_served) = left_keeps asked fault.Failed before after not_served.left

-- and after a cut
pub cut_keeps : (asked : Request) (tells : Bool) (before after : Ledger) (old new : Meter) → Answers asked tells before after old new reply.PowerOff → after.entries ≡ before.entries
cut_keeps asked tells before after old new (inl not_settled) = ap (λ (l : Ledger). l.entries) not_settled.same
cut_keeps asked tells before after old new (inr not_served) = left_keeps asked fault.Cut before after not_served.left
