-- What comes of a call of a disk in memory, and what it does to the counts and switches.
use Rattle.std.specs.Prelude.{ℕ, ◌+◌, ◌-◌, ◌^◌, ◌==◌, ◌&&◌, min, if◌then◌else◌, Bool, true, false, List, Vec, Option, Some, None, Result, Ok, Err}
use Rattle.std.specs.List.{list_any}
use Rattle.std.specs.declared.alloc.Global.{Global}
use Rattle.disk_model.specs.Disk.{Meter, counted, next_call}
use Rattle.disk_model.specs.declared.disk.DiskFault.{DiskFault}
use Rattle.disk_model.specs.declared.disk.DiskFault.TheVariants as fault
use Rattle.disk_model.specs.declared.disk.CutAt.{CutAt}
use Rattle.disk_model.specs.declared.disk.CutAt.TheVariants as cut
use Rattle.disk_model.specs.declared.disk.Tear.{Tear}
use Rattle.disk_model.specs.declared.disk.Tear.TheVariants as tear
use Rattle.disk_model.specs.declared.power.Power.{Power}
use Rattle.disk_model.specs.declared.power.Step.{Step}
use Rattle.disk_model.specs.declared.power.Step.TheVariants.{Goes, Fails, IsOff, IsCut}

-- what a disk in memory shows of its counts and switches
abbrev pub meter_of : ℕ → Power → Meter
meter_of size p = record { size = size; can_cut = true; faults = p.tally.faults; cuts = p.cuts; power = p.on; armed = p.armed; changes = p.tally.changes; reads = p.tally.reads }

abbrev pub answer_of : Step → Result (Unit {0}) DiskFault
answer_of Goes = Ok tt
answer_of Fails = Err fault.Failed
answer_of IsOff = Err fault.Cut
answer_of (IsCut _) = Err fault.Cut

-- the tear of the cut that is armed at the n-th write or sync
abbrev pub tear_of_change : Option CutAt → ℕ → Option Tear
tear_of_change (Some (cut.Change k t)) n = if k == n then Some t else None
tear_of_change _ n = None

-- the tear of the cut that is armed at the n-th read
abbrev pub tear_of_read : Option CutAt → ℕ → Option Tear
tear_of_read (Some (cut.Read k t)) n = if k == n then Some t else None
tear_of_read _ n = None

-- what comes of a call: no power comes before an armed cut, and that before a listed failure
abbrev pub step_of : Bool → Option Tear → Bool → Step
step_of false _ _ = IsOff
step_of true (Some t) _ = IsCut t
step_of true None true = Fails
step_of true None false = Goes

-- whether this call of this life is listed
abbrev pub fails_at : ℕ → ℕ → List (ℕ × ℕ) → Bool
fails_at life call fails = list_any (λ (f : ℕ × ℕ). (f.0 == life) && (f.1 == call)) fails

-- the power of a disk that nothing was asked of, with these calls to fail
abbrev pub new_power : Vec (ℕ × ℕ) Global → Power
new_power fails = record { fails = fails; life = 0; tally = record { faults = 0; changes = 0; reads = 0 }; cuts = 0; on = true; armed = None; torn = tear.New }

-- the power is on, no cut is armed, and the counts begin anew; the life goes on
abbrev pub renewed : Power → Power
renewed power = record power { tally = record power.tally { faults = 0 }; cuts = 0; on = true; armed = None; torn = tear.New }

-- what comes of the next write or sync
abbrev pub change_step : Power → Step
change_step p = step_of p.on (tear_of_change p.armed (next_call p.tally.changes)) (fails_at p.life (next_call p.tally.changes) p.fails.items)

-- what comes of the next read, which never fails
abbrev pub read_step : Power → Step
read_step p = step_of p.on (tear_of_read p.armed (next_call p.tally.reads)) false

-- what a step does to the counts and switches
abbrev pub stepped : Step → Power → Power
stepped Goes p = p
stepped Fails p = record p { tally = record p.tally { faults = counted p.tally.faults } }
stepped IsOff p = p
stepped (IsCut t) p = record p { cuts = counted p.cuts; on = false; armed = None; torn = t }

-- after a write or a sync
abbrev pub after_change : Power → Power
after_change p = stepped (change_step p) (record p { tally = record p.tally { changes = next_call p.tally.changes } })

-- after a read
abbrev pub after_read : Power → Power
after_read p = stepped (read_step p) (record p { tally = record p.tally { reads = next_call p.tally.reads } })

-- the next life, with this cut to come
abbrev pub armed_anew : Option CutAt → Power → Power
armed_anew cut p = record p { armed = cut; tally = record p.tally { changes = 0; reads = 0 }; life = min (p.life + 1) (2 ^ 64 - 1) }
