-- How many calls of a disk a run of calls makes, how many of them fail and are cut, and inside which one a cut comes.
use Rattle.std.specs.Prelude.{◌≡◌, ◌⊎◌, ◌<◌, ◌≤◌, ◌+◌, ◌^◌, if◌then◌else◌, ℕ, zero, suc, Bool, true, false, IsTrue, List, [], ◌∷◌, Option, None, Some, IfSome, Result, Ok, Err}
use Rattle.disk_model.specs.Disk.{DiskState, Still, Meter, counted, next_call, AfterChange, AfterRead, names_change, names_read}
use Rattle.disk_model.specs.Meters.{calls_on}
use Rattle.disk_model.specs.declared.disk.CutAt.{CutAt}
use Rattle.disk_model.specs.declared.disk.CutAt.TheVariants as cut
use Rattle.disk_model.specs.declared.disk.DiskFault.{DiskFault}
use Rattle.disk_model.specs.declared.disk.DiskFault.TheVariants as fault

-- a call of a disk with its answer
pub data Call : Type 0 where
  ChangeCall : (result : Result (Unit {0}) DiskFault) → Call  -- a write or a sync
  ReadCall : (result : Result (Unit {0}) DiskFault) → Call
  ArmCall : (cut : Option CutAt) → Call
  RestartCall : Call

-- the counts and switches before and after a call, as the disk's contract tells them
abbrev pub Made : Meter → Call → Meter → Type 0
Made old (ChangeCall result) new = AfterChange old new result
Made old (ReadCall result) new = AfterRead old new result
Made old (ArmCall cut) new = new ≡ record old { armed = cut; changes = 0; reads = 0 }
Made old RestartCall new = new ≡ record old { power = true }

-- and before and after calls that follow one another
abbrev pub Calls : Meter → List Call → Meter → Type 0
Calls old [] new = new ≡ old
Calls old (call ∷ calls) new = (mid : Meter) × Made old call mid × Calls mid calls new

-- what an answer leaves: a failure is counted; Cut on power is a cut that comes
abbrev pub answered : Result (Unit {0}) DiskFault → Meter → Meter
answered (Ok _) m = m
answered (Err fault.Failed) m = record m { faults = counted m.faults }
answered (Err fault.Cut) m = if m.power then record m { cuts = counted m.cuts; power = false; armed = None } else m

-- what a call leaves, by its answer alone
abbrev pub meter_after : Call → Meter → Meter
meter_after (ChangeCall result) m = answered result (record m { changes = next_call m.changes })
meter_after (ReadCall result) m = answered result (record m { reads = next_call m.reads })
meter_after (ArmCall cut) m = record m { armed = cut; changes = 0; reads = 0 }
meter_after RestartCall m = record m { power = true }

abbrev pub meter_after_all : List Call → Meter → Meter
meter_after_all [] m = m
meter_after_all (call ∷ calls) m = meter_after_all calls (meter_after call m)

-- how many writes and syncs there are among these calls
abbrev pub changes_in : List Call → ℕ
changes_in [] = 0
changes_in (ChangeCall _ ∷ calls) = suc (changes_in calls)
changes_in (ReadCall _ ∷ calls) = changes_in calls
changes_in (ArmCall _ ∷ calls) = changes_in calls
changes_in (RestartCall ∷ calls) = changes_in calls

-- how many reads
abbrev pub reads_in : List Call → ℕ
reads_in [] = 0
reads_in (ChangeCall _ ∷ calls) = reads_in calls
reads_in (ReadCall _ ∷ calls) = suc (reads_in calls)
reads_in (ArmCall _ ∷ calls) = reads_in calls
reads_in (RestartCall ∷ calls) = reads_in calls

-- how many of them are answered Failed
abbrev pub faults_of : Result (Unit {0}) DiskFault → ℕ
faults_of (Ok _) = 0
faults_of (Err fault.Failed) = 1
faults_of (Err fault.Cut) = 0

abbrev pub faults_in : List Call → ℕ
faults_in [] = 0
faults_in (ChangeCall result ∷ calls) = faults_of result + faults_in calls
faults_in (ReadCall result ∷ calls) = faults_of result + faults_in calls
faults_in (ArmCall _ ∷ calls) = faults_in calls
faults_in (RestartCall ∷ calls) = faults_in calls

-- whether the power is on after an answer, and how many of these calls are answered Cut on power
abbrev pub power_after : Bool → Result (Unit {0}) DiskFault → Bool
power_after on (Ok _) = on
power_after on (Err fault.Failed) = on
power_after on (Err fault.Cut) = false

abbrev pub cuts_of : Bool → Result (Unit {0}) DiskFault → ℕ
cuts_of true (Err fault.Cut) = 1
cuts_of true (Err fault.Failed) = 0
cuts_of true (Ok _) = 0
cuts_of false _ = 0

abbrev pub cuts_in : Bool → List Call → ℕ
cuts_in on [] = 0
cuts_in on (ChangeCall result ∷ calls) = cuts_of on result + cuts_in (power_after on result) calls
cuts_in on (ReadCall result ∷ calls) = cuts_of on result + cuts_in (power_after on result) calls
cuts_in on (ArmCall _ ∷ calls) = cuts_in on calls
cuts_in on (RestartCall ∷ calls) = cuts_in true calls

-- a count of faults or cuts after so many more
abbrev pub raised : ℕ → ℕ → ℕ
raised zero n = n
raised (suc more) n = raised more (counted n)

-- whether each is a read, a write or a sync
abbrev pub is_service : List Call → Bool
is_service [] = true
is_service (ChangeCall _ ∷ calls) = is_service calls
is_service (ReadCall _ ∷ calls) = is_service calls
is_service (ArmCall _ ∷ calls) = false
is_service (RestartCall ∷ calls) = false

-- whether none of them arms a cut
abbrev pub arms_none : List Call → Bool
arms_none [] = true
arms_none (ChangeCall _ ∷ calls) = arms_none calls
arms_none (ReadCall _ ∷ calls) = arms_none calls
arms_none (ArmCall None ∷ calls) = arms_none calls
arms_none (ArmCall (Some _) ∷ calls) = false
arms_none (RestartCall ∷ calls) = arms_none calls

-- whether none of them is answered Cut
abbrev pub is_cut : Result (Unit {0}) DiskFault → Bool
is_cut (Ok _) = false
is_cut (Err fault.Failed) = false
is_cut (Err fault.Cut) = true

abbrev pub NoneIsCut : List Call → Type 0
NoneIsCut [] = Unit {0}
NoneIsCut (ChangeCall result ∷ calls) = (is_cut result ≡ false) × NoneIsCut calls
NoneIsCut (ReadCall result ∷ calls) = (is_cut result ≡ false) × NoneIsCut calls
NoneIsCut (ArmCall _ ∷ calls) = NoneIsCut calls
NoneIsCut (RestartCall ∷ calls) = NoneIsCut calls

-- the number of the call that a cut names
abbrev pub number_of : CutAt → ℕ
number_of (cut.Change k _) = k
number_of (cut.Read k _) = k

-- whether a cut names a call that comes behind so many changes and reads
abbrev pub names : Option CutAt → ℕ → ℕ → Call → Bool
names armed changes reads (ChangeCall _) = names_change armed (suc changes)
names armed changes reads (ReadCall _) = names_read armed (suc reads)
names armed changes reads (ArmCall _) = false
names armed changes reads RestartCall = false

-- a disk that can be cut, on power, whose calls are numbered from 1; a cut names a number of 32 bits
pub record IsArmed (m : Meter) : Type 0 where
  pub can_cut : IsTrue m.can_cut
  pub power : IsTrue m.power
  pub changes : m.changes ≡ 0
  pub reads : m.reads ≡ 0
  pub small : IfSome m.armed (λ c. number_of c < 2 ^ 32)

-- a cut that comes inside none of so many changes and reads, numbered from 1
abbrev pub IsPast : Option CutAt → ℕ → ℕ → Type 0
IsPast None changes reads = Unit {0}
IsPast (Some (cut.Change k _)) changes reads = (k ≡ 0) ⊎ (changes < k)
IsPast (Some (cut.Read k _)) changes reads = (k ≡ 0) ⊎ (reads < k)

-- a cut that comes inside one of them
abbrev pub IsInside : Option CutAt → ℕ → ℕ → Type 0
IsInside None changes reads = ⊥
IsInside (Some (cut.Change k _)) changes reads = (1 ≤ k) × (k ≤ changes)
IsInside (Some (cut.Read k _)) changes reads = (1 ≤ k) × (k ≤ reads)

-- how often each count of these calls rose
pub record Tallied (old : Meter) (calls : List Call) (new : Meter) : Type 0 where
  pub faults : new.faults ≡ raised (faults_in calls) old.faults
  pub cuts : new.cuts ≡ raised (cuts_in old.power calls) old.cuts
  pub changes : IsTrue (is_service calls) → new.changes ≡ calls_on old.changes (changes_in calls)
  pub reads : IsTrue (is_service calls) → new.reads ≡ calls_on old.reads (reads_in calls)

-- no cut came while none was armed
pub record StaysOn (old : Meter) (calls : List Call) (new : Meter) : Type 0 where
  pub cuts : new.cuts ≡ old.cuts
  pub power : IsTrue new.power
  pub armed : new.armed ≡ None
  pub answers : NoneIsCut calls

-- both numbers begin at 0, just this cut is to come, and nothing else changed
pub record BeginsAnew (cut : Option CutAt) (old new : DiskState) : Type 0 where
  pub changes : new.meter.changes ≡ 0
  pub reads : new.meter.reads ≡ 0
  pub armed : new.meter.armed ≡ cut
  pub power : new.meter.power ≡ old.meter.power
  pub faults : new.meter.faults ≡ old.meter.faults
  pub cuts : new.meter.cuts ≡ old.meter.cuts
  pub still : Still old new
