-- What a boot does to the disk, and what its images stand for.
use Rattle.std.specs.Prelude.{◌≡◌, ◌⊎◌, ◌+◌, ℕ, false, IsTrue, IfSome, List, length, Option, Some, None, Result, Ok, Err}
use Rattle.mission_model.specs.declared.plan.PlanType.TheVariants.{Mission, Fence, Safe}
use Rattle.mission_model.specs.PlainMark.{PlainMark, plain_mark}
use Rattle.disk_model.specs.Disk.{DiskState, Only}
use Rattle.disk_model.specs.Every.{Steady}
use Rattle.disk_model.specs.Moments.{LeavesOnly}
use Rattle.gated_cell.specs.Cell.{held}
use Rattle.dataman_layout.specs.declared.layout.Layout.{Layout}
use Rattle.dataman_layout.specs.declared.layout.Layout.TheVariants.{One, Two}
use Rattle.bank_state.specs.declared.parts.Parts.{Parts}
use Rattle.bank_state.specs.Plans.{Plans}
use Rattle.bank_state.specs.StandsFor.{compat_place, mark_cell, IsThisLayout, StandsFor, StandsIn}
use Rattle.recovery.specs.declared.fault.BootFault.{BootFault}
use Rattle.recovery.specs.declared.finding.Found.{Found}
use Rattle.recovery.specs.Faults.{fault_in, layout_in, plan_at}
use Rattle.recovery.specs.Found.{AreStates, AllRead, IsWithin}
use Rattle.recovery.specs.Migration.{IsCarried, items_named}
use Rattle.recovery.specs.Steps.{Quietly, Stopped, StoppedBy, Went}

-- Each image since a boot began was one then, or it stands for what one of layout 1 stood for.
abbrev pub IsOfBoot : DiskState → List ℕ → Type 0
IsOfBoot old image = old.images image ⊎ IsCarried old image

-- what both stand for: the later in layout 2 for all that the earlier stands for
abbrev pub StandsAgain : List ℕ → List ℕ → Type 0
StandsAgain old new = (plans : Plans) (mark : PlainMark) → StandsFor old plans mark → StandsIn Two new plans mark

-- the writes and syncs that move so many items, and none where the store has layout 2: a record each, three states, a mark,
-- a sync, six of the compat cell, and a sync
abbrev pub moves : Layout → ℕ → ℕ
moves One items = items + 12
moves Two items = 0

-- the reads that find a store of so many items: two a cell and one an item; layout 1 is read, moved by a read each, and its
-- `again` items are read again with all cells but the compat cell
abbrev pub looks : Layout → ℕ → ℕ → ℕ
looks One items again = 10 + items + (items + (8 + again))
looks Two items again = 10 + again

-- how many items the plans in force have
abbrev pub items_at : Layout → List ℕ → ℕ
items_at layout image = length (plan_at layout Mission image).items + (length (plan_at layout Fence image).items + length (plan_at layout Safe image).items)

-- a migration reads a store of so many items, and then moves it: by eleven writes and syncs, and a read and a write an item
pub record MigrationCalls (old new : DiskState) (result : Result (Unit {0}) BootFault) : Type 0 where
  pub items : ℕ
  pub told : IsTrue old.tells → items ≡ items_at One old.seen
  pub went : Went (items + 11) (10 + items + items) old.meter new.meter result

-- the moves of an image: none of one that has a fault
abbrev pub moves_by : Option BootFault → Layout → ℕ → ℕ
moves_by (Some fault) layout items = 0
moves_by None layout items = moves layout items

abbrev pub moves_in : List ℕ → ℕ
moves_in image = moves_by (fault_in image) (layout_in (held compat_place image)) (items_at One image)

-- After some writes and syncs before it, a store of so many items was found, and it had this layout; it had as many items
-- before it was moved, but on a disk that does not keep what it was told.
pub record FoundBy (before again : ℕ) (old new : DiskState) : Type 0 where
  pub layout : Layout
  pub items : ℕ
  pub told : IsTrue old.tells → (layout ≡ layout_in (held compat_place old.seen)) × (items ≡ again)
  pub calls : Quietly (before + moves layout items) (looks layout items again) old.meter new.meter

-- a boot begins with a sync
abbrev pub BootCalls : ℕ → DiskState → DiskState → Type 0
BootCalls items old new = FoundBy 1 items old new

-- stopped in one of the writes and syncs of a boot, some before it and its moves, or at a read
pub record BootStops (before : ℕ) (old new : DiskState) (fault : BootFault) : Type 0 where
  pub most : ℕ
  pub told : IsTrue old.tells → most ≡ moves_in old.seen
  pub stopped : Stopped (before + most) old.meter new.meter fault

-- what was found stands in layout 2 as it is read, and that is the only image
pub record IsFoundIn (found : Found) (disk : DiskState) : Type 0 where
  pub only : Only disk.seen disk.images
  pub states : AreStates Two found.states
  pub place : found.mark_cell.place ≡ mark_cell Two
  pub calm : found.mark_cell.doubt ≡ false
  pub within : IfSome found.mark (λ mark. IsWithin found.states.mission.head (plain_mark mark))
  pub read : IsTrue disk.tells → AllRead Two disk.seen found.states found.mark_cell found.mark

-- how a boot ends
abbrev pub BootEnds : ℕ → DiskState → DiskState → Result Found BootFault → Type 0
BootEnds before old new (Ok found) =
    IsFoundIn found new × (IsTrue new.tells → IsThisLayout (held compat_place new.seen)) × (IsTrue old.tells → (fault_in old.seen ≡ None) × StandsAgain old.seen new.seen) × FoundBy before (items_named found.states) old new
BootEnds before old new (Err fault) = (IsTrue old.tells → StoppedBy (fault_in old.seen) fault) × BootStops before old new fault

-- a boot, some writes and syncs of which came before
pub record Boots (before : ℕ) (old new : DiskState) (result : Result Found BootFault) : Type 0 where
  pub images : LeavesOnly old new (IsOfBoot old)
  pub tells : new.tells ≡ old.tells
  pub steady : Steady old.meter new.meter
  pub ends : BootEnds before old new result

-- the parts of what was found
abbrev pub parts_of : Found → Parts
parts_of found = record { mission = found.states.mission; fence = found.states.fence; safe = found.states.safe; mark_cell = found.mark_cell; mark = found.mark; doubt = None }
