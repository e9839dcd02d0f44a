-- Calls of the mark's cell: what they leave of the store.
use Rattle.std.proofs.Common.{◌≡◌, ◌*◌, ◌≤◌, ℕ, Bool, true, false, IsTrue, List, Option, Some, None, sym, subst, arith}
use Rattle.mission_model.specs.declared.limits.TheConstants.{STORE_BYTES}
use Rattle.mission_model.specs.declared.counts.Mark.{Mark}
use Rattle.mission_model.specs.declared.plan.PlanType.{PlanType}
use Rattle.mission_model.specs.declared.plan.PlanType.TheVariants.{Mission}
use Rattle.disk_model.specs.Disk.{DiskState, IsSound}
use Rattle.disk_model.specs.Every.{Every, Image, Run}
use Rattle.gated_cell.specs.declared.cell.GatedCell.{GatedCell}
use Rattle.gated_cell.specs.Cell.{Held, held, in_force, next_of}
use Rattle.dataman_layout.specs.Mark.{PlainMark, plain_mark, plain_marks}
use Rattle.plan_store.specs.StoreState.{StoredPlan}
use Rattle.plan_store.specs.CanServe.{MarkFits}
use Rattle.bank_state.specs.declared.parts.Parts.{Parts}
use Rattle.bank_state.specs.declared.parts.Doubt.{Doubt}
use Rattle.bank_state.specs.declared.parts.Doubt.TheVariants as doubt
use Rattle.bank_state.specs.StandsFor.{compat_place, mark_place, IsThisLayout, HasMark}
use Rattle.bank_state.specs.Ledger.{banks_of, ledger_of, plan_by}
use Rattle.bank_state.specs.Store.{doubts_plan, doubts_mark, KnownBy, BanksStand, MarkStands, MarkInDoubt, HoldsMark, InDoubt, IsStore, SameRecords}
use Rattle.bank_state.specs.Frames.{record_off, record_stays}
use Rattle.bank_state.specs.Standing.{store_of, banks_again, layout_again, plan_again}
use Rattle.bank_state.specs.Moments.{CalmPlans, ShowsPlans, mark_off_compat, mark_off_state, mark_off_bank, shows_plans_now, shows_plans_beside}

module _ (parts : Parts) (doubted : Bool) (Q : List ℕ → Type 0) (old new : DiskState) (sound_old : IsSound old) (sound : IsSound new) (calm : CalmPlans parts doubted old)
    (run : Run mark_place.at (2 * mark_place.slot_bytes) Q old new) where
  abbrev at : ℕ
  at = mark_place.at

  abbrev n : ℕ
  n = 2 * mark_place.slot_bytes

  abbrev mission : DiskState → StoredPlan
  mission disk = plan_by (ledger_of parts) Mission disk.seen

  -- every record is read as before
  pub records : IsTrue new.tells → SameRecords old new
  records told k bank seq below = record_stays k bank seq at n old.seen new.seen (record_off k bank seq at n below (mark_off_bank k bank)) (run.reads told)

  layout : Every (λ c. IsThisLayout (held compat_place c)) new
  layout = layout_again at n Q old new sound run mark_off_compat calm.layout

  each : (k : PlanType) → BanksStand k false (banks_of parts k) new
  each k = banks_again at n Q old new sound run k (banks_of parts k) (mark_off_state k) (mark_off_bank k (banks_of parts k).bank) (calm.each k)

  pub mission_same : IsTrue new.tells → mission new ≡ mission old
  mission_same told = plan_again at n Q old new sound run Mission parts.mission.bank parts.mission.head (calm.each Mission).count (mark_off_bank Mission parts.mission.bank) told

  pub before : IsTrue new.tells → IsTrue old.tells
  before told = subst (λ (b : Bool). IsTrue b) run.tells told

  -- the mark's cell as the calls left it, where what is in force is as before
  mark_kept : (now : Bool) (cell : GatedCell) → cell.place ≡ mark_place → cell.doubt ≡ now → KnownBy now cell new → (IsTrue new.tells → in_force cell new ≡ in_force parts.mark_cell old)
      → MarkStands (mission new) now cell (plain_marks parts.mark) new
  mark_kept now cell place flag known same = record {
    place = place;
    flag = flag;
    known = known;
    has = λ told. subst (λ (m : StoredPlan). HasMark m (plain_marks parts.mark) (in_force cell new)) (sym (mission_same told))
        (subst (λ (h : Held). HasMark (mission old) (plain_marks parts.mark) h) (sym (same told)) (calm.mark.has (before told)));
  }

  room_after : STORE_BYTES ≤ old.meter.size → STORE_BYTES ≤ new.meter.size
  room_after room = omega (arith, run.meter.size, room)

  -- the store without a doubt, and with another mark or the same
  pub store_with : (cell : GatedCell) (mark : Option Mark) (change : Option Doubt) → change ≡ None → STORE_BYTES ≤ old.meter.size → MarkStands (mission new) false cell (plain_marks mark) new
      → IsStore (record parts { mark_cell = cell; mark = mark; doubt = change }) new
  store_with cell mark change none room stands = store_of (record parts { mark_cell = cell; mark = mark; doubt = change }) new none (room_after room) (record { layout = layout; each = each; mark = stands })

  pub store_calm : (cell : GatedCell) (change : Option Doubt) → change ≡ None → STORE_BYTES ≤ old.meter.size → cell.place ≡ mark_place → cell.doubt ≡ false → KnownBy false cell new
      → (IsTrue new.tells → in_force cell new ≡ in_force parts.mark_cell old) → IsStore (record parts { mark_cell = cell; doubt = change }) new
  store_calm cell change none room place flag known same = store_with cell parts.mark change none room (mark_kept false cell place flag known same)

  -- what is in doubt stays behind the gate
  pub doubt_kept : (cell : GatedCell) (mark : PlainMark) → MarkInDoubt (mission old) parts.mark_cell mark old → (IsTrue new.tells → next_of cell new ≡ next_of parts.mark_cell old) → MarkInDoubt (mission new) cell mark new
  doubt_kept cell mark in_doubt same = record {
    held = λ told. subst (λ (h : Held). HoldsMark mark h) (sym (same told)) (in_doubt.held (before told));
    fits = λ told. subst (λ (m : StoredPlan). MarkFits mark m) (sym (mission_same told)) (in_doubt.fits (before told));
  }

  -- the store with the mark in doubt
  pub store_doubted : (cell : GatedCell) (mark : Mark) (change : Option Doubt) → change ≡ Some (doubt.Mark mark) → STORE_BYTES ≤ old.meter.size → cell.place ≡ mark_place → cell.doubt ≡ true → KnownBy true cell new
      → (IsTrue new.tells → in_force cell new ≡ in_force parts.mark_cell old) → MarkInDoubt (mission new) cell (plain_mark mark) new → IsStore (record parts { mark_cell = cell; doubt = change }) new
  store_doubted cell mark change is room place flag known same in_doubt = record {
    room = room_after room;
    layout = layout;
    each = λ k. subst (λ (d : Option Doubt). BanksStand k (doubts_plan d k) (banks_of parts k) new) (sym is) (each k);
    mark = subst (λ (d : Option Doubt). MarkStands (mission new) (doubts_mark d) cell (plain_marks parts.mark) new) (sym is) (mark_kept true cell place flag known same);
    in_doubt = subst (λ (d : Option Doubt). InDoubt (record parts { mark_cell = cell; doubt = change }) d new) (sym is) in_doubt;
  }

  -- an image of the calls shows all but the mark
  pub image_shows : (c : List ℕ) (P : List ℕ → Type 0) → Image at n old P c → ShowsPlans parts old.seen c
  image_shows c P image = shows_plans_beside parts old.seen image.from.0 c (λ k. (calm.each k).count) image.from.2 (shows_plans_now parts doubted old image.from.0 sound_old calm image.from.1)

  pub image_told : (c : List ℕ) (P : List ℕ → Type 0) → Image at n old P c → IsTrue old.tells
  image_told c P image = sound_old.told image.from.0 image.from.1
