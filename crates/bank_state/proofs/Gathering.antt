-- Banks whose parts were just read are a store.
use Rattle.std.proofs.Common.{◌≡◌, false, IsTrue, None, sym, ap, subst, ◌∙◌}
use Rattle.mission_model.specs.declared.plan.PlanType.{PlanType}
use Rattle.mission_model.specs.declared.plan.PlanType.TheVariants.{Mission}
use Rattle.disk_model.specs.Disk.{DiskState, IsSound, Only}
use Rattle.gated_cell.specs.declared.cell.GatedCell.{GatedCell}
use Rattle.gated_cell.specs.declared.place.CellPlace.{CellPlace}
use Rattle.gated_cell.specs.Cell.{Held, held, stored, Known, in_force}
use Rattle.gated_cell.specs.Slots.{fits_held}
use Rattle.dataman_layout.specs.Mark.{plain_marks}
use Rattle.bank_state.specs.declared.parts.PlanBanks.{PlanBanks}
use Rattle.bank_state.specs.declared.parts.Parts.{Parts}
use Rattle.bank_state.specs.StandsFor.{compat_place, state_place, mark_place, IsThisLayout, Names, HasItems, HasMark}
use Rattle.bank_state.specs.Ledger.{banks_of, ledger_of, plan_in, plan_by}
use Rattle.bank_state.specs.Store.{BanksStand, IsStore}
use Rattle.bank_state.specs.Gathered.{BanksRead, IsReady}
use Rattle.bank_state.specs.Running.{every_only}
use Rattle.bank_state.specs.Standing.{store_of}

holds : (cell : GatedCell) (place : CellPlace) (disk : DiskState) → cell.place ≡ place → Known cell disk → IsTrue disk.tells → held place disk.seen ≡ in_force cell disk
holds cell place disk at known told = ap (λ (p : CellPlace). held p disk.seen) (sym at) ∙ fits_held cell (stored cell disk.seen) disk.seen (known.reads told)

banks_stand : (kind : PlanType) (banks : PlanBanks) (disk : DiskState) → IsSound disk → Only disk.seen disk.images → BanksRead kind banks disk → BanksStand kind false banks disk
banks_stand kind banks disk sound only read = record {
  place = read.place;
  bank = read.bank;
  count = read.count;
  flag = read.calm;
  known = read.known;
  named = λ told. subst (λ (h : Held). Names kind banks.bank banks.head h) (holds banks.cell (state_place kind) disk read.place read.known told) (read.named told);
  items = every_only (HasItems kind banks.bank (plan_in kind banks.bank banks.head disk.seen)) disk sound only read.items;
  valid = read.valid;
}

pub ready_store : (parts : Parts) (disk : DiskState) → IsSound disk → parts.doubt ≡ None → IsReady parts disk → IsStore parts disk
ready_store parts disk sound none ready = store_of parts disk none ready.room (record {
  layout = every_only (λ c. IsThisLayout (held compat_place c)) disk sound ready.only ready.layout;
  each = λ kind. banks_stand kind (banks_of parts kind) disk sound ready.only (ready.each kind);
  mark = record {
    place = ready.mark.place;
    flag = ready.mark.calm;
    known = ready.mark.known;
    has = λ told. subst (λ (h : Held). HasMark (plan_by (ledger_of parts) Mission disk.seen) (plain_marks parts.mark) h) (holds parts.mark_cell mark_place disk ready.mark.place ready.mark.known told) (ready.mark.has told);
  };
})
