-- A read of the disk leaves the store as it is, and gives the item of the plan.
use Rattle.dataman_layout.specs.declared.layout.Layout.TheVariants.{Two}
use Rattle.std.proofs.Common.{◌≡◌, ◌+◌, ◌<◌, ◌&&◌, ◌==◌, cond, ℕ, Bool, true, false, IsTrue, List, Option, Some, None, slice_get, refl, sym, ap, subst, ◌∙◌, arith}
use Rattle.std.specs.Prelude.{◌-◌, IsSome, Ok}
use Rattle.std.proofs.lemmas.Bool.Decides.{nat_tests}
use Rattle.mission_model.specs.declared.plan.PlanType.{PlanType}
use Rattle.mission_model.specs.declared.plan.PlanType.TheVariants.{Mission}
use Rattle.mission_model.specs.declared.plan.Item.{Item}
use Rattle.mission_model.specs.Command.{is_kind}
use Rattle.mission_model.specs.PlanCode.{PlanValid}
use Rattle.disk_model.specs.Disk.{DiskState, Still, Elapses, Reads}
use Rattle.disk_model.specs.Every.{Every, every_still}
use Rattle.gated_cell.specs.declared.cell.GatedCell.{GatedCell}
use Rattle.gated_cell.specs.Cell.{InForce, held, stored, staged, spare_of, says, Fits, IsEither}
use Rattle.dataman_layout.specs.declared.item.Record.{Record}
use Rattle.dataman_layout.specs.Item.{item_in}
use Rattle.dataman_layout.specs.Places.{record_at}
use Rattle.dataman_layout.specs.Mark.{plain_mark, plain_marks}
use Rattle.plan_store.specs.CanServe.{MarkFits}
use Rattle.bank_state.specs.declared.parts.PlanBanks.{PlanBanks}
use Rattle.bank_state.specs.declared.parts.Parts.{Parts}
use Rattle.bank_state.specs.declared.parts.Doubt.{Doubt}
use Rattle.bank_state.specs.declared.parts.Doubt.TheVariants as doubt
use Rattle.bank_state.specs.StandsFor.{compat_place, IsThisLayout, Names, HasItems, HasMark, record_in}
use Rattle.bank_state.specs.Ledger.{banks_of, ledger_of, item_of, items_in, plan_in, plan_by}
use Rattle.bank_state.specs.Store.{doubts_plan, doubts_mark, KnownBy, BanksStand, HoldsMark, InDoubt, IsStore}
use Rattle.bank_state.specs.Outcomes.{item_by}
use Rattle.bank_state.specs.Frames.{is_kind_same}
use Rattle.bank_state.specs.Drafts.{slice_get-items_in}

module _ (old new : DiskState) (still : Still old new) (time : Elapses old new) where
  -- what is known by the bytes that are read
  every_seen : (F : List ℕ → List ℕ → Type 0) → Every (F old.seen) old → Every (F new.seen) new
  every_seen F every = subst (λ (l : List ℕ). Every (F l) new) (sym still.seen) (every_still (F old.seen) old new still time every)

  told_seen : (G : List ℕ → Type 0) → (IsTrue old.tells → G old.seen) → IsTrue new.tells → G new.seen
  told_seen G was told = subst G (sym still.seen) (was (subst (λ (b : Bool). IsTrue b) time.tells told))

  known_still : (doubted : Bool) (cell : GatedCell) → KnownBy doubted cell old → KnownBy doubted cell new
  known_still false cell known = every_seen (λ l. Fits cell (stored cell l)) known
  known_still true cell doubtful = every_seen (λ l. IsEither cell (stored cell l) (staged cell l)) doubtful

  banks_still : (kind : PlanType) (doubted : Bool) (banks : PlanBanks) → BanksStand kind doubted banks old → BanksStand kind doubted banks new
  banks_still kind doubted banks stand = record {
    place = stand.place;
    bank = stand.bank;
    count = stand.count;
    flag = stand.flag;
    known = known_still doubted banks.cell stand.known;
    named = told_seen (λ l. Names kind banks.bank banks.head (says banks.cell (stored banks.cell l))) stand.named;
    items = every_seen (λ l. HasItems kind banks.bank (plan_in kind banks.bank banks.head l)) stand.items;
    valid = told_seen (λ l. PlanValid kind (items_in kind banks.bank banks.head.count l)) stand.valid;
  }

  doubt_still : (parts : Parts) (change : Option Doubt) → InDoubt parts change old → InDoubt parts change new
  doubt_still parts None in_doubt = tt
  doubt_still parts (Some (doubt.Plan kind head)) in_doubt =
      let banks = banks_of parts kind in
      record {
        newer = in_doubt.newer;
        within = in_doubt.within;
        named = told_seen (λ l. Names kind (1 - banks.bank) head (InForce (spare_of banks.cell.in_force) (banks.cell.generation + 1) (staged banks.cell l))) in_doubt.named;
        items = every_seen (λ l. HasItems kind (1 - banks.bank) (plan_in kind (1 - banks.bank) head l)) in_doubt.items;
        valid = told_seen (λ l. PlanValid kind (items_in kind (1 - banks.bank) head.count l)) in_doubt.valid;
      }
  doubt_still parts (Some (doubt.Mark mark)) in_doubt =
      let cell = parts.mark_cell in
      record {
        held = told_seen (λ l. HoldsMark (plain_mark mark) (InForce (spare_of cell.in_force) (cell.generation + 1) (staged cell l))) in_doubt.held;
        fits = told_seen (λ l. MarkFits (plain_mark mark) (plan_by (ledger_of parts) Mission l)) in_doubt.fits;
      }

  pub store_still : (parts : Parts) → new.meter.size ≡ old.meter.size → IsStore parts old → IsStore parts new
  store_still parts size store = record {
    room = omega (arith, size, store.room);
    layout = every_still (λ c. IsThisLayout (held compat_place c)) old new still time store.layout;
    each = λ kind. banks_still kind (doubts_plan parts.doubt kind) (banks_of parts kind) (store.each kind);
    mark = record {
      place = store.mark.place;
      flag = store.mark.flag;
      known = known_still (doubts_mark parts.doubt) parts.mark_cell store.mark.known;
      has = told_seen (λ l. HasMark (plan_by (ledger_of parts) Mission l) (plain_marks parts.mark) (says parts.mark_cell (stored parts.mark_cell l))) store.mark.has;
    };
    in_doubt = doubt_still parts parts.doubt store.in_doubt;
  }

all_true : (a b c : Bool) → a ≡ true → b ≡ true → c ≡ true → (a && b && c) ≡ true
all_true a b c x y z = λ i. x i && y i && z i

same_number : (n : ℕ) → (n == n) ≡ true
same_number n = grind (arith, nat_tests)

-- the record of a plan's item gives it
item_by-record : (kind : PlanType) (id seq : ℕ) (item : Item) → item_by kind id seq (Some (record { kind = kind; id = id; seq = seq; item = item })) ≡ Some item
item_by-record kind id seq item = ap (λ (b : Bool). cond b (Some item) None) (all_true (is_kind kind kind) (id == id) (seq == seq) (is_kind_same kind) (same_number id) (same_number seq))

-- what a read gives of a plan that stands
pub item_read : (kind : PlanType) (doubted : Bool) (banks : PlanBanks) (seq : ℕ) (old new : DiskState) (got : List ℕ) (found : Option Record) (r : Option Item) (u : Unit {0}) → BanksStand kind doubted banks old → seq < banks.head.count
    → Reads (record_at Two kind banks.bank seq) 48 old new got (Ok u) → found ≡ item_in got → r ≡ item_by kind banks.head.id seq found
    → IsTrue old.tells → IsSome r × r ≡ slice_get (items_in kind banks.bank banks.head.count old.seen) seq
item_read kind doubted banks seq old new got found r u stand below reads is by told =
    let item = item_of (record_in kind banks.bank seq old.seen) in
    let at : slice_get (items_in kind banks.bank banks.head.count old.seen) seq ≡ Some item = slice_get-items_in kind banks.bank banks.head.count old.seen seq below in
    let stands : record_in kind banks.bank seq old.seen ≡ Some (record { kind = kind; id = banks.head.id; seq = seq; item = item }) = stand.items.reads told seq item at in
    let gives : r ≡ Some item = by ∙ ap (item_by kind banks.head.id seq) (is ∙ ap item_in (reads.read told) ∙ stands) ∙ item_by-record kind banks.head.id seq item in
    (subst (λ (o : Option Item). IsSome o) (sym gives) refl, gives ∙ sym at)
