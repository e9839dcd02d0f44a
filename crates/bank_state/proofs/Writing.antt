-- A write of a record into the spare bank.
use Rattle.dataman_layout.specs.declared.layout.Layout.TheVariants.{Two}
use Rattle.std.proofs.Common.{◌≡◌, ◌⊎◌, ◌-◌, ◌<◌, ◌&&◌, ◌==◌, ℕ, zero, suc, Bool, true, false, IsTrue, List, length, Some, None, inl, inr, ⊎_elim, refl, sym, ap, subst, ◌∙◌, arith}
use Rattle.std.specs.Prelude.{Result, Ok, Err, OnOk}
use Rattle.std.proofs.lemmas.Bool.{cases_eq, true≢false}
use Rattle.std.proofs.lemmas.Bool.Decides.{nat_tests}
use Rattle.mission_model.specs.declared.plan.PlanType.{PlanType}
use Rattle.mission_model.specs.declared.plan.PlanType.TheVariants.{Mission}
use Rattle.mission_model.specs.Command.{is_kind}
use Rattle.mission_model.specs.PlanCode.{limit_of}
use Rattle.disk_model.specs.Bytes.{field}
use Rattle.disk_model.specs.Disk.{DiskState, IsSound, Writes}
use Rattle.disk_model.specs.declared.disk.DiskFault.{DiskFault}
use Rattle.disk_model.specs.Every.{Image, Run, run_start, run_write}
use Rattle.disk_model.specs.Moments.{LeavesOnly, leaves_weaker}
use Rattle.dataman_layout.specs.declared.item.Record.{Record}
use Rattle.dataman_layout.specs.Item.{item_in}
use Rattle.disk_model.specs.Places.{Apart}
use Rattle.dataman_layout.specs.Places.{Compat, State, TheMark, Bank, bank_rank, record_at}
use Rattle.dataman_layout.specs.PlaceLaws.{records_apart}
use Rattle.bank_state.specs.declared.parts.Parts.{Parts}
use Rattle.bank_state.specs.StandsFor.{record_in, IsOf}
use Rattle.bank_state.specs.Ledger.{banks_of, ledger_of, plan_by, holding_in}
use Rattle.bank_state.specs.Store.{IsStore, OtherRecords}
use Rattle.bank_state.specs.Frames.{Differ, IsOff, record_off, record_stays, length-items_in, record_is_off, bank_not_state, bank_not_mark, bank_not_bank, compat_not_bank, spare_not, same_or_differ, is_kind_same}
use Rattle.bank_state.specs.Standing.{Calm, calm_of, store_of, shows_now, shows_stand, shown_beside, mark_beside, layout_beside, banks_again, mark_again, layout_again, plan_again}

-- the record that was written is read there
pub written : (kind : PlanType) (bank seq : ℕ) (bytes : List ℕ) (r : Record) (old new : DiskState) (result : Result (Unit {0}) DiskFault) → length bytes ≡ 48 → item_in bytes ≡ Some r
    → Writes (record_at Two kind bank seq) bytes old new result → OnOk result (IsTrue new.tells → record_in kind bank seq new.seen ≡ Some r)
written kind bank seq bytes r old new (Ok u) long reads writes = λ told.
    let holds = writes.written (subst (λ (b : Bool). IsTrue b) writes.time.tells told) in
    ap (λ (n : ℕ). item_in (field (record_at Two kind bank seq) n new.seen)) (sym long) ∙ ap item_in holds.here ∙ reads
written kind bank seq bytes r old new (Err e) long reads writes = tt

bank_rank_is : (bank : ℕ) → bank < 2 → bank_rank bank ≡ bank
bank_rank_is zero low = refl
bank_rank_is (suc zero) low = refl
bank_rank_is (suc (suc n)) low = absurd (omega (arith, low))

all_true : (a b c : Bool) → a ≡ true → b ≡ true → c ≡ true → (a && b && c) ≡ true
all_true a b c x y z = λ i. x i && y i && z i

-- records at two places of the banks of one type are apart
apart_one : (kind : PlanType) (bank side seq place : ℕ) → side < 2 → bank < 2 → seq < limit_of kind → place < limit_of kind → ((is_kind kind kind && side == bank && place == seq) ≡ false)
    → Apart (record_at Two kind side place) 48 (record_at Two kind bank seq) 48
apart_one kind bank side seq place low small within below other = ⊎_elim same_bank other_bank (cases_eq side bank)
  where
    other_bank : (side ≡ bank → ⊥) → Apart (record_at Two kind side place) 48 (record_at Two kind bank seq) 48
    other_bank differ = record_off kind side place (record_at Two kind bank seq) 48 below
        (record_is_off kind bank seq (Bank kind side) within (λ same. differ (omega (arith, same, bank_rank_is bank small, bank_rank_is side low))))

    same_bank : side ≡ bank → Apart (record_at Two kind side place) 48 (record_at Two kind bank seq) 48
    same_bank is = ⊎_elim
        (λ same. absurd (true≢false (sym (all_true (is_kind kind kind) (side == bank) (place == seq) (is_kind_same kind) (grind (arith, nat_tests, is)) (grind (arith, nat_tests, same))) ∙ other)))
        (λ differ. subst (λ (b : ℕ). Apart (record_at Two kind b place) 48 (record_at Two kind bank seq) 48) (sym is) (records_apart Two kind bank place seq differ))
        (cases_eq place seq)

apart_in : (kind k : PlanType) (bank side seq place : ℕ) → kind ≡ k → side < 2 → bank < 2 → seq < limit_of kind → place < limit_of k → ((is_kind k kind && side == bank && place == seq) ≡ false)
    → Apart (record_at Two k side place) 48 (record_at Two kind bank seq) 48
apart_in kind k bank side seq place same low small within below other =
    subst (λ (x : PlanType). place < limit_of x → ((is_kind x kind && side == bank && place == seq) ≡ false) → Apart (record_at Two x side place) 48 (record_at Two kind bank seq) 48) same
    (apart_one kind bank side seq place low small within) below other

module _ (parts : Parts) (kind : PlanType) (seq : ℕ) (bytes : List ℕ) (old new : DiskState) (result : Result (Unit {0}) DiskFault) (sound_old : IsSound old) (sound_new : IsSound new)
    (store : IsStore parts old) (calm : parts.doubt ≡ None) (within : seq < limit_of kind) (long : length bytes ≡ 48)
    (writes : Writes (record_at Two kind (1 - (banks_of parts kind).bank) seq) bytes old new result) where
  abbrev spare : ℕ
  spare = 1 - (banks_of parts kind).bank

  abbrev at : ℕ
  at = record_at Two kind spare seq

  abbrev Any : List ℕ → Type 0
  Any c = Unit {0}

  run : Run at 48 Any old new
  run = run_write at 48 Any at bytes old old new result (omega arith) (omega (arith, long)) writes (record { reads = λ told. tt; images = λ c left. tt })
      (run_start at 48 Any old sound_old (record { reads = λ told. tt; images = λ c left. tt }))

  first : Calm parts old
  first = calm_of parts old calm store

  off_state : (k : PlanType) → IsOff at 48 (State k)
  off_state k = record_is_off kind spare seq (State k) within (bank_not_state kind spare k)

  off_mark : IsOff at 48 TheMark
  off_mark = record_is_off kind spare seq TheMark within (bank_not_mark kind spare)

  off_compat : IsOff at 48 Compat
  off_compat = record_is_off kind spare seq Compat within (compat_not_bank kind spare)

  off_other : (k : PlanType) (bank : ℕ) → Differ kind k → IsOff at 48 (Bank k bank)
  off_other k bank differ = record_is_off kind spare seq (Bank k bank) within (bank_not_bank kind spare k bank differ)

  off_bank : (k : PlanType) → IsOff at 48 (Bank k (banks_of parts k).bank)
  off_bank k = ⊎_elim
      (λ same. subst (λ (x : PlanType). IsOff at 48 (Bank x (banks_of parts x).bank)) same
      (record_is_off kind spare seq (Bank kind (banks_of parts kind).bank) within (λ rank. spare_not kind (banks_of parts kind).bank (first.each kind).bank (sym rank))))
      (λ differ. off_other k (banks_of parts k).bank differ) (same_or_differ kind k)

  pub calm_after : Calm parts new
  calm_after = record {
    layout = layout_again at 48 Any old new sound_new run off_compat first.layout;
    each = λ k. banks_again at 48 Any old new sound_new run k (banks_of parts k) (off_state k) (off_bank k) (first.each k);
    mark = mark_again at 48 Any old new sound_new run (plan_by (ledger_of parts) Mission old.seen) (plan_by (ledger_of parts) Mission new.seen) parts.mark_cell _ off_mark
        (plan_again at 48 Any old new sound_new run Mission parts.mission.bank parts.mission.head (first.each Mission).count (off_bank Mission)) first.mark;
  }

  pub store_after : IsStore parts new
  store_after = store_of parts new calm (omega (arith, store.room, writes.meter.call.size)) calm_after

  -- an image from before shows what it showed
  shows_after : (c : List ℕ) → Image at 48 old Any c → IsOf (holding_in (ledger_of parts) old.seen) c
  shows_after c image =
      let d = image.from.0 in
      let torn = image.from.2 in
      let was = shows_now parts old d sound_old first image.from.1 in
      shows_stand parts old.seen c (λ k. (first.each k).valid (sound_old.told d image.from.1)) (record {
        layout = layout_beside at 48 d c off_compat torn was.layout;
        each = λ k. shown_beside k (banks_of parts k).bank (plan_by (ledger_of parts) k old.seen) at 48 d c (omega (arith, length-items_in k (banks_of parts k).bank (banks_of parts k).head.count old.seen, (first.each k).count))
            (off_state k) (off_bank k) torn (was.each k);
        mark = mark_beside (plan_by (ledger_of parts) Mission old.seen) _ at 48 d c off_mark torn was.mark;
      })

  pub moments : LeavesOnly old new (IsOf (holding_in (ledger_of parts) old.seen))
  moments = leaves_weaker old new (Image at 48 old Any) (IsOf (holding_in (ledger_of parts) old.seen)) shows_after run.moments

  -- every other record is read as before
  pub others : IsTrue new.tells → OtherRecords kind spare seq old new
  others told k side place low below other = record_stays k side place at 48 old.seen new.seen (apart (same_or_differ kind k)) (run.reads told)
    where
      apart : (kind ≡ k) ⊎ Differ kind k → Apart (record_at Two k side place) 48 at 48
      apart (inr differ) = record_off k side place at 48 below (off_other k side differ)
      apart (inl same) = apart_in kind k spare side seq place same low (omega arith) within below other
