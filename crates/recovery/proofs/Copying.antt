-- Records that are copied from layout 1 into layout 2.
use Rattle.std.specs.Prelude.{◌≡◌, ◌+◌, ◌≤◌, ◌<◌, ℕ, Bool, IsTrue, List, length, Ok}
use Rattle.std.proofs.Common.{sym, ap, subst, inl, ⊎_elim, arith, ◌∙◌}
use Rattle.std.proofs.lemmas.Bool.{cases_eq}
use Rattle.mission_model.specs.declared.plan.PlanType.{PlanType}
use Rattle.mission_model.specs.declared.plan.PlanType.TheVariants.{Mission, Fence, Safe}
use Rattle.disk_model.specs.Bytes.{field}
use Rattle.disk_model.specs.Disk.{DiskState, IsSound, Reads, Writes}
use Rattle.disk_model.specs.Every.{Every, Run, Image, run_start, run_read, run_write, told_before}
use Rattle.disk_model.specs.Moments.{leaves_weaker}
use Rattle.disk_model.specs.Places.{field_apart, torn_wider}
use Rattle.dataman_layout.specs.declared.layout.Layout.TheVariants.{One, Two}
use Rattle.dataman_layout.specs.Layouts.{limit_in}
use Rattle.dataman_layout.specs.Places.{Bank, place_of, size_of, length_in, record_at}
use Rattle.dataman_layout.specs.PlaceLaws.{part_within, record_within, records_apart, behind_one}
use Rattle.recovery.specs.Migration.{IsCopied, AreCopied}

abbrev pub Anything : List ℕ → Type 0
Anything c = Unit {0}

any : (disk : DiskState) → Every Anything disk
any disk = record { reads = λ told. tt; images = λ c left. tt }

-- a run of calls in a range is one in a greater range
pub run_wider : (a m at n : ℕ) (old new : DiskState) → at ≤ a → a + m ≤ at + n → Run a m Anything old new → Run at n Anything old new
run_wider a m at n old new low high run = record {
  within = λ c left. let from = run.within c left in (from.0, from.1, torn_wider a m at n from.0 c low high from.2);
  moments = leaves_weaker old new (Image a m old Anything) (Image at n old Anything) (λ c image. record { from = (image.from.0, image.from.1, torn_wider a m at n image.from.0 c low high image.from.2); holds = tt }) run.moments;
  reads = λ told. torn_wider a m at n old.seen new.seen low high (run.reads told);
  tells = run.tells;
  meter = run.meter;
}

-- a read, and then a write of what it gave
pub run_reading : (to at : ℕ) (got : List ℕ) (a b : DiskState) (read : _) → IsSound a → Reads at 48 a b got read → Run to 48 Anything a b
run_reading to at got a b read sound reads = run_read to 48 Anything at 48 got a a b read reads (any b) (run_start to 48 Anything a sound (any a))

pub run_copying : (to at : ℕ) (got bytes : List ℕ) (a b z : DiskState) (read wrote : _) → length bytes ≡ 48 → IsSound a → Reads at 48 a b got read → Writes to bytes b z wrote → Run to 48 Anything a z
run_copying to at got bytes a b z read wrote long sound reads writes = run_write to 48 Anything to bytes a b z wrote (omega arith) (omega (arith, long)) writes (any z) (run_reading to at got a b read sound reads)

pub copied_one : (to at : ℕ) (bytes : List ℕ) (a b z : DiskState) (u v : Unit {0}) → length bytes ≡ 48 → Reads at 48 a b bytes (Ok u) → Writes to bytes b z (Ok v) → IsTrue z.tells → field to 48 z.seen ≡ field at 48 a.seen
copied_one to at bytes a b z u v long reads writes told =
    let told_b = told_before b z writes.time told in
    let told_a = told_before a b reads.time told_b in
    ap (λ (n : ℕ). field to n z.seen) (sym long) ∙ (writes.written told_b).here ∙ reads.read told_a

-- layout 1 stands before bank 0 of layout 2
record_low : (kind : PlanType) (bank seq : ℕ) → seq < limit_in One kind → record_at One kind bank seq + 48 ≤ length_in One
record_low kind bank seq below = omega (arith, (record_within One kind bank seq below).1, part_within One (Bank kind bank))

bank_high : (kind : PlanType) → length_in One ≤ place_of Two (Bank kind 0)
bank_high kind = behind_one (Bank kind 0) (λ same. absurd (omega (arith, same)))

more_limit : (kind : PlanType) → limit_in One kind ≤ limit_in Two kind
more_limit Mission = omega arith
more_limit Fence = omega arith
more_limit Safe = omega arith

more_in_two : (kind : PlanType) (seq : ℕ) → seq < limit_in One kind → seq < limit_in Two kind
more_in_two kind seq below = omega (arith, below, more_limit kind)

pub more_items : (kind : PlanType) (count : ℕ) → count ≤ limit_in One kind → count ≤ limit_in Two kind
more_items kind count low = omega (arith, low, more_limit kind)

-- One record more.
module _ (kind : PlanType) (bank seq : ℕ) (old mid new : DiskState) (below : seq < limit_in One kind) where
  pub run_more : Run (place_of Two (Bank kind 0)) (size_of Two (Bank kind 0)) Anything old mid → Run (record_at Two kind 0 seq) 48 Anything mid new → Run (place_of Two (Bank kind 0)) (size_of Two (Bank kind 0)) Anything mid new
  run_more so_far run =
      let inside = record_within Two kind 0 seq (more_in_two kind seq below) in
      run_wider (record_at Two kind 0 seq) 48 (place_of Two (Bank kind 0)) (size_of Two (Bank kind 0)) mid new inside.0 inside.1 run

  pub copied_more : (next : ℕ) → next ≡ seq + 1 → Run (place_of Two (Bank kind 0)) (size_of Two (Bank kind 0)) Anything old mid → Run (record_at Two kind 0 seq) 48 Anything mid new
      → (IsTrue mid.tells → AreCopied kind bank seq old.seen mid.seen) → (IsTrue new.tells → IsCopied kind bank seq mid.seen new.seen)
      → IsTrue new.tells → AreCopied kind bank next old.seen new.seen
  copied_more next is so_far run before here told k low = ⊎_elim at_seq earlier (cases_eq k seq)
    where
      told_mid : IsTrue mid.tells
      told_mid = subst (λ (b : Bool). IsTrue b) run.tells told

      at_seq : k ≡ seq → IsCopied kind bank k old.seen new.seen
      at_seq same =
          subst (λ (n : ℕ). IsCopied kind bank n old.seen new.seen) (sym same)
          (record { bytes = (here told).bytes ∙ field_apart (record_at One kind bank seq) 48 (place_of Two (Bank kind 0)) (size_of Two (Bank kind 0)) old.seen mid.seen (inl (omega (arith, record_low kind bank seq below, bank_high kind))) (so_far.reads told_mid) })

      earlier : (k ≡ seq → ⊥) → IsCopied kind bank k old.seen new.seen
      earlier differ = record {
        bytes =
            field_apart (record_at Two kind 0 k) 48 (record_at Two kind 0 seq) 48 mid.seen new.seen (records_apart Two kind 0 k seq differ) (run.reads told) ∙ (before told_mid k (omega (arith, low, is, differ))).bytes;
      }

-- A write of its own.
pub run_put : (at n : ℕ) (bytes : List ℕ) (a z : DiskState) (wrote : _) → length bytes ≡ n → IsSound a → Writes at bytes a z wrote → Run at n Anything a z
run_put at n bytes a z wrote long sound writes = run_write at n Anything at bytes a a z wrote (omega arith) (omega (arith, long)) writes (any z) (run_start at n Anything a sound (any a))

pub put_there : (at n : ℕ) (bytes : List ℕ) (a z : DiskState) (u : Unit {0}) → length bytes ≡ n → Writes at bytes a z (Ok u) → IsTrue z.tells → field at n z.seen ≡ bytes
put_there at n bytes a z u long writes told = ap (λ (m : ℕ). field at m z.seen) (sym long) ∙ (writes.written (told_before a z writes.time told)).here
