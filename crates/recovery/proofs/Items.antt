-- The items of a plan, as far as they are read.
use Rattle.std.specs.Prelude.{◌≡◌, ◌+◌, ◌<◌, ◌≤◌, ◌&&◌, ◌==◌, ℕ, zero, suc, Bool, true, false, IsTrue, List, [], ◌∷◌, ◌++◌, length, slice_get, Option, Some, None, unwrap_or, Result, Ok, Err, if◌then◌else◌}
use Rattle.std.proofs.Common.{refl, sym, ap, subst, ⊎_elim, arith, ◌∙◌}
use Rattle.std.proofs.lemmas.Bool.{cases_eq}
use Rattle.mission_model.specs.declared.message.AckCode.{AckCode}
use Rattle.mission_model.specs.declared.plan.Item.{Item}
use Rattle.mission_model.specs.declared.plan.PlanHead.{PlanHead}
use Rattle.mission_model.specs.declared.plan.PlanType.{PlanType}
use Rattle.mission_model.specs.declared.plan.PlanType.TheVariants.{Mission}
use Rattle.mission_model.specs.declared.plan_check.PlanCheck.{PlanCheck}
use Rattle.mission_model.specs.Command.{jump_of, is_kind}
use Rattle.mission_model.specs.CountsList.{pairs_of}
use Rattle.mission_model.specs.Pairs.{Takes, used_of}
use Rattle.mission_model.specs.ItemCode.{answer_of}
use Rattle.mission_model.specs.PlanCode.{PlanCode, jumps_in}
use Rattle.mission_model.specs.PlanCheck.{Checked, HasRoom, AnswersByCode, JoinsItem}
use Rattle.disk_model.specs.Disk.{DiskState}
use Rattle.disk_model.specs.Every.{told_after}
use Rattle.dataman_layout.specs.declared.item.Record.{Record}
use Rattle.dataman_layout.specs.declared.layout.Layout.{Layout}
use Rattle.dataman_layout.specs.Layouts.{limit_in}
use Rattle.bank_state.specs.declared.parts.PlanBanks.{PlanBanks}
use Rattle.bank_state.specs.StandsFor.{record_of}
use Rattle.bank_state.specs.Ledger.{item_of, items_read}
use Rattle.bank_state.specs.Outcomes.{item_by}
use Rattle.recovery.specs.declared.fault.BootFault.{BootFault}
use Rattle.recovery.specs.declared.fault.BootFault.TheVariants.{NotAStore, UnknownVersion, BadCell, BadItem, DiskFailed, PowerOff}
use Rattle.mission_model.specs.declared.counts.Counts.{Counts}
use Rattle.recovery.specs.Faults.{or_else, missing, refused, item_fault, items_fault, jump_in}
use Rattle.recovery.specs.Steps.{Step, StoppedBy, Answers}
use Rattle.recovery.specs.Found.{repeats_by, noted, HasJumps}
use Rattle.recovery.proofs.Lists.{length-push}
use Rattle.recovery.proofs.Repeats.{repeats-push, few-push, kept_is}
use Rattle.recovery.proofs.Steps.{step_then, step_start, step_stopped, step_found, step_as}

if_some : {A : Type 0} (b : Bool) (x y : A) → (if b then Some x else None) ≡ Some y → x ≡ y
if_some true x y is = ap (λ (o : Option _). unwrap_or o x) is
if_some false x y is = absurd cc

-- the item that is read is that of the record
pub item_by-is : (kind : PlanType) (id seq : ℕ) (o : Option Record) (item : Item) → item_by kind id seq o ≡ Some item → item_of o ≡ item
item_by-is kind id seq None item is = absurd cc
item_by-is kind id seq (Some r) item is = if_some (is_kind r.kind kind && r.id == id && r.seq == seq) r.item item is

-- no faults so far, and none here
or_none : (a b : Option BootFault) → a ≡ None → b ≡ None → or_else a b ≡ None
or_none a b x y = λ i. or_else (x i) (y i)

or_later : (a b : Option BootFault) (f : BootFault) → a ≡ None → b ≡ Some f → or_else a b ≡ Some f
or_later a b f x y = λ i. or_else (x i) (y i)

or_first : (a b : Option BootFault) (f : BootFault) → a ≡ Some f → or_else a b ≡ Some f
or_first a b f x = ap (λ (o : Option BootFault). or_else o b) x

-- a fault among the first items is the first of more
pub items_fault-more : (layout : Layout) (kind : PlanType) (bank : ℕ) (head : PlanHead) (n m : ℕ) (image : List ℕ) (f : BootFault) → n ≤ m → items_fault layout kind bank head n image ≡ Some f → items_fault layout kind bank head m image ≡ Some f
items_fault-more layout kind bank head zero zero image f low is = is
items_fault-more layout kind bank head (suc n) zero image f low is = absurd (omega (arith, low))
items_fault-more layout kind bank head n (suc m) image f low is = ⊎_elim
    (λ same. subst (λ (k : ℕ). items_fault layout kind bank head k image ≡ Some f) same is)
    (λ other. or_first (items_fault layout kind bank head m image) (item_fault layout kind bank head m image) f (items_fault-more layout kind bank head n m image f (omega (arith, low, other)) is))
    (cases_eq n (suc m))

-- a plan of which the first seqs were read
pub record SoFar (layout : Layout) (kind : PlanType) (banks : PlanBanks) (seq : ℕ) (check : PlanCheck) (jumps : Counts) (old now : DiskState) : Type 0 where
  pub step : Step {T = Unit {0}} seq old now (Ok tt)
  pub items : List Item
  pub checked : Checked check kind banks.head.count items
  pub number : length items ≡ seq
  pub jumps_are : kind ≡ Mission → HasJumps items jumps
  pub few : kind ≡ Mission → length (pairs_of jumps) ≤ jumps_in items
  pub read : IsTrue old.tells → items ≡ items_read layout kind banks.bank seq old.seen
  pub free : IsTrue old.tells → items_fault layout kind banks.bank banks.head seq old.seen ≡ None

no_jump : (k : ℕ) → jump_in (slice_get [] k) ≡ None
no_jump zero = refl
no_jump (suc k) = refl

pub so_far_start : (layout : Layout) (kind : PlanType) (banks : PlanBanks) (check : PlanCheck) (jumps : Counts) (old : DiskState) → Checked check kind banks.head.count [] → pairs_of jumps ≡ [] → SoFar layout kind banks 0 check jumps old old
so_far_start layout kind banks check jumps old checked none = record {
  step = step_start old tt;
  items = [];
  checked = checked;
  number = refl;
  jumps_are = λ is seq. ap (λ (l : List (ℕ × ℕ)). used_of l seq) none ∙ sym (ap repeats_by (no_jump seq));
  few = λ is. omega (arith, ap (λ (l : List (ℕ × ℕ)). length l) none);
  read = λ told. refl;
  free = λ told. refl;
}

-- the check takes one item more
pub has_room : (layout : Layout) (kind : PlanType) (banks : PlanBanks) (seq : ℕ) (check : PlanCheck) (jumps : Counts) (old now : DiskState) → seq < banks.head.count → SoFar layout kind banks seq check jumps old now → HasRoom check
has_room layout kind banks seq check jumps old now below so_far = omega (arith, below, so_far.checked.taken, so_far.checked.same_count, so_far.number)

code_of : (code : Option AckCode) → Ok tt ≡ answer_of code → code ≡ None
code_of None is = refl
code_of (Some code) is = absurd cc

code_is : (code : Option AckCode) (refusal : AckCode) → Err refusal ≡ answer_of code → code ≡ Some refusal
code_is None refusal is = absurd cc
code_is (Some code) refusal is = ap (λ (r : Result (Unit {0}) AckCode). by r) (sym is)
  where
    by : Result (Unit {0}) AckCode → Option AckCode
    by (Ok u) = None
    by (Err code) = Some code

-- what stops at a fault stops at one that is the same
pub stopped_as : (a b : Option BootFault) (f : BootFault) → ((x : BootFault) → a ≡ Some x → b ≡ Some x) → StoppedBy a f → StoppedBy b f
stopped_as a b DiskFailed same stopped = tt
stopped_as a b PowerOff same stopped = tt
stopped_as a b (NotAStore byte) same stopped = same (NotAStore byte) stopped
stopped_as a b (UnknownVersion number) same stopped = same (UnknownVersion number) stopped
stopped_as a b (BadCell number) same stopped = same (BadCell number) stopped
stopped_as a b (BadItem kind seq) same stopped = same (BadItem kind seq) stopped

-- One item more is read.
module _ (layout : Layout) (kind : PlanType) (banks : PlanBanks) (seq : ℕ) (check : PlanCheck) (jumps : Counts) (old mid now : DiskState) (so_far : SoFar layout kind banks seq check jumps old mid) where
  abbrev found_in : List ℕ → Option Item
  found_in image = item_by kind banks.head.id seq (record_of layout kind banks.bank seq image)

  abbrev Finds : {T : Type 0} → (T → Type 0) → Result T BootFault → List ℕ → Type 0
  Finds P result image = Answers (missing kind seq (found_in image)) P result

  abbrev code_in : List ℕ → Option AckCode
  code_in image = PlanCode kind banks.head.count (items_read layout kind banks.bank seq image) (item_of (record_of layout kind banks.bank seq image))

  -- the same bytes are read as at first
  at_first : (G : List ℕ → Type 0) → (IsTrue mid.tells → G mid.seen) → IsTrue old.tells → G old.seen
  at_first G was told = subst G so_far.step.still.seen (was (told_after old mid so_far.step.time told))

  -- the first fault of the plan is that of this item
  fault_here : (f : BootFault) → seq < banks.head.count → IsTrue old.tells → item_fault layout kind banks.bank banks.head seq old.seen ≡ Some f → items_fault layout kind banks.bank banks.head banks.head.count old.seen ≡ Some f
  fault_here f below told is = items_fault-more layout kind banks.bank banks.head (suc seq) banks.head.count old.seen f (omega (arith, below)) (or_later _ _ f (so_far.free told) is)

  -- its record is missing, or the disk did not give it
  pub so_far_unread : {T : Type 0} (P : T → Type 0) (f : BootFault) → seq < banks.head.count → (IsTrue mid.tells → Answers (missing kind seq (item_by kind banks.head.id seq (record_of layout kind banks.bank seq mid.seen))) P (Err f))
      → IsTrue old.tells → StoppedBy (items_fault layout kind banks.bank banks.head banks.head.count old.seen) f
  so_far_unread P f below answers told =
      stopped_as (missing kind seq (found_in old.seen)) _ f (λ x is. fault_here x below told (or_first (missing kind seq (found_in old.seen)) (refused kind seq (code_in old.seen)) x is)) (at_first (λ l. Finds P (Err f) l) answers told)

  pub step_unread_item : {T U : Type 0} (f : BootFault) → Step {T = T} 1 mid now (Err f) → Step {T = U} banks.head.count old now (Err f)
  step_unread_item f step = step_stopped (seq + 1) banks.head.count old now f (step_then seq 1 old mid now tt (Err f) so_far.step step)

  -- It is read.
  module _ (item : Item) (answers : IsTrue mid.tells → (missing kind seq (item_by kind banks.head.id seq (record_of layout kind banks.bank seq mid.seen)) ≡ None) × (item_by kind banks.head.id seq (record_of layout kind banks.bank seq mid.seen) ≡ Some item)) where
    is_here : IsTrue old.tells → (missing kind seq (found_in old.seen) ≡ None) × (found_in old.seen ≡ Some item)
    is_here told = at_first (λ l. (missing kind seq (found_in l) ≡ None) × (found_in l ≡ Some item)) answers told

    item_is : IsTrue old.tells → item_of (record_of layout kind banks.bank seq old.seen) ≡ item
    item_is told = item_by-is kind banks.head.id seq (record_of layout kind banks.bank seq old.seen) item (is_here told).1

    code_is_that : IsTrue old.tells → PlanCode kind banks.head.count so_far.items item ≡ code_in old.seen
    code_is_that told = λ i. PlanCode kind banks.head.count (so_far.read told i) (sym (item_is told) i)

    -- the check refuses it
    pub so_far_refused : (refusal : AckCode) → seq < banks.head.count → AnswersByCode check item (Err refusal) → IsTrue old.tells → items_fault layout kind banks.bank banks.head banks.head.count old.seen ≡ Some (BadItem kind seq)
    so_far_refused refusal below code told =
        let is = sym (code_is_that told) ∙ code_is (PlanCode kind banks.head.count so_far.items item) refusal (code kind banks.head.count so_far.items so_far.checked) in
        fault_here (BadItem kind seq) below told (or_later (missing kind seq (found_in old.seen)) (refused kind seq (code_in old.seen)) (BadItem kind seq) (is_here told).0 (ap (refused kind seq) is))

    pub step_refused_item : {U : Type 0} → Step 1 mid now (Ok item) → Step {T = U} banks.head.count old now (Err (BadItem kind seq))
    step_refused_item step = step_found (seq + 1) banks.head.count old now item (BadItem kind seq) (λ no_disk. no_disk) (step_then seq 1 old mid now tt (Ok item) so_far.step step)

    -- the check takes it
    pub so_far_next : (next : ℕ) (taken : PlanCheck) (kept : Counts) → next ≡ seq + 1 → seq < banks.head.count → banks.head.count ≤ limit_in layout kind → Step 1 mid now (Ok item) → AnswersByCode check item (Ok tt) → JoinsItem check item taken
        → (Takes (pairs_of jumps) seq → pairs_of kept ≡ noted (pairs_of jumps) seq (jump_of item)) → (jump_of item ≡ None → pairs_of kept ≡ pairs_of jumps) → SoFar layout kind banks next taken kept old now
    so_far_next next taken kept is below low step code joins takes else_ =
        let one : next ≡ suc seq = omega (arith, is) in
        let coded : PlanCode kind banks.head.count so_far.items item ≡ None = code_of (PlanCode kind banks.head.count so_far.items item) (code kind banks.head.count so_far.items so_far.checked) in
        let kept_so = λ (mission : kind ≡ Mission). kept_is banks.head.count so_far.items item (pairs_of jumps) (pairs_of kept) seq (subst (λ (k : PlanType). PlanCode k banks.head.count so_far.items item ≡ None) mission coded) (so_far.few mission) takes else_ in
        record {
          step = subst (λ (n : ℕ). Step n old now (Ok tt)) (sym is) (step_then seq 1 old mid now tt (Ok tt) so_far.step (step_as 1 mid now item tt step));
          items = so_far.items ++ item ∷ [];
          checked = joins kind banks.head.count so_far.items so_far.checked;
          number = omega (arith, is, so_far.number, length-push so_far.items item);
          jumps_are = λ mission k. ap (λ (l : List (ℕ × ℕ)). used_of l k) (kept_so mission) ∙ repeats-push so_far.items item (pairs_of jumps) seq so_far.number (so_far.jumps_are mission) k;
          few = λ mission. subst (λ (l : List (ℕ × ℕ)). length l ≤ jumps_in (so_far.items ++ item ∷ [])) (sym (kept_so mission)) (few-push so_far.items item (pairs_of jumps) seq (so_far.few mission));
          read = λ told. (λ i. so_far.read told i ++ sym (item_is told) i ∷ []) ∙ ap (λ (n : ℕ). items_read layout kind banks.bank n old.seen) (sym one);
          free = λ told. ap (λ (n : ℕ). items_fault layout kind banks.bank banks.head n old.seen) one
              ∙ or_none _ _ (so_far.free told) (or_none _ _ (is_here told).0
              (ap (refused kind seq) (sym (code_is_that told) ∙ code_of (PlanCode kind banks.head.count so_far.items item) (code kind banks.head.count so_far.items so_far.checked))));
        }

-- all were read
pub so_far_done : (layout : Layout) (kind : PlanType) (banks : PlanBanks) (seq : ℕ) (check : PlanCheck) (jumps : Counts) (old now : DiskState) → seq ≡ banks.head.count → SoFar layout kind banks seq check jumps old now
    → Step banks.head.count old now (Ok jumps) × (IsTrue old.tells → (items_fault layout kind banks.bank banks.head banks.head.count old.seen ≡ None) × (kind ≡ Mission → HasJumps (items_read layout kind banks.bank banks.head.count old.seen) jumps))
so_far_done layout kind banks seq check jumps old now all so_far = (
  step_as banks.head.count old now tt jumps (subst (λ (n : ℕ). Step n old now (Ok tt)) all so_far.step),
  λ told. (
    ap (λ (n : ℕ). items_fault layout kind banks.bank banks.head n old.seen) (sym all) ∙ so_far.free told,
    λ mission. subst (λ (l : List Item). HasJumps l jumps) (so_far.read told ∙ ap (λ (n : ℕ). items_read layout kind banks.bank n old.seen) all) (so_far.jumps_are mission),
  ),
)
