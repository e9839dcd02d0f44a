-- An image without a fault, part by part: what each cell and each bank then holds.
use Rattle.dataman_layout.specs.Layouts.{limit_in, most_pairs}
use Rattle.dataman_layout.specs.declared.layout.Layout.{Layout}
use Rattle.std.specs.Prelude.{◌≡◌, ◌⊎◌, ◌+◌, ◌-◌, ◌*◌, ◌^◌, ◌<◌, ◌≤◌, ◌&&◌, ◌||◌, ◌==◌, ℕ, zero, suc, Bool, true, false, List, [], ◌∷◌, ◌++◌, drop, length, take, slice_get, nat_le, nat_lt, Option, Some, None, unwrap_or, cond}
use Rattle.std.specs.List.{list_all}
use Rattle.std.proofs.Common.{refl, sym, ap, subst, inl, inr, ⊎_elim, arith, ◌∙◌}
use Rattle.std.proofs.lemmas.Bool.{cases_eq, eqb-true}
use Rattle.std.proofs.lemmas.Bool.Decides.{nat_tests}
use Rattle.std.proofs.lemmas.Option.{slice_get_within}
use Rattle.std.proofs.lemmas.List.Sums.{AllPass-from_list_all, list_all-from_AllPass}
use Rattle.mission_model.specs.declared.command.Jump.{Jump}
use Rattle.mission_model.specs.declared.message.AckCode.{AckCode}
use Rattle.mission_model.specs.declared.plan.Item.{Item}
use Rattle.mission_model.specs.declared.plan.PlanHead.{PlanHead}
use Rattle.mission_model.specs.declared.plan.PlanType.{PlanType}
use Rattle.mission_model.specs.declared.plan.PlanType.TheVariants.{Mission, Fence, Safe}
use Rattle.mission_model.specs.Command.{jump_of, is_kind}
use Rattle.mission_model.specs.PlainMark.{PlainMark}
use Rattle.mission_model.specs.PlanCode.{PlanCode, PlanValid, limit_of}
use Rattle.disk_model.specs.Places.{length-field}
use Rattle.gated_cell.specs.declared.place.CellPlace.{CellPlace}
use Rattle.gated_cell.specs.Cell.{Held, Empty, Twins, InForce, held, choose, slot_at, payload_at, is_open, generation_at}
use Rattle.dataman_layout.specs.declared.item.Record.{Record}
use Rattle.dataman_layout.specs.Fields.{number_at, is_zeros}
use Rattle.dataman_layout.specs.declared.layout.Layout.TheVariants.{One, Two}
use Rattle.dataman_layout.specs.StateLaws.{state_in-record, record-state_in}
use Rattle.dataman_layout.specs.Mark.{MarkRecord, mark_in}
use Rattle.dataman_layout.specs.MarkLaws.{mark_in-record, record-mark_in}
use Rattle.plan_store.specs.StoreState.{StoredPlan}
use Rattle.plan_store.specs.CanServe.{MarkFits, IsJumpUsed}
use Rattle.bank_state.specs.Plans.{head_of}
use Rattle.bank_state.specs.StandsFor.{IsLayout, NamesIn, record_of, HasItemsIn, IsMarkOf, HasMarkIn}
use Rattle.bank_state.specs.Ledger.{item_of, items_read, plan_read}
use Rattle.bank_state.specs.Outcomes.{item_by}
use Rattle.bank_state.specs.Frames.{length-items_read, is_kind_same}
use Rattle.recovery.specs.declared.fault.BootFault.{BootFault}
use Rattle.recovery.specs.declared.fault.BootFault.TheVariants.{BadCell, UnknownVersion}
use Rattle.recovery.specs.Faults.{or_else, first_of, compat_number, layout_by, layout_in, unknown, unclean, unmovable, compat_fault, named_by, missing, refused, item_fault, items_fault, allows, jump_in, counts_jump, fits, unfit, mark_number, mark_fault}
use Rattle.recovery.specs.Standing.{kept_of, mark_at}
use Rattle.recovery.proofs.Lists.{get_push, get_last, take-push, take_one}

-- none of two faults
pub neither : (a b : Option BootFault) → or_else a b ≡ None → (a ≡ None) × (b ≡ None)
neither None b none = (refl, none)
neither (Some f) b none = absurd cc

pub none_of_two : (a b : Option BootFault) → a ≡ None → b ≡ None → or_else a b ≡ None
none_of_two a b x y = λ i. or_else (x i) (y i)

-- a test that gives a fault unless it passes
passes : (b : Bool) (x : Option BootFault) (f : BootFault) → cond b x (Some f) ≡ None → (b ≡ true) × (x ≡ None)
passes true x f none = (refl, none)
passes false x f none = absurd cc

-- what is in force in a cell of slots of n + 9 bytes has n bytes
abbrev pub HasSize : ℕ → Held → Type 0
HasSize n Empty = Unit {0}
HasSize n (Twins generation) = Unit {0}
HasSize n (InForce second generation payload) = length payload ≡ n

size_cond : (n : ℕ) (b : Bool) (x y : Held) → HasSize n x → HasSize n y → HasSize n (cond b x y)
size_cond n true x y first second = first
size_cond n false x y first second = second

choose_size : (n : ℕ) (a b : Bool) (g h : ℕ) (p q : List ℕ) → length p ≡ n → length q ≡ n → HasSize n (choose a b g h p q)
choose_size n false false g h p q first second = tt
choose_size n true false g h p q first second = first
choose_size n false true g h p q first second = second
choose_size n true true g h p q first second = size_cond n (g == h) (Twins g) (cond (nat_lt h g) (InForce false g p) (InForce true h q)) tt (size_cond n (nat_lt h g) (InForce false g p) (InForce true h q) first second)

pub held_size : (place : CellPlace) (n : ℕ) (image : List ℕ) → n ≡ place.slot_bytes - 9 → HasSize n (held place image)
held_size place n image is =
    let a = slot_at place false in
    let b = slot_at place true in
    choose_size n (is_open a image) (is_open b image) (generation_at a image) (generation_at b image) (payload_at place a image) (payload_at place b image)
    (length-field image (place.slot_bytes - 9) (a + 9) ∙ sym is) (length-field image (place.slot_bytes - 9) (b + 9) ∙ sym is)

less_than : (a b : ℕ) → nat_lt a b ≡ true → a < b
less_than a b is = grind (arith, nat_tests, is)

is_less : (a b : ℕ) → a < b → nat_lt a b ≡ true
is_less a b less = grind (arith, nat_tests, less)

-- the layout of a number, by whether it is 1 and whether it is 2
told_layout : (s : Bool) (g : ℕ) (payload : List ℕ) (b d : Bool) → (number_at 0 4 payload == 1) ≡ b → (number_at 0 4 payload == 2) ≡ d → length payload ≡ 7
    → cond b None (cond d None (Some (UnknownVersion (number_at 0 4 payload)))) ≡ None → is_zeros (drop 4 payload) ≡ true → unmovable (cond b One Two) g ≡ None → IsLayout (cond b One Two) (InForce s g payload)
told_layout s g payload true d one two size known rest movable =
    let low = passes (nat_lt g (2 ^ 64 - 1)) None (BadCell compat_number) movable in
    (record { size = size; version = eqb-true (number_at 0 4 payload) 1 one; rest = rest }, less_than g (2 ^ 64 - 1) low.0)
told_layout s g payload false true one two size known rest movable = record { size = size; version = eqb-true (number_at 0 4 payload) 2 two; rest = rest }
told_layout s g payload false false one two size known rest movable = absurd cc

-- the compat cell without a fault tells a layout
pub layout_of : (byte : ℕ) (h : Held) → HasSize 7 h → compat_fault byte h ≡ None → IsLayout (layout_in h) h
layout_of byte Empty size none = absurd cc
layout_of byte (Twins g) size none = absurd cc
layout_of byte (InForce s g payload) size none =
    let number = number_at 0 4 payload in
    let first = neither (unknown number) (first_of (unclean payload ∷ unmovable (layout_by number) g ∷ [])) none in
    let second = neither (unclean payload) (first_of (unmovable (layout_by number) g ∷ [])) first.1 in
    let third = neither (unmovable (layout_by number) g) None second.1 in
    let rest = passes (is_zeros (drop 4 payload)) None (BadCell compat_number) second.0 in
    told_layout s g payload (number == 1) (number == 2) refl refl size first.0 rest.0 third.0

same_number : (n : ℕ) → (n == n) ≡ true
same_number n = grind (arith, nat_tests)

-- the layout that it tells is the one that it has
pub layout_is : (layout : Layout) (h : Held) → IsLayout layout h → layout_in h ≡ layout
layout_is layout Empty is = absurd is
layout_is layout (Twins g) is = absurd is
layout_is One (InForce s g payload) is = ap (λ (n : ℕ). cond (n == 1) One Two) is.0.version
layout_is Two (InForce s g payload) is = ap (λ (n : ℕ). cond (n == 1) One Two) is.version

-- and one that does has no fault
pub layout_free : (layout : Layout) (byte : ℕ) (h : Held) → IsLayout layout h → compat_fault byte h ≡ None
layout_free layout byte Empty is = absurd is
layout_free layout byte (Twins g) is = absurd is
layout_free One byte (InForce s g payload) is =
    let known : unknown (number_at 0 4 payload) ≡ None = ap unknown is.0.version in
    let rest : unclean payload ≡ None = ap (λ (b : Bool). cond b None (Some (BadCell compat_number))) is.0.rest in
    let movable : unmovable (layout_by (number_at 0 4 payload)) g ≡ None = ap (λ (n : ℕ). unmovable (layout_by n) g) is.0.version ∙ ap (λ (b : Bool). cond b None (Some (BadCell compat_number))) (is_less g (2 ^ 64 - 1) is.1) in
    none_of_two _ _ known (none_of_two _ _ rest (none_of_two _ _ movable refl))
layout_free Two byte (InForce s g payload) is =
    let known : unknown (number_at 0 4 payload) ≡ None = ap unknown is.version in
    let rest : unclean payload ≡ None = ap (λ (b : Bool). cond b None (Some (BadCell compat_number))) is.rest in
    let movable : unmovable (layout_by (number_at 0 4 payload)) g ≡ None = ap (λ (n : ℕ). unmovable (layout_by n) g) is.version in
    none_of_two _ _ known (none_of_two _ _ rest (none_of_two _ _ movable refl))

-- what a state cell names, in two ways of saying it
pub names_of : (layout : Layout) (kind : PlanType) (h : Held) (bank : ℕ) (head : PlanHead) → HasSize 7 h → named_by layout kind h ≡ Some (bank, head) → NamesIn layout kind bank head h
names_of layout kind Empty bank head size is = absurd cc
names_of layout kind (Twins g) bank head size is = absurd cc
names_of layout kind (InForce s g payload) bank head size is = record-state_in (limit_in layout kind) payload bank head size is

pub named_of : (layout : Layout) (kind : PlanType) (h : Held) (bank : ℕ) (head : PlanHead) → NamesIn layout kind bank head h → named_by layout kind h ≡ Some (bank, head)
named_of layout kind Empty bank head is = absurd is
named_of layout kind (Twins g) bank head is = absurd is
named_of layout kind (InForce s g payload) bank head is = state_in-record (limit_in layout kind) payload bank head is

-- the items that are read, one by one
pub get_item : (layout : Layout) (kind : PlanType) (bank n : ℕ) (image : List ℕ) (seq : ℕ) → seq < n → slice_get (items_read layout kind bank n image) seq ≡ Some (item_of (record_of layout kind bank seq image))
get_item layout kind bank zero image seq below = absurd (omega (arith, below))
get_item layout kind bank (suc n) image seq below = ⊎_elim
    (λ is. get_last (items_read layout kind bank n image) (item_of (record_of layout kind bank n image)) seq (omega (arith, is, length-items_read layout kind bank n image)) ∙ ap (λ (k : ℕ). Some (item_of (record_of layout kind bank k image))) (sym is))
    (λ other. get_push (items_read layout kind bank n image) (item_of (record_of layout kind bank n image)) seq (omega (arith, below, other, length-items_read layout kind bank n image)) ∙ get_item layout kind bank n image seq (omega (arith, below, other)))
    (cases_eq seq n)

take_items : (layout : Layout) (kind : PlanType) (bank n : ℕ) (image : List ℕ) (k : ℕ) → k ≤ n → take k (items_read layout kind bank n image) ≡ items_read layout kind bank k image
take_items layout kind bank zero image zero low = refl
take_items layout kind bank zero image (suc k) low = absurd (omega (arith, low))
take_items layout kind bank (suc n) image k low = ⊎_elim
    (λ is. subst (λ (j : ℕ). take j (items_read layout kind bank (suc n) image) ≡ items_read layout kind bank j image) (sym is) (all_of (suc n)))
    (λ other. take-push (items_read layout kind bank n image) (item_of (record_of layout kind bank n image)) k (omega (arith, low, other, length-items_read layout kind bank n image)) ∙ take_items layout kind bank n image k (omega (arith, low, other)))
    (cases_eq k (suc n))
  where
    take_whole : (xs : List Item) (j : ℕ) → j ≡ length xs → take j xs ≡ xs
    take_whole [] zero is = refl
    take_whole [] (suc j) is = absurd (omega (arith, is))
    take_whole (x ∷ xs) zero is = absurd (omega (arith, is))
    take_whole (x ∷ xs) (suc j) is = ap (λ (l : List Item). x ∷ l) (take_whole xs j (omega (arith, is)))

    all_of : (m : ℕ) → take m (items_read layout kind bank m image) ≡ items_read layout kind bank m image
    all_of m = take_whole (items_read layout kind bank m image) m (sym (length-items_read layout kind bank m image))

-- no item among those without a fault has one
each_free : (layout : Layout) (kind : PlanType) (bank : ℕ) (head : PlanHead) (n : ℕ) (image : List ℕ) (seq : ℕ) → seq < n → items_fault layout kind bank head n image ≡ None → item_fault layout kind bank head seq image ≡ None
each_free layout kind bank head zero image seq below none = absurd (omega (arith, below))
each_free layout kind bank head (suc n) image seq below none =
    let both = neither (items_fault layout kind bank head n image) (item_fault layout kind bank head n image) none in
    ⊎_elim (λ is. subst (λ (k : ℕ). item_fault layout kind bank head k image ≡ None) (sym is) both.1) (λ other. each_free layout kind bank head n image seq (omega (arith, below, other)) both.0) (cases_eq seq n)

kind_is : (a b : PlanType) → is_kind a b ≡ true → a ≡ b
kind_is Mission Mission is = refl
kind_is Mission Fence is = absurd cc
kind_is Mission Safe is = absurd cc
kind_is Fence Mission is = absurd cc
kind_is Fence Fence is = refl
kind_is Fence Safe is = absurd cc
kind_is Safe Mission is = absurd cc
kind_is Safe Fence is = absurd cc
kind_is Safe Safe is = refl

and_both : (a b : Bool) → (a && b) ≡ true → (a ≡ true) × (b ≡ true)
and_both true b is = (refl, is)
and_both false b is = absurd cc

some_if : (b : Bool) (x : Item) → cond b (Some x) None ≡ None → b ≡ false
some_if true x none = absurd cc
some_if false x none = refl

bool_cases : (b : Bool) → (b ≡ true) ⊎ (b ≡ false)
bool_cases true = inl refl
bool_cases false = inr refl

missing_none : (kind : PlanType) (seq : ℕ) (o : Option Item) → missing kind seq o ≡ None → (item : Item) × (o ≡ Some item)
missing_none kind seq None none = absurd cc
missing_none kind seq (Some item) none = (item, refl)

refused_none : (kind : PlanType) (seq : ℕ) (code : Option AckCode) → refused kind seq code ≡ None → code ≡ None
refused_none kind seq None none = refl
refused_none kind seq (Some code) none = absurd cc

when_some : (b : Bool) (x y : Item) → cond b (Some x) None ≡ Some y → (b ≡ true) × (x ≡ y)
when_some true x y is = (refl, ap (λ (o : Option Item). unwrap_or o x) is)
when_some false x y is = absurd cc

-- the record of an item that was found
record_found : (kind : PlanType) (id seq : ℕ) (o : Option Record) (item : Item) → item_by kind id seq o ≡ Some item → o ≡ Some (record { kind = kind; id = id; seq = seq; item = item })
record_found kind id seq None item is = absurd cc
record_found kind id seq (Some r) item is =
    let test = when_some (is_kind r.kind kind && r.id == id && r.seq == seq) r.item item is in
    let first = and_both (is_kind r.kind kind && r.id == id) (r.seq == seq) test.0 in
    let second = and_both (is_kind r.kind kind) (r.id == id) first.0 in
    let same_kind = kind_is r.kind kind second.0 in
    let same_id = eqb-true r.id id second.1 in
    let same_seq = eqb-true r.seq seq first.1 in
    (λ i. Some (record { kind = same_kind i; id = same_id i; seq = same_seq i; item = test.1 i }))

item_of_record : (kind : PlanType) (id seq : ℕ) (item : Item) → item_by kind id seq (Some (record { kind = kind; id = id; seq = seq; item = item })) ≡ Some item
item_of_record kind id seq item = (λ i. cond (is_kind_same kind i && same_number id i && same_number seq i) (Some item) None)

-- the record at a seq whose item has no fault
record_here : (layout : Layout) (kind : PlanType) (bank : ℕ) (head : PlanHead) (seq : ℕ) (image : List ℕ) → item_fault layout kind bank head seq image ≡ None
    → (record_of layout kind bank seq image ≡ Some (record { kind = kind; id = head.id; seq = seq; item = item_of (record_of layout kind bank seq image) }))
    × (PlanCode kind head.count (items_read layout kind bank seq image) (item_of (record_of layout kind bank seq image)) ≡ None)
record_here layout kind bank head seq image none =
    let there = record_of layout kind bank seq image in
    let both = neither (missing kind seq (item_by kind head.id seq there)) (refused kind seq (PlanCode kind head.count (items_read layout kind bank seq image) (item_of there))) none in
    let found = missing_none kind seq (item_by kind head.id seq there) both.0 in
    let is = record_found kind head.id seq there found.0 found.1 in (
      subst (λ (item : Item). there ≡ Some (record { kind = kind; id = head.id; seq = seq; item = item })) (sym (ap item_of is)) is,
      refused_none kind seq _ both.1,
    )

-- a layout holds no more items of a type than a plan may have
limit_in-le : (layout : Layout) (kind : PlanType) → limit_in layout kind ≤ limit_of kind
limit_in-le One Mission = omega arith
limit_in-le One Fence = omega arith
limit_in-le One Safe = omega arith
limit_in-le Two kind = omega arith

-- A plan of whose items none has a fault
module _ (layout : Layout) (kind : PlanType) (bank : ℕ) (head : PlanHead) (image : List ℕ) (none : items_fault layout kind bank head head.count image ≡ None) where
  items : List Item
  items = items_read layout kind bank head.count image

  here : (seq : ℕ) → seq < head.count
      → (record_of layout kind bank seq image ≡ Some (record { kind = kind; id = head.id; seq = seq; item = item_of (record_of layout kind bank seq image) }))
      × (PlanCode kind head.count (items_read layout kind bank seq image) (item_of (record_of layout kind bank seq image)) ≡ None)
  here seq below = record_here layout kind bank head seq image (each_free layout kind bank head head.count image seq below none)

  within : (seq : ℕ) (item : Item) → slice_get (items_read layout kind bank head.count image) seq ≡ Some item → seq < head.count
  within seq item at = omega (arith, slice_get_within (items_read layout kind bank head.count image) seq item at, length-items_read layout kind bank head.count image)

  item_at : (seq : ℕ) (item : Item) → slice_get (items_read layout kind bank head.count image) seq ≡ Some item → item_of (record_of layout kind bank seq image) ≡ item
  item_at seq item at = ap (λ (o : Option Item). unwrap_or o item) (sym (get_item layout kind bank head.count image seq (within seq item at)) ∙ at)

  -- stands in its bank
  pub items_stand : HasItemsIn layout kind bank (plan_read layout kind bank head image) image
  items_stand seq item at =
      subst (λ (x : Item). record_of layout kind bank seq image ≡ Some (record { kind = kind; id = head.id; seq = seq; item = x })) (item_at seq item at) (here seq (within seq item at)).0

  -- and is valid
  pub items_valid : head.count ≤ limit_in layout kind → PlanValid kind (items_read layout kind bank head.count image)
  items_valid low = record {
    within = omega (arith, low, limit_in-le layout kind, length-items_read layout kind bank head.count image);
    accepted = λ seq item at.
        let below = within seq item at in
        (λ i. PlanCode kind (length-items_read layout kind bank head.count image i) (take_items layout kind bank head.count image seq (omega (arith, below)) i) (sym (item_at seq item at) i)) ∙ (here seq below).1;
  }

-- A valid plan that stands in its bank
module _ (layout : Layout) (kind : PlanType) (bank : ℕ) (plan : StoredPlan) (image : List ℕ) (stand : HasItemsIn layout kind bank plan image) (valid : PlanValid kind plan.items) where
  get_some : (xs : List Item) (k : ℕ) → k < length xs → (x : Item) × (slice_get xs k ≡ Some x)
  get_some [] k below = absurd (omega (arith, below))
  get_some (x ∷ xs) zero below = (x, refl)
  get_some (x ∷ xs) (suc k) below = get_some xs k (omega (arith, below))

  read_as : (n : ℕ) → n ≤ length plan.items → items_read layout kind bank n image ≡ take n plan.items
  read_as zero low = refl
  read_as (suc n) low =
      let item = get_some plan.items n (omega (arith, low)) in
      let is : item_of (record_of layout kind bank n image) ≡ item.0 = ap item_of (stand n item.0 item.1) in
      (λ i. read_as n (omega (arith, low)) i ++ is i ∷ []) ∙ sym (take_one plan.items n item.0 item.1)

  item_free : (n : ℕ) → n < length plan.items → item_fault layout kind bank (head_of plan) n image ≡ None
  item_free n below =
      let item = get_some plan.items n below in
      let is = stand n item.0 item.1 in
      let coded : PlanCode kind (length plan.items) (items_read layout kind bank n image) (item_of (record_of layout kind bank n image)) ≡ None =
      (λ i. PlanCode kind (length plan.items) (read_as n (omega (arith, below)) i) (item_of (is i))) ∙ valid.accepted n item.0 item.1 in
      none_of_two _ _ (ap (λ (o : Option Record). missing kind n (item_by kind plan.id n o)) is ∙ ap (missing kind n) (item_of_record kind plan.id n item.0)) (ap (refused kind n) coded)

  -- has no fault
  pub plan_free : (n : ℕ) → n ≤ length plan.items → items_fault layout kind bank (head_of plan) n image ≡ None
  plan_free zero low = refl
  plan_free (suc n) low = none_of_two _ _ (plan_free n (omega (arith, low))) (item_free n (omega (arith, low)))

-- a pair counts a jump, in two ways of saying it
jump_allows : (o : Option Jump) (used : ℕ) → allows o used ≡ true → (jump : Jump) × (o ≡ Some jump) × (used ≤ jump.repeats)
jump_allows None used is = absurd cc
jump_allows (Some jump) used is = (jump, refl, grind (arith, nat_tests, is))

item_jumps : (o : Option Item) (jump : Jump) → jump_in o ≡ Some jump → (item : Item) × (o ≡ Some item) × (jump_of item ≡ Some jump)
item_jumps None jump is = absurd cc
item_jumps (Some item) jump is = (item, refl, is)

jump_used : (items : List Item) (pair : ℕ × ℕ) → counts_jump items pair ≡ true → IsJumpUsed items pair
jump_used items pair is =
    let jump = jump_allows (jump_in (slice_get items pair.0)) pair.1 is in
    let item = item_jumps (slice_get items pair.0) jump.0 jump.1 in
    (item.0, jump.0, item.1, item.2, jump.2)

is_low : (a b : ℕ) → a ≤ b → nat_le a b ≡ true
is_low a b low = grind (arith, nat_tests, low)

used_counts : (items : List Item) (pair : ℕ × ℕ) → IsJumpUsed items pair → counts_jump items pair ≡ true
used_counts plan pair used = ap (λ (o : Option Item). allows (jump_in o) pair.1) used.2 ∙ ap (λ (o : Option Jump). allows o pair.1) used.3 ∙ is_low pair.1 used.1.repeats used.4

-- a mark fits, in two ways of saying it
fits_is : (mark : PlainMark) (mission : StoredPlan) → fits mark mission ≡ true → MarkFits mark mission
fits_is mark mission is =
    let first = and_both (mark.id == mission.id) (nat_le mark.index (length mission.items) && list_all (counts_jump mission.items) mark.pairs) is in
    let second = and_both (nat_le mark.index (length mission.items)) (list_all (counts_jump mission.items) mark.pairs) first.1 in
    let each = AllPass-from_list_all (counts_jump mission.items) mark.pairs second.1 in
    record {
      id = eqb-true mark.id mission.id first.0;
      index = grind (arith, nat_tests, second.0);
      jumps = λ k d below. jump_used mission.items _ (each k d below);
    }

is_fits : (mark : PlainMark) (mission : StoredPlan) → MarkFits mark mission → fits mark mission ≡ true
is_fits mark mission is =
    let same : (mark.id == mission.id) ≡ true = grind (arith, nat_tests, is.id) in
    let low = is_low mark.index (length mission.items) is.index in
    let each = list_all-from_AllPass (counts_jump mission.items) mark.pairs (λ k d below. used_counts mission.items _ (is.jumps k d below)) in
    (λ i. same i && (low i && each i))

or_true : (a b : Bool) → (a || b) ≡ true → (a ≡ true) ⊎ (b ≡ true)
or_true true b is = inl refl
or_true false b is = inr is

kept_older : (id : ℕ) (mark : PlainMark) → mark.id < id → kept_of id (Some mark) ≡ None
kept_older id mark older =
    let differ : (mark.id == id) ≡ false = grind (arith, nat_tests, older) in
    ap (λ (b : Bool). cond b (Some mark) None) differ

kept_same : (id : ℕ) (mark : PlainMark) → mark.id ≡ id → kept_of id (Some mark) ≡ Some mark
kept_same id mark same =
    let is : (mark.id == id) ≡ true = grind (arith, nat_tests, same) in
    ap (λ (b : Bool). cond b (Some mark) None) is

pub mark_is : (mission : StoredPlan) (mark : PlainMark) → unfit mission (Some mark) ≡ None → IsMarkOf mission (kept_of mission.id (Some mark)) mark
mark_is mission mark none =
    let test = passes (nat_lt mark.id mission.id || fits mark mission) None (BadCell mark_number) none in
    ⊎_elim
    (λ older. let less : mark.id < mission.id = grind (arith, nat_tests, older) in subst (λ (o : Option PlainMark). IsMarkOf mission o mark) (sym (kept_older mission.id mark less)) less)
    (λ same. let is = fits_is mark mission same in subst (λ (o : Option PlainMark). IsMarkOf mission o mark) (sym (kept_same mission.id mark is.id)) (refl, is))
    (or_true (nat_lt mark.id mission.id) (fits mark mission) test.0)

stored_mark : (layout : Layout) (mission : StoredPlan) (payload : List ℕ) (o : Option PlainMark) → length payload ≡ 7 + 4 * most_pairs layout → mark_in (most_pairs layout) payload ≡ o → unfit mission o ≡ None → (stored : PlainMark) × MarkRecord (most_pairs layout) payload stored × IsMarkOf mission (kept_of mission.id o) stored
stored_mark layout mission payload None size is none = absurd cc
stored_mark layout mission payload (Some mark) size is none = (mark, record-mark_in (most_pairs layout) payload mark size is, mark_is mission mark none)

-- the mark cell without a fault has a mark of the mission, or none of it
pub mark_of : (layout : Layout) (mission : StoredPlan) (h : Held) → HasSize (7 + 4 * most_pairs layout) h → mark_fault layout mission h ≡ None → HasMarkIn layout mission (mark_at layout mission.id h) h
mark_of layout mission Empty size none = refl
mark_of layout mission (Twins g) size none = absurd cc
mark_of layout mission (InForce s g payload) size none = stored_mark layout mission payload (mark_in (most_pairs layout) payload) size refl none

either_true : (a b : Bool) → (a ≡ true) ⊎ (b ≡ true) → (a || b) ≡ true
either_true a b (inl is) = ap (λ (x : Bool). x || b) is
either_true true b (inr is) = refl
either_true false b (inr is) = is

mark_passes : (mission : StoredPlan) (mark : Option PlainMark) (stored : PlainMark) → IsMarkOf mission mark stored → (nat_lt stored.id mission.id ≡ true) ⊎ (fits stored mission ≡ true)
mark_passes mission None stored is = inl (grind (arith, nat_tests, is))
mark_passes mission (Some mark) stored is = inr (subst (λ (m : PlainMark). fits m mission ≡ true) (sym is.0) (is_fits mark mission is.1))

-- and one that has has no fault
pub mark_free : (layout : Layout) (mission : StoredPlan) (mark : Option PlainMark) (h : Held) → HasMarkIn layout mission mark h → mark_fault layout mission h ≡ None
mark_free layout mission mark Empty has = refl
mark_free layout mission mark (Twins g) has = absurd has
mark_free layout mission mark (InForce s g payload) has =
    ap (unfit mission) (mark_in-record (most_pairs layout) payload has.0 has.1)
    ∙ ap (λ (b : Bool). cond b None (Some (BadCell mark_number))) (either_true (nat_lt has.0.id mission.id) (fits has.0 mission) (mark_passes mission mark has.0 has.2))
