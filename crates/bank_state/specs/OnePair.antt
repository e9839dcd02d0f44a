-- An image stands for at most one set of plans and one mark, and in one layout.
use Rattle.std.proofs.Common.{◌≡◌, ℕ, suc, List, [], ◌∷◌, Option, Some, None, length, slice_get, unwrap_or, refl, sym, ap, subst, ◌∙◌, arith}
use Rattle.mission_model.specs.declared.plan.PlanType.{PlanType}
use Rattle.mission_model.specs.declared.plan.PlanType.TheVariants.{Mission, Fence, Safe}
use Rattle.mission_model.specs.declared.plan.PlanHead.{PlanHead}
use Rattle.mission_model.specs.declared.plan.Item.{Item}
use Rattle.gated_cell.specs.Cell.{Held, Empty, Twins, InForce, held}
use Rattle.dataman_layout.specs.declared.item.Record.{Record}
use Rattle.dataman_layout.specs.declared.layout.Layout.{Layout}
use Rattle.dataman_layout.specs.declared.layout.Layout.TheVariants.{One, Two}
use Rattle.dataman_layout.specs.Layouts.{limit_in, most_pairs}
use Rattle.dataman_layout.specs.StateLaws.{state_in-record}
use Rattle.dataman_layout.specs.Mark.{PlainMark}
use Rattle.dataman_layout.specs.MarkLaws.{one_mark}
use Rattle.plan_store.specs.StoreState.{StoredPlan, first_mark}
use Rattle.bank_state.specs.Plans.{Plans, head_of}
use Rattle.bank_state.specs.StandsFor.{compat_place, state_cell, mark_cell, IsLayout, NamesIn, HasItemsIn, HasPlanIn, IsMarkOf, HasMarkIn, StandsIn, StandsFor}

-- a state cell names one bank and one plan
pub one_name : (layout : Layout) (kind : PlanType) (h : Held) (a b : ℕ) (x y : PlanHead) → NamesIn layout kind a x h → NamesIn layout kind b y h → (a ≡ b) × (x ≡ y)
one_name layout kind Empty a b x y first second = absurd first
one_name layout kind (Twins g) a b x y first second = absurd first
one_name layout kind (InForce s g payload) a b x y first second =
    let both : Some (a, x) ≡ Some (b, y) = sym (state_in-record (limit_in layout kind) payload a x first) ∙ state_in-record (limit_in layout kind) payload b y second in
    let pair = ap (λ (o : Option (ℕ × PlanHead)). unwrap_or o (a, x)) both in
    (ap (λ (p : ℕ × PlanHead). p.0) pair, ap (λ (p : ℕ × PlanHead). p.1) pair)

-- lists of one length with the same element at each place are the same
pub same_items : (xs ys : List Item) → length xs ≡ length ys → ((k : ℕ) (x y : Item) → slice_get xs k ≡ Some x → slice_get ys k ≡ Some y → x ≡ y) → xs ≡ ys
same_items [] [] long same = refl
same_items [] (y ∷ ys) long same = absurd (omega arith)
same_items (x ∷ xs) [] long same = absurd (omega arith)
same_items (x ∷ xs) (y ∷ ys) long same =
    let first : x ≡ y = same 0 x y refl refl in
    let rest : xs ≡ ys = same_items xs ys (omega arith) (λ k. same (suc k)) in
    λ i. first i ∷ rest i

-- a bank has one plan of a head
pub one_plan : (layout : Layout) (kind : PlanType) (bank : ℕ) (p q : StoredPlan) (image : List ℕ) → head_of p ≡ head_of q → HasItemsIn layout kind bank p image → HasItemsIn layout kind bank q image → p ≡ q
one_plan layout kind bank p q image heads first second =
    let ids : p.id ≡ q.id = ap (λ (h : PlanHead). h.id) heads in
    let lengths : length p.items ≡ length q.items = ap (λ (h : PlanHead). h.count) heads in
    let items : p.items ≡ q.items = same_items p.items q.items lengths (λ k x y at there.
    let records = sym (first k x at) ∙ second k y there in
    ap (λ (o : Option Record). (unwrap_or o (record { kind = kind; id = p.id; seq = k; item = x })).item) records) in
    λ i. record { id = ids i; items = items i }

-- an image has one plan of a type
pub same_plan : (layout : Layout) (kind : PlanType) (p q : StoredPlan) (image : List ℕ) → HasPlanIn layout kind p image → HasPlanIn layout kind q image → p ≡ q
same_plan layout kind p q image first second =
    let names = one_name layout kind (held (state_cell layout kind) image) first.bank second.bank (head_of p) (head_of q) first.named second.named in
    one_plan layout kind first.bank p q image names.1 first.items (subst (λ (b : ℕ). HasItemsIn layout kind b q image) (sym names.0) second.items)

-- a stored mark counts in one way
one_count : (mission : StoredPlan) (a b : Option PlainMark) (s t : PlainMark) → s ≡ t → IsMarkOf mission a s → IsMarkOf mission b t → a ≡ b
one_count mission None None s t same first second = refl
one_count mission None (Some m) s t same first second = absurd (omega (arith, first, second.1.id, ap (λ (x : PlainMark). x.id) (same ∙ second.0)))
one_count mission (Some m) None s t same first second = absurd (omega (arith, second, first.1.id, ap (λ (x : PlainMark). x.id) (sym same ∙ first.0)))
one_count mission (Some m) (Some n) s t same first second = ap (λ (x : PlainMark). Some x) (sym first.0 ∙ same ∙ second.0)

-- the mark cell has one mark of a mission
pub one_stored : (layout : Layout) (mission : StoredPlan) (a b : Option PlainMark) (h : Held) → HasMarkIn layout mission a h → HasMarkIn layout mission b h → a ≡ b
one_stored layout mission a b Empty first second = first ∙ sym second
one_stored layout mission a b (Twins g) first second = absurd first
one_stored layout mission a b (InForce s g payload) first second =
    one_count mission a b first.0 second.0 (one_mark (most_pairs layout) payload first.0 second.0 first.1 second.1) first.2 second.2

-- at most one pair in a layout
pub one_pair_in : (layout : Layout) (image : List ℕ) (plans others : Plans) (mark other : PlainMark) → StandsIn layout image plans mark → StandsIn layout image others other → (plans ≡ others) × (mark ≡ other)
one_pair_in layout image plans others mark other first second =
    let mission = same_plan layout Mission plans.mission others.mission image (first.each Mission) (second.each Mission) in
    let fence = same_plan layout Fence plans.fence others.fence image (first.each Fence) (second.each Fence) in
    let safe = same_plan layout Safe plans.safe others.safe image (first.each Safe) (second.each Safe) in
    let stored = one_stored layout plans.mission first.stored second.stored (held (mark_cell layout) image) first.has
    (subst (λ (p : StoredPlan). HasMarkIn layout p second.stored (held (mark_cell layout) image)) (sym mission) second.has) in
    ((λ i. record { mission = mission i; fence = fence i; safe = safe i }), first.is ∙ (λ i. unwrap_or (stored i) (first_mark (mission i).id)) ∙ sym second.is)

-- the compat cell tells one layout
pub one_layout : (a b : Layout) (h : Held) → IsLayout a h → IsLayout b h → a ≡ b
one_layout One One h first second = refl
one_layout Two Two h first second = refl
one_layout One Two (InForce s g payload) first second = absurd (omega (arith, first.0.version, second.version))
one_layout One Two (Twins g) first second = absurd first
one_layout One Two Empty first second = absurd first
one_layout Two One (InForce s g payload) first second = absurd (omega (arith, first.version, second.0.version))
one_layout Two One (Twins g) first second = absurd first
one_layout Two One Empty first second = absurd first

-- at most one pair
pub one_pair : (image : List ℕ) (plans others : Plans) (mark other : PlainMark) → StandsFor image plans mark → StandsFor image others other → (plans ≡ others) × (mark ≡ other)
one_pair image plans others mark other first second =
    let layout = one_layout first.0 second.0 (held compat_place image) first.1.layout second.1.layout in
    one_pair_in first.0 image plans others mark other first.1 (subst (λ (x : Layout). StandsIn x image others other) (sym layout) second.1)
