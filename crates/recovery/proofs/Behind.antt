-- What stands behind the compat cell, and what calls elsewhere leave of it.
use Rattle.std.specs.Prelude.{◌≡◌, ◌≤◌, ◌<◌, ℕ, List, length, Option, unwrap_or}
use Rattle.std.proofs.Common.{sym, ap, subst, inl, inr, arith, ◌∙◌}
use Rattle.std.proofs.lemmas.Option.{slice_get_within}
use Rattle.mission_model.specs.declared.plan.PlanType.{PlanType}
use Rattle.mission_model.specs.PlainMark.{PlainMark}
use Rattle.disk_model.specs.Bytes.{Torn}
use Rattle.disk_model.specs.Places.{Apart, field_apart}
use Rattle.gated_cell.specs.Cell.{Held, Empty, Twins, InForce, held}
use Rattle.gated_cell.specs.Beside.{held_beside}
use Rattle.dataman_layout.specs.declared.layout.Layout.{Layout}
use Rattle.dataman_layout.specs.declared.layout.Layout.TheVariants.{One, Two}
use Rattle.dataman_layout.specs.Item.{item_in}
use Rattle.dataman_layout.specs.Layouts.{limit_in}
use Rattle.dataman_layout.specs.Places.{Part, Compat, State, TheMark, Bank, place_of, size_of, length_in, rank, record_at}
use Rattle.dataman_layout.specs.PlaceLaws.{part_within, parts_apart, record_within, behind_one}
use Rattle.plan_store.specs.StoreState.{StoredPlan, first_mark}
use Rattle.bank_state.specs.Plans.{Plans, plan_among, head_of}
use Rattle.bank_state.specs.StandsFor.{compat_place, state_cell, mark_cell, IsLayout, NamesIn, HasPlanIn, HasMarkIn, StandsIn}

-- the image has these plans and this mark behind its compat cell
pub record Behind (layout : Layout) (image : List ℕ) (plans : Plans) (mark : PlainMark) : Type 0 where
  pub each : (kind : PlanType) → HasPlanIn layout kind (plan_among plans kind) image
  pub stored : Option PlainMark
  pub has : HasMarkIn layout plans.mission stored (held (mark_cell layout) image)
  pub is : mark ≡ unwrap_or stored (first_mark plans.mission.id)

pub behind_of : (layout : Layout) (image : List ℕ) (plans : Plans) (mark : PlainMark) → StandsIn layout image plans mark → Behind layout image plans mark
behind_of layout image plans mark stands = record { each = stands.each; stored = stands.stored; has = stands.has; is = stands.is }

pub stands_of : (layout : Layout) (image : List ℕ) (plans : Plans) (mark : PlainMark) → IsLayout layout (held compat_place image) → Behind layout image plans mark → StandsIn layout image plans mark
stands_of layout image plans mark told behind = record { layout = told; each = behind.each; stored = behind.stored; has = behind.has; is = behind.is }

-- n bytes from `at` on are of no part of a layout but its compat cell
abbrev pub IsOffLayout : Layout → ℕ → ℕ → Type 0
IsOffLayout layout at n = (part : Part) → (rank part ≡ 0 → ⊥) → Apart (place_of layout part) (size_of layout part) at n

count_within : (layout : Layout) (kind : PlanType) (bank : ℕ) (plan : StoredPlan) (h : Held) → NamesIn layout kind bank (head_of plan) h → length plan.items ≤ limit_in layout kind
count_within layout kind bank plan Empty names = absurd names
count_within layout kind bank plan (Twins g) names = absurd names
count_within layout kind bank plan (InForce s g payload) names = names.within

module _ (layout : Layout) (at n : ℕ) (d c : List ℕ) (off : IsOffLayout layout at n) (torn : Torn at n d c) where
  record_off : (kind : PlanType) (bank seq : ℕ) → seq < limit_in layout kind → Apart (record_at layout kind bank seq) 48 at n
  record_off kind bank seq below = sides (off (Bank kind bank) (λ same. absurd (omega (arith, same))))
    where
      sides : Apart (place_of layout (Bank kind bank)) (size_of layout (Bank kind bank)) at n → Apart (record_at layout kind bank seq) 48 at n
      sides (inl before) = inl (omega (arith, before, (record_within layout kind bank seq below).1))
      sides (inr behind) = inr (omega (arith, behind, (record_within layout kind bank seq below).0))

  state_stays : (kind : PlanType) → held (state_cell layout kind) c ≡ held (state_cell layout kind) d
  state_stays kind = held_beside (state_cell layout kind) at n d c (omega arith) (off (State kind) (λ same. absurd (omega (arith, same)))) torn

  mark_stays : held (mark_cell layout) c ≡ held (mark_cell layout) d
  mark_stays = held_beside (mark_cell layout) at n d c (omega arith) (off TheMark (λ same. absurd (omega (arith, same)))) torn

  plan_stays : (kind : PlanType) (plan : StoredPlan) → HasPlanIn layout kind plan d → HasPlanIn layout kind plan c
  plan_stays kind plan has = record {
    bank = has.bank;
    named = subst (λ (h : Held). NamesIn layout kind has.bank (head_of plan) h) (sym (state_stays kind)) has.named;
    items = λ seq item is.
        let within = count_within layout kind has.bank plan (held (state_cell layout kind) d) has.named in
        let below : seq < limit_in layout kind = omega (arith, slice_get_within plan.items seq item is, within) in
        ap item_in (field_apart (record_at layout kind has.bank seq) 48 at n d c (record_off kind has.bank seq below) torn) ∙ has.items seq item is;
    valid = has.valid;
  }

  -- it stays under calls elsewhere
  pub behind_stays : (plans : Plans) (mark : PlainMark) → Behind layout d plans mark → Behind layout c plans mark
  behind_stays plans mark was = record {
    each = λ kind. plan_stays kind (plan_among plans kind) (was.each kind);
    stored = was.stored;
    has = subst (λ (h : Held). HasMarkIn layout plans.mission was.stored h) (sym mark_stays) was.has;
    is = was.is;
  }

-- what stands behind layout 1 is off it
pub off_one : (at n : ℕ) → length_in One ≤ at → IsOffLayout One at n
off_one at n low = λ part other. inl (omega (arith, part_within One part, low))

-- the compat cell is off both layouts
pub compat_off_one : IsOffLayout One 0 32
compat_off_one part other = turned (parts_apart One part Compat other)
  where
    turned : Apart (place_of One part) (size_of One part) 0 32 → Apart (place_of One part) (size_of One part) 0 32
    turned apart = apart

pub compat_off_two : IsOffLayout Two 0 32
compat_off_two part other = inr (omega (arith, behind_one part other))
