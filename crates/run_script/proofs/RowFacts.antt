-- What the table says of the numbers of each form.
use Rattle.std.proofs.Common.{◌≡◌, ℕ, ◌<◌, ◌≤◌, List, [], ◌∷◌, Bool, true, false, refl, sym, subst, arith, inl, inr}
use Rattle.std.specs.Prelude.{Option, Some, None, find, ℤ, ◌≤ℤ◌, ⊤, Ok, if◌then◌else◌, codes}
use Rattle.nav_num.specs.WholeLaws.{numeral-whole_number}
use Rattle.mission_model.specs.BootScripts.{NamesTypes}
use Rattle.mission_model.specs.declared.limits.TheConstants.{MAX_LINKS, MAX_WATCHERS, MAX_PLACES, MAX_TKO_LAND, MAX_RTL_TYPE}
use Rattle.mission_model.specs.declared.item_check.TheConstants.{MIN_LATITUDE, MAX_LATITUDE, MIN_LONGITUDE, MAX_LONGITUDE}
use Rattle.run_script.specs.declared.table.Form.{Form}
use Rattle.run_script.specs.declared.table.Form.TheVariants as form
use Rattle.run_script.specs.declared.table.Setting.TheVariants as setting
use Rattle.run_script.specs.declared.table.LinkForm.{LinkForm}
use Rattle.run_script.specs.declared.table.LinkForm.TheVariants as link
use Rattle.run_script.specs.declared.table.NavForm.{NavForm}
use Rattle.run_script.specs.declared.table.NavForm.TheVariants as nav
use Rattle.run_script.specs.declared.table.Choice.TheVariants as choice
use Rattle.run_script.specs.declared.table.Row.{Row}
use Rattle.run_script.specs.declared.table.Slot.TheVariants as slot
use Rattle.run_script.specs.declared.table.TheConstants.{PARAM_ROWS, HOME_ROWS, PLAN_ROWS, BOOT_ROWS, LINK_ROWS, NAV_ROWS, WATCH_ROWS}
use Rattle.run_script.specs.declared.value.Value.{Value}
use Rattle.run_script.specs.declared.value.Values.{Values}
use Rattle.run_script.specs.Choices.{is_same, number_among}
use Rattle.run_script.specs.Table.{rows_of, head_rows, flight_rows}
use Rattle.run_script.specs.Lines.{word, Reads, ReadsRow, row_among, found_or, is_of, agrees_with}
use Rattle.run_script.specs.Forms.{byte_of, long_of, signed_of}
use Rattle.std.specs.List.{list_any}

byte_range : (low high : ℕ) (w : List ℕ) (v : Value) → Reads (slot.Byte low high) w v → (low ≤ byte_of v) × (byte_of v ≤ high)
byte_range low high w v h =
    let whole = numeral-whole_number low high w h.0 h.1 in
    subst (λ (x : Value). (low ≤ byte_of x) × (byte_of x ≤ high)) (sym h.2) (whole.low, whole.high)

long_range : (low high : ℕ) (w : List ℕ) (v : Value) → Reads (slot.Long low high) w v → low ≤ long_of v
long_range low high w v h =
    let whole = numeral-whole_number low high w h.0 h.1 in
    subst (λ (x : Value). low ≤ long_of x) (sym h.2) whole.low

degrees_range : (low high : ℤ) (w : List ℕ) (v : Value) → Reads (slot.Degrees low high) w v → (low ≤ℤ signed_of v) × (signed_of v ≤ℤ high)
degrees_range low high w v h = subst (λ (x : Value). (low ≤ℤ signed_of x) × (signed_of x ≤ℤ high)) (sym h.4) (h.2, h.3)

types_of : (a b c d : Bool) (n : ℕ) → (if a then Some 0 else (if b then Some 1 else (if c then Some 2 else (if d then Some 255 else None)))) ≡ Some n → NamesTypes n
types_of true b c d n e = inl (omega (arith, some_is 0 n e))
  where
    some_is : (x y : ℕ) → ◌≡◌ {A = Option ℕ} (Some x) (Some y) → x ≡ y
    some_is x y e = cc
types_of false true c d n e = inl (omega (arith, some_is 1 n e))
  where
    some_is : (x y : ℕ) → ◌≡◌ {A = Option ℕ} (Some x) (Some y) → x ≡ y
    some_is x y e = cc
types_of false false true d n e = inl (omega (arith, some_is 2 n e))
  where
    some_is : (x y : ℕ) → ◌≡◌ {A = Option ℕ} (Some x) (Some y) → x ≡ y
    some_is x y e = cc
types_of false false false true n e = inr (sym (some_is 255 n e))
  where
    some_is : (x y : ℕ) → ◌≡◌ {A = Option ℕ} (Some x) (Some y) → x ≡ y
    some_is x y e = cc
types_of false false false false n e = absurd cc

types_named : (w : List ℕ) (v : Value) → Reads (slot.OneOf choice.Types) w v → NamesTypes (byte_of v)
unfolding number_among
types_named w v h = subst (λ (x : Value). NamesTypes (byte_of x)) (sym h.2) (types_of (is_same w (codes "mission")) (is_same w (codes "fence")) (is_same w (codes "safe")) (is_same w (codes "all")) h.0 h.1)

-- what is known of an input of a link, by its form
abbrev pub LinkFacts : LinkForm → Values → Type 0
LinkFacts link.Count values = NamesTypes (byte_of values.fourth)
LinkFacts link.Clear values = NamesTypes (byte_of values.fourth)
LinkFacts link.Meet values = (byte_of values.fourth < MAX_PLACES) × (1 ≤ byte_of values.fifth)
LinkFacts _ values = ⊤

abbrev pub NavFacts : NavForm → Values → Type 0
NavFacts nav.Position values = (MIN_LATITUDE ≤ℤ signed_of values.third) × (signed_of values.third ≤ℤ MAX_LATITUDE) × (MIN_LONGITUDE ≤ℤ signed_of values.fourth) × (signed_of values.fourth ≤ℤ MAX_LONGITUDE)
NavFacts nav.Meet values = (byte_of values.third < MAX_PLACES) × (1 ≤ byte_of values.fourth)
NavFacts _ values = ⊤

abbrev pub FormFacts : Form → Values → Type 0
FormFacts (form.Set setting.TkoLand) values = byte_of values.third ≤ MAX_TKO_LAND
FormFacts (form.Set setting.RtlType) values = byte_of values.third ≤ MAX_RTL_TYPE
FormFacts (form.Cut tear) values = 1 ≤ long_of values.third
FormFacts (form.Link link) values = (byte_of values.second < MAX_LINKS) × LinkFacts link values
FormFacts (form.Nav nav) values = NavFacts nav values
FormFacts form.Watch values = byte_of values.second < MAX_WATCHERS
FormFacts _ values = ⊤

abbrev pub RowFacts : Row → Type 0
RowFacts row = (words : List (List ℕ)) (values : Values) → ReadsRow row words values → FormFacts row.form values

abbrev AllFacts : List Row → Type 0
AllFacts [] = ⊤
AllFacts (row ∷ rows) = RowFacts row × AllFacts rows

link_of : (w : List ℕ) (v : Value) → Reads (slot.Byte 0 7) w v → byte_of v < MAX_LINKS
link_of w v h = omega (arith, (byte_range 0 7 w v h).1)

meets : (w x : List ℕ) (v u : Value) → Reads (slot.Byte 0 15) w v → Reads (slot.Byte 1 255) x u → (byte_of v < MAX_PLACES) × (1 ≤ byte_of u)
meets w x v u h k = (omega (arith, (byte_range 0 15 w v h).1), (byte_range 1 255 x u k).0)

param_facts : AllFacts PARAM_ROWS
param_facts = (λ words values h. (byte_range 0 4 (word 3 words) values.third h.third).1, ((λ words values h. tt), ((λ words values h. tt), ((λ words values h. (byte_range 0 2 (word 3 words) values.third h.third).1), ((λ words values h. tt), tt)))))

home_facts : AllFacts HOME_ROWS
home_facts = ((λ words values h. tt), tt)

plan_facts : AllFacts PLAN_ROWS
plan_facts = ((λ words values h. tt), ((λ words values h. tt), tt))

cut_fact : (words : List (List ℕ)) (values : Values) → Reads (slot.Long 1 4294967295) (word 3 words) values.third → 1 ≤ long_of values.third
cut_fact words values h = long_range 1 4294967295 (word 3 words) values.third h

boot_facts : AllFacts BOOT_ROWS
boot_facts = ((λ words values h. tt), ((λ words values h. cut_fact words values h.third), ((λ words values h. cut_fact words values h.third), ((λ words values h. cut_fact words values h.third), ((λ words values h. cut_fact words values h.third), tt)))))

link_facts : AllFacts LINK_ROWS
link_facts = (
  (λ words values h. (link_of (word 2 words) values.second h.second, types_named (word 4 words) values.fourth h.fourth)),
  (
    (λ words values h. (link_of (word 2 words) values.second h.second, tt)),
    (
      (λ words values h. (link_of (word 2 words) values.second h.second, types_named (word 4 words) values.fourth h.fourth)),
      (
        (λ words values h. (link_of (word 2 words) values.second h.second, tt)),
        (
          (λ words values h. (link_of (word 2 words) values.second h.second, tt)),
          (
            (λ words values h. (link_of (word 2 words) values.second h.second, tt)),
            (
              (λ words values h. (link_of (word 2 words) values.second h.second, tt)),
              (
                (λ words values h. (link_of (word 2 words) values.second h.second, tt)),
                ((λ words values h. (link_of (word 2 words) values.second h.second, meets (word 4 words) (word 5 words) values.fourth values.fifth h.fourth h.fifth)), tt),
              ),
            ),
          ),
        ),
      ),
    ),
  ),
)

nav_facts : AllFacts NAV_ROWS
nav_facts = (
  (λ words values h. tt),
  (
    (λ words values h. tt),
    (
      (λ words values h. tt),
      (
        (λ words values h. tt),
        (
          (λ words values h. let x = degrees_range MIN_LATITUDE MAX_LATITUDE (word 3 words) values.third h.third in let y = degrees_range MIN_LONGITUDE MAX_LONGITUDE (word 4 words) values.fourth h.fourth in (x.0, x.1, y.0, y.1)),
          ((λ words values h. tt), ((λ words values h. meets (word 3 words) (word 4 words) values.third values.fourth h.third h.fourth), tt)),
        ),
      ),
    ),
  ),
)

watcher_of : (w : List ℕ) (v : Value) → Reads (slot.Byte 0 3) w v → byte_of v < MAX_WATCHERS
watcher_of w v h = omega (arith, (byte_range 0 3 w v h).1)

watch_facts : AllFacts WATCH_ROWS
watch_facts = ((λ words values h. watcher_of (word 2 words) values.second h.second), ((λ words values h. watcher_of (word 2 words) values.second h.second), ((λ words values h. watcher_of (word 2 words) values.second h.second), tt)))

chosen : (b : Bool) (xs ys : List Row) → AllFacts xs → AllFacts ys → AllFacts (if b then xs else ys)
chosen true xs ys p q = p
chosen false xs ys p q = q

facts_of : (booted : Bool) (w : List ℕ) → AllFacts (rows_of booted w)
unfolding rows_of
facts_of booted w =
    chosen (is_same w (codes "boot")) BOOT_ROWS _ boot_facts (chosen booted (flight_rows w) (head_rows w)
    (chosen (is_same w (codes "link")) LINK_ROWS _ link_facts (chosen (is_same w (codes "nav")) NAV_ROWS _ nav_facts (chosen (is_same w (codes "watch")) WATCH_ROWS [] watch_facts tt)))
    (chosen (is_same w (codes "param")) PARAM_ROWS _ param_facts (chosen (is_same w (codes "home")) HOME_ROWS _ home_facts (chosen (is_same w (codes "plan")) PLAN_ROWS [] plan_facts tt))))

fact_found : (p : Row → Bool) (rows : List Row) (row : Row) → AllFacts rows → find p rows ≡ Some row → RowFacts row
fact_found p [] row facts e = absurd cc
fact_found p (first ∷ rows) row facts e = by_head (p first) refl (fact_found p rows row facts.1)
  where
    some_is : (x y : Row) → ◌≡◌ {A = Option Row} (Some x) (Some y) → x ≡ y
    some_is x y e = cc

    by_head : (b : Bool) → p first ≡ b → (find p rows ≡ Some row → RowFacts row) → RowFacts row
    by_head true t more = subst (λ (r : Row). RowFacts r) (some_is first row (rw t at e)) facts.0
    by_head false t more = more (rw t at e)

found_is : (found : Option Row) (agreed : Bool) (row : Row) → found_or found agreed ≡ Ok row → found ≡ Some row
found_is (Some x) agreed row e = cc
found_is None true row e = absurd cc
found_is None false row e = absurd cc

-- the row of a line
pub row_facts : (booted : Bool) (w : List ℕ) (words : List (List ℕ)) (row : Row) → row_among (rows_of booted w) words ≡ Ok row → RowFacts row
unfolding row_among
row_facts booted w words row e = fact_found (is_of words) (rows_of booted w) row (facts_of booted w) (found_is (find (is_of words) (rows_of booted w)) (list_any (agrees_with words) (rows_of booted w)) row e)
