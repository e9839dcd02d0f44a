-- Each statement of a script keeps within the limits.
use Rattle.std.proofs.Common.{◌≡◌, ℕ, ◌+◌, ◌<◌, ◌≤◌, List, [], ◌∷◌, length, Bool, true, false, refl, sym, subst, arith, get_or, ◌-◌}
use Rattle.std.specs.Prelude.{Option, Some, None, find, is_some, pos, ⊤, Result, Ok, Err, if◌then◌else◌, All, nat_lt, nat_le, slice_get, not, drop, ◌==◌, codes}
use Rattle.std.specs.List.{list_all, filter_map}
use Rattle.std.specs.Ordering.{int_eq}
use Rattle.std.proofs.lemmas.Bool.Decides.{nat_tests}
use Rattle.std.proofs.lemmas.List.{length-map}
use Rattle.std.proofs.lemmas.List.Elements.{All-head, All-tail, All-nil, All-cons}
use Rattle.mission_model.specs.declared.limits.TheConstants.{MAX_LINKS, MAX_WATCHERS, MAX_PLAN_ROWS, MAX_TKO_LAND, MAX_RTL_TYPE, MAX_PLANS, MAX_BOOTS, MAX_TURN_WORDS}
use Rattle.mission_model.specs.declared.flight_line.Actor.{Actor}
use Rattle.mission_model.specs.declared.flight_line.Actor.TheVariants as actor
use Rattle.mission_model.specs.declared.message.Message.TheVariants as message
use Rattle.mission_model.specs.declared.plan.Item.{Item}
use Rattle.mission_model.specs.declared.plan.PlanType.{PlanType}
use Rattle.mission_model.specs.declared.schedule.CutSpec.{CutSpec}
use Rattle.mission_model.specs.declared.schedule.InputLine.{InputLine}
use Rattle.mission_model.specs.declared.schedule.InputLine.TheVariants as input
use Rattle.mission_model.specs.declared.schedule.NamedPlan.{NamedPlan}
use Rattle.mission_model.specs.BootScripts.{ActorInput, LinkInput, NavInput}
use Rattle.nav_text.specs.declared.span.Span.{Span}
use Rattle.wpl_items.specs.Home.{retargeted, without_home}
use Rattle.run_script.specs.declared.fault.ScriptFault.{ScriptFault}
use Rattle.run_script.specs.declared.fault.ScriptFault.TheVariants as fault
use Rattle.run_script.specs.declared.table.Form.{Form}
use Rattle.run_script.specs.declared.table.Form.TheVariants as form
use Rattle.run_script.specs.declared.table.Row.{Row}
use Rattle.run_script.specs.declared.table.Setting.{Setting}
use Rattle.run_script.specs.declared.table.Setting.TheVariants as setting
use Rattle.run_script.specs.declared.table.Tear.{Tear}
use Rattle.run_script.specs.declared.table.Tear.TheVariants as form_tear
use Rattle.run_script.specs.declared.table.LinkForm.{LinkForm}
use Rattle.run_script.specs.declared.table.LinkForm.TheVariants as link
use Rattle.run_script.specs.declared.table.NavForm.{NavForm}
use Rattle.run_script.specs.declared.table.NavForm.TheVariants as nav
use Rattle.run_script.specs.declared.value.Values.{Values}
use Rattle.run_script.specs.Actors.{actor_of, is_numbered}
use Rattle.run_script.specs.Choices.{is_same}
use Rattle.run_script.specs.Lines.{word}
use Rattle.run_script.specs.Statements.{Statement, TkoLand, TakeoffMin, MaxAlt, RtlType, NoDistance, HomeIs, Plan, Boot, Input, Turns}
use Rattle.run_script.specs.Forms.{Before, byte_of, short_of, long_of, signed_of, setting_stated, cut_of, boot_stated, plan_named, item_stated, item_named, upload_named, link_input, nav_input, watch_input, has_room, input_stated, stated, turns_stated, ◌>>=◌}
use Rattle.run_script.specs.Plans.{new_name, plan_lines, kept_items, kind_of, PlanStated, NamedStated}
use Rattle.run_script.specs.Told.{FormStates, RowStates, BodyStates, LineStates, row_of, is_turns}
use Rattle.run_script.specs.Limits.{IsCut}
use Rattle.run_script.proofs.RowFacts.{FormFacts, LinkFacts, NavFacts, row_facts}

-- an actor that a script may name
abbrev pub ActorSafe : Actor → Type 0
ActorSafe (actor.Link number) = number < MAX_LINKS
ActorSafe (actor.Watch number) = number < MAX_WATCHERS
ActorSafe _ = ⊤

abbrev pub PlanSafe : NamedPlan → Type 0
PlanSafe plan = length plan.items ≤ MAX_PLAN_ROWS

-- a statement behind others
abbrev pub Safe : Before → Statement → Type 0
Safe before (TkoLand n) = n ≤ MAX_TKO_LAND
Safe before (RtlType n) = n ≤ MAX_RTL_TYPE
Safe before (Plan plan) = PlanSafe plan × (length before.plans < MAX_PLANS)
Safe before (Boot cut) = IsCut cut × (before.boots < MAX_BOOTS)
Safe before (Input actor given) = ActorInput MAX_LINKS MAX_WATCHERS (actor, given)
Safe before (Turns actors) = All ActorSafe actors
Safe before _ = ⊤

same_ok : {A : Type 0} (x y : A) → ◌≡◌ {A = Result A ScriptFault} (Ok x) (Ok y) → x ≡ y
same_ok x y e = cc

refused : {A : Type 0} (f : ScriptFault) (y : A) (P : Type 0) → ◌≡◌ {A = Result A ScriptFault} (Err f) (Ok y) → P
refused f y P e = cc

-- what is chosen by a test
choose : {A : Type 0} (b : Bool) (r s : Result A ScriptFault) (y : A) (P : Type 0) → (if b then r else s) ≡ Ok y → (b ≡ true → r ≡ Ok y → P) → (b ≡ false → s ≡ Ok y → P) → P
choose true r s y P e first second = first refl e
choose false r s y P e first second = second refl e

-- a value in two steps
bound : {A B : Type 0} (r : Result A ScriptFault) (f : A → Result B ScriptFault) (y : B) (P : Type 0) → r >>= f ≡ Ok y → ((x : A) → r ≡ Ok x → f x ≡ Ok y → P) → P
bound (Ok x) f y P e next = next x refl e
bound (Err g) f y P e next = refused g y P e

module _ (before : Before) (safe : All PlanSafe before.plans) where
  given : (x s : Statement) → Safe before x → ◌≡◌ {A = Result Statement ScriptFault} (Ok x) (Ok s) → Safe before s
  given x s h e = subst (λ (o : Statement). Safe before o) (same_ok x s e) h

  setting_safe : (setting : Setting) (values : Values) (s : Statement) → FormFacts (form.Set setting) values → setting_stated setting values ≡ Ok s → Safe before s
  setting_safe setting.TkoLand values s facts e = given _ s facts e
  setting_safe setting.TakeoffMin values s facts e = given (TakeoffMin (signed_of values.third)) s tt e
  setting_safe setting.MaxAlt values s facts e = given (MaxAlt (signed_of values.third)) s tt e
  setting_safe setting.RtlType values s facts e = given _ s facts e
  setting_safe setting.Distance values s facts e = choose (int_eq (signed_of values.third) (pos 0)) (Ok NoDistance) (Err fault.Distance) s (Safe before s) e (λ t r. given NoDistance s tt r) (λ t r. refused fault.Distance s (Safe before s) r)

  boot_safe : (cut : Option CutSpec) (s : Statement) → IsCut cut → boot_stated before.boots cut ≡ Ok s → Safe before s
  boot_safe cut s h e = choose (nat_lt before.boots MAX_BOOTS) (Ok (Boot cut)) (Err fault.TooMany) s (Safe before s) e (λ t r. given (Boot cut) s (h, grind (arith, nat_tests, t)) r) (λ t r. refused fault.TooMany s (Safe before s) r)

  cut_safe : (tear : Tear) (values : Values) → 1 ≤ long_of values.third → IsCut (Some (cut_of tear values))
  cut_safe form_tear.Old values h = h
  cut_safe form_tear.New values h = h
  cut_safe form_tear.Front values h = h
  cut_safe form_tear.Fill values h = h

  item_safe : (seq : ℕ) (found : Option Item) (x : InputLine) → item_stated seq found ≡ Ok x → LinkInput x
  item_safe seq (Some item) x e = subst (λ (o : InputLine). LinkInput o) (same_ok (input.Message (message.Item seq item)) x e) tt
  item_safe seq None x e = refused fault.Name x (LinkInput x) e

  named_item_safe : (found : Option NamedPlan) (seq row : ℕ) (x : InputLine) → item_named found seq row ≡ Ok x → LinkInput x
  named_item_safe (Some plan) seq row x e = item_safe seq (slice_get plan.items row) x e
  named_item_safe None seq row x e = refused fault.Name x (LinkInput x) e

  plan_found : (p : NamedPlan → Bool) (plans : List NamedPlan) (plan : NamedPlan) → All PlanSafe plans → find p plans ≡ Some plan → PlanSafe plan
  plan_found p [] plan facts e = absurd cc
  plan_found p (first ∷ plans) plan facts e = by_head (p first) refl (plan_found p plans plan (All-tail PlanSafe first plans facts))
    where
      some_is : (x y : NamedPlan) → ◌≡◌ {A = Option NamedPlan} (Some x) (Some y) → x ≡ y
      some_is x y e = cc

      by_head : (b : Bool) → p first ≡ b → (find p plans ≡ Some plan → PlanSafe plan) → PlanSafe plan
      by_head true t more = subst (λ (o : NamedPlan). PlanSafe o) (some_is first plan (rw t at e)) (All-head PlanSafe first plans facts)
      by_head false t more = more (rw t at e)

  upload_safe : (found : Option NamedPlan) (x : InputLine) → ((plan : NamedPlan) → found ≡ Some plan → PlanSafe plan) → upload_named found ≡ Ok x → LinkInput x
  upload_safe (Some plan) x facts e = subst (λ (o : InputLine). LinkInput o) (same_ok (input.Upload plan.kind plan.items) x e) (facts plan refl)
  upload_safe None x facts e = refused fault.Name x (LinkInput x) e

  link_given : (y x : InputLine) → LinkInput y → ◌≡◌ {A = Result InputLine ScriptFault} (Ok y) (Ok x) → LinkInput x
  link_given y x h e = subst (λ (o : InputLine). LinkInput o) (same_ok y x e) h

  link_safe : (form : LinkForm) (values : Values) (words : List (List ℕ)) (x : InputLine) → LinkFacts form values → link_input before.plans form values words ≡ Ok x → LinkInput x
  link_safe link.Count values words x facts e = link_given (input.Message (message.Count (byte_of values.fourth) (short_of values.fifth))) x facts e
  link_safe link.Item values words x facts e = named_item_safe (plan_named before.plans (word 5 words)) (short_of values.fourth) (short_of values.sixth) x e
  link_safe link.Clear values words x facts e = link_given (input.Message (message.ClearAll (byte_of values.fourth))) x facts e
  link_safe link.SetCurrent values words x facts e = link_given (input.Message (message.SetCurrent (short_of values.fourth))) x tt e
  link_safe link.Cancel values words x facts e = link_given (input.Message message.Cancel) x tt e
  link_safe link.Timeout values words x facts e = link_given (input.Message message.Timeout) x tt e
  link_safe link.Upload values words x facts e = upload_safe (plan_named before.plans (word 4 words)) x (λ plan found. plan_found (λ (plan : NamedPlan). is_same plan.name (word 4 words)) before.plans plan safe found) e
  link_safe link.Wait values words x facts e = link_given input.Wait x tt e
  link_safe link.Meet values words x facts e = link_given (input.Meet (byte_of values.fourth) (byte_of values.fifth)) x facts e

  nav_safe : (form : NavForm) (values : Values) → NavFacts form values → NavInput (nav_input form values)
  nav_safe nav.Tick values facts = tt
  nav_safe nav.Go values facts = tt
  nav_safe nav.Reached values facts = tt
  nav_safe nav.Mode values facts = tt
  nav_safe nav.Position values facts = facts
  nav_safe nav.Wait values facts = tt
  nav_safe nav.Meet values facts = facts

  input_safe : (who : Actor) (x : InputLine) (s : Statement) → ActorInput MAX_LINKS MAX_WATCHERS (who, x) → input_stated before who x ≡ Ok s → Safe before s
  input_safe who x s h e = choose (has_room before x) (Ok (Input who x)) (Err fault.TooMany) s (Safe before s) e (λ t r. given (Input who x) s h r) (λ t r. refused fault.TooMany s (Safe before s) r)

  stated_safe : (form : Form) (values : Values) (words : List (List ℕ)) (s : Statement) → FormFacts form values → stated before form values words ≡ Ok s → Safe before s
  unfolding stated
  stated_safe (form.Set setting) values words s facts e = setting_safe setting values s facts e
  stated_safe form.Home values words s facts e = given (HomeIs (record { x = signed_of values.second; y = signed_of values.third; z = signed_of values.fourth })) s tt e
  stated_safe form.Plan values words s facts e = refused fault.Unknown s (Safe before s) e
  stated_safe form.PlanHomeFirst values words s facts e = refused fault.Unknown s (Safe before s) e
  stated_safe form.Boot values words s facts e = boot_safe None s tt e
  stated_safe (form.Cut tear) values words s facts e = boot_safe (Some (cut_of tear values)) s (cut_safe tear values facts) e
  stated_safe (form.Link link) values words s facts e = bound (link_input before.plans link values words) (λ x. input_stated before (actor.Link (byte_of values.second)) x) s (Safe before s) e (λ x r k. input_safe (actor.Link (byte_of values.second)) x s (facts.0, link_safe link values words x facts.1 r) k)
  stated_safe (form.Nav nav) values words s facts e = input_safe actor.Nav (nav_input nav values) s (nav_safe nav values facts) e
  stated_safe form.Watch values words s facts e = input_safe (actor.Watch (byte_of values.second)) (watch_input values) s (facts, tt) e

  fewer : (items : List Item) → length (without_home items) ≤ length items
  fewer [] = omega arith
  fewer (home ∷ items) = omega (arith, length-map items retargeted)

  kept_safe : (home_first : Bool) (items : List Item) → length items ≤ MAX_PLAN_ROWS → length (kept_items home_first items) ≤ MAX_PLAN_ROWS
  kept_safe true items h = omega (arith, h, fewer items)
  kept_safe false items h = h

  text_safe : (home_first : Bool) (kind : PlanType) (name : List ℕ) (text : Option (List (List ℕ))) (s : Statement) → length before.plans < MAX_PLANS → PlanStated home_first kind name text s → Safe before s
  text_safe home_first kind name None s few h = subst (λ (o : Statement). Safe before o) (sym h) tt
  text_safe home_first kind name (Some text) s few h = subst (λ (o : Statement). Safe before o) (sym h.2) (kept_safe home_first h.0 h.1.limit, few)

  few_plans : (w name : List ℕ) → new_name before.plans w ≡ Ok name → length before.plans < MAX_PLANS
  unfolding new_name
  few_plans w name e = choose _ (if nat_lt (length before.plans) MAX_PLANS then Ok w else Err fault.TooMany) (Err fault.Name) name (length before.plans < MAX_PLANS) e
      (λ t r. choose (nat_lt (length before.plans) MAX_PLANS) (Ok w) (Err fault.TooMany) name (length before.plans < MAX_PLANS) r (λ u k. grind (arith, nat_tests, u)) (λ u k. refused fault.TooMany name (length before.plans < MAX_PLANS) k))
      (λ t r. refused fault.Name name (length before.plans < MAX_PLANS) r)

  named_safe : (home_first : Bool) (kind : PlanType) (w : List ℕ) (named : Result (List ℕ) ScriptFault) (text : Option (List (List ℕ))) (s : Statement) → new_name before.plans w ≡ named → NamedStated home_first kind named text s → Safe before s
  named_safe home_first kind w (Ok name) text s e h = text_safe home_first kind name text s (few_plans w name e) h
  named_safe home_first kind w (Err f) text s e h = absurd h

  form_safe : (text : List ℕ) (behind : List Span) (words : List (List ℕ)) (form : Form) (values : Values) (s : Statement) → FormFacts form values → FormStates text behind before words form values s → Safe before s
  form_safe text behind words form.Plan values s facts h = named_safe false (kind_of (byte_of values.third)) (word 2 words) (new_name before.plans (word 2 words)) (plan_lines text behind) s refl h
  form_safe text behind words form.PlanHomeFirst values s facts h = named_safe true (kind_of (byte_of values.third)) (word 2 words) (new_name before.plans (word 2 words)) (plan_lines text behind) s refl h
  form_safe text behind words (form.Set setting) values s facts h = stated_safe (form.Set setting) values words s facts h
  form_safe text behind words form.Home values s facts h = stated_safe form.Home values words s facts h
  form_safe text behind words form.Boot values s facts h = stated_safe form.Boot values words s facts h
  form_safe text behind words (form.Cut tear) values s facts h = stated_safe (form.Cut tear) values words s facts h
  form_safe text behind words (form.Link link) values s facts h = stated_safe (form.Link link) values words s facts h
  form_safe text behind words (form.Nav nav) values s facts h = stated_safe (form.Nav nav) values words s facts h
  form_safe text behind words form.Watch values s facts h = stated_safe form.Watch values words s facts h

  row_safe : (text : List ℕ) (behind : List Span) (words : List (List ℕ)) (row : Result Row ScriptFault) (s : Statement) → row_of before words ≡ row → RowStates text behind before words row s → Safe before s
  row_safe text behind words (Ok row) s e h = form_safe text behind words row.form h.0 s (row_facts (nat_lt 0 before.boots) (word 1 words) words row e words h.0 h.1) h.2
  row_safe text behind words (Err f) s e h = absurd h

  digit_below : (letter last : ℕ) (name : List ℕ) → is_numbered letter last name ≡ true → get_or name 1 0 ≤ last
  digit_below letter last name h = grind (arith, nat_tests, h)

  actor_safe : (name : List ℕ) (who : Actor) → actor_of name ≡ Some who → ActorSafe who
  unfolding actor_of
  actor_safe name who e = by_tests (is_same name (codes "w")) (is_same name (codes "n")) (is_numbered 108 55 name) (is_numbered 118 51 name) refl refl e
    where
      some_is : (x y : Actor) → ◌≡◌ {A = Option Actor} (Some x) (Some y) → x ≡ y
      some_is x y e = cc

      by_tests : (a b c d : Bool) → is_numbered 108 55 name ≡ c → is_numbered 118 51 name ≡ d → (if a then Some actor.Worker else (if b then Some actor.Nav else (if c then Some (actor.Link (get_or name 1 0 - 48)) else (if d then Some (actor.Watch (get_or name 1 0 - 48)) else None)))) ≡ Some who → ActorSafe who
      by_tests true b c d p q e = subst (λ (o : Actor). ActorSafe o) (some_is actor.Worker who e) tt
      by_tests false true c d p q e = subst (λ (o : Actor). ActorSafe o) (some_is actor.Nav who e) tt
      by_tests false false true d p q e = subst (λ (o : Actor). ActorSafe o) (some_is (actor.Link (get_or name 1 0 - 48)) who e) (omega (arith, digit_below 108 55 name p))
      by_tests false false false true p q e = subst (λ (o : Actor). ActorSafe o) (some_is (actor.Watch (get_or name 1 0 - 48)) who e) (omega (arith, digit_below 118 51 name q))
      by_tests false false false false p q e = absurd cc

  actors_safe : (names : List (List ℕ)) → All ActorSafe (filter_map actor_of names)
  actors_safe [] = All-nil ActorSafe
  actors_safe (name ∷ names) = by_head (actor_of name) refl (actors_safe names)
    where
      by_head : (found : Option Actor) → actor_of name ≡ found → All ActorSafe (filter_map actor_of names) → All ActorSafe (filter_map actor_of (name ∷ names))
      by_head (Some who) e more = rw e (All-cons ActorSafe who (filter_map actor_of names) (actor_safe name who e) more)
      by_head None e more = rw e more

  turns_by : (a b c : Bool) (names : List Actor) (s : Statement) → All ActorSafe names → (if a then Err fault.Unknown else (if b then Err fault.Words else (if c then Ok (Turns names) else Err fault.TooMany))) ≡ Ok s → Safe before s
  turns_by true b c names s h e = refused fault.Unknown s (Safe before s) e
  turns_by false true c names s h e = refused fault.Words s (Safe before s) e
  turns_by false false true names s h e = given (Turns names) s h e
  turns_by false false false names s h e = refused fault.TooMany s (Safe before s) e

  turns_safe : (words : List (List ℕ)) (s : Statement) → turns_stated before words ≡ Ok s → Safe before s
  unfolding turns_stated
  turns_safe words s e = turns_by (not (list_all (λ name. is_some (actor_of name)) (drop 1 words))) (length words == 1) (nat_le (before.turns + length (drop 1 words)) MAX_TURN_WORDS) (filter_map actor_of (drop 1 words)) s (actors_safe (drop 1 words)) e

  body_safe : (turns : Bool) (text : List ℕ) (behind : List Span) (words : List (List ℕ)) (s : Statement) → BodyStates turns text behind before words s → Safe before s
  body_safe true text behind words s h = turns_safe words s h
  body_safe false text behind words s h = row_safe text behind words (row_of before words) s refl h

  pub line_safe : (begun : Bool) (text : List ℕ) (behind : List Span) (words : List (List ℕ)) (s : Statement) → LineStates begun text behind before words s → Safe before s
  line_safe true text behind words s h = body_safe (is_turns before words) text behind words s h
  line_safe false text behind words s h = subst (λ (o : Statement). Safe before o) (sym h.1) tt
