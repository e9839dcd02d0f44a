-- What is told along the items of a mission, and along the plans of a script.
use Rattle.std.proofs.Common.{◌≡◌, ℤ, refl, sym, ap, subst, ◌∙◌, ℕ, ◌+◌, ◌≤◌, Bool, true, false, cond, List, [], ◌∷◌, ◌++◌, length, filter, Option, Some, None, arith, append-nil, append_assoc}
use Rattle.std.specs.List.{zip, flat_map, enumerate_from}
use Rattle.mission_model.specs.declared.plan.Item.{Item}
use Rattle.mission_model.specs.declared.schedule.NamedPlan.{NamedPlan}
use Rattle.mission_model.specs.Command.{has_position}
use Rattle.leg_fence.specs.declared.leg.LegSight.{LegSight}
use Rattle.leg_fence.specs.Sight.{IsSight}
use Rattle.leg_survey.specs.Stops.{stops, legs_between, place_of}
use Rattle.std.specs.Prelude.{Result, Ok, Err, OnOk}
use Rattle.mission_model.specs.declared.message.AckCode.{AckCode}
use Rattle.mission_model.specs.declared.plan.PlanType.TheVariants as kind
use Rattle.leg_survey.specs.Judged.{IsJudged}
use Rattle.leg_survey.specs.Survey.{count_text, AreSights, TellsLegs, TellsMission, TellsMissions, IsAppended, seen_text, sight_text, is_clear, is_mission}

-- the stops among the items from this seq on
abbrev pub stops_from : ℕ → List Item → List (ℕ × Item)
stops_from seq rest = filter (λ (stop : ℕ × Item). has_position stop.1) (enumerate_from seq rest)

-- the same behind the last stop, if there is one
abbrev pub stops_behind : Option (ℕ × Item) → ℕ → List Item → List (ℕ × Item)
stops_behind None seq rest = stops_from seq rest
stops_behind (Some last) seq rest = last ∷ stops_from seq rest

skips : (seq : ℕ) (item : Item) (more : List Item) → has_position item ≡ false → stops_from seq (item ∷ more) ≡ stops_from (seq + 1) more
skips seq item more h = ap (λ (b : Bool). cond b ((seq, item) ∷ stops_from (seq + 1) more) (stops_from (seq + 1) more)) h

stops_here : (seq : ℕ) (item : Item) (more : List Item) → has_position item ≡ true → stops_from seq (item ∷ more) ≡ (seq, item) ∷ stops_from (seq + 1) more
stops_here seq item more h = ap (λ (b : Bool). cond b ((seq, item) ∷ stops_from (seq + 1) more) (stops_from (seq + 1) more)) h

-- so much was told, and whatever is told of the legs that are left, both together are told of all legs
abbrev pub Along : List Item → List Item → List (ℕ × Item) → ℕ → ℕ → List ℕ → Type 0
Along fence items left count clear told =
    (sights : List LegSight) → AreSights fence (legs_between left) sights →
    TellsLegs fence (legs_between (stops items)) (told ++ flat_map seen_text (zip (legs_between left) sights)) (count + length (legs_between left)) (clear + length (filter is_clear sights))

-- as a loop keeps it
pub record AlongLoop (fence items : List Item) (last : Option (ℕ × Item)) (seq : ℕ) (rest : List Item) (count clear : ℕ) (old new : List ℕ) : Type 0 where
  pub places : seq + length rest ≡ length items
  pub few : count ≤ seq
  pub fewer : clear ≤ seq
  pub told : List ℕ
  pub behind : new ≡ old ++ told
  pub along : Along fence items (stops_behind last seq rest) count clear told

pub along-begin : (fence items : List Item) → Along fence items (stops items) 0 0 []
along-begin fence items sights seen = record { sights = sights; seen = seen; told = refl; all = omega arith; free = omega arith }

pub along-skip : (fence items : List Item) (last : Option (ℕ × Item)) (seq : ℕ) (item : Item) (more : List Item) (count clear : ℕ) (told : List ℕ) → has_position item ≡ false → Along fence items (stops_behind last seq (item ∷ more)) count clear told → Along fence items (stops_behind last (seq + 1) more) count clear told
along-skip fence items None seq item more count clear told h along = subst (λ (left : List (ℕ × Item)). Along fence items left count clear told) (skips seq item more h) along
along-skip fence items (Some last) seq item more count clear told h along = subst (λ (left : List (ℕ × Item)). Along fence items (last ∷ left) count clear told) (skips seq item more h) along

pub along-first : (fence items : List Item) (seq : ℕ) (item : Item) (more : List Item) (count clear : ℕ) (told : List ℕ) → has_position item ≡ true → Along fence items (stops_behind None seq (item ∷ more)) count clear told → Along fence items (stops_behind (Some (seq, item)) (seq + 1) more) count clear told
along-first fence items seq item more count clear told h along = subst (λ (left : List (ℕ × Item)). Along fence items left count clear told) (stops_here seq item more h) along

one_clear : (b : Bool) (sight : LegSight) (sights : List LegSight) → length (cond b (sight ∷ sights) sights) ≡ length (cond b (sight ∷ []) []) + length sights
one_clear true sight sights = omega arith
one_clear false sight sights = omega arith

more_clear : (sight : LegSight) (sights : List LegSight) → length (filter is_clear (sight ∷ sights)) ≡ length (filter is_clear (sight ∷ [])) + length (filter is_clear sights)
more_clear sight sights = one_clear (is_clear sight) sight (filter is_clear sights)

at_most_one : (b : Bool) (sight : LegSight) → length (cond b (sight ∷ []) []) ≤ 1
at_most_one true sight = omega arith
at_most_one false sight = omega arith

one_more : (fence items : List Item) (from to : ℕ × Item) (left : List (ℕ × Item)) (sight : LegSight) (count clear : ℕ) (told : List ℕ) → IsSight fence (place_of from) (place_of to) sight → Along fence items (from ∷ to ∷ left) count clear told → Along fence items (to ∷ left) (count + 1) (clear + length (filter is_clear (sight ∷ []))) (told ++ sight_text from.0 to.0 sight)
one_more fence items from to left sight count clear told is along sights seen =
    let all : TellsLegs fence (legs_between (stops items)) (told ++ (sight_text from.0 to.0 sight ++ flat_map seen_text (zip (legs_between (to ∷ left)) sights))) (count + length (legs_between (from ∷ to ∷ left))) (clear + length (filter is_clear (sight ∷ sights))) = along (sight ∷ sights) (is, seen) in
    record {
      sights = all.sights;
      seen = all.seen;
      told = append_assoc told (sight_text from.0 to.0 sight) (flat_map seen_text (zip (legs_between (to ∷ left)) sights)) ∙ all.told;
      all = omega (arith, all.all);
      free = omega (arith, all.free, more_clear sight sights);
    }

pub along-next : (fence items : List Item) (last : ℕ × Item) (seq : ℕ) (item : Item) (more : List Item) (sight : LegSight) (count clear : ℕ) (told : List ℕ) → has_position item ≡ true → IsSight fence (place_of last) (place_of (seq, item)) sight → Along fence items (stops_behind (Some last) seq (item ∷ more)) count clear told → Along fence items (stops_behind (Some (seq, item)) (seq + 1) more) (count + 1) (clear + length (filter is_clear (sight ∷ []))) (told ++ sight_text last.0 seq sight)
along-next fence items last seq item more sight count clear told h is along =
    one_more fence items last (seq, item) (stops_from (seq + 1) more) sight count clear told is (subst (λ (left : List (ℕ × Item)). Along fence items (last ∷ left) count clear told) (stops_here seq item more h) along)

no_legs : (last : Option (ℕ × Item)) (seq : ℕ) → legs_between (stops_behind last seq []) ≡ []
no_legs None seq = refl
no_legs (Some last) seq = refl

pub along-end : (fence items : List Item) (last : Option (ℕ × Item)) (seq count clear : ℕ) (told : List ℕ) → Along fence items (stops_behind last seq []) count clear told → TellsLegs fence (legs_between (stops items)) told count clear
along-end fence items None seq count clear told along =
    let all : TellsLegs fence (legs_between (stops items)) (told ++ []) (count + 0) (clear + 0) = along [] tt in
    record { sights = all.sights; seen = all.seen; told = sym (append-nil told) ∙ all.told; all = omega (arith, all.all); free = omega (arith, all.free) }
along-end fence items (Some last) seq count clear told along =
    let all : TellsLegs fence (legs_between (stops items)) (told ++ []) (count + 0) (clear + 0) = along [] tt in
    record { sights = all.sights; seen = all.seen; told = sym (append-nil told) ∙ all.told; all = omega (arith, all.all); free = omega (arith, all.free) }

pub loop-next : (fence items : List Item) (last : Option (ℕ × Item)) (seq : ℕ) (rest : List Item) (count clear : ℕ) (old mid new : List ℕ) (from : ℕ × Item) (item : Item) (more : List Item) (sight : LegSight) → last ≡ Some from → rest ≡ item ∷ more → has_position item ≡ true → IsSight fence (place_of from) (place_of (seq, item)) sight → new ≡ mid ++ sight_text from.0 seq sight → AlongLoop fence items last seq rest count clear old mid → AlongLoop fence items (Some (seq, item)) (seq + 1) more (count + 1) (clear + length (filter is_clear (sight ∷ []))) old new
loop-next fence items last seq rest count clear old mid new from item more sight was first h is told loop = record {
  places = omega (arith, loop.places, ap length first);
  few = omega (arith, loop.few);
  fewer = omega (arith, loop.fewer, at_most_one (is_clear sight) sight);
  told = loop.told ++ sight_text from.0 seq sight;
  behind = told ∙ ap (λ (t : List ℕ). t ++ sight_text from.0 seq sight) loop.behind ∙ append_assoc old loop.told (sight_text from.0 seq sight);
  along = along-next fence items from seq item more sight count clear loop.told h is (subst (λ (l : Option (ℕ × Item)). Along fence items (stops_behind l seq (item ∷ more)) count clear loop.told) was (subst (λ (r : List Item). Along fence items (stops_behind last seq r) count clear loop.told) first loop.along));
}

pub loop-counts : (fence items : List Item) (last : Option (ℕ × Item)) (seq : ℕ) (rest : List Item) (count clear one other : ℕ) (old new : List ℕ) → one ≡ other → AlongLoop fence items last seq rest count (clear + one) old new → AlongLoop fence items last seq rest count (clear + other) old new
loop-counts fence items last seq rest count clear one other old new same loop = subst (λ (n : ℕ). AlongLoop fence items last seq rest count (clear + n) old new) same loop

pub loop-end : (fence items : List Item) (last : Option (ℕ × Item)) (seq : ℕ) (rest : List Item) (count clear : ℕ) (old new : List ℕ) → rest ≡ [] → AlongLoop fence items last seq rest count clear old new → IsAppended (λ lines. TellsLegs fence (legs_between (stops items)) lines count clear) old new
loop-end fence items last seq rest count clear old new none loop =
    (loop.told, along-end fence items last seq count clear loop.told (subst (λ (r : List Item). Along fence items (stops_behind last seq r) count clear loop.told) none loop.along), loop.behind)

-- What is told along the plans of a script.

-- so much was told, and whatever is told of the missions that are left, both together are told of all missions
abbrev pub AlongPlans : List Item → List NamedPlan → List NamedPlan → List ℕ → Type 0
AlongPlans fence plans rest told = (text : List ℕ) → TellsMissions fence (filter is_mission rest) text → TellsMissions fence (filter is_mission plans) (told ++ text)

abbrev pub PlansLoop : List Item → List NamedPlan → List NamedPlan → List ℕ → List ℕ → Type 0
PlansLoop fence plans rest old new = (told : List ℕ) × (new ≡ old ++ told) × AlongPlans fence plans rest told

pub plans-begin : (fence : List Item) (plans : List NamedPlan) (old : List ℕ) → PlansLoop fence plans plans old old
plans-begin fence plans old = ([], sym (append-nil old), λ text told. told)

missions : (plan : NamedPlan) (more : List NamedPlan) (b : Bool) → is_mission plan ≡ b → filter is_mission (plan ∷ more) ≡ cond b (plan ∷ filter is_mission more) (filter is_mission more)
missions plan more b h = ap (λ (b : Bool). cond b (plan ∷ filter is_mission more) (filter is_mission more)) h

pub plans-skip : (fence : List Item) (plans : List NamedPlan) (plan : NamedPlan) (more : List NamedPlan) (old new : List ℕ) → is_mission plan ≡ false → PlansLoop fence plans (plan ∷ more) old new → PlansLoop fence plans more old new
plans-skip fence plans plan more old new h (told, behind, along) =
    (told, behind, λ text tells. along text (subst (λ (rest : List NamedPlan). TellsMissions fence rest text) (sym (missions plan more false h)) tells))

pub plans-next : (fence : List Item) (plans : List NamedPlan) (plan : NamedPlan) (more : List NamedPlan) (old mid new : List ℕ) → is_mission plan ≡ true → IsAppended (TellsMission fence plan) mid new → PlansLoop fence plans (plan ∷ more) old mid → PlansLoop fence plans more old new
plans-next fence plans plan more old mid new h (first, tells, is) (told, behind, along) =
    (told ++ first, is ∙ ap (λ (t : List ℕ). t ++ first) behind ∙ append_assoc old told first, λ text rest. subst (TellsMissions fence (filter is_mission plans)) (sym (append_assoc told first text)) (along (first ++ text) (subst (λ (rest : List NamedPlan). TellsMissions fence rest (first ++ text)) (sym (missions plan more true h)) (first, text, tells, rest, refl))))

pub plans-end : (fence : List Item) (plans : List NamedPlan) (old new : List ℕ) → PlansLoop fence plans [] old new → IsAppended (TellsMissions fence (filter is_mission plans)) old new
plans-end fence plans old new (told, behind, along) = (told, subst (TellsMissions fence (filter is_mission plans)) (append-nil told) (along [] refl), behind)

pub empty : {X : Type 0} (xs : List X) → length xs ≡ 0 → xs ≡ []
empty [] h = refl
empty (x ∷ xs) h = absurd (omega (arith, h))

pub on_ok : {T E A B : Type 0} (r : Result T E) → (A → B) → OnOk r A → OnOk r B
on_ok (Ok value) f h = f h
on_ok (Err error) f h = h

pub mission_told : (fence : List Item) (plan : NamedPlan) (name : List ℕ) (items : List Item) (judged : Option (ℕ × AckCode)) (count clear : ℕ) (old mid new : List ℕ) → name ≡ plan.name → items ≡ plan.items → IsJudged kind.Mission items judged → judged ≡ None → IsAppended (λ lines. TellsLegs fence (legs_between (stops items)) lines count clear) old mid → new ≡ mid ++ count_text name count clear → IsAppended (TellsMission fence plan) old new
mission_told fence plan name items judged count clear old mid new same_name same is none seen told =
    whole (subst (λ (list : List Item). IsAppended (λ lines. TellsLegs fence (legs_between (stops list)) lines count clear) old mid) same seen)
  where
    text : List ℕ
    text = count_text plan.name count clear

    valid : IsJudged kind.Mission plan.items None
    valid = subst (λ (list : List Item). IsJudged kind.Mission list None) same (subst (IsJudged kind.Mission items) none is)

    last : new ≡ mid ++ text
    last = told ∙ ap (λ (word : List ℕ). mid ++ count_text word count clear) same_name

    whole : IsAppended (λ lines. TellsLegs fence (legs_between (stops plan.items)) lines count clear) old mid → IsAppended (TellsMission fence plan) old new
    whole (lines, tells, behind) = (lines ++ text, (None, valid, (lines, count, clear, tells, refl)), last ∙ ap (λ (t : List ℕ). t ++ text) behind ∙ append_assoc old lines text)

pub seen_at : (fence : List Item) (p q p' q' : ℤ × ℤ) (sight : LegSight) → p ≡ p' → q ≡ q' → IsSight fence p q sight → IsSight fence p' q' sight
seen_at fence p q p' q' sight first second is = subst (λ (end : ℤ × ℤ). IsSight fence p' end sight) second (subst (λ (end : ℤ × ℤ). IsSight fence end q sight) first is)
