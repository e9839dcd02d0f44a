-- The inputs of an actor stay the same where another actor's are taken out.
use Rattle.std.proofs.Common.{◌≡◌, ℕ, suc, ◌+◌, ◌<◌, Bool, true, false, List, [], ◌∷◌, ◌++◌, refl, sym, ap, arith, subst}
use Rattle.std.proofs.lemmas.Bool.{eqb-true, true≢false}
use Rattle.std.proofs.lemmas.Bool.Decides.{nat_tests}
use Rattle.first_model.specs.declared.flight_line.Actor.{Actor}
use Rattle.first_model.specs.declared.flight_line.Actor.TheVariants.{Worker, Link, Nav, Watch}
use Rattle.first_model.specs.declared.schedule.InputLine.{InputLine}
use Rattle.first_core.specs.ScheduleState.{same_actor, inputs_of, others_of}
use Rattle.first_core.specs.LinkState.{new_link}
use Rattle.first_core.specs.NewCore.{new_links}

same_actor-is : (a b : Actor) → same_actor a b ≡ true → a ≡ b
same_actor-is Worker Worker same = refl
same_actor-is Nav Nav same = refl
same_actor-is (Link number) (Link other) same = ap Link (eqb-true number other same)
same_actor-is (Watch number) (Watch other) same = ap Watch (eqb-true number other same)
same_actor-is a b same = absurd (true≢false (sym same))

inputs_of-others_by : (a b other : Actor) (input : InputLine) (rest : List (Actor × InputLine)) (taken own : Bool) → same_actor a b ≡ false → same_actor b other ≡ taken → same_actor a other ≡ own → inputs_of a (others_of b rest) ≡ inputs_of a rest → inputs_of a (others_of b ((other, input) ∷ rest)) ≡ inputs_of a ((other, input) ∷ rest)
inputs_of-others_by a b other input rest true own apart takes is stays =
    let other_apart : same_actor a other ≡ false = subst (λ (actor : Actor). same_actor a actor ≡ false) (same_actor-is b other takes) apart in
    rw (takes, other_apart) stays
inputs_of-others_by a b other input rest false true apart takes is stays = rw (takes, is) (ap (λ inputs. input ∷ inputs) stays)
inputs_of-others_by a b other input rest false false apart takes is stays = rw (takes, is) stays

pub inputs_of-others : (a b : Actor) (inputs : List (Actor × InputLine)) → same_actor a b ≡ false → inputs_of a (others_of b inputs) ≡ inputs_of a inputs
inputs_of-others a b [] apart = refl
inputs_of-others a b ((other, input) ∷ rest) apart = inputs_of-others_by a b other input rest (same_actor b other) (same_actor a other) apart refl refl (inputs_of-others a b rest apart)

pub inputs_of-Nav-others : (number : ℕ) (inputs : List (Actor × InputLine)) → inputs_of Nav (others_of (Link number) inputs) ≡ inputs_of Nav inputs
inputs_of-Nav-others number inputs = inputs_of-others Nav (Link number) inputs refl

pub inputs_of-Link-others : (k number : ℕ) (inputs : List (Actor × InputLine)) → number < k → inputs_of (Link k) (others_of (Link number) inputs) ≡ inputs_of (Link k) inputs
inputs_of-Link-others k number inputs above =
    let apart : same_actor (Link k) (Link number) ≡ false = grind (arith, nat_tests, above) in
    inputs_of-others (Link k) (Link number) inputs apart

pub new_links-more : (number : ℕ) (inputs : List (Actor × InputLine)) → new_links (number + 1) inputs ≡ new_links number inputs ++ new_link number (inputs_of (Link number) inputs) ∷ []
new_links-more number inputs =
    let next : suc number ≡ number + 1 = omega arith in
    subst (λ (k : ℕ). new_links k inputs ≡ new_links number inputs ++ new_link number (inputs_of (Link number) inputs) ∷ []) next refl
