-- At the beginning of a boot the parts of the core fit one another.
use Rattle.std.proofs.Common.{◌≡◌, ◌≢◌, ℕ, zero, suc, ◌<◌, ◌==◌, Bool, true, false, List, [], ◌∷◌, length, replicate, Option, None, refl, sym, ◌∙◌, ap, arith, subst, get_or, nat_eq}
use Rattle.std.specs.List.{All}
use Rattle.std.proofs.lemmas.Bool.{true≢false}
use Rattle.std.proofs.lemmas.Bool.Decides.{nat_tests}
use Rattle.std.proofs.lemmas.List.{length-append, length-replicate, get_or_append_left, get_or_push}
use Rattle.std.proofs.lemmas.List.Elements.{All-nil, All-cons, All-head, All-tail}
use Rattle.first_model.specs.declared.limits.TheConstants.{MAX_MISSION_ITEMS}
use Rattle.first_model.specs.declared.plan.Item.{Item}
use Rattle.first_model.specs.declared.plan.PlanHead.{PlanHead}
use Rattle.first_model.specs.declared.plan.PlanType.TheVariants.{Mission}
use Rattle.first_model.specs.declared.request.Client.TheVariants.{Nav}
use Rattle.first_model.specs.declared.request.Client.TheVariants as client
use Rattle.first_model.specs.declared.flight_line.Actor.{Actor}
use Rattle.first_model.specs.declared.flight_line.Actor.TheVariants as actor
use Rattle.first_model.specs.declared.schedule.BootScript.{BootScript}
use Rattle.first_model.specs.declared.schedule.InputLine.{InputLine}
use Rattle.first_model.specs.declared.vehicle.BootState.{BootState}
use Rattle.first_model.specs.declared.vehicle.Mode.{Mode}
use Rattle.first_model.specs.declared.vehicle.Mode.TheVariants as mode
use Rattle.first_board.specs.BoardState.{posted}
use Rattle.first_cache.specs.CacheState.{CacheState, opened, adopted}
use Rattle.first_cache.specs.declared.cache.TheConstants.{SEQS}
use Rattle.first_core.specs.ScheduleState.{same_actor, inputs_of}
use Rattle.first_core.specs.SharedState.{head_at}
use Rattle.first_core.specs.LinkState.{LinkState, LinkFits, new_link, IsForLink}
use Rattle.first_core.specs.NavState.{NavFits, unknown, IsForNav}
use Rattle.first_core.specs.PlansFit.{PlansFit, AskFits, SessionIdFits}
use Rattle.first_core.specs.CoreState.{CoreFits}
use Rattle.first_core.specs.NewCore.{new_links, new_core, IsInput, InLimits, StateFits}
use Rattle.first_core.proofs.Inputs.{NoUpload-fresh}

length-replicate-twice : {A : Type 0} (n : ℕ) (a : A) → length (replicate (length (replicate n a)) a) ≡ n
length-replicate-twice n a = length-replicate (length (replicate n a)) a ∙ length-replicate n a

abbrev no_item : Option Item
no_item = None

adopted_apart : (c : CacheState) (head : PlanHead) → (c.id == head.id) ≡ false → c.client ≡ Nav → c.kind ≡ Mission → length c.known ≡ MAX_MISSION_ITEMS → length c.in_flight ≡ SEQS → adopted c head ≡ unknown head
adopted_apart c head apart client kind known flags = rw (apart, client, kind, known, flags) refl

-- a cache of another id has nothing of the adopted mission
pub adopted-unknown : (c : CacheState) (head : PlanHead) → c.id ≢ head.id → c.client ≡ Nav → c.kind ≡ Mission → length c.known ≡ MAX_MISSION_ITEMS → length c.in_flight ≡ SEQS → adopted c head ≡ unknown head
adopted-unknown c head apart client kind known flags = adopted_apart c head (grind (arith, nat_tests, apart)) client kind known flags

pub adopted-new : (head : PlanHead) → head.id ≢ 0 → adopted (opened Nav Mission MAX_MISSION_ITEMS) head ≡ unknown head
adopted-new head apart = adopted-unknown (opened Nav Mission MAX_MISSION_ITEMS) head (λ e. apart (sym e)) refl refl (length-replicate MAX_MISSION_ITEMS no_item) (length-replicate SEQS false)

pub adopted-zero : (head : PlanHead) → head.id ≡ 0 → adopted (adopted (opened Nav Mission MAX_MISSION_ITEMS) (record { id = 1; count = 0 })) head ≡ unknown head
adopted-zero head zero_is = adopted-unknown (adopted (opened Nav Mission MAX_MISSION_ITEMS) (record { id = 1; count = 0 })) head (λ e. absurd (omega (arith, e, zero_is))) refl refl (length-replicate-twice MAX_MISSION_ITEMS no_item) (length-replicate-twice SEQS false)

pub length-new_links : (count : ℕ) (inputs : List (Actor × InputLine)) → length (new_links count inputs) ≡ count
length-new_links zero inputs = refl
length-new_links (suc count) inputs = length-append (new_links count inputs) (new_link count (inputs_of (actor.Link count) inputs) ∷ []) ∙ omega (arith, length-new_links count inputs)

new_links-at_by : (count : ℕ) (inputs : List (Actor × InputLine)) (k : ℕ) (d : LinkState) (last : Bool) → nat_eq k count ≡ last → k < suc count → (k < count → get_or (new_links count inputs) k d ≡ new_link k (inputs_of (actor.Link k) inputs)) → get_or (new_links (suc count) inputs) k d ≡ new_link k (inputs_of (actor.Link k) inputs)
new_links-at_by count inputs k d true e below before =
    let is : k ≡ count = grind (arith, e) in
    subst (λ (i : ℕ). get_or (new_links (suc count) inputs) i d ≡ new_link i (inputs_of (actor.Link i) inputs)) (sym is) (get_or_push (new_links count inputs) (new_link count (inputs_of (actor.Link count) inputs)) d count (length-new_links count inputs))
new_links-at_by count inputs k d false e below before =
    let apart : k ≢ count = grind (arith, e) in
    let within : k < count = omega (arith, below, apart) in
    get_or_append_left (new_links count inputs) (new_link count (inputs_of (actor.Link count) inputs) ∷ []) d k (rw (length-new_links count inputs) within) ∙ before within

-- each link has its own inputs before it
pub new_links-at : (count : ℕ) (inputs : List (Actor × InputLine)) (k : ℕ) (d : LinkState) → k < count → get_or (new_links count inputs) k d ≡ new_link k (inputs_of (actor.Link k) inputs)
new_links-at zero inputs k d below = absurd (omega (arith, below))
new_links-at (suc count) inputs k d below = new_links-at_by count inputs k d (nat_eq k count) refl below (new_links-at count inputs k d)

-- the Navigator's inputs are ones that it may have
Nav_input : (links : ℕ) (other : Actor) (given : InputLine) → same_actor actor.Nav other ≡ true → IsInput links (other, given) → IsForNav given
Nav_input links actor.Nav given same fits = fits
Nav_input links other given same fits = absurd (true≢false (sym same))

inputs_of_by : (P : InputLine → Type 0) (who : Actor) (other : Actor) (given : InputLine) (rest : List (Actor × InputLine)) (own : Bool) → same_actor who other ≡ own → (own ≡ true → P given) → All P (inputs_of who rest) → All P (inputs_of who ((other, given) ∷ rest))
inputs_of_by P who other given rest true e first others = rw e (All-cons P given (inputs_of who rest) (first refl) others)
inputs_of_by P who other given rest false e first others = rw e others

Nav_inputs : (links : ℕ) (inputs : List (Actor × InputLine)) → All (IsInput links) inputs → All IsForNav (inputs_of actor.Nav inputs)
Nav_inputs links [] fit = All-nil IsForNav
Nav_inputs links ((other, given) ∷ rest) fit = inputs_of_by IsForNav actor.Nav other given rest (same_actor actor.Nav other) refl (λ same. Nav_input links other given same (All-head (IsInput links) (other, given) rest fit)) (Nav_inputs links rest (All-tail (IsInput links) (other, given) rest fit))

Link_input : (links number : ℕ) (other : Actor) (given : InputLine) → same_actor (actor.Link number) other ≡ true → IsInput links (other, given) → IsForLink given
Link_input links number (actor.Link other) given same fits = fits.1
Link_input links number other given same fits = absurd (true≢false (sym same))

Link_inputs : (links number : ℕ) (inputs : List (Actor × InputLine)) → All (IsInput links) inputs → All IsForLink (inputs_of (actor.Link number) inputs)
Link_inputs links number [] fit = All-nil IsForLink
Link_inputs links number ((other, given) ∷ rest) fit = inputs_of_by IsForLink (actor.Link number) other given rest (same_actor (actor.Link number) other) refl (λ same. Link_input links number other given same (All-head (IsInput links) (other, given) rest fit)) (Link_inputs links number rest (All-tail (IsInput links) (other, given) rest fit))

-- nothing is posted to any of so many places
empty_at : {A : Type 0} (n k : ℕ) (a : A) → get_or (replicate n a) k a ≡ a
empty_at zero k a = refl
empty_at (suc n) zero a = refl
empty_at (suc n) (suc k) a = empty_at n k a

is_return : Mode → Bool
is_return mode.Return = true
is_return mode.Hold = false
is_return mode.Mission = false

Hold-Return : mode.Hold ≢ mode.Return
unfolding is_return
Hold-Return e = true≢false (sym (ap is_return e))

new_link-fits : (boot : BootScript) (state : BootState) (k : ℕ) → InLimits boot → LinkFits (new_core boot state).shared (new_link k (inputs_of (actor.Link k) boot.inputs))
new_link-fits boot state k limits =
    let none : posted (new_core boot state).shared.board (client.Link k) ≡ [] = empty_at boot.links k [] in
    let free : length (posted (new_core boot state).shared.board (client.Link k)) ≡ 0 = ap length none in
    record {
      outstanding = omega (arith, free);
      session = NoUpload-fresh (inputs_of (actor.Link k) boot.inputs);
      inputs = Link_inputs boot.links k boot.inputs limits.inputs;
    }

new_nav-fits : (boot : BootScript) (state : BootState) → InLimits boot → StateFits state → NavFits (new_core boot state).nav
new_nav-fits boot state limits fits = record {
  mode = Hold-Return;
  client = refl;
  kind = refl;
  window = refl;
  whole = length-replicate MAX_MISSION_ITEMS no_item;
  count = fits.mission;
  index = fits.index;
  leg = λ shown. absurd (true≢false (sym shown));
  inputs = Nav_inputs boot.links boot.inputs limits.inputs;
}

new_plans-fit : (boot : BootScript) (state : BootState) → StateFits state → length state.heads ≡ 3 → PlansFit (new_core boot state).shared (new_core boot state).links (new_core boot state).nav
new_plans-fit boot state fits three = record {
  heads = three;
  ids = refl;
  head = fits.mission;
  waiting = All-nil (AskFits (head_at state.heads 0) (new_core boot state).links);
  service = tt;
  sessions = λ k d below. subst (λ (l : LinkState). SessionIdFits (new_core boot state).shared l.session) (sym (new_links-at boot.links boot.inputs k d (rw (← length-new_links boot.links boot.inputs) below))) tt;
  flown = omega arith;
  same = λ e. refl;
  used = omega arith;
}

-- the core at the beginning of a boot fits
pub new_core-fits : (boot : BootScript) (state : BootState) → InLimits boot → StateFits state → length state.heads ≡ 3 → CoreFits (new_core boot state)
new_core-fits boot state limits fits three = record {
  service = refl;
  links = length-replicate boot.links [] ∙ sym (length-new_links boot.links boot.inputs);
  one = rw (length-new_links boot.links boot.inputs) limits.links;
  each = λ k d below.
      let here = new_links-at boot.links boot.inputs k d (rw (← length-new_links boot.links boot.inputs) below) in
      subst (λ (l : LinkState). (l.number ≡ k) × LinkFits (new_core boot state).shared l) (sym here) (refl, new_link-fits boot state k limits);
  nav = new_nav-fits boot state limits fits;
  plans = new_plans-fit boot state fits three;
}
