-- An input is sorted: it is put behind those of its actor.
use Rattle.std.proofs.Common.{◌≡◌, ◌≢◌, ◌⊎◌, inl, inr, ℕ, zero, suc, ◌+◌, ◌<◌, Bool, true, false, List, [], ◌∷◌, length, cond, refl, sym, subst, ap, ◌∙◌, arith, get_or-set_same, get_or-set_other, length-set, append_assoc}
use Rattle.std.specs.Prelude.{slice_index_or, slice_set, replicate}
use Rattle.std.proofs.lemmas.Bool.Decides.{eqb_tells}
use Rattle.std.proofs.lemmas.List.{length-replicate}
use Rattle.mission_model.specs.declared.flight_line.Actor.{Actor}
use Rattle.mission_model.specs.declared.flight_line.Actor.TheVariants.{Worker, Link, Nav, Watch}
use Rattle.mission_model.specs.declared.schedule.InputLine.{InputLine}
use Rattle.mission_model.specs.BootScripts.{ActorInput}
use Rattle.vehicle_core.specs.ScheduleState.{ScheduleState, fresh, same_actor, inputs_of}
use Rattle.vehicle_core.specs.Seats.{HasSeat, seat_of, schedule_at, Fills, Sorted, pushed}

-- two actors are one and the test says so, or they are not and the test says so
pub tell : (a b : Actor) → ((same_actor a b ≡ true) × (a ≡ b)) ⊎ ((same_actor a b ≡ false) × (a ≢ b))
tell Worker Worker = inl (refl, refl)
tell Worker Nav = inr (refl, λ e. cc)
tell Worker (Link m) = inr (refl, λ e. cc)
tell Worker (Watch m) = inr (refl, λ e. cc)
tell Nav Worker = inr (refl, λ e. cc)
tell Nav Nav = inl (refl, refl)
tell Nav (Link m) = inr (refl, λ e. cc)
tell Nav (Watch m) = inr (refl, λ e. cc)
tell (Link n) Worker = inr (refl, λ e. cc)
tell (Link n) Nav = inr (refl, λ e. cc)
tell (Link n) (Link m) = elim (eqb_tells n m) [ inl same ↦ inl (same.0, ap (λ k. Link k) same.1) | inr other ↦ inr (other.0, λ e. other.1 cc) ]
tell (Link n) (Watch m) = inr (refl, λ e. cc)
tell (Watch n) Worker = inr (refl, λ e. cc)
tell (Watch n) Nav = inr (refl, λ e. cc)
tell (Watch n) (Link m) = inr (refl, λ e. cc)
tell (Watch n) (Watch m) = elim (eqb_tells n m) [ inl same ↦ inl (same.0, ap (λ k. Watch k) same.1) | inr other ↦ inr (other.0, λ e. other.1 cc) ]

pub same_is : (a b : Actor) → same_actor a b ≡ true → a ≡ b
same_is a b is = elim (tell a b) [ inl same ↦ same.1 | inr apart ↦ absurd (let e : true ≡ false = sym is ∙ apart.0 in cc) ]

-- actors that are not one have seats of their own
seats_apart : (links watchers : ℕ) (a b : Actor) → HasSeat links watchers a → HasSeat links watchers b → a ≢ b → seat_of links b ≢ seat_of links a
seats_apart links watchers Worker b ha hb ne = absurd ha
seats_apart links watchers a Worker ha hb ne = absurd hb
seats_apart links watchers Nav Nav ha hb ne = absurd (ne refl)
seats_apart links watchers Nav (Link m) ha hb ne = λ e. omega (arith, e, hb)
seats_apart links watchers Nav (Watch m) ha hb ne = λ e. omega (arith, e)
seats_apart links watchers (Link n) Nav ha hb ne = λ e. omega (arith, e, ha)
seats_apart links watchers (Link n) (Link m) ha hb ne = λ e. ne (ap (λ k. Link k) (sym e))
seats_apart links watchers (Link n) (Watch m) ha hb ne = λ e. omega (arith, e, ha)
seats_apart links watchers (Watch n) Nav ha hb ne = λ e. omega (arith, e)
seats_apart links watchers (Watch n) (Link m) ha hb ne = λ e. omega (arith, e, hb)
seats_apart links watchers (Watch n) (Watch m) ha hb ne = λ e. ne (ap (λ k. Watch k) (omega (arith, e)))

pub seat_within : (links watchers : ℕ) (a : Actor) → HasSeat links watchers a → seat_of links a < links + 1 + watchers
seat_within links watchers Worker h = absurd h
seat_within links watchers (Link n) h = omega (arith, h)
seat_within links watchers Nav h = omega arith
seat_within links watchers (Watch n) h = omega (arith, h)

pub input_seat : (links watchers : ℕ) (a : Actor) (input : InputLine) → ActorInput links watchers (a, input) → HasSeat links watchers a
input_seat links watchers Worker input h = h
input_seat links watchers (Link n) input h = h.0
input_seat links watchers Nav input h = tt
input_seat links watchers (Watch n) input h = h.0

fills_push : (all more : List InputLine) (input : InputLine) (s : ScheduleState) → Fills all (input ∷ more) s → Fills all more (pushed s input)
fills_push all more input s h = record { new = ap (λ (x : ScheduleState). pushed x input) h.new; whole = append_assoc s.inputs (input ∷ []) more ∙ h.whole }

pub sort_one : (links watchers : ℕ) (all rest : List (Actor × InputLine)) (a : Actor) (input : InputLine) (ss : List ScheduleState) → HasSeat links watchers a → Sorted links watchers all ((a, input) ∷ rest) ss
    → Sorted links watchers all rest (slice_set ss (seat_of links a) (pushed (schedule_at ss (seat_of links a)) input))
sort_one links watchers all rest a input ss has sorted =
    let new : ScheduleState = pushed (schedule_at ss (seat_of links a)) input in
    let within : seat_of links a < length ss = omega (arith, sorted.count, seat_within links watchers a has) in
    record {
      count = length-set ss (seat_of links a) new ∙ sorted.count;
      each = λ actor seat.
          let was = sorted.each actor seat in
          elim (tell actor a) [
            | inl same ↦
                let more : inputs_of actor ((a, input) ∷ rest) ≡ input ∷ inputs_of actor rest = ap (λ (b : Bool). cond b (input ∷ inputs_of actor rest) (inputs_of actor rest)) same.0 in
                let here : schedule_at (slice_set ss (seat_of links a) new) (seat_of links actor) ≡ pushed (schedule_at ss (seat_of links actor)) input =
                ap (λ (x : Actor). schedule_at (slice_set ss (seat_of links a) new) (seat_of links x)) same.1 ∙ get_or-set_same ss (seat_of links a) new (fresh []) within ∙ ap (λ (x : Actor). pushed (schedule_at ss (seat_of links x)) input) (sym same.1) in
                subst (Fills (inputs_of actor all) (inputs_of actor rest)) (sym here)
                (fills_push (inputs_of actor all) (inputs_of actor rest) input (schedule_at ss (seat_of links actor)) (subst (λ (m : List InputLine). Fills (inputs_of actor all) m (schedule_at ss (seat_of links actor))) more was))
            | inr apart ↦
                let more : inputs_of actor ((a, input) ∷ rest) ≡ inputs_of actor rest = ap (λ (b : Bool). cond b (input ∷ inputs_of actor rest) (inputs_of actor rest)) apart.0 in
                let there : schedule_at (slice_set ss (seat_of links a) new) (seat_of links actor) ≡ schedule_at ss (seat_of links actor) = get_or-set_other ss (seat_of links a) (seat_of links actor) new (fresh []) (λ e. seats_apart links watchers actor a seat has apart.1 (sym e)) in
                subst (Fills (inputs_of actor all) (inputs_of actor rest)) (sym there)
                (subst (λ (m : List InputLine). Fills (inputs_of actor all) m (schedule_at ss (seat_of links actor))) more was)
          ];
    }

-- before any input is sorted
empty_at : (n k : ℕ) → slice_index_or (replicate n (fresh [])) k (fresh []) ≡ fresh []
empty_at zero k = refl
empty_at (suc n) zero = refl
empty_at (suc n) (suc k) = empty_at n k

pub sort_none : (links watchers : ℕ) (all : List (Actor × InputLine)) (ss : List ScheduleState) → ss ≡ replicate (links + 1 + watchers) (fresh []) → Sorted links watchers all all ss
sort_none links watchers all ss is = subst (Sorted links watchers all all) (sym is) (record {
  count = length-replicate (links + 1 + watchers) (fresh []);
  each = λ actor seat. subst (Fills (inputs_of actor all) (inputs_of actor all)) (sym (empty_at (links + 1 + watchers) (seat_of links actor))) (record { new = refl; whole = refl });
})
