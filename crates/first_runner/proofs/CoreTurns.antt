-- Turns of the actors over the store are a run of the actors, in their order.
use Rattle.std.proofs.Common.{◌≡◌, ℕ, zero, suc, ◌||◌, Bool, true, false, List, [], ◌∷◌, ◌++◌, Option, Some, None, refl, sym, ap, ◌∙◌, subst, append_assoc}
use Rattle.std.specs.Prelude.{slice_get, MatchBool}
use Rattle.first_model.specs.declared.request.Request.{Request}
use Rattle.first_model.specs.declared.flight_line.Actor.{Actor}
use Rattle.first_model.specs.declared.flight_line.Actor.TheVariants as actor
use Rattle.first_model.specs.declared.flight_line.Line.{Line}
use Rattle.first_vehicle.specs.VehicleState.{VehicleState, index_taken}
use Rattle.first_vehicle.specs.VehicleStep.{Moves}
use Rattle.first_core.specs.declared.StepOut.{StepOut}
use Rattle.first_core.specs.declared.StepOut.TheVariants.{Made, Idle}
use Rattle.first_core.specs.WorkerLaw.{request_of}
use Rattle.first_core.specs.CoreState.{CoreState, CoreFits}
use Rattle.first_core.specs.CoreLaw.{CoreStep}
use Rattle.first_core.specs.PartsLaw.{PartsStay}
use Rattle.first_store.specs.StoreState as store
use Rattle.first_store.specs.Serve.{Well, reply_to}
use Rattle.first_runner.specs.Turn.{Turn, WorkerTurn, Acts, Rounds, line_of}
use Rattle.first_runner.specs.Tied.{Tied}
use Rattle.first_runner.specs.BootTold.{BootTold, told_after}
use Rattle.first_runner.specs.BootReady.{maker_of, is_ready, is_any_ready}
use Rattle.first_runner.specs.CoreRun.{Lawful, Goes}
use Rattle.first_runner.specs.CoreTold.{CoreTold}
use Rattle.first_runner.specs.Order.{ByTurns, rounds}
use Rattle.first_runner.proofs.TiedSteps.{Next, navigated, of_parts}
use Rattle.first_runner.proofs.TiedTurns.{turn_next, turn_fits}
use Rattle.first_runner.proofs.CoreWorker.{Follows, worker_follows}
use Rattle.first_runner.proofs.CoreHears.{link_follows}
use Rattle.first_runner.proofs.CoreNav.{nav_follows}

-- one actor's turn
worker_turn : (v : VehicleState) (t : BootTold) (c : CoreState) (st : store.StoreState) (asked : Option Request) (out : StepOut Line) (c' : CoreState) (st' : store.StoreState) → CoreFits c → CoreTold t c → WorkerTurn asked c st out c' st' → Follows v t actor.Worker out c'
worker_turn v t c st None out c' st' fits told (step, stays) = worker_follows v t c None out c' fits told step
worker_turn v t c st (Some asked) out c' st' fits told (step, stays) = worker_follows v t c (Some (reply_to Well st asked)) out c' fits told step

nav_turn : (v : VehicleState) (t : BootTold) (c : CoreState) (st : store.StoreState) (out : StepOut Line) (c' : CoreState) → CoreFits c → Tied v st c → CoreTold t c → CoreStep c actor.Nav None out c' → Follows v t actor.Nav out c'
nav_turn v t c st out c' fits tied told (step, taken, links) =
    of_parts (Follows v t actor.Nav out) c' c'.shared c.taken c.links c'.nav refl taken links refl (nav_follows v st t c out c'.shared c'.nav fits tied told step)

turn_follows : (v : VehicleState) (t : BootTold) (c : CoreState) (st : store.StoreState) (who : Actor) (out : StepOut Line) (c' : CoreState) (st' : store.StoreState) → CoreFits c → Tied v st c → CoreTold t c → Turn c st who out c' st' → Follows v t who out c'
turn_follows v t c st actor.Worker out c' st' fits tied told turn = worker_turn v t c st (request_of c.taken) out c' st' fits told turn
turn_follows v t c st (actor.Link number) out c' st' fits tied told (step, stays) = link_follows v t c number (slice_get c.links number) out c' fits told refl step
turn_follows v t c st actor.Nav out c' st' fits tied told (step, stays) = nav_turn v t c st out c' fits tied told step
turn_follows v t c st (actor.Watch number) out c' st' fits tied told ((idle, same), stays) =
    subst (λ o. Follows v t (actor.Watch number) o c') (sym idle) (subst (λ x. Follows v t (actor.Watch number) Idle x) (sym same) (refl, told))

-- the lines lead from a vehicle and what was told to others, which are tied to core and store, and these actors made them
pub record Walked (v : VehicleState) (t : BootTold) (actors : List Actor) (lines : List Line) (c : CoreState) (st : store.StoreState) : Type 0 where
  pub vehicle : VehicleState
  pub told : BootTold
  pub goes : Goes t v lines told vehicle
  pub order : (more : List Actor) (rest : List Line) → ByTurns told vehicle more rest → ByTurns t v (actors ++ more) (lines ++ rest)
  pub fits : CoreFits c
  pub tied : Tied vehicle st c
  pub core : CoreTold told c

-- an actor that is not ready makes none of the lines
skipped : (t : BootTold) (v : VehicleState) (who : Actor) (actors : List Actor) (lines : List Line) → is_ready t who ≡ false → ByTurns t v actors lines → ByTurns t v (who ∷ actors) lines
skipped t v who actors [] unready by = tt
skipped t v who actors (line ∷ lines) unready by =
    subst (λ b. MatchBool b ((maker_of line ≡ Some who) × (mid : VehicleState) × Moves v line mid × ByTurns (told_after t (index_taken v v.wanted) line) mid actors lines) (ByTurns t v actors (line ∷ lines))) (sym unready) by

-- one that is ready makes the first one
made : (t : BootTold) (v v' : VehicleState) (who : Actor) (actors : List Actor) (line : Line) (lines : List Line) → is_ready t who ≡ true → maker_of line ≡ Some who → Moves v line v' → ByTurns (told_after t (index_taken v v.wanted) line) v' actors lines → ByTurns t v (who ∷ actors) (line ∷ lines)
made t v v' who actors line lines ready maker moves by =
    subst (λ b. MatchBool b ((maker_of line ≡ Some who) × (mid : VehicleState) × Moves v line mid × ByTurns (told_after t (index_taken v v.wanted) line) mid actors lines) (ByTurns t v actors (line ∷ lines))) (sym ready) (maker, v', moves, by)

-- before the lines that follow, those of one turn
walks_on : (v : VehicleState) (t : BootTold) (who : Actor) (actors : List Actor) (out : StepOut Line) (rest lines : List Line) (m : CoreState) (m_st : store.StoreState) (c : CoreState) (st : store.StoreState) → v ≡ index_taken v v.wanted → Next v out m_st m → Follows v t who out m → ((v' : VehicleState) (t' : BootTold) → Tied v' m_st m → CoreTold t' m → Walked v' t' actors rest c st) → lines ≡ line_of out ++ rest → Walked v t (who ∷ actors) lines c st
walks_on v t who actors (Made line) rest lines m m_st c st same next follows more is =
    let here : VehicleState = index_taken v v.wanted in
    let after : BootTold = told_after t here line in
    let law : Lawful t here line = subst (λ x. Lawful t x line) same (record { maker = who; made_by = follows.0; ready = follows.1; law = follows.2; within = follows.3.within }) in
    let told : CoreTold after m = subst (λ x. CoreTold (told_after t x line) m) same follows.3 in
    let walk = more next.0 after next.2 told in
    record {
      vehicle = walk.vehicle;
      told = walk.told;
      goes = subst (λ l. Goes t v l walk.told walk.vehicle) (sym is) (next.0, law, next.1, walk.goes);
      order = λ others behind by. subst (λ l. ByTurns t v ((who ∷ actors) ++ others) (l ++ behind)) (sym is) (made t v next.0 who (actors ++ others) line (rest ++ behind) follows.1 follows.0 next.1 (walk.order others behind by));
      fits = walk.fits;
      tied = walk.tied;
      core = walk.core;
    }
walks_on v t who actors Idle rest lines m m_st c st same next follows more is =
    let walk = more v t next follows.1 in
    record {
      vehicle = walk.vehicle;
      told = walk.told;
      goes = subst (λ l. Goes t v l walk.told walk.vehicle) (sym is) walk.goes;
      order = λ others behind by. subst (λ l. ByTurns t v ((who ∷ actors) ++ others) (l ++ behind)) (sym is) (skipped t v who (actors ++ others) (rest ++ behind) follows.0 (walk.order others behind by));
      fits = walk.fits;
      tied = walk.tied;
      core = walk.core;
    }

pub acts_walk : (stay : PartsStay) (actors : List Actor) (v : VehicleState) (t : BootTold) (c : CoreState) (st : store.StoreState) (lines : List Line) (c' : CoreState) (st' : store.StoreState) → CoreFits c → Tied v st c → CoreTold t c → Acts c st actors lines c' st' → Walked v t actors lines c' st'
acts_walk stay [] v t c st lines c' st' fits tied told (none, same, same_st) = record {
  vehicle = v;
  told = t;
  goes = subst (λ l. Goes t v l t v) (sym none) (refl, refl);
  order = λ more rest by. subst (λ l. ByTurns t v more (l ++ rest)) (sym none) by;
  fits = subst CoreFits (sym same) fits;
  tied = subst (λ x. Tied v x c') (sym same_st) (subst (Tied v st) (sym same) tied);
  core = subst (CoreTold t) (sym same) told;
}
acts_walk stay (who ∷ actors) v t c st lines c' st' fits tied told (out, m, m_st, rest, turn, acts, is) =
    walks_on v t who actors out rest lines m m_st c' st' (ap (index_taken v) (sym tied.wanted)) (turn_next v st c who out m m_st fits tied turn) (turn_follows v t c st who out m m_st fits tied told turn)
    (λ v' t' tied' told'. acts_walk stay actors v' t' m m_st rest c' st' (turn_fits stay st c who out m m_st fits turn) tied' told' acts) is

-- lines that lead on
Goes-join : (t mid last : BootTold) (v u w : VehicleState) (front back : List Line) → Goes t v front mid u → Goes mid u back last w → Goes t v (front ++ back) last w
Goes-join t mid last v u w [] back first more = subst (λ x. Goes x v back last w) first.0 (subst (λ x. Goes mid x back last w) first.1 more)
Goes-join t mid last v u w (line ∷ front) back first more = (first.0, first.1, first.2, Goes-join (told_after t (index_taken v v.wanted) line) mid last first.0 u w front back first.3 more)

pub walks_join : (v : VehicleState) (t : BootTold) (actors others : List Actor) (front back : List Line) (m : CoreState) (m_st : store.StoreState) (c : CoreState) (st : store.StoreState) (first : Walked v t actors front m m_st) → Walked first.vehicle first.told others back c st → Walked v t (actors ++ others) (front ++ back) c st
walks_join v t actors others front back m m_st c st first more = record {
  vehicle = more.vehicle;
  told = more.told;
  goes = Goes-join t first.told more.told v first.vehicle more.vehicle front back first.goes more.goes;
  order = λ next rest by. subst (λ l. ByTurns t v l ((front ++ back) ++ rest)) (sym (append_assoc actors others next)) (subst (ByTurns t v (actors ++ (others ++ next))) (sym (append_assoc front back rest)) (first.order (others ++ next) (back ++ rest) (more.order next rest by)));
  fits = more.fits;
  tied = more.tied;
  core = more.core;
}

pub rounds_walk : (stay : PartsStay) (round : List Actor) (n : ℕ) (v : VehicleState) (t : BootTold) (c : CoreState) (st : store.StoreState) (lines : List Line) (c' : CoreState) (st' : store.StoreState) → CoreFits c → Tied v st c → CoreTold t c → Rounds round n c st lines c' st' → Walked v t (rounds n round) lines c' st'
rounds_walk stay round zero v t c st lines c' st' fits tied told went = acts_walk stay [] v t c st lines c' st' fits tied told went
rounds_walk stay round (suc n) v t c st lines c' st' fits tied told (first, m, m_st, rest, acts, some, went, is) =
    let here = acts_walk stay round v t c st first m m_st fits tied told acts in
    let after = rounds_walk stay round n here.vehicle here.told m m_st rest c' st' here.fits here.tied here.core went in
    subst (λ l. Walked v t (round ++ rounds n round) l c' st') (sym is) (walks_join v t round (rounds n round) first rest m m_st c' st' here after)

-- where a round makes no line, nobody is ready
pub record Still (v : VehicleState) (t : BootTold) (actors : List Actor) (c : CoreState) : Type 0 where
  pub none : is_any_ready t actors ≡ false
  pub core : CoreTold t c

or_both : (a b : Bool) → a ≡ false → b ≡ false → (a || b) ≡ false
or_both a b left right = rw (left, right) refl

still_on : (v : VehicleState) (t : BootTold) (who : Actor) (actors : List Actor) (out : StepOut Line) (rest : List Line) (m : CoreState) (m_st : store.StoreState) (c : CoreState) → Next v out m_st m → Follows v t who out m → (Tied v m_st m → CoreTold t m → rest ≡ [] → Still v t actors c) → [] ≡ line_of out ++ rest → Still v t (who ∷ actors) c
still_on v t who actors (Made line) rest m m_st c next follows more is = cc
still_on v t who actors Idle rest m m_st c next follows more is =
    let still = more next follows.1 (sym is) in
    record { none = or_both (is_ready t who) (is_any_ready t actors) follows.0 still.none; core = still.core }

pub acts_still : (stay : PartsStay) (actors : List Actor) (v : VehicleState) (t : BootTold) (c : CoreState) (st : store.StoreState) (lines : List Line) (c' : CoreState) (st' : store.StoreState) → CoreFits c → Tied v st c → CoreTold t c → lines ≡ [] → Acts c st actors lines c' st' → Still v t actors c'
acts_still stay [] v t c st lines c' st' fits tied told none (made_none, same, same_st) = record { none = refl; core = subst (CoreTold t) (sym same) told }
acts_still stay (who ∷ actors) v t c st lines c' st' fits tied told none (out, m, m_st, rest, turn, acts, is) =
    still_on v t who actors out rest m m_st c' (turn_next v st c who out m m_st fits tied turn) (turn_follows v t c st who out m m_st fits tied told turn)
    (λ tied' told' empty. acts_still stay actors v t m m_st rest c' st' (turn_fits stay st c who out m m_st fits turn) tied' told' empty acts) (sym none ∙ is)
