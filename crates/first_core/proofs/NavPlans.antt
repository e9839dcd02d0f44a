-- After the Navigator's step the requests that wait, the plan ids and the published mission fit one another still.
use Rattle.std.proofs.Common.{◌≡◌, inl, inr, ℕ, zero, suc, ◌+◌, ◌-◌, ◌<◌, ◌≤◌, ◌==◌, min, Bool, true, false, List, [], ◌∷◌, refl, sym, ◌∙◌, ap, arith, subst, get_or}
use Rattle.std.specs.Prelude.{if◌then◌else◌}
use Rattle.std.specs.List.{All}
use Rattle.std.proofs.lemmas.Bool.{eqb-true}
use Rattle.std.proofs.lemmas.List.Elements.{All-nil, All-cons, All-append, All-take, All-weaker}
use Rattle.first_model.specs.declared.plan.PlanHead.{PlanHead}
use Rattle.first_model.specs.declared.plan.PlanType.{PlanType}
use Rattle.first_model.specs.declared.plan.PlanType.TheVariants.{Mission}
use Rattle.first_model.specs.declared.request.Client.{Client}
use Rattle.first_model.specs.declared.request.Client.TheVariants.{Nav}
use Rattle.first_model.specs.declared.request.Request.TheVariants as request
use Rattle.first_model.specs.declared.vehicle.Mode.{Mode}
use Rattle.first_model.specs.declared.vehicle.Mode.TheVariants as mode
use Rattle.first_model.specs.declared.vehicle.VehicleLine.{VehicleLine}
use Rattle.first_model.specs.declared.vehicle.VehicleLine.TheVariants as event
use Rattle.first_model.specs.declared.vehicle.NavWhat.{NavWhat}
use Rattle.first_model.specs.declared.vehicle.NavWhat.TheVariants as what
use Rattle.first_model.specs.declared.vehicle.NavEntry.{NavEntry}
use Rattle.first_model.specs.declared.flight_line.Line.{Line}
use Rattle.first_model.specs.declared.flight_line.Line.TheVariants as line
use Rattle.first_board.specs.BoardState.{BoardState}
use Rattle.first_cache.specs.CacheState.{CacheState, window_end}
use Rattle.first_cache.specs.Wants.{missing, missing_at, wanted, reads, asking}
use Rattle.first_core.specs.declared.StepOut.{StepOut}
use Rattle.first_core.specs.declared.StepOut.TheVariants.{Made, Idle}
use Rattle.first_core.specs.ScheduleState.{begun_on, advanced}
use Rattle.first_core.specs.SharedState.{SharedState, with_board, arrived_at, mission_head}
use Rattle.first_core.specs.LinkState.{LinkState}
use Rattle.first_core.specs.NavState.{NavState, NavFits, met, in_mode}
use Rattle.first_core.specs.NavLaw as law
use Rattle.first_core.specs.PlansFit.{PlansFit, AskFits}
use Rattle.first_core.proofs.NavStays.{got-shape}
use Rattle.first_core.proofs.PlansKept.{SessionIdFits-later, PlansFit-same}

-- the seq is one of so many from seq on
abbrev IsFrom : ℕ → ℕ → ℕ → Type 0
IsFrom seq n place = (seq ≤ place) × (place < seq + n)

missing_at-from : (seq n : ℕ) (known : Bool) → All (IsFrom seq (suc n)) (if known then [] else (seq + n) ∷ [])
missing_at-from seq n true = All-nil (IsFrom seq (suc n))
missing_at-from seq n false = All-cons (IsFrom seq (suc n)) (seq + n) [] (omega arith, omega arith) (All-nil (IsFrom seq (suc n)))

missing-from : (c : CacheState) (seq n : ℕ) → All (IsFrom seq n) (missing c seq n)
missing-from c seq zero = All-nil (IsFrom seq zero)
missing-from c seq (suc n) = All-append (IsFrom seq (suc n)) (missing c seq n) (missing_at c (seq + n)) (All-weaker (IsFrom seq n) (IsFrom seq (suc n)) (λ place from. (from.0, omega (arith, from.1))) (missing c seq n) (missing-from c seq n)) (missing_at-from seq n _)

-- what a look asks is below the count
pub wanted-below : (c : CacheState) (b : BoardState) (seq : ℕ) → All (λ place. place < c.count) (wanted c b seq)
wanted-below c b seq =
    let total = min c.count (window_end c) in
    let within : total ≤ c.count = omega arith in
    All-take (λ place. place < c.count) _ (missing c seq (total - seq)) (All-weaker (IsFrom seq (total - seq)) (λ place. place < c.count) (λ place from. omega (arith, from.0, from.1, within)) (missing c seq (total - seq)) (missing-from c seq (total - seq)))

reads-fit : (head : PlanHead) (links : List LinkState) (id : ℕ) (seqs : List ℕ) → id ≡ head.id → All (λ place. place < head.count) seqs → All (AskFits head links) (reads Nav Mission id seqs)
reads-fit head links id [] is below = All-nil (AskFits head links)
reads-fit head links id (seq ∷ seqs) is below = All-cons (AskFits head links) (Nav, request.Read Mission id seq) (reads Nav Mission id seqs) (omega (arith, is), λ same. below 0 seq (omega arith)) (reads-fit head links id seqs is (λ k d within. below (suc k) d (omega (arith, within))))

-- the Navigator has the mission in force
pub record InForce (s : SharedState) (n : NavState) : Type 0 where
  pub client : n.cache.client ≡ Nav
  pub kind : n.cache.kind ≡ Mission
  pub id : n.cache.id ≡ (mission_head s).id
  pub count : n.cache.count ≡ (mission_head s).count

adopted_by : (n : NavState) (head : PlanHead) (same : Bool) → (n.cache.id == head.id) ≡ same → (n.cache.id ≡ head.id → n.cache.count ≡ head.count) → ((met n head).cache.client ≡ n.cache.client) × ((met n head).cache.kind ≡ n.cache.kind) × ((met n head).cache.id ≡ head.id) × ((met n head).cache.count ≡ head.count)
adopted_by n head true e counts = let is = eqb-true n.cache.id head.id e in rw e (refl, refl, is, counts is)
adopted_by n head false e counts = rw e (refl, refl, refl, refl)

-- after the published mission was met it is the Navigator's
met_in_force : (s : SharedState) (links : List LinkState) (n : NavState) → PlansFit s links n → NavFits n → InForce s (met n (mission_head s))
met_in_force s links n fits nav = let h = adopted_by n (mission_head s) (n.cache.id == (mission_head s).id) refl fits.same in record { client = h.0 ∙ nav.client; kind = h.1 ∙ nav.kind; id = h.2; count = h.3 }

-- only the Navigator's own state changes
plans_nav_still : (s : SharedState) (links : List LinkState) (n n' : NavState) → PlansFit s links n → n'.cache.id ≡ n.cache.id → n'.cache.count ≡ n.cache.count → PlansFit s links n'
plans_nav_still s links n n' fits id count = PlansFit-same s s links n n' fits fits.service refl refl refl id count

plans_met : (s : SharedState) (links : List LinkState) (n n' : NavState) → PlansFit s links n → InForce s n' → PlansFit s links n'
plans_met s links n n' fits here = record {
  heads = fits.heads;
  ids = fits.ids;
  head = fits.head;
  waiting = fits.waiting;
  service = fits.service;
  sessions = fits.sessions;
  flown = omega (arith, here.id);
  same = λ e. here.count;
  used = fits.used;
}

plans_looks : (s s' : SharedState) (links : List LinkState) (n n' : NavState) (entry : NavEntry) → PlansFit s links n → InForce s n → law.Looks s n entry s' n' → PlansFit s' links n'
plans_looks s s' links n n' entry fits here looks =
    let seqs : List ℕ = wanted n.cache s.board n.index in
    let asks : All (AskFits (mission_head s) links) (reads n.cache.client n.cache.kind n.cache.id seqs) = subst (λ (client : Client). All (AskFits (mission_head s) links) (reads client n.cache.kind n.cache.id seqs)) (sym here.client) (subst (λ (kind : PlanType). All (AskFits (mission_head s) links) (reads Nav kind n.cache.id seqs)) (sym here.kind) (reads-fit (mission_head s) links n.cache.id seqs here.id (subst (λ (count : ℕ). All (λ place. place < count) seqs) here.count (wanted-below n.cache s.board n.index)))) in
    let moved : PlansFit (with_board s (asking n.cache s.board seqs)) links n = record {
      heads = fits.heads;
      ids = fits.ids;
      head = fits.head;
      waiting = All-append (AskFits (mission_head s) links) s.board.waiting (reads n.cache.client n.cache.kind n.cache.id seqs) fits.waiting asks;
      service = fits.service;
      sessions = λ k d within. SessionIdFits-later s (with_board s (asking n.cache s.board seqs)) refl (omega arith) (get_or links k d).session (fits.sessions k d within);
      flown = fits.flown;
      same = fits.same;
      used = fits.used;
    } in
    rw looks.shared (plans_nav_still (with_board s (asking n.cache s.board seqs)) links n n' moved (ap (λ (x : NavState). x.cache.id) looks.nav) (ap (λ (x : NavState). x.cache.count) looks.nav))

plans_ticks : (s s' : SharedState) (links : List LinkState) (n n' : NavState) (entry : NavEntry) → PlansFit s links n → InForce s n → law.Ticks s n entry s' n' → PlansFit s' links n'
plans_ticks s s' links n n' entry fits here (inl (away, none, stays, is)) = rw (stays, is) fits
plans_ticks s s' links n n' entry fits here (inr looks) = plans_looks s s' links n n' entry fits here looks

in_mode_by : (n : NavState) (at_end : Bool) → (n.index == n.cache.count) ≡ at_end → (in_mode n mode.Mission).cache ≡ n.cache
in_mode_by n true e = rw e refl
in_mode_by n false e = rw e refl

in_mode-cache : (n : NavState) (mode : Mode) → (in_mode n mode).cache ≡ n.cache
in_mode-cache n mode.Hold = refl
in_mode-cache n mode.Mission = in_mode_by n (n.index == n.cache.count) refl
in_mode-cache n mode.Return = refl

shows-cache : (n n' : NavState) (event : VehicleLine) (given : NavWhat) → law.Shows n event given n' → n'.cache ≡ n.cache
shows-cache n n' (event.Mode mode) given shows = rw shows.1 (in_mode-cache n mode)
shows-cache n n' (event.Position x y) given shows = ap (λ (m : NavState). m.cache) shows.1
shows-cache n n' event.Reached (what.Next index) shows = ap (λ (m : NavState). m.cache) shows.2
shows-cache n n' event.Reached what.Ignored shows = ap (λ (m : NavState). m.cache) shows.1
shows-cache n n' event given shows = absurd shows

plans_shows : (s s' : SharedState) (links : List LinkState) (n n' : NavState) (event : VehicleLine) (given : NavWhat) → PlansFit s links n → law.Shows n event given n' → s' ≡ s → PlansFit s' links n'
plans_shows s s' links n n' event given fits shows stays =
    let cache = shows-cache n n' event given shows in
    rw stays (plans_nav_still s links n n' fits (ap (λ (c : CacheState). c.id) cache) (ap (λ (c : CacheState). c.count) cache))

plans_acts : (s s' : SharedState) (links : List LinkState) (n n' : NavState) (event : VehicleLine) (entry : NavEntry) → PlansFit s links n → InForce s n → law.Acts s n event entry s' n' → PlansFit s' links n'
plans_acts s s' links n n' event.Tick entry fits here acts = plans_ticks s s' links n n' entry fits here acts
plans_acts s s' links n n' event.Go entry fits here acts = plans_ticks s s' links n n' entry fits here acts
plans_acts s s' links n n' event.Reached entry fits here (shows, none, stays) = plans_shows s s' links n n' event.Reached entry.what fits shows stays
plans_acts s s' links n n' (event.Mode mode) entry fits here (shows, none, stays) = plans_shows s s' links n n' (event.Mode mode) entry.what fits shows stays
plans_acts s s' links n n' (event.Position x y) entry fits here (shows, none, stays) = plans_shows s s' links n n' (event.Position x y) entry.what fits shows stays

plans_happens : (s s' : SharedState) (links : List LinkState) (n n' : NavState) (event : VehicleLine) (entry : NavEntry) → PlansFit s links n → NavFits n → law.Happens s n event entry s' n' → PlansFit s' links n'
plans_happens s s' links n n' event entry fits nav happens =
    let ready : NavState = record (met n (mission_head s)) { schedule = law.schedule_after n.schedule event entry.what } in
    let force = met_in_force s links n fits nav in
    let here : InForce s ready = record { client = force.client; kind = force.kind; id = force.id; count = force.count } in
    plans_acts s s' links ready n' event entry (plans_met s links n ready fits here) here happens.acts

-- the Navigator moved by its law
pub plans_nav : (s s' : SharedState) (links : List LinkState) (n n' : NavState) (out : StepOut Line) → PlansFit s links n → NavFits n → law.NavStep s n out s' n' → PlansFit s' links n'
plans_nav s s' links n n' (Made (line.Got asked given)) fits nav step =
    let shape = got-shape n.cache asked given in
    PlansFit-same s s' links n n' fits (rw step.shared fits.service) (ap (λ (x : SharedState). x.board.published) step.shared) (ap (λ (x : SharedState). x.board.waiting) step.shared) (ap (λ (x : SharedState). x.ids) step.shared) (ap (λ (x : NavState). x.cache.id) step.nav ∙ shape.id) (ap (λ (x : NavState). x.cache.count) step.nav ∙ shape.count)
plans_nav s s' links n n' (Made (line.Nav event entry)) fits nav step = plans_happens s s' links n n' event entry fits nav step
plans_nav s s' links n n' (Made (line.Arrived client place)) fits nav step = rw (step.shared, step.nav) (PlansFit-same s (arrived_at s place) links n (record n { schedule = begun_on n.schedule }) fits fits.service refl refl refl refl refl)
plans_nav s s' links n n' (Made (line.Met client place)) fits nav step = rw (step.shared, step.nav) (plans_nav_still s links n (record n { schedule = advanced n.schedule }) fits refl refl)
plans_nav s s' links n n' (Made (line.Waited client)) fits nav step = rw (step.shared, step.nav) (plans_nav_still s links n (record n { schedule = advanced n.schedule }) fits refl refl)
plans_nav s s' links n n' Idle fits nav step = rw (step.shared, step.nav) fits
plans_nav s s' links n n' out fits nav step = absurd step
