-- After the Navigator's step, by its law alone, it fits and the board is as it was for the links.
use Rattle.std.proofs.Common.{◌≡◌, ◌≢◌, inl, inr, ℕ, ◌==◌, Bool, true, false, List, [], ◌∷◌, ◌++◌, length, Option, None, refl, sym, ap, ◌∙◌, subst, arith, replicate}
use Rattle.std.specs.Prelude.{if◌then◌else◌}
use Rattle.std.specs.List.{All}
use Rattle.std.proofs.lemmas.Bool.{true≢false}
use Rattle.std.proofs.lemmas.Bool.Decides.{eqb_tells}
use Rattle.std.proofs.lemmas.List.{length-replicate}
use Rattle.std.proofs.lemmas.List.Elements.{All-head, All-drop}
use Rattle.first_model.specs.declared.plan.Item.{Item}
use Rattle.first_model.specs.declared.plan.PlanHead.{PlanHead}
use Rattle.first_model.specs.declared.plan.PlanType.{PlanType}
use Rattle.first_model.specs.declared.request.Client.{Client}
use Rattle.first_model.specs.declared.request.Client.TheVariants.{Nav, Link}
use Rattle.first_model.specs.declared.request.Request.{Request}
use Rattle.first_model.specs.declared.schedule.InputLine.TheVariants as input
use Rattle.first_model.specs.declared.vehicle.Mode.{Mode}
use Rattle.first_model.specs.declared.vehicle.Mode.TheVariants as mode
use Rattle.first_model.specs.declared.vehicle.VehicleLine.{VehicleLine}
use Rattle.first_model.specs.declared.vehicle.VehicleLine.TheVariants as event
use Rattle.first_model.specs.declared.vehicle.NavWhat.{NavWhat}
use Rattle.first_model.specs.declared.vehicle.NavWhat.TheVariants as what
use Rattle.first_model.specs.declared.vehicle.NavEntry.{NavEntry}
use Rattle.first_model.specs.declared.flight_line.Line.{Line}
use Rattle.first_model.specs.declared.flight_line.Line.TheVariants as line
use Rattle.first_board.specs.BoardState.{asks_of}
use Rattle.first_cache.specs.CacheState.{got}
use Rattle.first_cache.specs.Wants.{wanted, reads, flying}
use Rattle.first_core.specs.declared.StepOut.{StepOut}
use Rattle.first_core.specs.declared.StepOut.TheVariants.{Made, Idle}
use Rattle.first_core.specs.ScheduleState.{ScheduleState, begun_on}
use Rattle.first_core.specs.SharedState.{SharedState, mission_head}
use Rattle.first_core.specs.NavState.{NavState, NavFits, HeadFits, IsForMission, IsForNav, met, in_mode}
use Rattle.first_core.specs.NavLaw as law
use Rattle.first_core.proofs.NavStays.{same, got-shape, flying-shape, NavFits-with, NavFits-advanced}

-- for the links the board is as it was
pub record IsApart (s s' : SharedState) : Type 0 where
  pub service : s'.board.service ≡ s.board.service
  pub posted : s'.board.link_posted ≡ s.board.link_posted
  pub asks : (k : ℕ) → asks_of (Link k) s'.board.waiting ≡ asks_of (Link k) s.board.waiting

apart_same : (s s' : SharedState) → s'.board ≡ s.board → IsApart s s'
apart_same s s' stays = record { service = ap (λ b. b.service) stays; posted = ap (λ b. b.link_posted) stays; asks = λ k. ap (λ b. asks_of (Link k) b.waiting) stays }

-- the Navigator's reads are no requests of a link
reads_apart : (k : ℕ) (kind : PlanType) (id : ℕ) (waiting : List (Client × Request)) (seqs : List ℕ) → asks_of (Link k) (waiting ++ reads Nav kind id seqs) ≡ asks_of (Link k) waiting
reads_apart k kind id [] [] = refl
reads_apart k kind id [] (seq ∷ seqs) = omega (arith, reads_apart k kind id [] seqs)
reads_apart k kind id ((other, asked) ∷ waiting) seqs = omega (arith, reads_apart k kind id waiting seqs)

looks_apart : (s s' : SharedState) (n n' : NavState) (entry : NavEntry) → n.cache.client ≡ Nav → law.Looks s n entry s' n' → IsApart s s'
looks_apart s s' n n' entry own looks =
    let seqs : List ℕ = wanted n.cache s.board n.index in
    record {
      service = ap (λ (x : SharedState). x.board.service) looks.shared;
      posted = ap (λ (x : SharedState). x.board.link_posted) looks.shared;
      asks = λ k. ap (λ (x : SharedState). asks_of (Link k) x.board.waiting) looks.shared ∙ ap (λ (who : Client). asks_of (Link k) (s.board.waiting ++ reads who n.cache.kind n.cache.id seqs)) own ∙ reads_apart k n.cache.kind n.cache.id s.board.waiting seqs;
    }

ticks_apart : (s s' : SharedState) (n n' : NavState) (entry : NavEntry) → n.cache.client ≡ Nav → law.Ticks s n entry s' n' → IsApart s s'
ticks_apart s s' n n' entry own (inl (away, none, stays, is)) = apart_same s s' (ap (λ (x : SharedState). x.board) stays)
ticks_apart s s' n n' entry own (inr looks) = looks_apart s s' n n' entry own looks

acts_apart : (s s' : SharedState) (n n' : NavState) (given : VehicleLine) (entry : NavEntry) → n.cache.client ≡ Nav → law.Acts s n given entry s' n' → IsApart s s'
acts_apart s s' n n' event.Tick entry own acts = ticks_apart s s' n n' entry own acts
acts_apart s s' n n' event.Go entry own acts = ticks_apart s s' n n' entry own acts
acts_apart s s' n n' event.Reached entry own (shows, none, stays) = apart_same s s' (ap (λ (x : SharedState). x.board) stays)
acts_apart s s' n n' (event.Mode mode) entry own (shows, none, stays) = apart_same s s' (ap (λ (x : SharedState). x.board) stays)
acts_apart s s' n n' (event.Position x y) entry own (shows, none, stays) = apart_same s s' (ap (λ (x : SharedState). x.board) stays)

-- the Navigator fits after it met a published mission within the limit
abbrev met_if : NavState → PlanHead → Bool → NavState
met_if n head own = if own then n else record n {
  cache = if own then n.cache else record { client = n.cache.client; kind = n.cache.kind; id = head.id; count = head.count; from = 0; known = replicate (length n.cache.known) None; in_flight = replicate (length n.cache.in_flight) false };
  index = 0;
  at_leg = false;
}

abbrev no_item : Option Item
no_item = None

met_fits : (n : NavState) (head : PlanHead) → NavFits n → HeadFits head → NavFits (met n head)
met_fits n head fits within = elim (eqb_tells n.cache.id head.id) [
  | inl own ↦ subst (λ b. NavFits (met_if n head b)) (sym own.0) fits
  | inr other ↦ subst (λ b. NavFits (met_if n head b)) (sym other.0) (record {
    mode = fits.mode;
    client = fits.client;
    kind = fits.kind;
    window = refl;
    whole = length-replicate (length n.cache.known) no_item ∙ fits.whole;
    count = within;
    index = omega arith;
    leg = λ shown. absurd (true≢false (sym shown));
    inputs = fits.inputs;
  })
]

-- another schedule with inputs of the Navigator
scheduled_fits : (n : NavState) (schedule : ScheduleState) → NavFits n → All IsForNav schedule.inputs → NavFits (record n { schedule = schedule })
scheduled_fits n schedule fits inputs = NavFits-with n schedule n.cache n.at_leg fits (same n.cache) inputs fits.leg

after_inputs : (schedule : ScheduleState) (given : VehicleLine) (shown : NavWhat) → All IsForNav schedule.inputs → All IsForNav (law.schedule_after schedule given shown).inputs
after_inputs schedule event.Go (what.Pending kind seq) inputs = inputs
after_inputs schedule given shown inputs = All-drop IsForNav 1 schedule.inputs inputs

ticks_fit : (s s' : SharedState) (n n' : NavState) (entry : NavEntry) → NavFits n → law.Ticks s n entry s' n' → NavFits n'
ticks_fit s s' n n' entry fits (inl (away, none, stays, is)) = rw is fits
ticks_fit s s' n n' entry fits (inr looks) =
    subst NavFits (sym looks.nav) (NavFits-with n n.schedule (flying n.cache (wanted n.cache s.board n.index)) n'.at_leg fits (flying-shape n.cache (wanted n.cache s.board n.index)) fits.inputs (λ shown. looks.within))

reached_fits : (n n' : NavState) (shown : NavWhat) → NavFits n → law.Shows n event.Reached shown n' → NavFits n'
reached_fits n n' (what.Next index) fits (leg, index_is, is) =
    let below = fits.leg leg in
    rw is (record { mode = fits.mode; client = fits.client; kind = fits.kind; window = fits.window; whole = fits.whole; count = fits.count; index = omega (arith, below); leg = λ shown. absurd (true≢false (sym shown)); inputs = fits.inputs })
reached_fits n n' what.Ignored fits (leg, is) = rw is fits
reached_fits n n' shown fits shows = absurd shows

moded_fits : (n : NavState) (m : Mode) → NavFits n → m ≢ mode.Return → NavFits (record n { mode = m })
moded_fits n m fits still = record { mode = still; client = fits.client; kind = fits.kind; window = fits.window; whole = fits.whole; count = fits.count; index = fits.index; leg = fits.leg; inputs = fits.inputs }

mission_fits : (n : NavState) (end : Bool) → NavFits n → mode.Mission ≢ mode.Return → NavFits (if end then record n { mode = mode.Mission; index = 0; at_leg = false } else record n { mode = mode.Mission })
mission_fits n true fits still = record { mode = still; client = fits.client; kind = fits.kind; window = fits.window; whole = fits.whole; count = fits.count; index = omega arith; leg = λ shown. absurd (true≢false (sym shown)); inputs = fits.inputs }
mission_fits n false fits still = moded_fits n mode.Mission fits still

mode_fits : (n : NavState) (m : Mode) → NavFits n → IsForMission (event.Mode m) → NavFits (in_mode n m)
mode_fits n mode.Hold fits fit = moded_fits n mode.Hold fits (λ e. cc e)
mode_fits n mode.Mission fits fit = mission_fits n (n.index == n.cache.count) fits (λ e. cc e)
mode_fits n mode.Return fits fit = absurd fit

acts_fit : (s s' : SharedState) (n n' : NavState) (given : VehicleLine) (entry : NavEntry) → NavFits n → IsForMission given → law.Acts s n given entry s' n' → NavFits n'
acts_fit s s' n n' event.Tick entry fits fit acts = ticks_fit s s' n n' entry fits acts
acts_fit s s' n n' event.Go entry fits fit acts = ticks_fit s s' n n' entry fits acts
acts_fit s s' n n' event.Reached entry fits fit (shows, none, stays) = reached_fits n n' entry.what fits shows
acts_fit s s' n n' (event.Mode m) entry fits fit (shows, none, stays) = rw shows.1 (mode_fits n m fits fit)
acts_fit s s' n n' (event.Position x y) entry fits fit (shows, none, stays) = rw shows.1 fits

happens_fits : (s s' : SharedState) (n n' : NavState) (given : VehicleLine) (entry : NavEntry) → NavFits n → HeadFits (mission_head s) → law.Happens s n given entry s' n' → NavFits n' × IsApart s s'
happens_fits s s' n n' given entry fits within happens =
    let found = met_fits n (mission_head s) fits within in
    let schedule : ScheduleState = law.schedule_after n.schedule given entry.what in
    let ready : NavState = record (met n (mission_head s)) { schedule = schedule } in
    let here : NavFits ready = scheduled_fits (met n (mission_head s)) schedule found (after_inputs n.schedule given entry.what fits.inputs) in
    let fit : IsForMission given = All-head IsForNav (input.Vehicle given) happens.rest (subst (All IsForNav) happens.input fits.inputs) in
    (acts_fit s s' ready n' given entry here fit happens.acts, acts_apart s s' ready n' given entry here.client happens.acts)

-- after a step of the Navigator
pub nav_parts : (s s' : SharedState) (n n' : NavState) (out : StepOut Line) → NavFits n → HeadFits (mission_head s) → law.NavStep s n out s' n' → NavFits n' × IsApart s s'
nav_parts s s' n n' (Made (line.Got asked given)) fits within step = (
  rw step.nav (NavFits-with n n.schedule (got n.cache asked given) n.at_leg fits (got-shape n.cache asked given) fits.inputs fits.leg),
  record { service = ap (λ (x : SharedState). x.board.service) step.shared; posted = ap (λ (x : SharedState). x.board.link_posted) step.shared; asks = λ k. ap (λ (x : SharedState). asks_of (Link k) x.board.waiting) step.shared },
)
nav_parts s s' n n' (Made (line.Nav given entry)) fits within step = happens_fits s s' n n' given entry fits within step
nav_parts s s' n n' (Made (line.Arrived client place)) fits within step = (rw step.nav (scheduled_fits n (begun_on n.schedule) fits fits.inputs), apart_same s s' (ap (λ (x : SharedState). x.board) step.shared))
nav_parts s s' n n' (Made (line.Met client place)) fits within step = (rw step.nav (NavFits-advanced n fits), apart_same s s' (ap (λ (x : SharedState). x.board) step.shared))
nav_parts s s' n n' (Made (line.Waited client)) fits within step = (rw step.nav (NavFits-advanced n fits), apart_same s s' (ap (λ (x : SharedState). x.board) step.shared))
nav_parts s s' n n' Idle fits within step = (rw step.nav fits, apart_same s s' (ap (λ (x : SharedState). x.board) step.shared))
nav_parts s s' n n' out fits within step = absurd step
