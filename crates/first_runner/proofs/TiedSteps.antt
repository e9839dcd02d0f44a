-- What a step has to show, and cores put together from their parts.
use Rattle.std.proofs.Common.{◌≡◌, ℕ, ◌<◌, ◌≤◌, List, length, Option, Some, sym, subst, arith, get_or, set}
use Rattle.std.specs.Prelude.{slice_get}
use Rattle.std.proofs.lemmas.Option.{slice_get_within, get_or_from_slice_get}
use Rattle.first_model.specs.declared.request.Client.{Client}
use Rattle.first_model.specs.declared.request.Request.{Request}
use Rattle.first_model.specs.declared.flight_line.Line.{Line}
use Rattle.first_board.specs.BoardState.{BoardState}
use Rattle.first_vehicle.specs.VehicleState.{VehicleState}
use Rattle.first_vehicle.specs.VehicleStep.{Moves}
use Rattle.first_core.specs.declared.StepOut.{StepOut}
use Rattle.first_core.specs.declared.StepOut.TheVariants.{Made, Idle}
use Rattle.first_core.specs.SharedState.{SharedState, with_board}
use Rattle.first_core.specs.LinkState.{LinkState}
use Rattle.first_core.specs.NavState.{NavState}
use Rattle.first_core.specs.CoreState.{CoreState}
use Rattle.first_store.specs.StoreState.{StoreState}
use Rattle.first_runner.specs.Tied.{Tied}

-- after a turn there is a vehicle that the line leads to, and that is tied to core and store; an idle turn leaves it
abbrev pub Next : VehicleState → StepOut Line → StoreState → CoreState → Type 0
Next v (Made line) st c = (v' : VehicleState) × Moves v line v' × Tied v' st c
Next v Idle st c = Tied v st c

-- the core after a step of the worker, of a link and of the Navigator
abbrev pub worked : CoreState → BoardState → Option (Client × Request) → CoreState
worked c b w = record { shared = with_board c.shared b; taken = w; links = c.links; nav = c.nav }

abbrev pub linked : CoreState → SharedState → ℕ → LinkState → CoreState
linked c s number new = record { shared = s; taken = c.taken; links = set c.links number new; nav = c.nav }

abbrev pub navigated : CoreState → SharedState → NavState → CoreState
navigated c s n = record { shared = s; taken = c.taken; links = c.links; nav = n }

-- a fact of a core, from its parts
pub of_parts : (P : CoreState → Type 0) (c : CoreState) (s : SharedState) (w : Option (Client × Request)) (links : List LinkState) (n : NavState) → c.shared ≡ s → c.taken ≡ w → c.links ≡ links → c.nav ≡ n → P (record { shared = s; taken = w; links = links; nav = n }) → P c
of_parts P c s w links n es ew el en h =
    subst (λ (x : SharedState). P (record { shared = x; taken = c.taken; links = c.links; nav = c.nav })) (sym es)
    (subst (λ (x : Option (Client × Request)). P (record { shared = s; taken = x; links = c.links; nav = c.nav })) (sym ew)
    (subst (λ (x : List LinkState). P (record { shared = s; taken = w; links = x; nav = c.nav })) (sym el)
    (subst (λ (x : NavState). P (record { shared = s; taken = w; links = links; nav = x })) (sym en) h)))

-- a fact of the only link is one of each
pub only_link : (P : ℕ → LinkState → Type 0) (links : List LinkState) (number : ℕ) (l : LinkState) → length links ≤ 1 → slice_get links number ≡ Some l → P number l → (k : ℕ) (d : LinkState) → k < length links → P k (get_or links k d)
only_link P links number l one at h k d within =
    let below = slice_get_within links number l at in
    let same : number ≡ k = omega (arith, one, below, within) in
    let here : slice_get links k ≡ Some l = subst (λ i. slice_get links i ≡ Some l) same at in
    let is : get_or links k d ≡ l = get_or_from_slice_get links k l d here in
    subst (P k) (sym is) (subst (λ i. P i l) same h)
