-- When the requests that wait, the plan ids and the published mission fit one another still.
use Rattle.std.proofs.Common.{◌≡◌, ◌≢◌, ℕ, zero, suc, ◌+◌, ◌<◌, ◌≤◌, Bool, true, false, List, [], ◌∷◌, length, Option, Some, None, refl, sym, ap, arith, subst, get_or, set, nat_eq}
use Rattle.std.specs.Prelude.{slice_get, slice_index_or, IfSome, if◌then◌else◌}
use Rattle.std.specs.List.{All}
use Rattle.std.proofs.lemmas.Bool.Decides.{nat_tests}
use Rattle.std.proofs.lemmas.List.{get_or-set_other}
use Rattle.std.proofs.lemmas.List.Elements.{All-nil, All-cons}
use Rattle.std.proofs.lemmas.Grind.{get_or-set_at}
use Rattle.first_model.specs.declared.plan.PlanHead.{PlanHead}
use Rattle.first_model.specs.declared.request.Client.{Client}
use Rattle.first_model.specs.declared.request.Client.TheVariants.{Nav, Link, Watch}
use Rattle.first_model.specs.declared.request.Request.{Request}
use Rattle.first_board.specs.BoardState.{same_client, asks_of, serving}
use Rattle.first_core.specs.declared.link.Session.{Session}
use Rattle.first_core.specs.declared.link.Session.TheVariants as session
use Rattle.first_core.specs.SharedState.{SharedState, no_head, mission_head, last_id}
use Rattle.first_core.specs.LinkState.{LinkState}
use Rattle.first_core.specs.NavState.{NavState}
use Rattle.first_core.specs.PlansFit.{PlansFit, AskFits, LinkAsks, SessionIdFits}

-- not the client's own request
abbrev pub IsOther : Client → Client × Request → Type 0
IsOther client ask = same_client client ask.0 ≡ false

counted_none : (own : Bool) (rest : ℕ) → (if own then 1 else 0) + rest ≡ 0 → (own ≡ false) × (rest ≡ 0)
counted_none true rest h = absurd (omega (arith, h))
counted_none false rest h = (refl, omega (arith, h))

-- where none counts as the client's own, each is another's
pub asks_of-none : (client : Client) (asks : List (Client × Request)) → asks_of client asks ≡ 0 → All (IsOther client) asks
asks_of-none client [] none = All-nil (IsOther client)
asks_of-none client ((other, asked) ∷ asks) none =
    let parts = counted_none (same_client client other) (asks_of client asks) none in
    All-cons (IsOther client) (other, asked) asks parts.0 (asks_of-none client asks parts.1)

pub serving-none : (client : Client) (service : Option (Client × Request)) → serving client service ≡ 0 → IfSome service (IsOther client)
serving-none client None none = tt
serving-none client (Some (other, asked)) none = (counted_none (same_client client other) 0 (omega (arith, none))).0

pub slice_get-apart : (links : List LinkState) (number k : ℕ) (new : LinkState) → k ≢ number → slice_get (set links number new) k ≡ slice_get links k
slice_get-apart [] number k new apart = refl
slice_get-apart (l ∷ links) zero zero new apart = absurd (apart refl)
slice_get-apart (l ∷ links) zero (suc k) new apart = refl
slice_get-apart (l ∷ links) (suc number) zero new apart = refl
slice_get-apart (l ∷ links) (suc number) (suc k) new apart = slice_get-apart links number k new (λ e. apart (ap suc e))

-- another link's change leaves a request as it was
pub AskFits-other : (head : PlanHead) (links : List LinkState) (number : ℕ) (new : LinkState) (ask : Client × Request) → IsOther (Link number) ask → AskFits head links ask → AskFits head (set links number new) ask
AskFits-other head links number new (Nav, asked) other fits = fits
AskFits-other head links number new (Watch watch, asked) other fits = fits
AskFits-other head links number new (Link k, asked) other fits =
    let apart : k ≢ number = grind (arith, nat_tests, other) in
    subst (λ (found : Option LinkState). LinkAsks head found asked) (sym (slice_get-apart links number k new apart)) fits

pub AskFits-others : (head : PlanHead) (links : List LinkState) (number : ℕ) (new : LinkState) (asks : List (Client × Request)) → All (IsOther (Link number)) asks → All (AskFits head links) asks → All (AskFits head (set links number new)) asks
AskFits-others head links number new asks others fits k d below = AskFits-other head links number new (get_or asks k d) (others k d below) (fits k d below)

pub AskFits-served : (head : PlanHead) (links : List LinkState) (number : ℕ) (new : LinkState) (service : Option (Client × Request)) → IfSome service (IsOther (Link number)) → IfSome service (AskFits head links) → IfSome service (AskFits head (set links number new))
AskFits-served head links number new None other fits = tt
AskFits-served head links number new (Some ask) other fits = AskFits-other head links number new ask other fits

pub SessionIdFits-later : (s s' : SharedState) → mission_head s' ≡ mission_head s → last_id s ≤ last_id s' → (session : Session) → SessionIdFits s session → SessionIdFits s' session
SessionIdFits-later s s' head rises session.Free fits = tt
SessionIdFits-later s s' head rises (session.Receiving id count seq) fits = (rw head fits.0, omega (arith, fits.1, rises))
SessionIdFits-later s s' head rises (session.Writing id count seq) fits = (rw head fits.0, omega (arith, fits.1, rises))
SessionIdFits-later s s' head rises (session.Committing id count) fits = omega (arith, fits, rises)

-- the other sessions stay, and no id of theirs is above a last one that has risen
pub sessions-set : (s s' : SharedState) (links : List LinkState) (number : ℕ) (new : LinkState) → mission_head s' ≡ mission_head s → last_id s ≤ last_id s' → number < length links → SessionIdFits s' new.session → ((k : ℕ) (d : LinkState) → k < length links → SessionIdFits s (get_or links k d).session) → (k : ℕ) (d : LinkState) → k < length links → (same : Bool) → nat_eq k number ≡ same → SessionIdFits s' (get_or (set links number new) k d).session
sessions-set s s' links number new head rises below own sessions k d within true e =
    let at : k ≡ number = grind (arith, e) in
    let here : get_or (set links number new) k d ≡ new = get_or-set_at links number k new d at below in
    subst (λ (l : LinkState). SessionIdFits s' l.session) (sym here) own
sessions-set s s' links number new head rises below own sessions k d within false e =
    let apart : k ≢ number = grind (arith, e) in
    let there : get_or (set links number new) k d ≡ get_or links k d = get_or-set_other links number k new d apart in
    subst (λ (l : LinkState). SessionIdFits s' l.session) (sym there) (SessionIdFits-later s s' head rises (get_or links k d).session (sessions k d within))

-- nothing that the fits read has changed but what is in service
pub PlansFit-same : (s s' : SharedState) (links : List LinkState) (n n' : NavState) → PlansFit s links n → IfSome s'.board.service (AskFits (mission_head s) links) → s'.board.published ≡ s.board.published → s'.board.waiting ≡ s.board.waiting → s'.ids ≡ s.ids → n'.cache.id ≡ n.cache.id → n'.cache.count ≡ n.cache.count → PlansFit s' links n'
PlansFit-same s s' links n n' fits service published waiting ids id count =
    let head : mission_head s' ≡ mission_head s = ap (λ heads. slice_index_or heads 0 no_head) published in
    let last : last_id s' ≡ last_id s = ap (λ used. slice_index_or used 0 0) ids in
    let rises : last_id s ≤ last_id s' = omega (arith, last) in
    record {
      heads = rw published fits.heads;
      ids = rw ids fits.ids;
      head = rw head fits.head;
      waiting = rw (waiting, head) fits.waiting;
      service = rw head service;
      sessions = λ k d within. SessionIdFits-later s s' head rises (get_or links k d).session (fits.sessions k d within);
      flown = rw (id, head) fits.flown;
      same = rw (id, count, head) fits.same;
      used = rw (head, last) fits.used;
    }
