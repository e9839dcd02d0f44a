-- What a local has taken decides which input suits it; only the first local takes; and of a sound core something is always told.
use Rattle.std.proofs.Common.{◌≡◌, ◌⊎◌, inl, inr, ℕ, zero, suc, Bool, true, false, List, [], ◌∷◌, length, Option, Some, None, is_some, refl, sym, subst, ap, ◌∙◌}
use Rattle.std.specs.Prelude.{slice_get, if◌then◌else◌}
use Rattle.mission_model.specs.declared.flight_line.Line.{Line}
use Rattle.mission_model.specs.declared.plan.Item.{Item}
use Rattle.mission_model.specs.declared.request.Client.{Client}
use Rattle.mission_model.specs.declared.request.Request.{Request}
use Rattle.mission_model.specs.declared.request.Reply.{Reply}
use Rattle.request_board.specs.Watching.{Awaited}
use Rattle.request_board.specs.WatchLaw.{WatchRules}
use Rattle.turn_cell.specs.declared.machine.StepOut.{StepOut}
use Rattle.turn_cell.specs.declared.machine.StepOut.TheVariants.{Idle}
use Rattle.vehicle_core.specs.declared.shared.Shared.{Shared}
use Rattle.vehicle_core.specs.declared.local.Local.{Local}
use Rattle.vehicle_core.specs.declared.local.Role.{Role}
use Rattle.vehicle_core.specs.declared.local.Role.TheVariants as role
use Rattle.vehicle_core.specs.SharedState.{shared_told}
use Rattle.vehicle_core.specs.Told.{ActorTold, BootTold}
use Rattle.vehicle_core.specs.Ready.{has_first, Turn, Replies, Goes, Rests}
use Rattle.vehicle_core.specs.LocalState.{local_told, request_of, taken_of}
use Rattle.vehicle_core.specs.WorkerActs.{ReplySuits, WorkerIdle}
use Rattle.vehicle_core.specs.Steps.{WorkerFits, number_of, RoleFits, RoleActs, Steps}
use Rattle.vehicle_core.specs.Fits.{SharedFits, number_among, role_name, RoleKnows, LocalFits, LocalSuits}
use Rattle.vehicle_core.specs.CoreState.{RoleHolds, AreTold, Tells, ReplyTo, CoreState, CoreFits}

-- Which input suits.

pub reply_suits : (taken : Option (Client × Request)) (given : Option Reply) → ReplyTo (request_of taken) given → ReplySuits taken given
reply_suits None None suits = suits
reply_suits None (Some reply) suits = suits
reply_suits (Some (client, request)) None suits = suits
reply_suits (Some (client, request)) (Some reply) suits = suits

suits_reply : (taken : Option (Client × Request)) (given : Option Reply) → ReplySuits taken given → ReplyTo (request_of taken) given
suits_reply None None suits = suits
suits_reply None (Some reply) suits = suits
suits_reply (Some (client, request)) None suits = suits
suits_reply (Some (client, request)) (Some reply) suits = suits

no_reply : (given : Option Reply) → ReplyTo None given → given ≡ None
no_reply None suits = refl
no_reply (Some reply) suits = absurd suits

reply_none : (given : Option Reply) → given ≡ None → ReplyTo None given
reply_none None is = tt
reply_none (Some reply) is = absurd cc

-- a worker with a request in service has it to reply to
never_rests : (waits : Bool) → (if true then Replies else (if waits then Goes else Rests)) ≡ Rests → ⊥
never_rests waits is = cc

power_is : (power : Bool) → (power ≡ true) ⊎ (power ≡ false)
power_is true = inl refl
power_is false = inr refl

none_kept : (s : Shared) (taken : Option (Client × Request)) (s' : Shared) (taken' : Option (Client × Request)) → WorkerFits s taken → WorkerIdle s taken s' taken' → taken ≡ None
none_kept s None s' taken' fits idle = refl
none_kept s (Some held) s' taken' fits idle = elim (power_is s.power) [
  | inl on ↦ absurd (never_rests (has_first s.board.waiting) (ap (λ (o : Option (Client × Request)). if is_some o then Replies else (if has_first s.board.waiting then Goes else Rests)) (sym fits.service) ∙ idle.turn on))
  | inr off ↦ fits.power off
]

module _ {W : Type 0} where
  -- an input suits a local exactly where it is a reply to what the local has taken
  pub suits_taken : (l : Local W) (given : Option Reply) → ReplyTo (taken_of l) given → LocalSuits l given
  suits_taken l given suits = by_role l.role suits
    where
      by_role : (r : Role W) → ReplyTo (taken_of (record { number = l.number; role = r })) given → LocalSuits (record { number = l.number; role = r }) given
      by_role (role.Worker taken) suits = reply_suits taken given suits
      by_role (role.Link x) suits = no_reply given suits
      by_role (role.Nav x) suits = no_reply given suits
      by_role (role.Watch x) suits = no_reply given suits

  pub taken_suits : (l : Local W) (given : Option Reply) → LocalSuits l given → ReplyTo (taken_of l) given
  taken_suits l given suits = by_role l.role suits
    where
      by_role : (r : Role W) → LocalSuits (record { number = l.number; role = r }) given → ReplyTo (taken_of (record { number = l.number; role = r })) given
      by_role (role.Worker taken) suits = suits_reply taken given suits
      by_role (role.Link x) suits = reply_none given suits
      by_role (role.Nav x) suits = reply_none given suits
      by_role (role.Watch x) suits = reply_none given suits

  -- only the local of number 0 has taken a request
  pub only_first : (waits : W → Awaited) (s : Shared) (l : Local W) (request : Request) → LocalFits waits s l → taken_of l ≡ Some request → number_of l ≡ 0
  only_first waits s l request fits taken = by_role l.role fits.number taken
    where
      by_role : (r : Role W) → l.number ≡ number_among (length s.board.link_posted) (role_name r) → taken_of (record { number = l.number; role = r }) ≡ Some request → l.number ≡ 0
      by_role (role.Worker held) is taken = is
      by_role (role.Link x) is taken = absurd cc
      by_role (role.Nav x) is taken = absurd cc
      by_role (role.Watch x) is taken = absurd cc

  -- an idle local has taken nothing
  pub idle_rests : (rules : WatchRules W) (waits : W → Awaited) (s : Shared) (l : Local W) (given : Option Reply) (s' : Shared) (l' : Local W) → LocalFits waits s l → Steps rules s l given Idle s' l' → taken_of l ≡ None
  idle_rests rules waits s l given s' l' fits steps = by_role l.role l'.role fits.role steps.acts
    where
      by_role : (r r' : Role W) → RoleFits waits s r → RoleActs rules s r given Idle s' r' → taken_of (record { number = l.number; role = r }) ≡ None
      by_role (role.Link x) r' fits acts = refl
      by_role (role.Nav x) r' fits acts = refl
      by_role (role.Watch x) r' fits acts = refl
      by_role (role.Worker taken) (role.Worker taken') fits acts = ap request_of (none_kept s taken s' taken' fits acts)
      by_role (role.Worker taken) (role.Link x) fits acts = absurd acts
      by_role (role.Worker taken) (role.Nav x) fits acts = absurd acts
      by_role (role.Worker taken) (role.Watch x) fits acts = absurd acts

  -- What is told.

  items_of : (s : Shared) (r : Role W) → RoleKnows s r → (items : List Item) × RoleHolds r items
  items_of s (role.Worker taken) knows = ([], tt)
  items_of s (role.Link l) knows = (knows.heard, knows.hears)
  items_of s (role.Nav n) knows = (knows.items, knows.shown)
  items_of s (role.Watch w) knows = ([], tt)

  all_told : (s : Shared) (ls : List (Local W)) → ((k : ℕ) (l : Local W) → slice_get ls k ≡ Some l → RoleKnows s l.role) → (actors : List (ActorTold W)) × AreTold ls actors
  all_told s [] knows = ([], tt)
  all_told s (l ∷ ls) knows =
      let own = items_of s l.role (knows 0 l refl) in
      let rest = all_told s ls (λ k m at. knows (suc k) m at) in
      (local_told l own.0 ∷ rest.0, (record { items = own.0; holds = own.1; told = refl }, rest.1))

  -- of a shared part and locals that fit one another something is told
  pub fits_told : (waits : W → Awaited) (s : Shared) (ls : List (Local W)) → SharedFits s → ((k : ℕ) (l : Local W) → slice_get ls k ≡ Some l → LocalFits waits s l) → (t : BootTold W) × Tells s ls t
  fits_told waits s ls shared each =
      let all = all_told s ls (λ k l at. (each k l at).knows) in
      (record { shared = shared_told s shared.arrived; actors = all.0 }, record { shared = refl; counted = shared.counted; actors = all.1 })
