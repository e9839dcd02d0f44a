-- A service of banks whose disk tells, as a service of the store that they hold.
use Rattle.std.specs.Prelude.{◌⊎◌, ℕ, List}
use Rattle.mission_model.specs.declared.request.Request.{Request}
use Rattle.mission_model.specs.declared.request.Reply.{Reply}
use Rattle.mission_model.specs.declared.request.Reply.TheVariants as reply
use Rattle.disk_model.specs.Disk.{DiskState}
use Rattle.disk_model.specs.Moments.{LeavesOnly}
use Rattle.plan_store.specs.StoreState.{StoreState}
use Rattle.plan_store.specs.Serve.{Fate, Well, Serve, after}
use Rattle.plan_store.specs.Fates.{Suits}
use Rattle.bank_state.specs.StandsFor.{IsOf}
use Rattle.bank_state.specs.Ledger.{Ledger}
use Rattle.dataman_worker.specs.Holds.{Holds, MayStandFor, holding_of}

-- what is known after every reply but that the power went, behind which only a restart follows
abbrev pub UnlessOff : Reply → Type 0 → Type 0
UnlessOff (reply.Item item) P = P
UnlessOff (reply.Stale n) P = P
UnlessOff reply.Done P = P
UnlessOff reply.DiskFailed P = P
UnlessOff reply.PowerOff P = Unit {0}
UnlessOff (reply.Spent g) P = P

-- an image of a service stands for the store before it, for that with its doubt applied, or for the store with the request done
abbrev pub IsOfService : StoreState → Request → List ℕ → Type 0
IsOfService st asked image = MayStandFor st image ⊎ IsOf (holding_of (after Well st asked)) image

-- The reply is the store's under a fate that it can have, and the banks hold the store after it. Each image since the service
-- began is one of the service, and each image of now stands for the store after it, or for that with its doubt applied.
pub record Served (st : StoreState) (asked : Request) (given : Reply) (ledger : Ledger) (old new : DiskState) : Type 0 where
  pub fate : Fate
  pub suits : Suits fate st asked
  pub serve : Serve fate st asked given (after fate st asked)
  pub holds : UnlessOff given (Holds (after fate st asked) ledger new.seen)
  pub since : LeavesOnly old new (IsOfService st asked)
  pub now : (c : List ℕ) → new.images c → MayStandFor (after fate st asked) c
