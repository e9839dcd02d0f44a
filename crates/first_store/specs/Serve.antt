-- What a store replies to a request and what is left of it then, as a function of the store and of which device call
-- failed. It names no bank, slot or byte.
use Rattle.std.specs.Prelude.{◌≡◌, ℕ, ◌==◌, slice_get, Option, Some, None, if◌then◌else◌}
use Rattle.first_model.specs.declared.limits.TheConstants.{LAST_GENERATION}
use Rattle.first_model.specs.declared.plan.Item.{Item}
use Rattle.first_model.specs.declared.request.Request.{Request}
use Rattle.first_model.specs.declared.request.Request.TheVariants as request
use Rattle.first_model.specs.declared.request.Reply.{Reply}
use Rattle.first_model.specs.declared.request.Reply.TheVariants as reply
use Rattle.first_model.specs.PlainMark.{plain_mark}
use Rattle.first_store.specs.declared.places.Written.{Written}
use Rattle.first_store.specs.StoreState.{StoredPlan, Change, Commit, SetMark, StoreState, of_kind, with_kind, plan_of, put, drafted, applied, settled}

-- why a device call did not do what it was asked: the device failed, or the power went in the call
pub data Fault : Type 0 where
  Failed : Fault
  Cut : Fault

-- How the device calls of a service went.
-- Well: each did what it was asked.
-- InSettling: one did not by which a doubt was to be settled; no other was made then.
-- InRequest: one of the request's own did not; of a commit or a mark, one before its gate was to open.
-- InOpening: one did not by which the gate of a commit or of a mark was to open. A cut in any call of a commit or a mark
-- may be told so, since nobody serves from the store after it.
pub data Fate : Type 0 where
  Well : Fate
  InSettling : (fault : Fault) → Fate
  InRequest : (fault : Fault) → Fate
  InOpening : (fault : Fault) → Fate

-- what a fault is replied
abbrev pub fault_reply : Fault → Reply
fault_reply Failed = reply.DiskFailed
fault_reply Cut = reply.PowerOff

-- the reply that is due, where no device call failed
abbrev pub by_fate : Fate → Reply → Reply
by_fate Well due = due
by_fate (InSettling fault) due = fault_reply fault
by_fate (InRequest fault) due = fault_reply fault
by_fate (InOpening fault) due = fault_reply fault

-- the item that is there; past the plan's end there is none, and the id in force is told
abbrev pub found : ℕ → Option Item → Reply
found id (Some item) = reply.Item item
found id None = reply.Stale id

-- a read of the plan in force gives its item; one of another id is told the id in force, and calls no device
abbrev pub read_reply : Fate → StoredPlan → ℕ → ℕ → Reply
read_reply fate plan id seq = if plan.id == id then by_fate fate (found plan.id (slice_get plan.items seq)) else reply.Stale plan.id

-- a change is done, unless its cell is at the last generation, which calls no device
abbrev pub change_reply : Fate → ℕ → Reply
change_reply fate generation = if generation == LAST_GENERATION then reply.Spent generation else by_fate fate reply.Done

-- what a store without a doubt replies to a request
abbrev pub answer_to : Fate → StoreState → Request → Reply
answer_to fate st (request.Read kind id seq) = read_reply fate (plan_of st kind) id seq
answer_to fate st (request.Write kind id seq item) = by_fate fate reply.Done
answer_to fate st (request.Commit kind id count) = change_reply fate (of_kind st kind).generation
answer_to fate st (request.SetMark mark) = if st.mission.plan.id == mark.id then change_reply fate st.mark_generation else reply.Stale st.mission.plan.id

-- what was written at the seq of a write; nothing that a later commit may count on where the call failed
abbrev pub written : Fate → ℕ → Item → Option Written
written Well id item = Some (record { id = id; item = item })
written other id item = None

-- the store after a change was asked: it is in force; where its gate did not open as asked, it is in doubt; where a call
-- before failed, nothing changed
abbrev pub changed : Fate → StoreState → Change → StoreState
changed Well st change = applied st change
changed (InSettling fault) st change = st
changed (InRequest fault) st change = st
changed (InOpening fault) st change = record st { doubt = Some change }

-- and where its cell is at the last generation, nothing changed either
abbrev pub changed_at : ℕ → Fate → StoreState → Change → StoreState
changed_at generation fate st change = if generation == LAST_GENERATION then st else changed fate st change

-- a store without a doubt after a request: a write puts its item in the drafts, and only a commit and a mark change what is
-- in force
abbrev pub after_answer : Fate → StoreState → Request → StoreState
after_answer fate st (request.Read kind id seq) = st
after_answer fate st (request.Write kind id seq item) = with_kind st kind (record (of_kind st kind) { drafts = put (of_kind st kind).drafts seq (written fate id item) })
after_answer fate st (request.Commit kind id count) = changed_at (of_kind st kind).generation fate st (Commit kind (record { id = id; items = drafted (of_kind st kind).drafts id count }))
after_answer fate st (request.SetMark mark) = if st.mission.plan.id == mark.id then changed_at st.mark_generation fate st (SetMark (plain_mark mark)) else st

-- what a request is replied; a doubt is settled before anything else
abbrev pub reply_to : Fate → StoreState → Request → Reply
reply_to (InSettling fault) st asked = fault_reply fault
reply_to fate st asked = answer_to fate (settled st) asked

-- the store after a request; where its doubt could not be settled, it is as it was
abbrev pub after : Fate → StoreState → Request → StoreState
after (InSettling fault) st asked = st
after fate st asked = after_answer fate (settled st) asked

-- a request is served: the reply, and the store behind it
pub record Serve (fate : Fate) (st : StoreState) (asked : Request) (given : Reply) (st' : StoreState) : Type 0 where
  pub reply : given ≡ reply_to fate st asked
  pub store : st' ≡ after fate st asked
