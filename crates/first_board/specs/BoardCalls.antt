-- What each call makes of the board.
use Rattle.std.specs.Prelude.{ℕ, List, [], ◌∷◌, ◌++◌, Option, Some, None, replicate, slice_set}
use Rattle.first_model.specs.declared.plan.PlanHead.{PlanHead}
use Rattle.first_model.specs.declared.plan.PlanType.{PlanType}
use Rattle.first_model.specs.declared.plan.PlanType.TheVariants.{Mission, Fence, Safe}
use Rattle.first_model.specs.declared.request.Client.{Client}
use Rattle.first_model.specs.declared.request.Request.{Request}
use Rattle.first_model.specs.declared.request.Request.TheVariants as request
use Rattle.first_model.specs.declared.request.Asked.{Asked}
use Rattle.first_model.specs.declared.request.Asked.TheVariants as about
use Rattle.first_model.specs.declared.request.Reply.{Reply}
use Rattle.first_model.specs.declared.request.Reply.TheVariants.{Done}
use Rattle.first_board.specs.BoardState.{BoardState, posted, with_posted}

-- the request without the item that it writes
abbrev pub asked_of : Request → Asked
asked_of (request.Read kind id seq) = about.Read kind id seq
asked_of (request.Write kind id seq item) = about.Write kind id seq
asked_of (request.Commit kind id count) = about.Commit kind id count
asked_of (request.SetMark mark) = about.SetMark mark

-- who is served and what it asked, where a request is in service
abbrev pub in_service : Option (Client × Request) → Option (Client × Asked)
in_service None = None
in_service (Some (client, request)) = Some (client, asked_of request)

-- the place of a type's head among the published heads
abbrev pub place_of : PlanType → ℕ
place_of Mission = 0
place_of Fence = 1
place_of Safe = 2

-- a new board: nothing waits, nothing is in service, nothing is posted, no index is kept
abbrev pub opened : ℕ → ℕ → List PlanHead → BoardState
opened links watchers heads = record { waiting = []; service = None; nav_posted = []; link_posted = replicate links []; watch_posted = replicate watchers []; published = heads; index = None }

-- the client's request waits behind all others
abbrev pub asked : BoardState → Client → Request → BoardState
asked b client request = record b { waiting = b.waiting ++ (client, request) ∷ [] }

-- the first request is in service, and the rest wait
abbrev pub taken : BoardState → Client × Request → List (Client × Request) → BoardState
taken b first rest = record b { waiting = rest; service = Some first }

-- the heads after a reply: a commit that is done replaces its own type's head
abbrev pub heads_after : List PlanHead → Asked → Reply → List PlanHead
heads_after heads (about.Commit kind id count) Done = slice_set heads (place_of kind) (record { id = id; count = count })
heads_after heads asked reply = heads

-- the request in service has this reply, which is posted behind the client's others
abbrev pub answered : BoardState → Client → Asked → Reply → BoardState
answered b client asked reply = record (with_posted b client (posted b client ++ (asked, reply) ∷ [])) { service = None; published = heads_after b.published asked reply }

-- the client has taken its first reply, and the rest are posted
abbrev pub heard : BoardState → Client → List (Asked × Reply) → BoardState
heard b client rest = with_posted b client rest

-- this index is kept, in the place of an earlier one
abbrev pub index_kept : BoardState → ℕ → ℕ → BoardState
index_kept b id seq = record b { index = Some (id, seq) }
