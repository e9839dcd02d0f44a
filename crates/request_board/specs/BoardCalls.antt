-- What each call makes of the board.
use Rattle.std.specs.Prelude.{ℕ, List, [], ◌∷◌, ◌++◌, Some, None, replicate, slice_set}
use Rattle.mission_model.specs.declared.plan.PlanHead.{PlanHead}
use Rattle.mission_model.specs.declared.request.Client.{Client}
use Rattle.mission_model.specs.declared.request.Request.{Request}
use Rattle.mission_model.specs.declared.request.Asked.{Asked}
use Rattle.mission_model.specs.declared.request.Asked.TheVariants as about
use Rattle.mission_model.specs.declared.request.Reply.{Reply}
use Rattle.mission_model.specs.declared.request.Reply.TheVariants.{Done}
use Rattle.mission_model.specs.PlanTypes.{place_of}
use Rattle.request_board.specs.BoardState.{BoardState, posted, with_posted}

-- a new board: nothing waits, nothing is in service, nothing is posted, no index is kept
abbrev pub opened : ℕ → ℕ → List PlanHead → BoardState
opened links watchers heads = record { waiting = []; service = None; nav_posted = []; link_posted = replicate links []; watch_posted = replicate watchers []; published = heads; index = None }

-- the client's request waits behind all others
abbrev pub asked : BoardState → Client → Request → BoardState
asked b client request = record b { waiting = b.waiting ++ (client, request) ∷ [] }

-- the first request is in service, and the rest wait
abbrev pub taken : BoardState → Client × Request → List (Client × Request) → BoardState
taken b first rest = record b { waiting = rest; service = Some first }

-- the heads after a reply: a commit that is done replaces its own type's head
abbrev pub heads_after : List PlanHead → Asked → Reply → List PlanHead
heads_after heads (about.Commit kind id count) Done = slice_set heads (place_of kind) (record { id = id; count = count })
heads_after heads asked reply = heads

-- the request in service has this reply, which is posted behind the client's others
abbrev pub answered : BoardState → Client → Asked → Reply → BoardState
answered b client asked reply = record (with_posted b client (posted b client ++ (asked, reply) ∷ [])) { service = None; published = heads_after b.published asked reply }

-- the client has taken its first reply, and the rest are posted
abbrev pub heard : BoardState → Client → List (Asked × Reply) → BoardState
heard b client rest = with_posted b client rest

-- this index is kept, in the place of an earlier one
abbrev pub index_kept : BoardState → ℕ → ℕ → BoardState
index_kept b id seq = record b { index = Some (id, seq) }
