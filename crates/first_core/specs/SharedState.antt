-- What all actors share: the board, the arrivals at the meeting places, and the plan ids that are used.
use Rattle.std.specs.Prelude.{ℕ, ◌+◌, min, List, [], ◌∷◌, slice_index_or, slice_set, replicate}
use Rattle.first_model.specs.declared.limits.TheConstants.{MAX_PLACES}
use Rattle.first_model.specs.declared.plan.PlanHead.{PlanHead}
use Rattle.first_board.specs.BoardCalls.{opened}
use Rattle.first_board.specs.BoardState.{BoardState}

-- the board; at each meeting place the arrivals of this boot, counted up to 255; of each kind the greatest plan id
-- that was committed or used in this boot
pub record SharedState : Type 0 where
  pub board : BoardState
  pub arrivals : List ℕ
  pub ids : List ℕ

-- the arrivals at a meeting place
abbrev pub arrivals_at : SharedState → ℕ → ℕ
arrivals_at shared place = slice_index_or shared.arrivals place 0

-- one more client came to a meeting place
abbrev pub arrived_at : SharedState → ℕ → SharedState
arrived_at shared place = record shared { arrivals = slice_set shared.arrivals place (min 255 (arrivals_at shared place + 1)) }

-- another board
abbrev pub with_board : SharedState → BoardState → SharedState
with_board shared board = record shared { board = board }

-- no plan at all
abbrev pub no_head : PlanHead
no_head = record { id = 0; count = 0 }

-- the head of a kind, by its place
abbrev pub head_at : List PlanHead → ℕ → PlanHead
head_at heads place = slice_index_or heads place no_head

-- the mission that is published, and the published fence's id
abbrev pub mission_head : SharedState → PlanHead
mission_head shared = head_at shared.board.published 0

abbrev pub fence_id : SharedState → ℕ
fence_id shared = (head_at shared.board.published 1).id

-- the greatest id of a mission that was committed or used in this boot
abbrev pub last_id : SharedState → ℕ
last_id shared = slice_index_or shared.ids 0 0

-- the shared part at the beginning of a boot: nothing is asked, nobody has come to a meeting, and no id is used beyond
-- those in force
abbrev pub new_shared : List PlanHead → ℕ → SharedState
new_shared heads links = record { board = opened links 0 heads; arrivals = replicate MAX_PLACES 0; ids = (head_at heads 0).id ∷ (head_at heads 1).id ∷ (head_at heads 2).id ∷ [] }
