-- What each actor's step keeps of the facts that tie the parts of the core.
use Rattle.std.specs.Prelude.{◌≡◌, length}
use Rattle.first_model.specs.declared.request.Client.TheVariants.{Link}
use Rattle.first_board.specs.BoardState.{BoardState, OthersStay}
use Rattle.first_core.specs.SharedState.{SharedState}
use Rattle.first_core.specs.LinkState.{LinkState, LinkFits}

-- the service, the links' places and the published heads stay
pub record BoardKeeps (b : BoardState) (b' : BoardState) : Type 0 where
  pub service : b'.service ≡ b.service
  pub links : length b'.link_posted ≡ length b.link_posted
  pub published : b'.published ≡ b.published

-- after a link's step it fits the shared part still, and the other clients are as they were
pub record LinkKeeps (s : SharedState) (l : LinkState) (s' : SharedState) (l' : LinkState) : Type 0 where
  pub number : l'.number ≡ l.number
  pub fits : LinkFits s' l'
  pub others : OthersStay (Link l.number) s.board s'.board
  pub board : BoardKeeps s.board s'.board
