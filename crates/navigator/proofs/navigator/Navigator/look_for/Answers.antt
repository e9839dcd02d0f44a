use Rattle.client_cache.specs.Wants.{looked}
use Rattle.navigator.proofs.Marking.{outstanding-looked}
use Rattle.navigator.proofs.navigator.Navigator.look_for.Goals as goal

pub returns-in-Mission-clause-grows : goal.returns-in-Mission-clause-grows
returns-in-Mission-clause-grows c = outstanding-looked c.self.inside.mission.cache c.args.board.now (looked c.self.inside.mission.cache c.args.board.now c.args.seq) c.look.new.self.cache c.look.new.board c.look.ensures.client c.look.ensures.asks

pub returns-in-Fence-clause-grows : goal.returns-in-Fence-clause-grows
returns-in-Fence-clause-grows c = outstanding-looked c.self.inside.fence.cache c.args.board.now (looked c.self.inside.fence.cache c.args.board.now c.args.seq) c.look-in-Fence.new.self.cache c.look-in-Fence.new.board c.look-in-Fence.ensures.client c.look-in-Fence.ensures.asks

pub returns-in-Safe-clause-grows : goal.returns-in-Safe-clause-grows
returns-in-Safe-clause-grows c = outstanding-looked c.self.inside.safe.cache c.args.board.now (looked c.self.inside.safe.cache c.args.board.now c.args.seq) c.look-in-Safe.new.self.cache c.look-in-Safe.new.board c.look-in-Safe.ensures.client c.look-in-Safe.ensures.asks
