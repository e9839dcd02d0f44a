use Rattle.client_cache.specs.Wants.{looked}
use Rattle.navigator.proofs.Marking.{outstanding-looked}
use Rattle.navigator.proofs.navigator.Navigator.step.Goals as goal

pub returns-clause-grows : goal.returns-clause-grows
returns-clause-grows c = outstanding-looked c.self.inside.mission.cache c.args.board.now (looked c.self.inside.mission.cache c.args.board.now c.index-index.result) c.look.new.self.cache c.look.new.board c.look.ensures.client c.look.ensures.asks
