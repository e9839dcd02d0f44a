use Rattle.std.proofs.Common.{◌∙◌, ap}
use Rattle.first_cache.specs.CacheState.{CacheState, adopted}
use Rattle.first_core.proofs.Beginning.{adopted-new, adopted-zero}
use Rattle.first_core.proofs.nav.unknown_mission.Goals as goal
use Rattle.first_core.proofs.nav.unknown_mission.Goals.{then-head-eq0, else-head-eq0}

pub returns : goal.returns
returns c = elim c.if-head-eq0.branch [
  | then-head-eq0 w ↦ c.adopt-2.ensures ∙ ap (λ (x : CacheState). adopted x c.args.head) (w.cache-is ∙ w.adopt.ensures ∙ ap (λ (x : CacheState). adopted x (record { id = 1; count = 0 })) c.in_ok-cache.ensures) ∙ adopted-zero c.args.head w.if-head-eq0.true
  | else-head-eq0 w ↦ c.adopt-2.ensures ∙ ap (λ (x : CacheState). adopted x c.args.head) (w.cache-is ∙ c.in_ok-cache.ensures) ∙ adopted-new c.args.head w.if-head-eq0.false
]
