-- Reads are of published plans.
use Rattle.vehicle_core.proofs.ReadsOfStep.{navs_begun}
use Rattle.vehicle_core.proofs.ReadsOfTurns.{turns_read}
use Rattle.vehicle_core.proofs.laws.reads_name_published_items.Goals as goal

pub returns-clause-boot : goal.returns-clause-boot
returns-clause-boot g c = navs_begun

pub returns-clause-asks : goal.returns-clause-asks
returns-clause-asks g c core new turns lines t fits tells navs run =
    let w = g.W.Watcher in
    let laws = (g.met.W.Watcher g.world.𝓛 g.world.𝓜 g.world.𝓡 ((λ s x. x), (λ x. x), (λ x. x), λ x. x)) in
    let read = turns_read (record { works = w.works; tells = w.tells }) w.waits core new turns lines t (record { works = laws.works_well; tells = laws.tells_well }) fits tells navs run in
    (read.told, read.along, read.tells, read.navs)
