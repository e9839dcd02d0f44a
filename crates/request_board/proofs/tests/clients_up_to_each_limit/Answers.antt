-- A call leaves nothing in service and keeps each client.
use Rattle.mission_model.specs.declared.request.Client.TheVariants.{Link, Watch}
use Rattle.request_board.proofs.tests.clients_up_to_each_limit.Goals as goal

pub loop-who-preserved : goal.loop-who-preserved
loop-who-preserved g c =
    let i = c.loop-who.invariant in
    let stay = c.make.ensures.clients in
    (c.make.ensures.idle, stay (Link 0) i.1, stay (Link 1) i.2, stay (Watch 0) i.3)
