use Rattle.bank_state.proofs.Swapping.{second, third, synced, left}
use Rattle.bank_state.specs.Counting.{uncut_on, asks_on, on_ok_of, on_ok_map, if_err_map, not_done, err_is}
use Rattle.std.proofs.Common.{arith, subst, sym}
use Rattle.std.specs.Prelude.{Result, Err, IfErr}
use Rattle.gated_cell.specs.declared.fault.CellFault.{CellFault}
use Rattle.gated_cell.specs.Refusals.{Asks}
use Rattle.bank_state.specs.Swap.{NotDone}
use Rattle.bank_state.proofs.swap.swap.Goals as goal

pub returns-in_err-write_spare-clause-any_moment : goal.returns-in_err-write_spare-clause-any_moment
returns-in_err-write_spare-clause-any_moment g c =
    let s = (g.met.D.Disk g.world.𝓛 g.world.𝓜 g.world.𝓡 ((λ s x. x), (λ x. x), (λ x. x), λ x. x)).sound in
    let cell = c.args.cell.now in
    let s0 = g.D.Disk.state c.args.disk.now in
    let s1 = g.D.Disk.state c.close_spare.new.disk in
    let s2 = g.D.Disk.state c.write_spare.new.disk in
    second cell c.args.payload.now s0 s1 c.close_spare.ensures.any_moment c.close_spare.new.self s2 (s c.close_spare.new.disk) c.in_ok-close_spare.ensures.closed c.close_spare.ensures.same
    c.in_ok-close_spare.ensures.durable c.write_spare.ensures.any_moment

pub returns-clause-any_moment : goal.returns-clause-any_moment
returns-clause-any_moment g c =
    let s = (g.met.D.Disk g.world.𝓛 g.world.𝓜 g.world.𝓡 ((λ s x. x), (λ x. x), (λ x. x), λ x. x)).sound in
    let cell = c.args.cell.now in
    let s0 = g.D.Disk.state c.args.disk.now in
    let s1 = g.D.Disk.state c.close_spare.new.disk in
    let s2 = g.D.Disk.state c.write_spare.new.disk in
    let s3 = g.D.Disk.state c.open_spare.new.disk in
    third cell c.args.payload.now s0 s1 c.close_spare.ensures.any_moment c.close_spare.new.self s2 (s c.close_spare.new.disk) c.in_ok-close_spare.ensures.closed c.close_spare.ensures.same
    c.in_ok-close_spare.ensures.durable c.write_spare.ensures.any_moment c.write_spare.new.self s3 (s c.write_spare.new.disk) c.write_spare.ensures.cell c.write_spare.ensures.same
    c.in_ok-write_spare.ensures.payload c.open_spare.ensures.any_moment

pub returns-clause-synced : goal.returns-clause-synced
returns-clause-synced g c =
    let s = (g.met.D.Disk g.world.𝓛 g.world.𝓜 g.world.𝓡 ((λ s x. x), (λ x. x), (λ x. x), λ x. x)).sound in
    let cell = c.args.cell.now in
    let s0 = g.D.Disk.state c.args.disk.now in
    let s1 = g.D.Disk.state c.close_spare.new.disk in
    let s2 = g.D.Disk.state c.write_spare.new.disk in
    let s3 = g.D.Disk.state c.open_spare.new.disk in
    on_ok_of c.open_spare.result (synced cell c.args.payload.now s0 s1 c.close_spare.ensures.any_moment c.close_spare.new.self s2 (s c.close_spare.new.disk) c.in_ok-close_spare.ensures.closed c.close_spare.ensures.same
    c.in_ok-close_spare.ensures.durable c.write_spare.ensures.any_moment c.write_spare.new.self s3 (s c.write_spare.new.disk) c.write_spare.ensures.cell c.write_spare.ensures.same
    c.in_ok-write_spare.ensures.payload c.open_spare.ensures.any_moment)

pub returns-clause-left : goal.returns-clause-left
returns-clause-left g c =
    let s = (g.met.D.Disk g.world.𝓛 g.world.𝓜 g.world.𝓡 ((λ s x. x), (λ x. x), (λ x. x), λ x. x)).sound in
    let cell = c.args.cell.now in
    let s0 = g.D.Disk.state c.args.disk.now in
    let s1 = g.D.Disk.state c.close_spare.new.disk in
    let s2 = g.D.Disk.state c.write_spare.new.disk in
    let s3 = g.D.Disk.state c.open_spare.new.disk in
    left cell c.args.payload.now s0 s1 c.close_spare.ensures.any_moment c.close_spare.new.self s2 (s c.close_spare.new.disk) c.in_ok-close_spare.ensures.closed c.close_spare.ensures.same
    c.in_ok-close_spare.ensures.durable c.write_spare.ensures.any_moment c.write_spare.new.self s3 (s c.write_spare.new.disk) c.write_spare.ensures.cell c.write_spare.ensures.same
    c.in_ok-write_spare.ensures.payload c.open_spare.ensures.any_moment
    c.open_spare.result c.open_spare.new.self s2.meter s3.meter c.open_spare.ensures.doubt c.open_spare.ensures.cut c.open_spare.ensures.doubtful c.open_spare.ensures.both c.open_spare.ensures.refused

pub returns-clause-calls : goal.returns-clause-calls
returns-clause-calls g c =
    let s = (g.met.D.Disk g.world.𝓛 g.world.𝓜 g.world.𝓡 ((λ s x. x), (λ x. x), (λ x. x), λ x. x)).sound in
    let cell = c.args.cell.now in
    let s0 = g.D.Disk.state c.args.disk.now in
    let s1 = g.D.Disk.state c.close_spare.new.disk in
    let s2 = g.D.Disk.state c.write_spare.new.disk in
    let s3 = g.D.Disk.state c.open_spare.new.disk in
    let four = uncut_on 2 0 2 0 s0.meter s1.meter s2.meter c.in_ok-close_spare.ensures.calls c.in_ok-write_spare.ensures.calls in
    on_ok_map c.open_spare.result (λ last. uncut_on 4 0 2 0 s0.meter s2.meter s3.meter four last) c.open_spare.ensures.calls

pub returns-clause-asked : goal.returns-clause-asked
returns-clause-asked g c = λ below.
    let s = (g.met.D.Disk g.world.𝓛 g.world.𝓜 g.world.𝓡 ((λ s x. x), (λ x. x), (λ x. x), λ x. x)).sound in
    let cell = c.args.cell.now in
    let s0 = g.D.Disk.state c.args.disk.now in
    let s1 = g.D.Disk.state c.close_spare.new.disk in
    let s2 = g.D.Disk.state c.write_spare.new.disk in
    let s3 = g.D.Disk.state c.open_spare.new.disk in
    let four = uncut_on 2 0 2 0 s0.meter s1.meter s2.meter c.in_ok-close_spare.ensures.calls c.in_ok-write_spare.ensures.calls in
    asks_on 4 0 2 0 6 0 s0.meter s2.meter s3.meter c.open_spare.result (omega arith) (omega arith) four c.open_spare.ensures.asked

pub returns-clause-refused : goal.returns-clause-refused
returns-clause-refused g c =
    let s = (g.met.D.Disk g.world.𝓛 g.world.𝓜 g.world.𝓡 ((λ s x. x), (λ x. x), (λ x. x), λ x. x)).sound in
    let cell = c.args.cell.now in
    let s0 = g.D.Disk.state c.args.disk.now in
    let s1 = g.D.Disk.state c.close_spare.new.disk in
    let s2 = g.D.Disk.state c.write_spare.new.disk in
    let s3 = g.D.Disk.state c.open_spare.new.disk in
    let four = uncut_on 2 0 2 0 s0.meter s1.meter s2.meter c.in_ok-close_spare.ensures.calls c.in_ok-write_spare.ensures.calls in
    if_err_map c.open_spare.result (λ e refused. not_done cell.generation 4 2 s0.meter s2.meter s3.meter e (omega arith) four refused) c.open_spare.ensures.refused

pub returns-in_err-write_spare-clause-asked : goal.returns-in_err-write_spare-clause-asked
returns-in_err-write_spare-clause-asked g c = λ below.
    let s0 = g.D.Disk.state c.args.disk.now in
    let s1 = g.D.Disk.state c.close_spare.new.disk in
    let s2 = g.D.Disk.state c.write_spare.new.disk in
    let is = err_is c.from_residual-in_err-write_spare.result c.in_err-write_spare.field-0.0 c.from_residual-in_err-write_spare.ensures.1 in
    subst (Asks 6 0 s0.meter s2.meter) (sym is) (asks_on 2 0 2 0 6 0 s0.meter s1.meter s2.meter (Err c.in_err-write_spare.field-0.0) (omega arith) (omega arith) c.in_ok-close_spare.ensures.calls c.in_err-write_spare.ensures.asked)

pub returns-in_err-write_spare-clause-refused : goal.returns-in_err-write_spare-clause-refused
returns-in_err-write_spare-clause-refused g c =
    let s0 = g.D.Disk.state c.args.disk.now in
    let s1 = g.D.Disk.state c.close_spare.new.disk in
    let s2 = g.D.Disk.state c.write_spare.new.disk in
    let is = err_is c.from_residual-in_err-write_spare.result c.in_err-write_spare.field-0.0 c.from_residual-in_err-write_spare.ensures.1 in
    subst (λ (r : Result (Unit {0}) CellFault). IfErr r (NotDone c.args.cell.now.generation s0.meter s2.meter)) (sym is)
    (not_done c.args.cell.now.generation 2 2 s0.meter s1.meter s2.meter c.in_err-write_spare.field-0.0 (omega arith) c.in_ok-close_spare.ensures.calls c.in_err-write_spare.ensures.refused)
