use Rattle.std.specs.Prelude.{◌≡◌, ◌+◌, ℕ}
use Rattle.std.proofs.Common.{subst, arith, ◌∙◌}
use Rattle.bank_state.specs.Counting.{on_ok_map}
use Rattle.recovery.specs.Migration.{items_named}
use Rattle.recovery.specs.Steps.{Went}
use Rattle.recovery.proofs.Steps.{passed_on, went_on, stopped_wider, steady_trans}
use Rattle.recovery.proofs.Moving.{images_behind, known_behind, images_moved, moved_there}
use Rattle.recovery.proofs.migration.move_store.Goals as goal

pub tell_two-requires-clause-known : goal.tell_two-requires-clause-known
tell_two-requires-clause-known g c κs within =
    let sound = (g.met.D.Disk g.world.𝓛 g.world.𝓜 g.world.𝓡 ((λ s x. x), (λ x. x), (λ x. x), λ x. x)).sound in
    let a = g.D.Disk.state c.args.disk.now in
    let b = g.D.Disk.state c.put_behind.new.disk in
    let found = c.args.found.now in
    (known_behind found.states found.mark found.mark_cell c.args.cell a (sound c.args.disk.now) c.requires.only c.requires.place c.requires.layout c.requires.states c.requires.read b (sound c.put_behind.new.disk) c.put_behind.ensures.run c.requires.known).known

pub returns-in_err-_put-clause-images : goal.returns-in_err-_put-clause-images
returns-in_err-_put-clause-images g c =
    let sound = (g.met.D.Disk g.world.𝓛 g.world.𝓜 g.world.𝓡 ((λ s x. x), (λ x. x), (λ x. x), λ x. x)).sound in
    let found = c.args.found.now in
    images_behind found.states found.mark found.mark_cell c.args.cell (g.D.Disk.state c.args.disk.now) (sound c.args.disk.now) c.requires.only c.requires.place c.requires.layout c.requires.states c.requires.read
    (g.D.Disk.state c.put_behind.new.disk) c.put_behind.ensures.run

pub returns-in_err-_put-clause-went : goal.returns-in_err-_put-clause-went
returns-in_err-_put-clause-went g c =
    let a = (g.D.Disk.state c.args.disk.now).meter in
    let b = (g.D.Disk.state c.put_behind.new.disk).meter in
    let n = items_named c.args.found.now.states in
    let f = c.in_err-_put.field-0.0 in
    passed_on (Went (n + 11) n a b) c.from_residual.result f c.from_residual.ensures.1 (stopped_wider f (n + 5) (n + 11) a b (omega arith) c.in_err-_put.ensures.went)

pub returns-clause-moved : goal.returns-clause-moved
returns-clause-moved g c =
    let sound = (g.met.D.Disk g.world.𝓛 g.world.𝓜 g.world.𝓡 ((λ s x. x), (λ x. x), (λ x. x), λ x. x)).sound in
    let a = g.D.Disk.state c.args.disk.now in
    let b = g.D.Disk.state c.put_behind.new.disk in
    let z = g.D.Disk.state c.tell_two.new.disk in
    let found = c.args.found.now in
    let stays = known_behind found.states found.mark found.mark_cell c.args.cell a (sound c.args.disk.now) c.requires.only c.requires.place c.requires.layout c.requires.states c.requires.read b (sound c.put_behind.new.disk) c.put_behind.ensures.run c.requires.known in
    on_ok_map c.tell_two.result
    (moved_there found.states found.mark found.mark_cell c.args.cell a (sound c.args.disk.now) c.requires.only c.requires.place c.requires.layout c.requires.states c.requires.read b z (sound c.put_behind.new.disk) c.in_ok-_put.ensures.durable
    c.put_behind.ensures.run c.in_ok-_put.ensures.put stays.known c.tell_two.ensures.any_moment) c.tell_two.ensures.two

pub returns-clause-images : goal.returns-clause-images
returns-clause-images g c =
    let sound = (g.met.D.Disk g.world.𝓛 g.world.𝓜 g.world.𝓡 ((λ s x. x), (λ x. x), (λ x. x), λ x. x)).sound in
    let a = g.D.Disk.state c.args.disk.now in
    let b = g.D.Disk.state c.put_behind.new.disk in
    let z = g.D.Disk.state c.tell_two.new.disk in
    let found = c.args.found.now in
    let stays = known_behind found.states found.mark found.mark_cell c.args.cell a (sound c.args.disk.now) c.requires.only c.requires.place c.requires.layout c.requires.states c.requires.read b (sound c.put_behind.new.disk) c.put_behind.ensures.run c.requires.known in
    images_moved found.states found.mark found.mark_cell c.args.cell a (sound c.args.disk.now) c.requires.only c.requires.place c.requires.layout c.requires.states c.requires.read b z (sound c.put_behind.new.disk) c.in_ok-_put.ensures.durable
    c.put_behind.ensures.run c.in_ok-_put.ensures.put stays.known c.tell_two.ensures.any_moment

pub returns-clause-tells : goal.returns-clause-tells
returns-clause-tells g c = c.tell_two.ensures.any_moment.tells ∙ c.put_behind.ensures.run.tells

pub returns-clause-steady : goal.returns-clause-steady
returns-clause-steady g c =
    steady_trans (g.D.Disk.state c.args.disk.now).meter (g.D.Disk.state c.put_behind.new.disk).meter (g.D.Disk.state c.tell_two.new.disk).meter c.put_behind.ensures.run.meter c.tell_two.ensures.any_moment.meter

pub returns-clause-went : goal.returns-clause-went
returns-clause-went g c =
    let a = (g.D.Disk.state c.args.disk.now).meter in
    let b = (g.D.Disk.state c.put_behind.new.disk).meter in
    let z = (g.D.Disk.state c.tell_two.new.disk).meter in
    let n = items_named c.args.found.now.states in
    let changes : (n + 5) + 6 ≡ n + 11 = omega arith in
    let reads : n + 0 ≡ n = omega arith in
    subst (λ (r : ℕ). Went (n + 11) r a z c.tell_two.result) reads
    (subst (λ (k : ℕ). Went k (n + 0) a z c.tell_two.result) changes (went_on (n + 5) n 6 0 a b z c.tell_two.result c.in_ok-_put.ensures.went c.tell_two.ensures.went))

pub returns-in_err-_put-clause-tells : goal.returns-in_err-_put-clause-tells
returns-in_err-_put-clause-tells g c = c.put_behind.ensures.run.tells

pub returns-in_err-_put-clause-steady : goal.returns-in_err-_put-clause-steady
returns-in_err-_put-clause-steady g c = c.put_behind.ensures.run.meter
