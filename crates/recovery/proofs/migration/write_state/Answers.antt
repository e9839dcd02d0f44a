use Rattle.std.specs.Prelude.{◌≡◌, ℕ, length}
use Rattle.std.proofs.Common.{rules, subst, arith, ◌∙◌}
use Rattle.disk_model.specs.Bytes.{field}
use Rattle.disk_model.specs.Every.{Run}
use Rattle.dataman_layout.specs.declared.layout.Layout.TheVariants.{Two}
use Rattle.dataman_layout.specs.Layouts.{limit_in}
use Rattle.dataman_layout.specs.StateLaws.{record-state_in}
use Rattle.recovery.specs.Steps.{Went}
use Rattle.recovery.proofs.Steps.{passed_up, change_stopped, quiet_sync}
use Rattle.recovery.proofs.Copying.{Anything, run_put, put_there, more_items}
use Rattle.recovery.proofs.migration.write_state.Goals as goal

pub returns-in_err-write_at-clause-run : goal.returns-in_err-write_at-clause-run
returns-in_err-write_at-clause-run g c =
    let sound = (g.met.D.Disk g.world.𝓛 g.world.𝓜 g.world.𝓡 ((λ s x. x), (λ x. x), (λ x. x), λ x. x)).sound in
    let a = g.D.Disk.state c.args.disk.now in
    let z = g.D.Disk.state c.write_at.new.self in
    let long : length c.put_slots.new.slots ≡ 32 = search rules in
    subst (λ (n : ℕ). Run n 32 Anything a z) c.state_at.ensures (run_put c.state_at.result 32 c.put_slots.new.slots a z c.write_at.result long (sound c.args.disk.now) c.write_at.ensures)

pub returns-in_err-write_at-clause-went : goal.returns-in_err-write_at-clause-went
returns-in_err-write_at-clause-went g c =
    let a = (g.D.Disk.state c.args.disk.now).meter in
    let z = (g.D.Disk.state c.write_at.new.self).meter in
    passed_up (Went 1 0 a z) c.from_residual.result c.in_err-write_at.field-0.0 c.from_residual.ensures.1
    (λ e gives. change_stopped c.in_err-write_at.field-0.0 e a z c.in_err-write_at.ensures.meter gives)

pub returns-clause-run : goal.returns-clause-run
returns-clause-run g c =
    let sound = (g.met.D.Disk g.world.𝓛 g.world.𝓜 g.world.𝓡 ((λ s x. x), (λ x. x), (λ x. x), λ x. x)).sound in
    let a = g.D.Disk.state c.args.disk.now in
    let z = g.D.Disk.state c.write_at.new.self in
    let long : length c.put_slots.new.slots ≡ 32 = search rules in
    subst (λ (n : ℕ). Run n 32 Anything a z) c.state_at.ensures (run_put c.state_at.result 32 c.put_slots.new.slots a z c.write_at.result long (sound c.args.disk.now) c.write_at.ensures)

pub returns-clause-state : goal.returns-clause-state
returns-clause-state g c = λ told.
    let a = g.D.Disk.state c.args.disk.now in
    let z = g.D.Disk.state c.write_at.new.self in
    let kind = c.args.kind in
    let payload = c.encode_state.result in
    let seven : length payload ≡ 7 = search rules in
    let long : length c.put_slots.new.slots ≡ 32 = search rules in
    let there = put_there c.state_at.result 32 c.put_slots.new.slots a z c.in_ok-write_at.field-0 long c.in_ok-write_at.ensures told in
    record {
      payload = payload;
      is = record {
        slot = omega (arith, seven);
        bytes = subst (λ (n : ℕ). field n 32 z.seen ≡ c.put_slots.new.slots) c.state_at.ensures there ∙ c.put_slots.ensures;
      };
      named = record-state_in (limit_in Two kind) payload 0 c.args.head seven (c.encode_state.ensures.read (limit_in Two kind) (more_items kind c.args.head.count c.requires.count));
    }

pub returns-clause-went : goal.returns-clause-went
returns-clause-went g c =
    let a = (g.D.Disk.state c.args.disk.now).meter in
    let z = (g.D.Disk.state c.write_at.new.self).meter in
    quiet_sync a z c.in_ok-write_at.field-0 c.in_ok-write_at.ensures.meter
