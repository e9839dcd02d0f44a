use Rattle.std.proofs.Common.{◌≡◌, ℕ, Bool, IsTrue, refl, sym, ap, ◌∙◌, subst, is_ok}
use Rattle.mission_model.specs.PlainMark.{plain_mark}
use Rattle.mission_model.specs.declared.plan.PlanHead.{PlanHead}
use Rattle.mission_model.specs.declared.plan.PlanType.TheVariants.{Mission}
use Rattle.mission_model.specs.declared.request.Request.TheVariants as request
use Rattle.mission_model.specs.declared.request.Reply.{Reply}
use Rattle.bank_state.specs.declared.parts.Doubt.TheVariants as doubt
use Rattle.bank_state.specs.Ledger.{ledger_of}
use Rattle.plan_store.specs.StoreState.{SetMark}
use Rattle.dataman_worker.specs.Served.{Served}
use Rattle.dataman_worker.proofs.Quiet.{mark_stale, own_id}
use Rattle.dataman_worker.proofs.Changing.{Ran, change_served, puts_mark}
use Rattle.dataman_worker.proofs.worker.set_mark.Goals as goal

pub returns-then-mark-in_force-clause-served : goal.returns-then-mark-in_force-clause-served
returns-then-mark-in_force-clause-served g c =
    let s = (g.met.D.Disk g.world.𝓛 g.world.𝓜 g.world.𝓡 ((λ s x. x), (λ x. x), (λ x. x), λ x. x)).sound in
    let banks = c.args.banks.now in
    λ told st holds can. mark_stale st c.args.mark.now c.head-in_force.result.id banks.parts (g.D.Disk.state banks.disk) (s banks.disk) c.requires.store c.requires.calm holds
    (ap (λ (h : PlanHead). h.id) c.head-in_force.ensures) c.if-mark-in_force.true

pub returns-clause-served : goal.returns-clause-served
returns-clause-served g c =
    let s = (g.met.D.Disk g.world.𝓛 g.world.𝓜 g.world.𝓡 ((λ s x. x), (λ x. x), (λ x. x), λ x. x)).sound in
    let mark = c.args.mark.now in
    let banks = c.args.banks.now in
    let now = c.write_mark.new.self in
    let old = g.D.Disk.state banks.disk in
    let new = g.D.Disk.state now.disk in
    let ran = c.write_mark.ensures in
    λ told st holds can.
    let still_told : IsTrue new.tells = subst (λ (b : Bool). IsTrue b) (sym ran.tells) told in
    let own : st.mission.plan.id ≡ mark.id = own_id st (ledger_of banks.parts) old.seen Mission holds ∙ sym (ap (λ (h : PlanHead). h.id) c.head-in_force.ensures) ∙ sym c.if-mark-in_force.false in
    subst (λ (r : Reply). Served st (request.SetMark mark) r (ledger_of now.parts) old new) (sym c.changed.ensures)
    (change_served c.write_mark.result st (request.SetMark mark) (SetMark (plain_mark mark)) (doubt.Mark mark) st.mark_generation banks.parts now.parts old new (s banks.disk) (s now.disk) c.requires.store c.requires.calm holds tt refl (puts_mark st mark own)
    (subst (λ (n : ℕ). Ran (doubt.Mark mark) n banks.parts now.parts old new c.write_mark.result) (sym holds.mark_generation)
    (record {
      did = ran.done;
      err = ran.err;
      store = ran.store;
      kept = ran.kept;
      records = ran.records still_told;
      any_moment = ran.any_moment;
      refused = ran.refused;
      spent = λ last. let both = ran.spent last in (ap is_ok both.0, ap g.D.Disk.state both.1);
      only_spent = λ last. (ran.spent last).0;
    })))
