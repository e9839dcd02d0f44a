use Rattle.std.proofs.Common.{◌≡◌, ℕ, Bool, IsTrue, sym, ap, ◌∙◌, subst, is_ok}
use Rattle.mission_model.specs.declared.request.Request.TheVariants as request
use Rattle.mission_model.specs.declared.request.Reply.{Reply}
use Rattle.bank_state.specs.declared.parts.Doubt.TheVariants as doubt
use Rattle.bank_state.specs.Ledger.{ledger_of}
use Rattle.dataman_worker.specs.Served.{Served}
use Rattle.dataman_worker.proofs.Changing.{Ran, change_served, commit_of, commit_is, puts_commit, kind_settled}
use Rattle.plan_store.specs.StoreState.{KindState, of_kind, settled}
use Rattle.dataman_worker.proofs.worker.commit.Goals as goal

pub returns-clause-served : goal.returns-clause-served
returns-clause-served g c =
    let s = (g.met.D.Disk g.world.𝓛 g.world.𝓜 g.world.𝓡 ((λ s x. x), (λ x. x), (λ x. x), λ x. x)).sound in
    let a = c.args in
    let banks = c.args.banks.now in
    let now = c.commit.new.self in
    let old = g.D.Disk.state banks.disk in
    let new = g.D.Disk.state now.disk in
    let ran = c.commit.ensures in
    let asked = request.Commit a.kind a.id a.count in
    λ told st holds can.
    let still_told : IsTrue new.tells = subst (λ (b : Bool). IsTrue b) (sym ran.tells) told in
    let d = doubt.Plan a.kind (record { id = a.id; count = a.count }) in
    let generation : (of_kind (settled st) a.kind).generation ≡ ((ledger_of banks.parts).entries a.kind).generation = ap (λ (k : KindState). k.generation) (kind_settled st a.kind) ∙ holds.generations a.kind in
    subst (λ (r : Reply). Served st asked r (ledger_of now.parts) old new) (sym c.changed.ensures)
    (change_served c.commit.result st asked (commit_of st a.kind a.id a.count) d (of_kind (settled st) a.kind).generation banks.parts now.parts old new (s banks.disk) (s now.disk) c.requires.store c.requires.calm holds can.within
    (commit_is st (ledger_of banks.parts) a.kind a.id a.count old.seen holds can) (puts_commit st a.kind a.id a.count)
    (subst (λ (n : ℕ). Ran d n banks.parts now.parts old new c.commit.result) (sym generation)
    (record {
      did = ran.done;
      err = ran.err;
      store = ran.store;
      kept = ran.kept;
      records = ran.records still_told;
      any_moment = ran.any_moment;
      refused = ran.refused;
      spent = λ last. let both = ran.spent last in (ap is_ok both.0, ap g.D.Disk.state both.1);
      only_spent = λ last. (ran.spent last).0;
    })))
