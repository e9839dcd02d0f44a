use Rattle.std.specs.Prelude.{◌⊎◌}
use Rattle.std.proofs.Common.{inl, inr, arith}
use Rattle.disk_model.specs.Moments.{leaves_weaker, runs_on}
use Rattle.recovery.specs.Empty.{IsBegun}
use Rattle.recovery.specs.Steps.{Went}
use Rattle.bank_state.specs.Counting.{on_ok_map}
use Rattle.recovery.proofs.Steps.{passed_on, went_on, quietly_on, stopped_on, stopped_wider}
use Rattle.recovery.proofs.Emptied.{cells_keeps, cells_then, stands_empty}
use Rattle.recovery.proofs.init.init_store.Goals as goal

pub returns-clause-stands : goal.returns-clause-stands
returns-clause-stands g c = on_ok_map c.put_first.result (λ is told. stands_empty (g.D.Disk.state c.put_first.new.disk).seen (is told)) c.put_first.ensures.empty

pub returns-in_err-check_unused-clause-within : goal.returns-in_err-check_unused-clause-within
returns-in_err-check_unused-clause-within g c = cells_keeps (g.D.Disk.state c.args.disk.now) (g.D.Disk.state c.check_unused.new.disk) c.check_unused.ensures.kept

pub returns-in_err-put_cells-clause-within : goal.returns-in_err-put_cells-clause-within
returns-in_err-put_cells-clause-within g c =
    let a = g.D.Disk.state c.args.disk.now in
    let b = g.D.Disk.state c.check_unused.new.disk in
    cells_then a b (g.D.Disk.state c.put_cells.new.disk) (cells_keeps a b c.check_unused.ensures.kept) c.put_cells.ensures.within

pub returns-clause-within : goal.returns-clause-within
returns-clause-within g c =
    let a = g.D.Disk.state c.args.disk.now in
    let b = g.D.Disk.state c.check_unused.new.disk in
    let d = g.D.Disk.state c.put_cells.new.disk in
    let z = g.D.Disk.state c.put_first.new.disk in
    cells_then a d z (cells_then a b d (cells_keeps a b c.check_unused.ensures.kept) c.put_cells.ensures.within) c.put_first.ensures.within

pub returns-in_err-check_unused-clause-begun : goal.returns-in_err-check_unused-clause-begun
returns-in_err-check_unused-clause-begun g c =
    let a = g.D.Disk.state c.args.disk.now in
    leaves_weaker a (g.D.Disk.state c.check_unused.new.disk) a.images (λ c. a.images c ⊎ IsBegun c) (λ c left. inl left) c.check_unused.ensures.kept.images

pub returns-in_err-put_cells-clause-begun : goal.returns-in_err-put_cells-clause-begun
returns-in_err-put_cells-clause-begun g c =
    let a = g.D.Disk.state c.args.disk.now in
    let b = g.D.Disk.state c.check_unused.new.disk in
    let d = g.D.Disk.state c.put_cells.new.disk in
    runs_on a b d (λ c. a.images c ⊎ IsBegun c) (leaves_weaker a b a.images (λ c. a.images c ⊎ IsBegun c) (λ c left. inl left) c.check_unused.ensures.kept.images)
    (leaves_weaker b d IsBegun (λ c. a.images c ⊎ IsBegun c) (λ c begun. inr begun) c.put_cells.ensures.begun)

pub returns-clause-begun : goal.returns-clause-begun
returns-clause-begun g c =
    let a = g.D.Disk.state c.args.disk.now in
    let b = g.D.Disk.state c.check_unused.new.disk in
    let d = g.D.Disk.state c.put_cells.new.disk in
    let z = g.D.Disk.state c.put_first.new.disk in
    runs_on a b z (λ c. a.images c ⊎ IsBegun c) (leaves_weaker a b a.images (λ c. a.images c ⊎ IsBegun c) (λ c left. inl left) c.check_unused.ensures.kept.images)
    (leaves_weaker b z IsBegun (λ c. a.images c ⊎ IsBegun c) (λ c begun. inr begun) (runs_on b d z IsBegun c.put_cells.ensures.begun c.put_first.ensures.begun))

pub returns-in_err-check_unused-clause-used : goal.returns-in_err-check_unused-clause-used
returns-in_err-check_unused-clause-used g c = λ told used. c.check_unused.ensures.kept

pub returns-in_err-put_cells-clause-used : goal.returns-in_err-put_cells-clause-used
returns-in_err-put_cells-clause-used g c = λ told used. absurd (used (c.in_ok-check_unused.ensures.answers told).0)

pub returns-clause-used : goal.returns-clause-used
returns-clause-used g c = λ told used. absurd (used (c.in_ok-check_unused.ensures.answers told).0)

pub returns-in_err-put_cells-clause-went : goal.returns-in_err-put_cells-clause-went
returns-in_err-put_cells-clause-went g c =
    let a = (g.D.Disk.state c.args.disk.now).meter in
    let b = (g.D.Disk.state c.check_unused.new.disk).meter in
    let d = (g.D.Disk.state c.put_cells.new.disk).meter in
    let f = c.in_err-put_cells.field-0.0 in
    passed_on (Went 6 1 a d) c.from_residual-in_err-put_cells.result f c.from_residual-in_err-put_cells.ensures.1
    (stopped_wider f 4 6 a d (omega arith) (stopped_on f 1 1 3 a b d c.in_ok-check_unused.ensures.went c.in_err-put_cells.ensures.went))

pub returns-clause-went : goal.returns-clause-went
returns-clause-went g c =
    let a = (g.D.Disk.state c.args.disk.now).meter in
    let b = (g.D.Disk.state c.check_unused.new.disk).meter in
    let d = (g.D.Disk.state c.put_cells.new.disk).meter in
    let z = (g.D.Disk.state c.put_first.new.disk).meter in
    went_on 4 1 2 0 a d z c.put_first.result (quietly_on 1 1 3 0 a b d c.in_ok-check_unused.ensures.went c.in_ok-put_cells.ensures.went) c.put_first.ensures.went
