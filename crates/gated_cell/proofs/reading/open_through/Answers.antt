use Rattle.std.proofs.Common.{ap, sym, subst, ◌∙◌, IsTrue, length, ◌≤◌}
use Rattle.std.proofs.lemmas.Bool.{false≢true}
use Rattle.disk_model.specs.Every.{told_after}
use Rattle.gated_cell.specs.declared.place.CellPlace.{CellPlace}
use Rattle.gated_cell.specs.Cell.{held, stored, Settled, Fits}
use Rattle.gated_cell.proofs.Counting.{if_err, refused_read, refused_reread, read_both, calm_reads, asks_read, asks_reread}
use Rattle.gated_cell.proofs.Found.{found, found_twins, found_fits, settled_known, settled_held, not_opened}
use Rattle.gated_cell.proofs.reading.open_through.Goals as goal

pub returns-in_err-read_at-clause-refused : goal.returns-in_err-read_at-clause-refused
returns-in_err-read_at-clause-refused g c =
    let old = g.D.Disk.state c.args.disk.now in
    let mid = g.D.Disk.state c.read_at.new.self in
    if_err c.from_residual.result c.in_err-read_at.field-0.0 _ c.from_residual.ensures.1
    (λ e gives. not_opened c.args.place old mid e (refused_read c.in_err-read_at.field-0.0 e old.meter mid.meter c.in_err-read_at.ensures.meter gives))

pub returns-in_err-read_at-2-clause-refused : goal.returns-in_err-read_at-2-clause-refused
returns-in_err-read_at-2-clause-refused g c =
    let old = g.D.Disk.state c.args.disk.now in
    let mid = g.D.Disk.state c.read_at.new.self in
    let new = g.D.Disk.state c.read_at-2.new.self in
    if_err c.from_residual-in_err-read_at-2.result c.in_err-read_at-2.field-0.0 _ c.from_residual-in_err-read_at-2.ensures.1
    (λ e gives. not_opened c.args.place old new e (refused_reread c.in_err-read_at-2.field-0.0 e _ old.meter mid.meter new.meter c.in_ok-read_at.ensures.meter c.in_err-read_at-2.ensures.meter gives))

pub returns-then-are_twins-clause-refused : goal.returns-then-are_twins-clause-refused
returns-then-are_twins-clause-refused g c =
    let s = (g.met.D.Disk g.world.𝓛 g.world.𝓜 g.world.𝓡 ((λ s x. x), (λ x. x), (λ x. x), λ x. x)).sound in
    let old = g.D.Disk.state c.args.disk.now in
    let mid = g.D.Disk.state c.read_at.new.self in
    let new = g.D.Disk.state c.read_at-2.new.self in (
      λ told. found_twins c.args.place c.is_open.result c.is_open-2.result c.generation_in.result c.generation_in-2.result old.seen
          (found c.args.place (length c.args.first.now) (length c.args.second.now) c.is_open.result c.is_open-2.result c.generation_in.result c.generation_in-2.result old.seen mid.seen c.read_at.new.buf c.read_at-2.new.buf
          c.requires.slot c.requires.first c.requires.second c.read_at.ensures.still.seen (c.in_ok-read_at.ensures.read told) (c.in_ok-read_at-2.ensures.read (told_after old mid c.read_at.ensures.time told))
          c.is_open.ensures c.generation_in.ensures c.is_open-2.ensures c.generation_in-2.ensures)
          (c.are_twins.ensures.0 c.if-are_twins.true),
      read_both old.meter mid.meter new.meter _ _ c.in_ok-read_at.ensures.meter c.in_ok-read_at-2.ensures.meter,
    )

pub returns-clause-known : goal.returns-clause-known
returns-clause-known g c =
    let s = (g.met.D.Disk g.world.𝓛 g.world.𝓜 g.world.𝓡 ((λ s x. x), (λ x. x), (λ x. x), λ x. x)).sound in
    let old = g.D.Disk.state c.args.disk.now in
    let mid = g.D.Disk.state c.read_at.new.self in
    let new = g.D.Disk.state c.read_at-2.new.self in
    let cell = c.choose-cell.result in
    let fits : IsTrue old.tells → Fits cell (stored cell old.seen) old.seen = λ told.
    found_fits c.args.place c.is_open.result c.is_open-2.result c.generation_in.result c.generation_in-2.result old.seen cell
    (found c.args.place (length c.args.first.now) (length c.args.second.now) c.is_open.result c.is_open-2.result c.generation_in.result c.generation_in-2.result old.seen mid.seen c.read_at.new.buf c.read_at-2.new.buf
    c.requires.slot c.requires.first c.requires.second c.read_at.ensures.still.seen (c.in_ok-read_at.ensures.read told) (c.in_ok-read_at-2.ensures.read (told_after old mid c.read_at.ensures.time told))
    c.is_open.ensures c.generation_in.ensures c.is_open-2.ensures c.generation_in-2.ensures) (λ twins. false≢true (sym c.if-are_twins.false ∙ c.are_twins.ensures.1 twins)) c.choose-cell.ensures.chosen in
    let at_place = sym c.choose-cell.ensures.place in
    settled_known cell old mid new (subst (λ (p : CellPlace). 9 ≤ p.slot_bytes) at_place c.requires.slot) (s c.args.disk.now) (s c.read_at-2.new.self)
    (subst (λ (p : CellPlace). Settled p old) at_place c.requires.settled) c.read_at.ensures.still c.read_at.ensures.time c.read_at-2.ensures.still c.read_at-2.ensures.time fits

pub returns-clause-held : goal.returns-clause-held
returns-clause-held g c =
    let s = (g.met.D.Disk g.world.𝓛 g.world.𝓜 g.world.𝓡 ((λ s x. x), (λ x. x), (λ x. x), λ x. x)).sound in
    let old = g.D.Disk.state c.args.disk.now in
    let mid = g.D.Disk.state c.read_at.new.self in
    let new = g.D.Disk.state c.read_at-2.new.self in
    let cell = c.choose-cell.result in
    let fits : IsTrue old.tells → Fits cell (stored cell old.seen) old.seen = λ told.
    found_fits c.args.place c.is_open.result c.is_open-2.result c.generation_in.result c.generation_in-2.result old.seen cell
    (found c.args.place (length c.args.first.now) (length c.args.second.now) c.is_open.result c.is_open-2.result c.generation_in.result c.generation_in-2.result old.seen mid.seen c.read_at.new.buf c.read_at-2.new.buf
    c.requires.slot c.requires.first c.requires.second c.read_at.ensures.still.seen (c.in_ok-read_at.ensures.read told) (c.in_ok-read_at-2.ensures.read (told_after old mid c.read_at.ensures.time told))
    c.is_open.ensures c.generation_in.ensures c.is_open-2.ensures c.generation_in-2.ensures) (λ twins. false≢true (sym c.if-are_twins.false ∙ c.are_twins.ensures.1 twins)) c.choose-cell.ensures.chosen in
    λ told. ap (λ (p : CellPlace). held p old.seen) (sym c.choose-cell.ensures.place)
    ∙ settled_held cell old.seen new.seen (c.read_at-2.ensures.still.seen ∙ c.read_at.ensures.still.seen) (fits told)

pub returns-in_err-read_at-clause-asked : goal.returns-in_err-read_at-clause-asked
returns-in_err-read_at-clause-asked g c =
    let old = g.D.Disk.state c.args.disk.now in
    let mid = g.D.Disk.state c.read_at.new.self in
    asks_read c.from_residual.result c.in_err-read_at.field-0.0 old.meter mid.meter c.in_err-read_at.ensures.meter c.from_residual.ensures.1

pub returns-in_err-read_at-2-clause-asked : goal.returns-in_err-read_at-2-clause-asked
returns-in_err-read_at-2-clause-asked g c =
    let old = g.D.Disk.state c.args.disk.now in
    let mid = g.D.Disk.state c.read_at.new.self in
    let new = g.D.Disk.state c.read_at-2.new.self in
    asks_reread c.from_residual-in_err-read_at-2.result _ old.meter mid.meter new.meter _ c.in_ok-read_at.ensures.meter c.in_err-read_at-2.ensures.meter

pub returns-then-are_twins-clause-asked : goal.returns-then-are_twins-clause-asked
returns-then-are_twins-clause-asked g c =
    let old = g.D.Disk.state c.args.disk.now in
    let mid = g.D.Disk.state c.read_at.new.self in
    let new = g.D.Disk.state c.read_at-2.new.self in
    asks_reread _ _ old.meter mid.meter new.meter _ c.in_ok-read_at.ensures.meter c.in_ok-read_at-2.ensures.meter

pub returns-clause-asked : goal.returns-clause-asked
returns-clause-asked g c =
    let old = g.D.Disk.state c.args.disk.now in
    let mid = g.D.Disk.state c.read_at.new.self in
    let new = g.D.Disk.state c.read_at-2.new.self in
    asks_reread _ _ old.meter mid.meter new.meter _ c.in_ok-read_at.ensures.meter c.in_ok-read_at-2.ensures.meter

pub returns-clause-no_fault : goal.returns-clause-no_fault
returns-clause-no_fault g c =
    let old = g.D.Disk.state c.args.disk.now in
    let mid = g.D.Disk.state c.read_at.new.self in
    let new = g.D.Disk.state c.read_at-2.new.self in
    calm_reads old.meter mid.meter new.meter _ _ c.in_ok-read_at.ensures.meter c.in_ok-read_at-2.ensures.meter
