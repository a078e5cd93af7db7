-- A trace or a table by a schedule or by a seed, a trace on the bus or from a checkpoint, or what is told of a long run as it goes, from
-- the start that the command's files give.
use Rattle.std.proofs.Common.{◌≡◌, ◌∙◌, IfErr, IfOk, None, Some, ap, refl, subst, sym}
use Rattle.image_load.specs.Contents.{started}
use Rattle.tcc_words.specs.Bounds.{IsInBounds, IsLongView}
use Rattle.tcc_words.specs.declared.command.Begin.TheVariants.{Checkpoint}
use Rattle.tcc_words.specs.declared.command.Command.TheVariants.{Long, Look, LookOnBus}
use Rattle.tcc_words.specs.declared.command.Source.TheVariants.{Schedule, Seed}
use Rattle.tcc_words.specs.declared.command.View.TheVariants.{Trace, Rows}
use Rattle.tcc_cli.proofs.BusViews.{bus-trace-tells}
use Rattle.tcc_cli.proofs.Further.{first-checkpoint, further-tells}
use Rattle.tcc_cli.proofs.Grown.{grown-tells, grows-apart}
use Rattle.tcc_cli.proofs.Looking.{first-file, going-tells}
use Rattle.tcc_cli.specs.Around.{FilesAround}
use Rattle.tcc_cli.specs.Commands.{head_of, machine_of}
use Rattle.tcc_world.specs.Page.{Written}
use Rattle.tcc_cli.specs.Looks.{AreFirst, ArePicked, IsFaultOfFirst, IsTableStopped, IsTableTold, IsTraceStopped, IsTraceTold}
use Rattle.tcc_words.specs.Fields.{count_limit}
use Rattle.watch_run.specs.declared.tabling.Rows.{Rows as Table}
use Rattle.watch_run.specs.declared.telling.Shown.{Shown}
use Rattle.tcc_cli.proofs.top.tell.Goals as goal

pub returns-in-Look-default-default-Schedule-Trace-clause-tells : goal.returns-in-Look-default-default-Schedule-Trace-clause-tells
returns-in-Look-default-default-Schedule-Trace-clause-tells g c =
    let it = c.in-Look-default-default-Schedule-Trace in
    let s = started c.args.loaded.now in
    let config = it.machine.config in
    let source : it.source ≡ Schedule it.source-0 = rw it.is at it.source-is in
    let view : it.view ≡ Trace it.from it.to it.states = rw it.is at it.view-is in
    let is : c.args.command.now ≡ Look it.machine it.images (Schedule it.source-0) (Trace it.from it.to it.states) =
    it.is ∙ (λ i. Look it.machine it.images (source i) (view i)) in
    let bytes : c.bytes.result.now ≡ head_of c.args.read.now = c.bytes.ensures ∙ c.index-read-0.is
    ∙ first-file c.args.command.now c.args.read.now it.machine it.images it.source-0 (Trace it.from it.to it.states) _
    c.requires.count is in
    let shown : Shown = record { from = it.from; states = it.states } in
    let o : Written = record { before = g.O.Sink.page c.args.out.now; after = g.O.Sink.page c.trace_by_schedule.new.out } in
    let f : FilesAround = record { before = g.F.Store.disk c.args.files.now; after = g.F.Store.disk c.args.files.now } in
    going-tells c.args.command.now c.args.read.now s config it.machine it.images (Schedule it.source-0) (Trace it.from it.to it.states)
    (λ q settings. IsFaultOfFirst q settings (head_of c.args.read.now) it.to) f o c.trace_by_schedule.result
    (record { is = is; start = c.requires.start; config = ap (λ d. (machine_of d).config) (sym is) }) refl (λ n. refl)
    (subst (λ b. IfOk c.trace_by_schedule.result (IsTraceTold s (AreFirst config b it.to) shown o)) bytes
    (rw (it.from-is, it.to-is, it.states-is) at c.trace_by_schedule.ensures.told))
    (subst (λ b. IfErr c.trace_by_schedule.result
    (IsTraceStopped s (AreFirst config b it.to) shown (IsFaultOfFirst s config b it.to) o)) bytes
    (rw (it.from-is, it.to-is, it.states-is) at c.trace_by_schedule.ensures.stopped))

pub returns-in-Look-default-default-Seed-Trace-clause-tells : goal.returns-in-Look-default-default-Seed-Trace-clause-tells
returns-in-Look-default-default-Seed-Trace-clause-tells g c =
    let it = c.in-Look-default-default-Seed-Trace in
    let s = started c.args.loaded.now in
    let config = it.machine.config in
    let source : it.source ≡ Seed it.steps it.seed = rw it.is at it.source-is in
    let view : it.view ≡ Trace it.from it.to it.states = rw it.is at it.view-is in
    let is : c.args.command.now ≡ Look it.machine it.images (Seed it.steps it.seed) (Trace it.from it.to it.states) =
    it.is ∙ (λ i. Look it.machine it.images (source i) (view i)) in
    let shown : Shown = record { from = it.from; states = it.states } in
    let o : Written = record { before = g.O.Sink.page c.args.out.now; after = g.O.Sink.page c.trace_by_seed.new.out } in
    let f : FilesAround = record { before = g.F.Store.disk c.args.files.now; after = g.F.Store.disk c.args.files.now } in
    let told : IfOk c.trace_by_seed.result (IsTraceTold s (ArePicked s it.seed it.steps it.to) shown o) =
    rw (it.steps-is, it.seed-is, it.from-is, it.to-is, it.states-is) at c.trace_by_seed.ensures.told in
    let stopped : IfErr c.trace_by_seed.result
    (IsTraceStopped s (ArePicked s it.seed it.steps it.to) shown (λ line. ⊥) o) =
    rw (it.steps-is, it.seed-is, it.from-is, it.to-is, it.states-is) at c.trace_by_seed.ensures.stopped in
    going-tells c.args.command.now c.args.read.now s config it.machine it.images (Seed it.steps it.seed) (Trace it.from it.to it.states)
    (λ q settings line. ⊥) f o c.trace_by_seed.result
    (record { is = is; start = c.requires.start; config = ap (λ d. (machine_of d).config) (sym is) }) refl (λ n. refl) told stopped

pub returns-in-Look-default-default-Schedule-Rows-clause-tells : goal.returns-in-Look-default-default-Schedule-Rows-clause-tells
returns-in-Look-default-default-Schedule-Rows-clause-tells g c =
    let it = c.in-Look-default-default-Schedule-Rows in
    let s = started c.args.loaded.now in
    let config = it.machine.config in
    let source : it.source ≡ Schedule it.source-0 = rw it.is at it.source-is in
    let view : it.view ≡ Rows it.every = rw it.is at it.view-is in
    let is : c.args.command.now ≡ Look it.machine it.images (Schedule it.source-0) (Rows it.every) =
    it.is ∙ (λ i. Look it.machine it.images (source i) (view i)) in
    let bytes : c.bytes-in-Look-default-default-Schedule-Rows.result.now ≡ head_of c.args.read.now =
    c.bytes-in-Look-default-default-Schedule-Rows.ensures ∙ c.index-read-0-in-Look-default-default-Schedule-Rows.is
    ∙ first-file c.args.command.now c.args.read.now it.machine it.images it.source-0 (Rows it.every) _ c.requires.count is in
    let rows : Table = record { every = it.every; seed = None } in
    let o : Written = record { before = g.O.Sink.page c.args.out.now; after = g.O.Sink.page c.totals_by_schedule.new.out } in
    let f : FilesAround = record { before = g.F.Store.disk c.args.files.now; after = g.F.Store.disk c.args.files.now } in
    going-tells c.args.command.now c.args.read.now s config it.machine it.images (Schedule it.source-0) (Rows it.every)
    (λ q settings. IsFaultOfFirst q settings (head_of c.args.read.now) count_limit) f o c.totals_by_schedule.result
    (record { is = is; start = c.requires.start; config = ap (λ d. (machine_of d).config) (sym is) }) refl (λ n. refl)
    (subst (λ b. IfOk c.totals_by_schedule.result (IsTableTold s (AreFirst config b count_limit) rows o)) bytes
    (rw it.every-is at c.totals_by_schedule.ensures.told))
    (subst (λ b. IfErr c.totals_by_schedule.result
    (IsTableStopped s (AreFirst config b count_limit) rows (IsFaultOfFirst s config b count_limit) o)) bytes
    (rw it.every-is at c.totals_by_schedule.ensures.stopped))

pub returns-in-Look-default-default-Seed-Rows-clause-tells : goal.returns-in-Look-default-default-Seed-Rows-clause-tells
returns-in-Look-default-default-Seed-Rows-clause-tells g c =
    let it = c.in-Look-default-default-Seed-Rows in
    let s = started c.args.loaded.now in
    let source : it.source ≡ Seed it.steps it.seed = rw it.is at it.source-is in
    let view : it.view ≡ Rows it.every = rw it.is at it.view-is in
    let is : c.args.command.now ≡ Look it.machine it.images (Seed it.steps it.seed) (Rows it.every) =
    it.is ∙ (λ i. Look it.machine it.images (source i) (view i)) in
    let rows : Table = record { every = it.every; seed = Some (it.seed, it.steps) } in
    let o : Written = record { before = g.O.Sink.page c.args.out.now; after = g.O.Sink.page c.totals_by_seed.new.out } in
    let f : FilesAround = record { before = g.F.Store.disk c.args.files.now; after = g.F.Store.disk c.args.files.now } in
    let told : IfOk c.totals_by_seed.result (IsTableTold s (ArePicked s it.seed it.steps count_limit) rows o) =
    rw (it.steps-is, it.seed-is, it.every-is) at c.totals_by_seed.ensures.told in
    let stopped : IfErr c.totals_by_seed.result
    (IsTableStopped s (ArePicked s it.seed it.steps count_limit) rows (λ line. ⊥) o) =
    rw (it.steps-is, it.seed-is, it.every-is) at c.totals_by_seed.ensures.stopped in
    going-tells c.args.command.now c.args.read.now s it.machine.config it.machine it.images (Seed it.steps it.seed) (Rows it.every)
    (λ q settings line. ⊥) f o c.totals_by_seed.result
    (record { is = is; start = c.requires.start; config = ap (λ d. (machine_of d).config) (sym is) }) refl (λ n. refl) told stopped

pub returns-in-LookOnBus-default-default-default-default-Trace-clause-tells
    : goal.returns-in-LookOnBus-default-default-default-default-Trace-clause-tells
returns-in-LookOnBus-default-default-default-default-Trace-clause-tells g c =
    let it = c.in-LookOnBus-default-default-default-default-Trace in
    let view : it.view ≡ Trace it.from it.to it.states = rw it.is at it.view-is in
    let is : c.args.command.now ≡ LookOnBus it.machine it.images it.steps it.seed (Trace it.from it.to it.states) =
    it.is ∙ (λ i. LookOnBus it.machine it.images it.steps it.seed (view i)) in
    let o : Written = record { before = g.O.Sink.page c.args.out.now; after = g.O.Sink.page c.trace_bus.new.out } in
    let f : FilesAround = record { before = g.F.Store.disk c.args.files.now; after = g.F.Store.disk c.args.files.now } in
    bus-trace-tells c.args.command.now c.args.read.now (started c.args.loaded.now) it.machine it.images it.steps it.seed it.from it.to
    it.states f o c.trace_bus.result is c.requires.start (λ n. refl) (rw (it.from-is, it.to-is, it.states-is) at c.trace_bus.ensures.told)
    (rw (it.from-is, it.to-is, it.states-is) at c.trace_bus.ensures.stopped)

pub returns-in-Long-default-default-Checkpoint-default-Trace-default-clause-tells
    : goal.returns-in-Long-default-default-Checkpoint-default-Trace-default-clause-tells
returns-in-Long-default-default-Checkpoint-default-Trace-default-clause-tells g c =
    let it = c.in-Long-default-default-Checkpoint-default-Trace-default in
    let begin : it.begin ≡ Checkpoint it.begin-0 = rw it.is at it.begin-is in
    let view : it.view ≡ Trace it.from it.to it.states = rw it.is at it.view-is in
    let is : c.args.command.now ≡ Long it.machine it.images (Checkpoint it.begin-0) it.steps (Trace it.from it.to it.states) it.keep =
    it.is ∙ (λ i. Long it.machine it.images (begin i) it.steps (view i) it.keep) in
    let bounds = (subst IsInBounds is c.requires.bounds).numbers in
    let far : IsLongView (Trace it.from it.to it.states) (Checkpoint it.begin-0) it.keep = bounds.3 in
    let bytes : c.bytes-in-Long-default-default-Checkpoint-default-Trace-default.result.now ≡ head_of c.args.read.now =
    c.bytes-in-Long-default-default-Checkpoint-default-Trace-default.ensures
    ∙ c.index-read-0-in-Long-default-default-Checkpoint-default-Trace-default.is
    ∙ first-checkpoint c.args.command.now c.args.read.now it.machine it.images it.begin-0 it.steps (Trace it.from it.to it.states) it.keep
    _ c.requires.count is in
    let o : Written = record { before = g.O.Sink.page c.args.out.now; after = g.O.Sink.page c.trace_from_checkpoint.new.out } in
    let f : FilesAround = record { before = g.F.Store.disk c.args.files.now; after = g.F.Store.disk c.args.files.now } in
    further-tells c.args.command.now c.args.read.now c.args.loaded.now it.machine it.images it.begin-0 it.steps it.from it.to it.states
    it.keep _ f o c.trace_from_checkpoint.result is far.3 c.requires.start bytes (λ n. refl)
    (rw (it.from-is, it.to-is, it.states-is) at c.trace_from_checkpoint.ensures.told)
    (rw (it.from-is, it.to-is, it.states-is) at c.trace_from_checkpoint.ensures.stopped)

pub returns-in-Long-clause-tells : goal.returns-in-Long-clause-tells
returns-in-Long-clause-tells g c =
    let it = c.in-Long in
    let bounds = (subst IsInBounds it.is c.requires.bounds).numbers in
    let far : IsLongView it.view it.begin it.keep = bounds.3 in
    let o : Written = record { before = g.O.Sink.page c.args.out.now; after = g.O.Sink.page c.grow.new.out } in
    let f : FilesAround = record { before = g.F.Store.disk c.args.files.now; after = g.F.Store.disk c.grow.new.files } in
    grown-tells c.args.command.now c.args.read.now c.args.loaded.now it.machine it.images it.begin it.steps it.view it.keep f o
    c.grow.result it.is (grows-apart it.view it.begin it.keep (c.grows.ensures.0 c.if-grows.true) far) c.requires.start
    c.grow.ensures.told c.grow.ensures.stopped
