-- From the machine at its start to the end of the trace.
use Rattle.std.proofs.Common.{◌++◌, subst}
use Rattle.std.proofs.lemmas.Result.{err_from_is_err_and}
use Rattle.std.specs.Io.KnownBytes.{Appends}
use Rattle.std.specs.String.{string_bytes}
use Rattle.text_runs.specs.Pieces.{IsEndCut}
use Rattle.tcc_world.specs.Page.{Written}
use Rattle.watch_trace.specs.Text.{tail_text}
use Rattle.bus_run.proofs.Traces.{ended-broken, head-is, traced}
use Rattle.bus_run.proofs.tracing.trace_on_bus.Goals as goal

pub returns-in_err-run-clause-broken : goal.returns-in_err-run-clause-broken
returns-in_err-run-clause-broken g c =
    let loaded = c.args.loaded.now in
    let head = head-is c.args.from loaded c.in-Ok.run' c.config.result.now _ (string_bytes c.push_bus_head.new.text)
    c.new-held.ensures.bytes c.config.ensures c.in-Ok.ensures.code c.in-Ok-push_bus_head.ensures in
    let p = err_from_is_err_and c.from_residual.result c.from_residual.ensures.1 in
    rw (p.1, p.2) (c.in_err-run.ensures.broken loaded c.args.seed c.args.steps c.in-Ok.ensures head)

pub returns-in_err-tell_end-clause-broken : goal.returns-in_err-tell_end-clause-broken
returns-in_err-tell_end-clause-broken g c =
    let loaded = c.args.loaded.now in
    let head = head-is c.args.from loaded c.in-Ok.run' c.config.result.now _ (string_bytes c.push_bus_head.new.text)
    c.new-held.ensures.bytes c.config.ensures c.in-Ok.ensures.code c.in-Ok-push_bus_head.ensures in
    let output : Written = record { before = g.O.Sink.page c.tell_run.new.out; after = g.O.Sink.page c.tell_end.new.out } in
    let held = string_bytes c.tell_run.new.held in
    let p = err_from_is_err_and c.from_residual-in_err-tell_end.result c.from_residual-in_err-tell_end.ensures.1 in
    rw (p.1, p.2) (ended-broken c.args.states loaded c.args.seed c.args.steps c.args.from c.in_ok-run.run' held
    (g.O.Sink.page c.args.out.now).bytes output (g.O.Sink.page c.args.out.now).faults c.done-done.result c.in_err-tell_end.field-0.0
    (c.in_ok-run.ensures.told loaded c.args.seed c.args.steps c.in-Ok.ensures head) c.in_ok-run.ensures.faults_stay
    c.commits.ensures.refined c.done-done.ensures
    (subst (λ k. IsEndCut held (tail_text c.done-done.result k) output c.in_err-tell_end.field-0.0) c.events.ensures.count
    c.in_err-tell_end.ensures.cut))

pub returns-clause-traced : goal.returns-clause-traced
returns-clause-traced g c =
    let loaded = c.args.loaded.now in
    let head = head-is c.args.from loaded c.in-Ok.run' c.config.result.now _ (string_bytes c.push_bus_head.new.text)
    c.new-held.ensures.bytes c.config.ensures c.in-Ok.ensures.code c.in-Ok-push_bus_head.ensures in
    let held = string_bytes c.tell_run.new.held in
    traced c.args.states loaded c.args.seed c.args.steps c.args.from c.in_ok-run.run' held (g.O.Sink.page c.args.out.now).bytes
    (g.O.Sink.page c.tell_run.new.out).bytes (g.O.Sink.page c.tell_end.new.out).bytes c.done-done.result
    (c.in_ok-run.ensures.told loaded c.args.seed c.args.steps c.in-Ok.ensures head) c.commits.ensures.refined c.done-done.ensures
    (subst (λ k. Appends (g.O.Sink.page c.tell_run.new.out).bytes (g.O.Sink.page c.tell_end.new.out).bytes
    (held ++ tail_text c.done-done.result k))
    c.events.ensures.count c.in_ok-tell_end.ensures.ended)
