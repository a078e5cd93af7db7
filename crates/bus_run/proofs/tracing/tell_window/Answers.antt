-- All events are told, or it broke off.
use Rattle.std.proofs.Common.{subst, sym, true}
use Rattle.std.proofs.lemmas.Result.{err_from_is_err_and}
use Rattle.std.specs.String.{string_bytes}
use Rattle.bus_run.specs.declared.showing.KeptRun.{KeptRun}
use Rattle.bus_run.proofs.Traces.{Ready, states-ready, stopped-broken, told-all}
use Rattle.bus_run.proofs.tracing.tell_window.Goals as goal

pub returns-in_err-tell_events-clause-broken : goal.returns-in_err-tell_events-clause-broken
returns-in_err-tell_events-clause-broken g c = λ first d seed steps from s k e l.
    let p = err_from_is_err_and c.from_residual.result c.from_residual.ensures.1 in
    let held = string_bytes c.begin.new.text in
    let ready = subst (λ r. Ready true d seed steps from first r held 0) (sym c.in-Ok.ensures.run)
    (states-ready d seed steps from first c.args.run (string_bytes c.args.held.now) held s k e l c.in-Ok.ensures.told) in
    rw (p.1, p.2) (stopped-broken (λ (n : KeptRun). n.run) true d seed steps from first c.in-Ok.run'.run held 0 _
    c.in_err-tell_events.field-0.0 ready c.in_err-tell_events.ensures.stopped)

pub returns-clause-told : goal.returns-clause-told
returns-clause-told g c = λ first d seed steps from s k e l.
    let held = string_bytes c.begin.new.text in
    let ready = subst (λ r. Ready true d seed steps from first r held 0) (sym c.in-Ok.ensures.run)
    (states-ready d seed steps from first c.args.run (string_bytes c.args.held.now) held s k e l c.in-Ok.ensures.told) in
    told-all true d seed steps from first c.in-Ok.run'.run c.tell_events.new.run.run held (string_bytes c.tell_events.new.held) 0
    (g.O.Sink.page c.args.out.now).bytes (g.O.Sink.page c.tell_events.new.out).bytes ready c.in_ok-tell_events.ensures.told
