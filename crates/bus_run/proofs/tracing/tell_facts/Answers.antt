-- All events are told, or it broke off.
use Rattle.std.proofs.Common.{false}
use Rattle.std.proofs.lemmas.Result.{err_from_is_err_and}
use Rattle.std.specs.String.{string_bytes}
use Rattle.bus_run.proofs.Traces.{facts-ready, stopped-broken, told-all}
use Rattle.bus_run.proofs.tracing.tell_facts.Goals as goal

pub returns-in_err-tell_events-clause-broken : goal.returns-in_err-tell_events-clause-broken
returns-in_err-tell_events-clause-broken g c = λ d seed steps s e.
    let p = err_from_is_err_and c.from_residual.result c.from_residual.ensures.1 in
    rw (p.1, p.2) (stopped-broken (λ n. n) false d seed steps c.args.from c.args.run c.args.run (string_bytes c.args.held.now)
    c.args.from _ c.in_err-tell_events.field-0.0 (facts-ready d seed steps c.args.from c.args.run (string_bytes c.args.held.now) s e)
    c.in_err-tell_events.ensures.stopped)

pub returns-clause-told : goal.returns-clause-told
returns-clause-told g c = λ d seed steps s e.
    told-all false d seed steps c.args.from c.args.run c.args.run c.tell_events.new.run (string_bytes c.args.held.now)
    (string_bytes c.tell_events.new.held) c.args.from (g.O.Sink.page c.args.out.now).bytes (g.O.Sink.page c.tell_events.new.out).bytes
    (facts-ready d seed steps c.args.from c.args.run (string_bytes c.args.held.now) s e) c.in_ok-tell_events.ensures.told
