-- The next words of the seed pick the events, and the trace is that of the whole run.
use Rattle.std.proofs.Common.{List, IfErr, IfOk, ap, arith, subst}
use Rattle.std.proofs.lemmas.Result.{IfErr-weaker, IfOk-weaker}
use Rattle.tcc_world.specs.Page.{Written}
use Rattle.rules_maps.specs.Nodes.{Event}
use Rattle.watch_run.specs.Runs.{IsRunTrace, IsRunTraceBegun, RunData}
use Rattle.watch_run.specs.Traces.{BrokeOff, IsFurtherBegun, IsFurtherTrace, StandsBehind}
use Rattle.watch_run.proofs.Runs.{Settles, coming-few, coming-next, run-trace-broken, run-trace-none, run-traced}
use Rattle.watch_run.proofs.run.Run.trace.Goals as goal

pub trace_on-requires-clause-few : goal.trace_on-requires-clause-few
trace_on-requires-clause-few g c =
    let same = ap (λ (r : RunData). r.machine.events) c.self.view_is in omega (arith, c.settle.ensures.events, same, c.requires.few)

pub trace_on-requires-clause-near : goal.trace_on-requires-clause-near
trace_on-requires-clause-near g c =
    let same = ap (λ (r : RunData). r.machine.events) c.self.view_is in omega (arith, c.settle.ensures.events, same, c.requires.near)

pub trace_on-requires-clause-enough : goal.trace_on-requires-clause-enough
trace_on-requires-clause-enough g c =
    let run : RunData = record {
      machine = c.self.inside.system;
      counts = c.self.inside.counts;
      seed = c.self.inside.seed;
      drawn = c.self.inside.drawn;
    } in
    coming-few run c.args.steps _ _ c.settle.new.self c.after-picked.ensures.left c.after-picked.ensures.chooser

pub returns-in-Err-clause-broken : goal.returns-in-Err-clause-broken
returns-in-Err-clause-broken g c = run-trace-none c.args.shown c.args.steps c.args.self (g.O.Sink.page c.args.out.now).bytes

pub returns-clause-traced : goal.returns-clause-traced
returns-clause-traced g c =
    let run : RunData = record {
      machine = c.self.inside.system;
      counts = c.self.inside.counts;
      seed = c.self.inside.seed;
      drawn = c.self.inside.drawn;
    } in
    let put = c.settle.ensures in
    let settles : Settles run.machine c.settle.new.self = record {
      history = put.history;
      unsent = c.in-Ok.ensures.settled;
      events = put.events;
      code = ap (λ k. k.code) put.cores;
    } in
    let before = (g.O.Sink.page c.args.out.now).bytes in
    let after = (g.O.Sink.page c.trace_on.new.out).bytes in
    subst (λ r. IfOk c.trace_on.result (StandsBehind (IsRunTrace c.args.shown r c.args.steps) before after)) c.self.view_is
    (IfOk-weaker c.trace_on.result _ _ (λ done h. run-traced c.args.shown c.args.steps run c.settle.new.self before after done settles
    (subst (λ (es : List Event). StandsBehind (IsFurtherTrace c.args.shown c.settle.new.self es) before after done)
    (coming-next run c.args.steps _ _ c.settle.new.self c.after-picked.ensures.left c.after-picked.ensures.chooser) h))
    c.trace_on.ensures.traced)

pub returns-clause-broken : goal.returns-clause-broken
returns-clause-broken g c =
    let run : RunData = record {
      machine = c.self.inside.system;
      counts = c.self.inside.counts;
      seed = c.self.inside.seed;
      drawn = c.self.inside.drawn;
    } in
    let put = c.settle.ensures in
    let settles : Settles run.machine c.settle.new.self = record {
      history = put.history;
      unsent = c.in-Ok.ensures.settled;
      events = put.events;
      code = ap (λ k. k.code) put.cores;
    } in
    let output : Written = record { before = g.O.Sink.page c.args.out.now; after = g.O.Sink.page c.trace_on.new.out } in
    subst (λ r. IfErr c.trace_on.result
    (BrokeOff (IsRunTrace c.args.shown r c.args.steps) (IsRunTraceBegun c.args.shown r c.args.steps) output)) c.self.view_is
    (IfErr-weaker c.trace_on.result _ _ (λ b h. run-trace-broken c.args.shown c.args.steps run c.settle.new.self output b settles
    (subst (λ (es : List Event). BrokeOff (IsFurtherTrace c.args.shown c.settle.new.self es)
    (IsFurtherBegun c.args.shown c.settle.new.self es) output b)
    (coming-next run c.args.steps _ _ c.settle.new.self c.after-picked.ensures.left c.after-picked.ensures.chooser) h))
    c.trace_on.ensures.broken)
