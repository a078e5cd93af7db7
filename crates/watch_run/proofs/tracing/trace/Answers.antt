-- The trace of the machine at its start is that of what was loaded.
use Rattle.std.proofs.Common.{◌≤◌, List, length, subst, sym}
use Rattle.std.proofs.lemmas.Result.{IfErr-weaker, IfOk-weaker}
use Rattle.rules_maps.specs.Nodes.{Event}
use Rattle.watch_run.proofs.Leading.{StartsAt, coming-first}
use Rattle.watch_run.proofs.Traced.{begun-none, broken-there, traced-there}
use Rattle.watch_run.proofs.tracing.trace.Goals as goal

pub returns-in-Err-clause-broken : goal.returns-in-Err-clause-broken
returns-in-Err-clause-broken g c = begun-none _ _ _ _

pub trace_on-requires-clause-enough : goal.trace_on-requires-clause-enough
trace_on-requires-clause-enough g c =
    let starts : StartsAt c.args.loaded.now c.in-Ok.system = record { code = c.in-Ok.ensures.code; first = c.in-Ok.ensures.start } in
    subst (λ (es : List Event). length es ≤ c.args.most)
    (sym (coming-first (g.E.Events.coming c.args.events.now) c.args.loaded.now c.in-Ok.system starts)) c.requires.enough

pub returns-in-Ok-clause-traced : goal.returns-in-Ok-clause-traced
returns-in-Ok-clause-traced g c =
    let starts : StartsAt c.args.loaded.now c.in-Ok.system = record { code = c.in-Ok.ensures.code; first = c.in-Ok.ensures.start } in
    let come = coming-first (g.E.Events.coming c.args.events.now) c.args.loaded.now c.in-Ok.system starts in
    IfOk-weaker c.trace_on.result _ _
    (λ done h. traced-there c.args.loaded.now c.in-Ok.system c.args.shown _ _ _ _ done starts c.in-Ok.ensures.events c.in-Ok.ensures.settled
    come h) c.trace_on.ensures.traced

pub returns-in-Ok-clause-broken : goal.returns-in-Ok-clause-broken
returns-in-Ok-clause-broken g c =
    let starts : StartsAt c.args.loaded.now c.in-Ok.system = record { code = c.in-Ok.ensures.code; first = c.in-Ok.ensures.start } in
    let come = coming-first (g.E.Events.coming c.args.events.now) c.args.loaded.now c.in-Ok.system starts in
    IfErr-weaker c.trace_on.result _ _
    (λ b h. broken-there c.args.loaded.now c.in-Ok.system c.args.shown _ _ _ b starts c.in-Ok.ensures.events c.in-Ok.ensures.settled
    come h) c.trace_on.ensures.broken
