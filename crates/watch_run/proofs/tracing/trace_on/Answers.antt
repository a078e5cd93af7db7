-- From the first lines to the end of the trace.
use Rattle.std.proofs.Common.{◌≡◌, ◌∙◌, ◌+◌, ap, subst, ◌++◌}
use Rattle.std.proofs.lemmas.Result.{IfErr-weaker, IfOk-weaker}
use Rattle.std.specs.String.{string_bytes}
use Rattle.tcc_base.specs.Settings.{IsAllowed}
use Rattle.net_core.specs.Machine.{settings_of}
use Rattle.watch_trace.specs.Text.{head_text}
use Rattle.watch_run.proofs.Traced.{ended-broken, further-none, stopped-further, traced-further}
use Rattle.watch_run.proofs.tracing.trace_on.Goals as goal

pub returns-in-Err-clause-broken : goal.returns-in-Err-clause-broken
returns-in-Err-clause-broken g c = further-none _ _ _ _

pub returns-in-Ok-trace_events-clause-traced : goal.returns-in-Ok-trace_events-clause-traced
returns-in-Ok-trace_events-clause-traced g c =
    let m = c.args.system.now in
    let allowed = subst IsAllowed c.config.ensures c.settings_are_allowed.ensures in
    let head : string_bytes c.push_head.new.text ≡ head_text (settings_of m) (m.events + c.args.shown.from) =
    c.in-Ok.ensures ∙ ap (λ xs. xs ++ head_text c.config-2.result.now (c.events.result + c.args.shown.from)) c.new-held.ensures.bytes
    ∙ (λ i. head_text (c.config-2.ensures i) (c.events.ensures.count i + c.args.shown.from)) in
    IfOk-weaker c.end_trace.result _ _ (λ done h. traced-further m c.trace_events.new.system c.args.shown
    _ _ _ _ _ _ done allowed head c.in-Ok-trace_events.ensures.went c.in-Ok-trace_events.ensures.put h)
    c.end_trace.ensures.ended

pub returns-in-Ok-trace_events-clause-broken : goal.returns-in-Ok-trace_events-clause-broken
returns-in-Ok-trace_events-clause-broken g c =
    let m = c.args.system.now in
    let allowed = subst IsAllowed c.config.ensures c.settings_are_allowed.ensures in
    let head : string_bytes c.push_head.new.text ≡ head_text (settings_of m) (m.events + c.args.shown.from) =
    c.in-Ok.ensures ∙ ap (λ xs. xs ++ head_text c.config-2.result.now (c.events.result + c.args.shown.from)) c.new-held.ensures.bytes
    ∙ (λ i. head_text (c.config-2.ensures i) (c.events.ensures.count i + c.args.shown.from)) in
    IfErr-weaker c.end_trace.result _ _ (λ b h. ended-broken m c.trace_events.new.system c.args.shown
    _ _ _ _ _ b _ allowed head c.in-Ok-trace_events.ensures.went
    c.in-Ok-trace_events.ensures.put c.in-Ok-trace_events.ensures.faults_stay h)
    c.end_trace.ensures.cut

pub returns-clause-broken : goal.returns-clause-broken
returns-clause-broken g c =
    let m = c.args.system.now in
    let head : string_bytes c.push_head.new.text ≡ head_text (settings_of m) (m.events + c.args.shown.from) =
    c.in-Ok.ensures ∙ ap (λ xs. xs ++ head_text c.config-2.result.now (c.events.result + c.args.shown.from)) c.new-held.ensures.bytes
    ∙ (λ i. head_text (c.config-2.ensures i) (c.events.ensures.count i + c.args.shown.from)) in
    stopped-further m c.args.shown _ _ _ c.in-Err-trace_events.broken head c.in-Err-trace_events.ensures.stopped
