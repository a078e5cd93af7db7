-- The events that the machine took are the first of the file's schedule.
use Rattle.std.proofs.Common.{◌≡◌, ◌∙◌, List, ap, map, subst, sym}
use Rattle.image_load.specs.Contents.{started}
use Rattle.rules_maps.specs.Nodes.{Event}
use Rattle.rules_riscv.specs.Starting.{world_at_start}
use Rattle.tcc_msg.specs.Plain.{event_of}
use Rattle.tcc_cli.proofs.Watched.{all-stopped-by, all-told-by}
use Rattle.tcc_cli.specs.Looks.{AreFirst}
use Rattle.watch_run.specs.Shown.{shown_trace}
use Rattle.watch_run.specs.Written.{IsTraceBegun}
use Rattle.tcc_cli.proofs.traces.trace_by_schedule.Goals as goal

pub returns-clause-told : goal.returns-clause-told
returns-clause-told g c =
    let s = started c.args.loaded.now in
    all-told-by s (λ (es : List Event). es ≡ map event_of c.taken.result.now)
    (AreFirst c.args.config.now c.args.bytes.now c.args.to) (λ d es h. shown_trace c.args.shown s (world_at_start s) es d)
    (record { before = g.O.Sink.page c.args.out.now; after = g.O.Sink.page c.trace_listed.new.out }) c.trace_listed.result
    (λ es e. subst (AreFirst c.args.config.now c.args.bytes.now c.args.to) (sym (e ∙ ap (map event_of) c.taken.ensures.taken))
    c.in-Ok.ensures.first) c.trace_listed.ensures.told

pub returns-clause-stopped : goal.returns-clause-stopped
returns-clause-stopped g c =
    let s = started c.args.loaded.now in
    all-stopped-by s (λ (es : List Event). es ≡ map event_of c.taken.result.now)
    (AreFirst c.args.config.now c.args.bytes.now c.args.to) (λ d es h. shown_trace c.args.shown s (world_at_start s) es d)
    (IsTraceBegun s c.args.shown) _
    (record { before = g.O.Sink.page c.args.out.now; after = g.O.Sink.page c.trace_listed.new.out }) c.trace_listed.result
    (λ es e. subst (AreFirst c.args.config.now c.args.bytes.now c.args.to) (sym (e ∙ ap (map event_of) c.taken.ensures.taken))
    c.in-Ok.ensures.first) c.trace_listed.ensures.stopped
