-- The checkpoint is refused, or the trace of its run is told.
use Rattle.std.proofs.Common.{◌∙◌, ap, refl}
use Rattle.tcc_world.specs.Page.{Written}
use Rattle.tcc_cli.specs.Long.{IsToldBy, more_of}
use Rattle.tcc_cli.proofs.Further.{further-refused, further-stopped, further-told}
use Rattle.tcc_cli.proofs.long.trace_from_checkpoint.Goals as goal

pub returns-in-Err-clause-stopped : goal.returns-in-Err-clause-stopped
returns-in-Err-clause-stopped g c = further-refused _ _ _ _ _ _ c.of_broken.ensures refl

pub returns-in-Ok-trace-clause-told : goal.returns-in-Ok-trace-clause-told
returns-in-Ok-trace-clause-told g c =
    let o : Written = record { before = g.O.Sink.page c.args.out.now; after = g.O.Sink.page c.trace.new.out } in
    further-told c.args.loaded.now (IsToldBy c.args.bytes.now) c.in-Ok.run' c.args.steps c.args.to _ c.args.shown o c.in-Ok-trace.done
    (record { text = c.in-Ok.ensures.text; laid_out = c.in-Ok.ensures.laid_out }) c.in-Ok.ensures.code
    (c.more_of-more.ensures.more ∙ ap (λ n. more_of n c.in-Ok.run') c.min.ensures) c.in-Ok-trace.ensures.traced

pub returns-in-Err-trace-clause-stopped : goal.returns-in-Err-trace-clause-stopped
returns-in-Err-trace-clause-stopped g c =
    let o : Written = record { before = g.O.Sink.page c.args.out.now; after = g.O.Sink.page c.trace.new.out } in
    further-stopped c.args.loaded.now (IsToldBy c.args.bytes.now) c.in-Ok.run' c.args.steps c.args.to _ c.args.shown o c.in-Err-trace.broken
    _ (record { text = c.in-Ok.ensures.text; laid_out = c.in-Ok.ensures.laid_out }) c.in-Ok.ensures.code
    (c.more_of-more.ensures.more ∙ ap (λ n. more_of n c.in-Ok.run') c.min.ensures) c.of_broken-in-Err-trace.ensures
    c.in-Err-trace.ensures.broken
