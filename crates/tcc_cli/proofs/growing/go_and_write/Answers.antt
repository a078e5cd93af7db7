-- The line before it, and then what is written of the further steps.
use Rattle.std.proofs.Common.{subst}
use Rattle.tcc_world.specs.Page.{Written}
use Rattle.tcc_cli.specs.Growing.{IsOpenStopped, IsOpenText}
use Rattle.tcc_cli.specs.Long.{more_of}
use Rattle.watch_run.specs.Written.{IsBehind}
use Rattle.tcc_cli.proofs.Grown.{head-stopped, open-stopped, open-written}
use Rattle.tcc_cli.proofs.growing.go_and_write.Goals as goal

pub returns-in-Err-clause-stopped : goal.returns-in-Err-clause-stopped
returns-in-Err-clause-stopped g c =
    let o : Written = record { before = g.O.Sink.page c.args.out.now; after = g.O.Sink.page c.write_head.new.out } in
    head-stopped c.args.view _ c.args.asked _ c.args.run.now (more_of c.args.steps c.args.run.now) o c.in-Err.broken _
    c.meanwhile_of-told.ensures.text c.seed.ensures c.of_broken.ensures c.in-Err.ensures.cut

pub returns-in-Ok-go_and_write-clause-written : goal.returns-in-Ok-go_and_write-clause-written
returns-in-Ok-go_and_write-clause-written g c =
    let before = (g.O.Sink.page c.args.out.now).bytes in
    let after = (g.O.Sink.page c.go_and_write.new.out).bytes in
    subst (λ more. IsBehind (IsOpenText c.args.view c.args.asked c.args.run.now more) before after) c.more_of-more.ensures.more
    (open-written c.args.view _ c.args.asked _ c.args.run.now _ before (g.O.Sink.page c.write_head.new.out).bytes after
    c.meanwhile_of-told.ensures.text c.seed.ensures c.in-Ok.ensures.written c.in-Ok-go_and_write.ensures.written)

pub returns-in-Err-go_and_write-clause-stopped : goal.returns-in-Err-go_and_write-clause-stopped
returns-in-Err-go_and_write-clause-stopped g c =
    let before = g.O.Sink.page c.args.out.now in
    let after = g.O.Sink.page c.go_and_write.new.out in
    subst (λ more. IsOpenStopped c.args.view c.args.asked c.args.run.now more (record { before = before; after = after })
    c.of_broken-in-Err-go_and_write.result)
    c.more_of-more.ensures.more
    (open-stopped c.args.view _ c.args.asked _ c.args.run.now _ before (g.O.Sink.page c.write_head.new.out) after
    c.in-Err-go_and_write.broken c.of_broken-in-Err-go_and_write.result c.meanwhile_of-told.ensures.text c.seed.ensures
    c.of_broken-in-Err-go_and_write.ensures
    c.in-Ok.ensures.written c.write_head.ensures.faults_stay c.in-Err-go_and_write.ensures.broken)
