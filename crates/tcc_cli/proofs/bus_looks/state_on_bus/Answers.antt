-- The state is that of the machine that was run.
use Rattle.std.proofs.Common.{subst}
use Rattle.image_load.specs.Contents.{started}
use Rattle.bus_tool.specs.Running.{RanBySeed}
use Rattle.tcc_cli.proofs.BusViews.{bus-state}
use Rattle.tcc_cli.proofs.bus_looks.state_on_bus.Goals as goal

pub returns : goal.returns
returns c =
    bus-state c.args.loaded.now c.args.seed c.args.steps c.args.events c.in_ok-bus.bus c.done-done.result c.events.result _
    c.in_ok-bus.ensures.code
    (subst (λ k. RanBySeed (started c.args.loaded.now) c.args.seed k c.in_ok-bus.bus) c.min.ensures c.in_ok-bus.ensures.ran)
    c.done-done.ensures c.events.ensures.count c.in_ok-text.ensures
