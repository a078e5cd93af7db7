-- The machine that was run is the one that is reported.
use Rattle.tcc_cli.proofs.OnBus.{ran-on_bus}
use Rattle.tcc_cli.proofs.on_bus.run_on_bus.Goals as goal

pub returns : goal.returns
returns c =
    ran-on_bus c.args.loaded.now c.args.seed c.args.steps c.in_ok-bus.bus c.done.result _ c.in_ok-bus.ensures.code
    c.in_ok-bus.ensures.ran c.in_ok-text.ensures c.done.ensures
