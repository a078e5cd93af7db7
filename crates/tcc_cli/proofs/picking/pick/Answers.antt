-- What the machine took is what the seed picks.
use Rattle.image_load.specs.Contents.{started}
use Rattle.tcc_cli.proofs.Machines.{taken-by}
use Rattle.tcc_cli.specs.Schedules.{IsPicked}
use Rattle.tcc_cli.proofs.picking.pick.Goals as goal

pub returns-clause-taken : goal.returns-clause-taken
returns-clause-taken c =
    let s = started c.args.loaded.now in
    taken-by s _ (IsPicked s c.args.seed c.args.steps) c.take_picked.new.system c.in_ok-take_picked.ensures.taken (λ es p. p.0)
