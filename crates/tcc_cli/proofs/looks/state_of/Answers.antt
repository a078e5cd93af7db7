-- The state is told of the machine as it stands.
use Rattle.std.proofs.Common.{subst}
use Rattle.tcc_base.specs.Settings.{IsAllowed}
use Rattle.tcc_cli.proofs.Machines.{ends-by}
use Rattle.tcc_cli.proofs.looks.state_of.Goals as goal

pub returns-clause-runs : goal.returns-clause-runs
returns-clause-runs c =
    ends-by c.args.system.now c.args.loaded.now c.done-done.result (subst IsAllowed c.config.ensures c.settings_are_allowed.ensures)
    c.requires.code c.done-done.ensures
