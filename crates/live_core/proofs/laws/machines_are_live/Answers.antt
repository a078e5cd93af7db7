-- The settings that it has are allowed.
use Rattle.std.proofs.Common.{subst}
use Rattle.tcc_base.specs.Settings.{IsAllowed}
use Rattle.live_core.proofs.Live.{live}
use Rattle.live_core.proofs.laws.machines_are_live.Goals as goal

pub returns : goal.returns
returns c =
    live c.args.system.now (subst IsAllowed c.config.ensures c.cores.ensures.allowed)
    c.riscv_machines_are_never_stuck.ensures.done c.riscv_machines_are_never_stuck.ensures.goes_on
