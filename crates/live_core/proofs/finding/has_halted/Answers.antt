-- A core that has halted keeps how it did.
use Rattle.std.proofs.Common.{refl, sym}
use Rattle.net_core.specs.Machine.{history_of, world_of}
use Rattle.live_core.proofs.Halting.{halted-halt, halted-trap}
use Rattle.live_core.proofs.finding.has_halted.Goals as goal

pub returns-in-Run : goal.returns-in-Run
unfolding history_of
returns-in-Run c = (λ t. absurd (cc), λ e. absurd (c.events.ensures.sound.ends c.args.core.0 e (sym c.in-Run.ensures)))

pub returns-in-Halt : goal.returns-in-Halt
returns-in-Halt c =
    let s = (world_of c.args.system.now).cores c.args.core.0 in (λ t. halted-halt s.phase s.ended _ (sym c.in-Halt.ensures), λ e. refl)

pub returns-in-Trap : goal.returns-in-Trap
returns-in-Trap c =
    let s = (world_of c.args.system.now).cores c.args.core.0 in (λ t. halted-trap s.phase s.ended _ (sym c.in-Trap.ensures), λ e. refl)
