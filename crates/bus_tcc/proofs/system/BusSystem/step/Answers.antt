-- The counts of all cores but the one that the event names are right after it.
use Rattle.std.proofs.Common.{sym, subst}
use Rattle.bus_tcc.specs.Machine.{bus_event_of}
use Rattle.bus_tcc.specs.Parts.{CountedBut}
use Rattle.bus_tcc.proofs.Others.{still-counted}
use Rattle.bus_tcc.proofs.system.BusSystem.step.Goals as goal

pub renew-requires : goal.renew-requires
renew-requires c =
    subst (λ k. CountedBut c.step-done.new.self k c.self.inside.counts) (sym c.core_of.ensures)
    (still-counted c.self.inside.engine c.step-done.new.self (bus_event_of c.args.event) c.step-done.result c.self.inside.counts
    c.step-done.ensures c.self.invariant)
