-- A core that waits for the bus commits.
use Rattle.std.proofs.Common.{◌≡◌, true, false, sym, subst, Err}
use Rattle.rules_bus.specs.State.{Exec}
use Rattle.bus_tcc.specs.Answers.{Answers}
use Rattle.bus_tcc.specs.Inside.{machine_of}
use Rattle.bus_tcc.specs.Machine.{bus_of, is_free}
use Rattle.bus_tcc.specs.declared.event.BusError.TheVariants.{Refused}
use Rattle.bus_tcc.proofs.Published.{Waits, busy-answers, free-is, waiting-may, waiting-publishes, waits-of}
use Rattle.bus_tcc.proofs.engine.Engine.commit.Goals as goal

pub returns-then-not-is_free : goal.returns-then-not-is_free
returns-then-not-is_free c =
    let m = machine_of c.self.inside in
    let n = c.args.core.0 in
    let a = subst (λ x. Waits x n) (sym c.self.view_is)
    (waits-of c.args.self.now n c.requires.exists c.requires.waits) in
    subst (λ x. Answers x x (Exec n) (Err Refused)) c.self.view_is
    (busy-answers m n a (free-is m c.is_free.result false c.is_free.ensures c.if-not-is_free.true))

pub publish-requires-clause-may : goal.publish-requires-clause-may
publish-requires-clause-may c =
    waiting-may c.args.self.now c.args.core.0
    (waits-of c.args.self.now c.args.core.0 c.requires.exists c.requires.waits)

pub publish-requires-clause-commits : goal.publish-requires-clause-commits
publish-requires-clause-commits c =
    let free = free-is (machine_of c.self.inside) c.is_free.result true c.is_free.ensures c.if-not-is_free.false in
    waiting-publishes c.args.self.now c.args.core.0
    (waits-of c.args.self.now c.args.core.0 c.requires.exists c.requires.waits)
    (subst (λ x. is_free (bus_of x.bus) ≡ true) c.self.view_is free)
