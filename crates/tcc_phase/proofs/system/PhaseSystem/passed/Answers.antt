-- The search ends where both numbers meet.
use Rattle.std.proofs.Common.{◌≡◌, ◌+◌, ◌≤◌, subst, arith, length}
use Rattle.net_core.specs.Machine.{Machine}
use Rattle.tcc_phase.specs.Choosing.{held_in, passed_by}
use Rattle.tcc_phase.specs.Phased.{PhaseMachine}
use Rattle.tcc_phase.proofs.Rows.{at-most-held, held-many, is-passed}
use Rattle.tcc_phase.proofs.system.PhaseSystem.passed.Goals as goal

pub loop-low-init : goal.loop-low-init
loop-low-init c =
    let m : Machine = c.args.self.now.refined.machine in
    let laws = c.useful_events_are_listed.ensures in
    let a : held_in m ≡ length c.self.inside.standing.held.items =
    subst (λ (p : PhaseMachine). held_in p.refined.machine ≡ length c.self.inside.standing.held.items) c.self.view_is
    (held-many c.self.inside.refined.machine c.self.inside.standing c.self.invariant.kept laws.holds laws.ordered) in
    let b = at-most-held m (c.args.k + c.len-high.result + 1) in
    (omega arith, omega (arith, a), omega arith, omega (arith, a, b))

pub is_passed-requires-clause-few : goal.is_passed-requires-clause-few
is_passed-requires-clause-few c =
    let i = c.loop-low.invariant.1 in
    let f = c.requires.few in
    let t = c.loop-low-test.true in
    omega (arith, i, f, t)

pub returns-clause-passed : goal.returns-clause-passed
returns-clause-passed c =
    let m : Machine = c.args.self.now.refined.machine in
    let i = c.loop-low.invariant in
    let same : c.loop-low.high ≡ c.loop-low.low = let a = i.0 in let t = c.loop-low-test.false in omega (arith, a, t) in
    is-passed m c.args.k c.loop-low.low i.2 (subst (λ h. passed_by m (c.args.k + h + 1) ≤ h) same i.3)
