-- The event at the row's place tells.
use Rattle.std.proofs.Common.{◌+◌, ◌<◌, ◌≤◌, Some, None, sym, subst, arith, length}
use Rattle.tcc_msg.specs.Plain.{event_of}
use Rattle.net_core.specs.Machine.{Machine}
use Rattle.tcc_phase.specs.Choosing.{held_in, passed_by}
use Rattle.tcc_phase.specs.Phased.{PhaseMachine}
use Rattle.tcc_phase.specs.declared.standing.Standing.{Standing}
use Rattle.tcc_phase.proofs.Rows.{all-passed, core-row, found-at, held-many, not_yet-if, passed-if}
use Rattle.tcc_phase.proofs.system.PhaseSystem.is_passed.Goals as goal

row : (c : goal.After-self) → c.args.row < length c.self.inside.standing.held.items
row c =
    let m : Machine = c.self.inside.refined.machine in
    let a = held-many m c.self.inside.standing c.self.invariant.kept c.useful_events_are_listed.ensures.holds
    c.useful_events_are_listed.ensures.ordered in
    let b : c.args.row < held_in m =
    subst (λ (p : PhaseMachine). c.args.row < held_in p.refined.machine) (sym c.self.view_is) c.requires.row in
    omega (arith, a, b)

pub index-core-requires : goal.index-core-requires
index-core-requires c =
    let a = row c in omega (arith, a, c.self.inside.standing.held.ok)

pub index-seq-requires : goal.index-seq-requires
index-seq-requires c =
    let m : Machine = c.self.inside.refined.machine in
    let l : Standing = c.self.inside.standing in
    let laws = c.useful_events_are_listed.ensures in
    let a = held-many m l c.self.invariant.kept laws.holds laws.ordered in
    let b : c.args.row < held_in m =
    subst (λ (p : PhaseMachine). c.args.row < held_in p.refined.machine) (sym c.self.view_is) c.requires.row in
    let h : c.args.row < length l.held.items = omega (arith, a, b) in
    let r = core-row m l c.self.invariant.kept laws.holds laws.ordered c.args.k c.args.row h c.index-core.result.now c.index-core.ensures in
    omega (arith, r, l.asked.ok)

below : (c : goal.After-stands_before) → c.args.row < length c.self.inside.standing.held.items
below c =
    let m : Machine = c.self.inside.refined.machine in
    let l : Standing = c.self.inside.standing in
    let laws = c.useful_events_are_listed.ensures in
    let a = held-many m l c.self.invariant.kept laws.holds laws.ordered in
    let b : c.args.row < held_in m =
    subst (λ (p : PhaseMachine). c.args.row < held_in p.refined.machine) (sym c.self.view_is) c.requires.row in
    omega (arith, a, b)

pub returns-in-Some-clause-passed : goal.returns-in-Some-clause-passed
returns-in-Some-clause-passed c = λ q.
    let m : Machine = c.self.inside.refined.machine in
    let l : Standing = c.self.inside.standing in
    let laws = c.useful_events_are_listed.ensures in
    let at = found-at m c.system.result.now c.useful_at.result (Some c.in-Some.e) (c.args.k + c.args.row) c.system.ensures.machine
    c.useful_at.ensures c.in-Some.is in
    subst (λ (p : PhaseMachine). c.args.row < passed_by p.refined.machine (c.args.k + c.args.row + 1)) c.self.view_is
    (passed-if m l c.self.invariant.kept laws.holds laws.ordered c.args.k c.args.row (below c) (event_of c.in-Some.e)
    c.index-core.result.now
    c.index-seq.result.now c.stands_before.result c.index-core.ensures c.index-seq.ensures at c.stands_before.ensures q)

pub returns-in-Some-clause-not_yet : goal.returns-in-Some-clause-not_yet
returns-in-Some-clause-not_yet c = λ q.
    let m : Machine = c.self.inside.refined.machine in
    let l : Standing = c.self.inside.standing in
    let laws = c.useful_events_are_listed.ensures in
    let at = found-at m c.system.result.now c.useful_at.result (Some c.in-Some.e) (c.args.k + c.args.row) c.system.ensures.machine
    c.useful_at.ensures c.in-Some.is in
    subst (λ (p : PhaseMachine). passed_by p.refined.machine (c.args.k + c.args.row + 1) ≤ c.args.row) c.self.view_is
    (not_yet-if m l c.self.invariant.kept laws.holds laws.ordered c.args.k c.args.row (below c) (event_of c.in-Some.e)
    c.index-core.result.now
    c.index-seq.result.now c.stands_before.result c.index-core.ensures c.index-seq.ensures at c.stands_before.ensures q)

pub returns-in-None-clause-passed : goal.returns-in-None-clause-passed
returns-in-None-clause-passed c = λ q.
    let m : Machine = c.self.inside.refined.machine in
    let l : Standing = c.self.inside.standing in
    let laws = c.useful_events_are_listed.ensures in
    let a = held-many m l c.self.invariant.kept laws.holds laws.ordered in
    let b : c.args.row < held_in m =
    subst (λ (p : PhaseMachine). c.args.row < held_in p.refined.machine) (sym c.self.view_is) c.requires.row in
    let at = found-at m c.system.result.now c.useful_at.result None (c.args.k + c.args.row) c.system.ensures.machine c.useful_at.ensures
    c.in-None.is in
    subst (λ (p : PhaseMachine). c.args.row < passed_by p.refined.machine (c.args.k + c.args.row + 1)) c.self.view_is
    (all-passed m l c.self.invariant.kept laws.holds laws.ordered c.args.k c.args.row (omega (arith, a, b)) at)
