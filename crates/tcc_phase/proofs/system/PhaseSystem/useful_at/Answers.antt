-- The event behind those that are passed.
use Rattle.std.proofs.Common.{◌≡◌, length, Option, None, ap, sym, ◌∙◌, subst, arith}
use Rattle.std.specs.Prelude.{option_map, slice_get}
use Rattle.std.proofs.lemmas.Option.{slice_get_past}
use Rattle.tcc_msg.specs.Plain.{event_of}
use Rattle.rules_maps.specs.Nodes.{Event}
use Rattle.rules_tcc.specs.Useful.{useful}
use Rattle.net_core.specs.Machine.{Machine, program_of, settings_of, world_of}
use Rattle.tcc_phase.specs.Choosing.{IsPassed, held_in}
use Rattle.tcc_phase.specs.Phased.{PhaseMachine, useful_in}
use Rattle.tcc_phase.proofs.Rows.{all-is, at-number, held-many, useful-many}
use Rattle.tcc_phase.proofs.system.PhaseSystem.useful_at.Goals as goal

pub overflow_sub-all : goal.overflow_sub-all
overflow_sub-all c =
    let m : Machine = c.self.inside.refined.machine in
    let laws = c.useful_events_are_listed.ensures in
    let many = c.useful_count-all.ensures
    ∙ ap (λ (x : Machine). length (useful (settings_of x) (program_of x) (world_of x))) c.system.ensures.machine ∙ ap length (all-is m) in
    let all = useful-many m c.self.inside.standing c.self.invariant.kept laws.holds laws.ordered in
    omega (arith, many, all)

pub overflow_add-k : goal.overflow_add-k
overflow_add-k c =
    let m : Machine = c.self.inside.refined.machine in
    let laws = c.useful_events_are_listed.ensures in
    let many = c.useful_count-all.ensures
    ∙ ap (λ (x : Machine). length (useful (settings_of x) (program_of x) (world_of x))) c.system.ensures.machine ∙ ap length (all-is m) in
    let all = useful-many m c.self.inside.standing c.self.invariant.kept laws.holds laws.ordered in
    let held : held_in c.args.self.now.refined.machine ≡ length c.self.inside.standing.held.items =
    subst (λ (p : PhaseMachine). held_in p.refined.machine ≡ length c.self.inside.standing.held.items) c.self.view_is
    (held-many m c.self.inside.standing c.self.invariant.kept laws.holds laws.ordered) in
    let few = c.passed.ensures.few in
    omega (arith, many, all, held, few, c.if-k-all.false, c.useful_count-all.type_inv)

pub passed-requires-clause-few : goal.passed-requires-clause-few
passed-requires-clause-few c =
    let m : Machine = c.self.inside.refined.machine in
    let laws = c.useful_events_are_listed.ensures in
    let many = c.useful_count-all.ensures
    ∙ ap (λ (x : Machine). length (useful (settings_of x) (program_of x) (world_of x))) c.system.ensures.machine ∙ ap length (all-is m) in
    let all = useful-many m c.self.inside.standing c.self.invariant.kept laws.holds laws.ordered in
    let held : held_in c.args.self.now.refined.machine ≡ length c.self.inside.standing.held.items =
    subst (λ (p : PhaseMachine). held_in p.refined.machine ≡ length c.self.inside.standing.held.items) c.self.view_is
    (held-many m c.self.inside.standing c.self.invariant.kept laws.holds laws.ordered) in
    omega (arith, many, all, held, c.if-k-all.false, c.useful_count-all.type_inv)

pub returns-then-k-all : goal.returns-then-k-all
returns-then-k-all c =
    let m : Machine = c.self.inside.refined.machine in
    let laws = c.useful_events_are_listed.ensures in
    let many = c.useful_count-all.ensures
    ∙ ap (λ (x : Machine). length (useful (settings_of x) (program_of x) (world_of x))) c.system.ensures.machine ∙ ap length (all-is m) in
    let all = useful-many m c.self.inside.standing c.self.invariant.kept laws.holds laws.ordered in
    subst (λ (p : PhaseMachine). ◌≡◌ {A = Option Event} None (slice_get (useful_in p.refined.machine) c.args.k)) c.self.view_is
    (sym (slice_get_past (useful_in m) c.args.k (omega (arith, many, all, c.if-k-all.true))))

pub returns : goal.returns
returns c =
    let m : Machine = c.self.inside.refined.machine in
    let passed : IsPassed m c.args.k c.passed.result =
    subst (λ (p : PhaseMachine). IsPassed p.refined.machine c.args.k c.passed.result) (sym c.self.view_is) c.passed.ensures.passed in
    subst (λ (p : PhaseMachine). option_map event_of c.useful_at.result ≡ slice_get (useful_in p.refined.machine) c.args.k) c.self.view_is
    (at-number m c.system-2.result.now (option_map event_of c.useful_at.result) c.args.k c.passed.result c.system-2.ensures.machine
    c.useful_at.ensures passed)
