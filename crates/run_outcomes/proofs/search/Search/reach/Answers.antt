use Rattle.std.proofs.Common.{◌≡◌, ◌<◌, ◌^◌, ◌-◌, min, ap, sym, length, arith}
use Rattle.std.proofs.lemmas.Bool.{false≢true}
use Rattle.run_outcomes.proofs.Added.{added-found, added-further, added-led}
use Rattle.run_outcomes.proofs.Counting.{stopped-runs}
use Rattle.run_outcomes.proofs.Edged.{added-edged, added-edges, edged-stopped, joined-grown, placed-grown}
use Rattle.run_outcomes.proofs.Tried.{edged-into, grown-longer, leads-ends, leads-out, tried-ends, tried-endless, tried-grown}
use Rattle.run_outcomes.proofs.Tried.{tried-stopped}
use Rattle.run_outcomes.specs.Counted.{runs}
use Rattle.run_outcomes.specs.Explored.{state_at}
use Rattle.run_outcomes.specs.States.{core_in, after_core}
use Rattle.run_outcomes.specs.declared.states.Place.TheVariants.{Full}
use Rattle.run_outcomes.proofs.search.Search.reach.Goals as goal

pub returns-in-Stopped-clause-edged : goal.returns-in-Stopped-clause-edged
returns-in-Stopped-clause-edged c = λ full endless.
    let before = c.args.self.now in
    let next = rw (c.in-Stopped.is, c.state-state.ensures) at c.in_ok-next.ensures.next in
    rw c.next_in.ensures.unchanged
    (edged-stopped before.executor before.table before.edges c.args.number c.args.core.0 next)

pub returns-in_ok-note-in-Leads-clause-found : goal.returns-in_ok-note-in-Leads-clause-found
returns-in_ok-note-in-Leads-clause-found c =
    let l = c.args.self.now.executor in
    let next = rw (c.in-Leads.is, c.state-state.ensures) at c.in_ok-next.ensures.next in
    let placed = rw (c.in_ok-left-in-Leads.ensures, c.state-state.ensures) at c.in_ok-place-in-Leads.ensures.placed in
    rw c.next_in.ensures.unchanged
    (added-found l c.args.self.now.table c.add.new.self c.args.number c.args.core.0 c.args.limits.states c.args.limits.longest
    c.in-Leads.n c.in-Leads.after c.in-Leads.changes c.in_ok-place-in-Leads.place c.requires.found c.requires.number c.requires.core
    next placed)

pub returns-in_ok-note-in-Leads-clause-edged : goal.returns-in_ok-note-in-Leads-clause-edged
returns-in_ok-note-in-Leads-clause-edged c = λ room endless.
    let before = c.args.self.now in
    let next = rw (c.in-Leads.is, c.state-state.ensures) at c.in_ok-next.ensures.next in
    let placed = rw (c.in_ok-left-in-Leads.ensures, c.state-state.ensures) at c.in_ok-place-in-Leads.ensures.placed in
    rw c.next_in.ensures.unchanged
    (added-edged before.executor before.table c.add.new.self before.edges c.note.new.edges c.args.number c.args.core.0
    c.args.limits.states c.args.limits.longest c.in-Leads.n c.in-Leads.after c.in-Leads.changes c.in_ok-place-in-Leads.place
    c.requires.found c.requires.number c.requires.core next placed c.in_ok-note-in-Leads.ensures.edges
    (λ is. false≢true (sym (rw (c.eq.ensures, is) at room))))

pub returns-in_ok-note-in-Leads-clause-edges : goal.returns-in_ok-note-in-Leads-clause-edges
returns-in_ok-note-in-Leads-clause-edges c =
    let before = c.args.self.now in
    let next = rw (c.in-Leads.is, c.state-state.ensures) at c.in_ok-next.ensures.next in
    let placed = rw (c.in_ok-left-in-Leads.ensures, c.state-state.ensures) at c.in_ok-place-in-Leads.ensures.placed in
    rw c.next_in.ensures.unchanged
    (added-edges before.executor before.table c.add.new.self before.edges c.note.new.edges c.args.number c.args.core.0
    c.args.limits.states c.args.limits.longest c.in-Leads.n c.in-Leads.after c.in-Leads.changes c.in_ok-place-in-Leads.place
    c.requires.found c.requires.number c.requires.core next placed c.in_ok-note-in-Leads.ensures.edges c.requires.edges)

pub returns-in_ok-note-in-Leads-clause-grown : goal.returns-in_ok-note-in-Leads-clause-grown
returns-in_ok-note-in-Leads-clause-grown c =
    let s' = after_core (state_at c.args.self.now.table c.args.number) c.args.core.0 c.in-Leads.after c.in-Leads.changes in
    let placed = rw (c.in_ok-left-in-Leads.ensures, c.state-state.ensures) at c.in_ok-place-in-Leads.ensures.placed in
    placed-grown c.args.self.now.table c.add.new.self s' c.args.limits.states c.in_ok-place-in-Leads.place placed

pub returns-in_ok-note-in-Leads-clause-joined : goal.returns-in_ok-note-in-Leads-clause-joined
returns-in_ok-note-in-Leads-clause-joined c =
    joined-grown c.args.self.now.edges c.note.new.edges c.in_ok-place-in-Leads.place c.args.number
    c.in_ok-note-in-Leads.ensures.edges

pub returns-in_ok-note-in-Leads-clause-led : goal.returns-in_ok-note-in-Leads-clause-led
returns-in_ok-note-in-Leads-clause-led c =
    let l = c.args.self.now.executor in
    let next = rw (c.in-Leads.is, c.state-state.ensures) at c.in_ok-next.ensures.next in
    let placed = rw (c.in_ok-left-in-Leads.ensures, c.state-state.ensures) at c.in_ok-place-in-Leads.ensures.placed in
    rw c.next_in.ensures.unchanged
    (added-led l c.args.self.now.table c.add.new.self c.args.self.now.ways c.note.new.ways c.args.number c.args.core.0
    c.args.limits.states c.args.limits.longest c.in-Leads.n c.in-Leads.after c.in-Leads.changes c.in_ok-place-in-Leads.place
    c.requires.found c.requires.led c.requires.number c.requires.core next placed c.in_ok-note-in-Leads.ensures.ways)

pub returns-in-Stopped-clause-counted : goal.returns-in-Stopped-clause-counted
returns-in-Stopped-clause-counted c = λ full none.
    let fits : c.args.self.now.transactions ≡ min c.requires.tried.counted.0 (2 ^ 64 - 1) = c.requires.tried.counted.2 in
    let s = state_at c.args.self.now.table c.args.number in
    let next = rw (c.in-Stopped.is, c.state-state.ensures) at c.in_ok-next.ensures.next in
    let ended : runs (core_in s c.args.core.0).ended ≡ 0 = stopped-runs (core_in s c.args.core.0).ended next in
    omega (arith, ended, fits)

pub returns-in_ok-note-in-Leads-clause-counted : goal.returns-in_ok-note-in-Leads-clause-counted
returns-in_ok-note-in-Leads-clause-counted c = λ room none.
    let s = state_at c.args.self.now.table c.args.number in
    let next = rw (c.in-Leads.is, c.state-state.ensures) at c.in_ok-next.ensures.next in
    let one : runs (core_in s c.args.core.0).ended ≡ 1 = ap runs next.2.runs in
    grind (arith, one)

pub returns-in-Stopped-clause-tried : goal.returns-in-Stopped-clause-tried
returns-in-Stopped-clause-tried c =
    let before = c.args.self.now in
    let next = rw (c.in-Stopped.is, c.state-state.ensures) at c.in_ok-next.ensures.next in
    rw c.next_in.ensures.unchanged
    (tried-stopped before.executor before.table c.args.limits.longest c.args.number c.args.core.0 before.transactions before.endless
    before.endless_at c.requires.number c.requires.core next c.requires.tried)

pub returns-in-Endless-clause-tried : goal.returns-in-Endless-clause-tried
returns-in-Endless-clause-tried c =
    let before = c.args.self.now in
    let next = rw (c.in-Endless.is, c.state-state.ensures) at c.in_ok-next.ensures.next in
    rw c.next_in.ensures.unchanged
    (tried-endless before.executor before.table c.args.limits.longest c.args.number c.args.core.0 before.transactions before.endless
    c.saturating_add-self.result before.endless_at c.first_of-self.result c.requires.number c.requires.core next
    c.saturating_add-self.ensures c.first_of-self.ensures.kept c.first_of-self.ensures.new c.requires.tried)

pub returns-in_ok-note-in-Leads-clause-tried : goal.returns-in_ok-note-in-Leads-clause-tried
returns-in_ok-note-in-Leads-clause-tried c =
    let before = c.args.self.now in
    let l = before.executor in
    let s' = after_core (state_at before.table c.args.number) c.args.core.0 c.in-Leads.after c.in-Leads.changes in
    let place = c.in_ok-place-in-Leads.place in
    let longest = c.args.limits.longest in
    let next = rw (c.in-Leads.is, c.state-state.ensures) at c.in_ok-next.ensures.next in
    let placed = rw (c.in_ok-left-in-Leads.ensures, c.state-state.ensures) at c.in_ok-place-in-Leads.ensures.placed in
    let g = placed-grown before.table c.add.new.self s' c.args.limits.states place placed in
    let more = grown-longer before.table c.add.new.self g in
    let number = c.requires.number in
    let there : c.args.number < length c.add.new.self = omega (arith, number, more) in
    rw c.next_in.ensures.unchanged
    (tried-ends l c.add.new.self longest c.args.number c.args.core.0 before.transactions before.endless
    c.saturating_add-self-in-Leads.result before.endless_at c.eq.result there c.requires.core
    (leads-ends l before.table c.add.new.self c.args.number c.args.core.0 longest c.in-Leads.n c.in-Leads.after c.in-Leads.changes
    c.requires.found c.requires.number c.requires.core next g)
    (λ room. edged-into l c.add.new.self c.note.new.edges longest c.args.number c.args.core.0
    (added-edged l before.table c.add.new.self before.edges c.note.new.edges c.args.number c.args.core.0 c.args.limits.states longest
    c.in-Leads.n c.in-Leads.after c.in-Leads.changes place c.requires.found c.requires.number c.requires.core next placed
    c.in_ok-note-in-Leads.ensures.edges (λ is. false≢true (sym (rw (c.eq.ensures, is) at room)))))
    (λ full. leads-out l before.table c.add.new.self c.args.number c.args.core.0 c.args.limits.states longest c.in-Leads.n
    c.in-Leads.after c.in-Leads.changes place c.requires.found c.requires.number c.requires.core next placed
    (grind (arith, c.eq.ensures, full)))
    c.saturating_add-self-in-Leads.ensures
    (tried-grown l before.table c.add.new.self longest _ before.transactions before.endless before.endless_at g c.requires.tried))

pub returns-in_ok-note-in-Leads-clause-further : goal.returns-in_ok-note-in-Leads-clause-further
returns-in_ok-note-in-Leads-clause-further c = λ full.
    let l = c.args.self.now.executor in
    let next = rw (c.in-Leads.is, c.state-state.ensures) at c.in_ok-next.ensures.next in
    let placed = rw (c.in_ok-left-in-Leads.ensures, c.state-state.ensures) at c.in_ok-place-in-Leads.ensures.placed in
    let is : c.in_ok-place-in-Leads.place ≡ Full = grind (arith, c.eq.ensures, full) in
    rw c.next_in.ensures.unchanged
    (added-further l c.args.self.now.table c.add.new.self c.args.number c.args.core.0 c.args.limits.states c.args.limits.longest
    c.in-Leads.n c.in-Leads.after c.in-Leads.changes c.in_ok-place-in-Leads.place c.requires.found c.requires.number c.requires.core
    next placed is)
