use Rattle.std.proofs.Common.{◌≡◌, ◌∙◌, ◌^◌, ◌-◌, min, true, refl, ap, sym, subst, ◌+◌, ◌*◌, ◌<◌, ◌≤◌, None}
use Rattle.std.proofs.Common.{length, length-append, arith, inl, inr}
use Rattle.std.proofs.lemmas.Bool.{cases_lt}
use Rattle.image_load.specs.Contents.{Contents}
use Rattle.run_outcomes.proofs.Counting.{running-next}
use Rattle.run_outcomes.proofs.Edged.{edged-step, edged-beyond, grown-nothing}
use Rattle.run_outcomes.proofs.Reach.{grown-grown, state-kept}
use Rattle.run_outcomes.proofs.Tried.{grown-longer, tried-cut, tried-next, tried-row}
use Rattle.run_outcomes.specs.Counted.{Counts, running, total}
use Rattle.run_outcomes.specs.Explored.{state_at}
use Rattle.run_outcomes.specs.Tried.{AreTried, AreTriedTo}
use Rattle.run_outcomes.proofs.search.Search.expand.Goals as goal

pub loop-core-preserved : goal.loop-core-preserved
loop-core-preserved c =
    let first = c.args.self.now in
    let old = c.loop-core.self in
    let new = c.reach.new.self in
    let e = c.in_ok-reach.ensures in
    let inv = c.loop-core.invariant in
    let longer : length old.table ≡ length first.table + length inv.2.0 =
    ap length inv.2.1 ∙ length-append first.table inv.2.0 in
    let below : c.args.number < length old.table = omega (arith, longer, c.requires.number) in (
      e.found,
      e.loaded ∙ inv.1,
      grown-grown first.table old.table new.table inv.2 e.grown,
      λ few. e.few (inv.3 few),
      λ none.
          let before : old.endless ≡ 0 = omega (arith, e.endless, none) in
          edged-step new.executor old.table new.table old.edges new.edges c.args.number c.loop-core.core e.grown e.joined below
          (rw e.loaded (inv.4 before)) (e.edged c.if-branch.false none),
      omega (arith, e.endless, inv.5),
      e.led,
      tried-next new.executor old.executor new.table c.args.limits.longest c.args.number c.loop-core.core c.in_ok-reach.field-0
          new.transactions new.endless new.endless_at e.loaded c.if-branch.false e.tried,
      λ none.
          let before : old.endless ≡ 0 = omega (arith, e.endless, none) in
          let same : state_at old.table c.args.number ≡ state_at first.table c.args.number =
          ap (λ x. state_at x c.args.number) inv.2.1 ∙ state-kept first.table inv.2.0 c.args.number c.requires.number in
          running-next (state_at first.table c.args.number) (state_at old.table c.args.number) first.transactions old.transactions
          new.transactions c.loop-core.core same (inv.8 before) (e.counted c.if-branch.false none),
      e.edges,
      grown-grown first.edges old.edges new.edges inv.10 e.joined,
    )

pub returns-clause-edged : goal.returns-clause-edged
returns-clause-edged c = λ full none core.
    let first = c.args.self.now in
    let old = c.loop-core.self in
    let inv = c.loop-core.invariant in
    let longer : length old.table ≡ length first.table + length inv.2.0 =
    ap length inv.2.1 ∙ length-append first.table inv.2.0 in
    let below : c.args.number < length old.table = omega (arith, longer, c.requires.number) in
    let reached : c.cores-count.result ≡ c.loop-core.core = grind arith in
    let count : old.executor.settings.cores ≡ c.loop-core.core =
    ap (λ (l : Contents). l.settings.cores) inv.1 ∙ sym c.cores-count.ensures ∙ reached in
    elim (cases_lt core c.loop-core.core) [
      | inl lt ↦ inv.4 none core lt
      | inr ge ↦
          let beyond : old.executor.settings.cores ≤ core = omega (arith, count, ge) in
          edged-beyond old.executor old.table old.edges c.args.number core inv.0 below beyond
    ]

pub returns-clause-counted : goal.returns-clause-counted
returns-clause-counted c = λ full none.
    let first = c.args.self.now in
    let old = c.loop-core.self in
    let inv = c.loop-core.invariant in
    let reached : c.cores-count.result ≡ c.loop-core.core = grind arith in
    let count : c.loop-core.core ≡ first.executor.settings.cores = sym reached ∙ c.cores-count.ensures in
    subst (λ n. Counts old.transactions (first.transactions + running (state_at first.table c.args.number) n)) count (inv.8 none)

pub loop-core-init : goal.loop-core-init
unfolding total
loop-core-init c =
    let first = c.args.self.now in
    let at : c.args.number * first.executor.settings.cores ≡ c.args.number * first.executor.settings.cores + 0 = omega arith in
    let fits : first.transactions ≡ min c.requires.tried.counted.0 (2 ^ 64 - 1) = c.requires.tried.counted.2 in (
      c.requires.found,
      refl,
      grown-nothing first.table,
      λ few. few,
      λ none core lt. absurd (omega (arith, lt)),
      omega arith,
      c.requires.led,
      subst (λ n. AreTried first.executor first.table c.args.limits.longest n None first.transactions first.endless first.endless_at) at
          c.requires.tried,
      λ none. omega (arith, fits),
      c.requires.edges,
      grown-nothing first.edges,
    )

pub returns-then-branch-clause-tried : goal.returns-then-branch-clause-tried
returns-then-branch-clause-tried c =
    let first = c.args.self.now in
    let old = c.loop-core.self in
    let new = c.reach.new.self in
    let inv = c.loop-core.invariant in
    let longer : length old.table ≡ length first.table + length inv.2.0 =
    ap length inv.2.1 ∙ length-append first.table inv.2.0 in
    let more = grown-longer old.table new.table c.in_ok-reach.ensures.grown in
    let there : c.args.number < length new.table = omega (arith, longer, more, c.requires.number) in
    let below : c.loop-core.core < c.cores-count.result = grind arith in
    let core : c.loop-core.core < old.executor.settings.cores =
    rw (ap (λ (l : Contents). l.settings.cores) inv.1 ∙ sym c.cores-count.ensures) below in
    subst (λ (l : Contents). AreTriedTo new.executor new.table c.args.limits.longest ((c.args.number + 1) * l.settings.cores) true
    new.transactions new.endless new.endless_at) inv.1
    (tried-cut new.executor old.executor new.table c.args.limits.longest c.args.number c.loop-core.core c.in_ok-reach.field-0
    new.transactions new.endless new.endless_at c.in_ok-reach.ensures.loaded c.if-branch.true there core c.in_ok-reach.ensures.tried)

pub returns-then-branch-clause-grown : goal.returns-then-branch-clause-grown
returns-then-branch-clause-grown c =
    grown-grown c.args.self.now.table c.loop-core.self.table c.reach.new.self.table c.loop-core.invariant.2
    c.in_ok-reach.ensures.grown

pub returns-then-branch-clause-joined : goal.returns-then-branch-clause-joined
returns-then-branch-clause-joined c =
    grown-grown c.args.self.now.edges c.loop-core.self.edges c.reach.new.self.edges c.loop-core.invariant.10
    c.in_ok-reach.ensures.joined

pub returns-clause-tried : goal.returns-clause-tried
returns-clause-tried c =
    let first = c.args.self.now in
    let s = c.loop-core.self in
    let reached : c.cores-count.result ≡ c.loop-core.core = grind arith in
    tried-row s.executor first.executor s.table c.args.limits.longest c.args.number c.loop-core.core s.transactions s.endless s.endless_at
    c.loop-core.invariant.1 (sym reached ∙ c.cores-count.ensures) c.loop-core.invariant.7
