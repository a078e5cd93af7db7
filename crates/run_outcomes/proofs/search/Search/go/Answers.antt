use Rattle.std.proofs.Common.{◌≡◌, ◌∙◌, ◌+◌, ◌*◌, ◌<◌, ◌≤◌, None, true, refl, sym, ap, length, length-append, subst, arith}
use Rattle.image_load.specs.Contents.{Contents}
use Rattle.run_outcomes.proofs.Counting.{states-next}
use Rattle.run_outcomes.proofs.Edged.{expanded-step, edged-followed}
use Rattle.run_outcomes.proofs.Reach.{all-states}
use Rattle.run_outcomes.proofs.Tried.{grown-longer, tried-all, tried-further, wide}
use Rattle.run_outcomes.specs.Counted.{Counts, all_running, total}
use Rattle.run_outcomes.specs.Tried.{AreTried, AreTriedTo}
use Rattle.run_outcomes.proofs.search.Search.go.Goals as goal

pub loop-number-preserved : goal.loop-number-preserved
loop-number-preserved c =
    let old = c.loop-number.self in
    let new = c.expand.new.self in
    let n = c.loop-number.number in
    let below : n < length old.table = grind arith in
    let e = c.in_ok-expand.ensures in
    let longer : length new.table ≡ length old.table + length e.grown.0 =
    ap length e.grown.1 ∙ length-append old.table e.grown.0 in (
      e.found,
      e.loaded ∙ c.loop-number.invariant.1,
      e.few c.loop-number.invariant.2,
      omega (arith, below, longer),
      λ none.
          let before : old.endless ≡ 0 = omega (arith, e.endless, none) in
          expanded-step new.executor old.table new.table old.edges new.edges n e.grown e.joined below
          (rw e.loaded (c.loop-number.invariant.4 before))
          (e.edged c.if-branch.false none),
      e.led,
      subst (λ (l : Contents). AreTried new.executor new.table c.args.limits.longest ((n + 1) * l.settings.cores) None new.transactions
          new.endless new.endless_at) (sym e.loaded)
          (tried-all new.executor new.table c.args.limits.longest ((n + 1) * old.executor.settings.cores) c.in_ok-expand.field-0
          new.transactions new.endless new.endless_at c.if-branch.false e.tried),
      λ none.
          let before : old.endless ≡ 0 = omega (arith, e.endless, none) in
          rw e.loaded (states-next old.executor.settings.cores old.table new.table n old.transactions new.transactions e.grown below
          (c.loop-number.invariant.7 before) (e.counted c.if-branch.false none)),
      e.edges,
    )

pub returns-clause-all : goal.returns-clause-all
returns-clause-all c = λ full endless.
    let all : length c.loop-number.self.table ≤ c.loop-number.number = grind arith in
    all-states c.loop-number.self.executor c.loop-number.self.table c.loop-number.invariant.0
    (λ k lt core. edged-followed c.loop-number.self.executor c.loop-number.self.table c.loop-number.self.edges k core
    (c.loop-number.invariant.4 endless k (omega arith) core))

pub returns-clause-all_edges : goal.returns-clause-all_edges
returns-clause-all_edges c = λ full endless k lt.
    let all : length c.loop-number.self.table ≤ c.loop-number.number = grind arith in
    c.loop-number.invariant.4 endless k (omega arith)

pub returns-clause-counted : goal.returns-clause-counted
returns-clause-counted c = λ full endless.
    let s = c.loop-number.self in
    let all : c.loop-number.number ≡ length s.table = grind arith in
    subst (λ n. Counts s.transactions (all_running s.executor.settings.cores s.table n)) all (c.loop-number.invariant.7 endless)

pub loop-number-init : goal.loop-number-init
unfolding total
loop-number-init c =
    let s = c.args.self.now in
    let at : 0 ≡ 0 * s.executor.settings.cores = omega arith in (
      c.requires.found,
      refl,
      c.requires.few,
      omega arith,
      λ none k lt. absurd (omega (arith, lt)),
      c.requires.led,
      subst (λ n. AreTried s.executor s.table c.args.limits.longest n None s.transactions s.endless s.endless_at) at c.requires.tried,
      λ none. c.requires.none,
      c.requires.edges,
    )

pub returns-then-branch-clause-tried : goal.returns-then-branch-clause-tried
returns-then-branch-clause-tried c =
    let old = c.loop-number.self in
    let new = c.expand.new.self in
    let e = c.in_ok-expand.ensures in
    let below : c.loop-number.number < length old.table = grind arith in
    let more = grown-longer old.table new.table e.grown in
    let cores : new.executor.settings.cores ≡ old.executor.settings.cores = ap (λ (l : Contents). l.settings.cores) e.loaded in
    let later : c.loop-number.number + 1 ≤ length new.table = omega (arith, below, more) in
    tried-further new.executor new.table c.args.limits.longest ((c.loop-number.number + 1) * old.executor.settings.cores)
    (length new.table * new.executor.settings.cores) true new.transactions new.endless new.endless_at refl
    (rw cores (wide (c.loop-number.number + 1) (length new.table) old.executor.settings.cores later)) (omega arith)
    (subst (λ full. AreTriedTo new.executor new.table c.args.limits.longest
    ((c.loop-number.number + 1) * old.executor.settings.cores) full new.transactions new.endless new.endless_at) c.if-branch.true e.tried)

pub returns-clause-tried : goal.returns-clause-tried
returns-clause-tried c =
    let s = c.loop-number.self in
    let all : c.loop-number.number ≡ length s.table = grind arith in (
      None,
      refl,
      subst (λ n. AreTried s.executor s.table c.args.limits.longest (n * s.executor.settings.cores) None s.transactions
          s.endless s.endless_at) all c.loop-number.invariant.6,
    )
