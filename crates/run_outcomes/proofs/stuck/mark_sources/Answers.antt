use Rattle.std.proofs.Common.{ℕ, ◌<◌, ◌∙◌, Some, length, sym, subst, ap, arith}
use Rattle.std.proofs.lemmas.List.{length-map}
use Rattle.run_outcomes.proofs.Chained.{IsWalked, walk-starts, walk-at, walk-on, walk-more, walk-ends}
use Rattle.run_outcomes.proofs.Marking.{targets, target-at, source-more, source-inside, marks-settled}
use Rattle.run_outcomes.specs.Edges.{edge_at}
use Rattle.run_outcomes.specs.Stuck.{IsMarked}
use Rattle.run_outcomes.proofs.stuck.mark_sources.Goals as goal

pub loop-next-init : goal.loop-next-init
loop-next-init c =
    let edges = c.args.explored.now.edges in (
      c.requires.marks,
      walk-starts (targets edges) c.args.to (λ i. IsMarked c.args.marks.now (edge_at edges i).from) c.newest-next.result
          (c.newest-next.ensures (targets edges) c.requires.chained),
      omega arith,
    )

pub source_of-requires : goal.source_of-requires
source_of-requires c =
    let edges = c.args.explored.now.edges in
    let P : ℕ → Type 0 = λ i. IsMarked c.loop-next.marks (edge_at edges i).from in
    let walked = subst (IsWalked (targets edges) c.args.to P) c.in-Some.is c.loop-next.invariant.1 in
    let at = walk-at (targets edges) c.args.to P c.in-Some.i walked in
    let lt = subst (λ n. c.in-Some.i < n) (length-map edges (λ e. e.to)) at.0 in
    subst (λ es. c.in-Some.i < length es) (sym c.edges-edges.ensures.edges) lt

pub mark-requires : goal.mark-requires
mark-requires c =
    let l = c.args.explored.now.loaded in
    let states = c.args.explored.now.states in
    let edges = c.args.explored.now.edges in
    let P : ℕ → Type 0 = λ i. IsMarked c.loop-next.marks (edge_at edges i).from in
    let walked = subst (IsWalked (targets edges) c.args.to P) c.in-Some.is c.loop-next.invariant.1 in
    let at = walk-at (targets edges) c.args.to P c.in-Some.i walked in
    let lt = subst (λ n. c.in-Some.i < n) (length-map edges (λ e. e.to)) at.0 in
    let from = c.source_of.ensures ∙ ap (λ es. (edge_at es c.in-Some.i).from) c.edges-edges.ensures.edges in
    subst (λ k. k < length c.loop-next.marks.marked) (sym from)
    (source-inside l states edges (length states) c.args.to c.in-Some.i c.loop-next.marks c.edges-edges.ensures.right
    c.loop-next.invariant.0 lt)

pub loop-next-preserved : goal.loop-next-preserved
loop-next-preserved c =
    let l = c.args.explored.now.loaded in
    let states = c.args.explored.now.states in
    let edges = c.args.explored.now.edges in
    let i = c.in-Some.i in
    let new = c.mark.new.marks in
    let P : ℕ → Type 0 = λ j. IsMarked c.loop-next.marks (edge_at edges j).from in
    let Q : ℕ → Type 0 = λ j. IsMarked new (edge_at edges j).from in
    let walked = subst (IsWalked (targets edges) c.args.to P) c.in-Some.is c.loop-next.invariant.1 in
    let at = walk-at (targets edges) c.args.to P i walked in
    let lt = subst (λ n. i < n) (length-map edges (λ e. e.to)) at.0 in
    let from = c.source_of.ensures ∙ ap (λ es. (edge_at es i).from) c.edges-edges.ensures.edges in
    let more = source-more l states edges (length states) c.args.to i c.source_of.result c.loop-next.marks new
    c.edges-edges.ensures.right c.loop-next.invariant.0 c.requires.to lt (sym (target-at edges i lt) ∙ at.1) from
    c.in_ok-mark.ensures in (
      more.marks,
      walk-on (targets edges) c.args.to Q i c.older-next.result
          (walk-more (targets edges) c.args.to P Q (Some i) (λ j. more.kept (edge_at edges j).from) walked) more.here
          (c.older-next.ensures.older (targets edges) c.requires.chained at.0),
      omega (arith, more.fewer, c.loop-next.invariant.2),
    )

pub returns-clause-marks : goal.returns-clause-marks
returns-clause-marks c =
    let l = c.args.explored.now.loaded in
    let states = c.args.explored.now.states in
    let edges = c.args.explored.now.edges in
    let m = c.loop-next.marks in
    let P : ℕ → Type 0 = λ i. IsMarked m (edge_at edges i).from in
    let walked = subst (IsWalked (targets edges) c.args.to P) c.in_default.is c.loop-next.invariant.1 in
    marks-settled l states edges (length states) c.args.to (length states) m c.loop-next.invariant.0
    (walk-ends (targets edges) c.args.to P walked)
