use Rattle.std.proofs.Common.{◌≡◌, ◌<◌, ◌+◌, [], ◌∷◌, ◌++◌, take, ap, sym, ◌∙◌, subst, length, arith}
use Rattle.std.proofs.lemmas.List.{take_more, map-append}
use Rattle.run_outcomes.proofs.Marking.{targets}
use Rattle.run_outcomes.specs.Chains.{AreChained}
use Rattle.run_outcomes.specs.Edges.{no_edge, edge_at}
use Rattle.run_outcomes.proofs.stuck.chain_targets.Goals as goal

pub loop-edge-preserved : goal.loop-edge-preserved
loop-edge-preserved c =
    let edges = c.args.edges.now in
    let k = c.loop-edge.edge-index in
    let lt : k < length edges = grind arith in
    let more : targets (take (k + 1) edges) ≡ targets (take k edges) ++ (edge_at edges k).to ∷ [] =
    ap targets (take_more edges k no_edge lt) ∙ map-append (λ e. e.to) (take k edges) (edge_at edges k ∷ []) in
    subst (λ keys. AreChained keys c.add.new.self) (sym more) (c.in_ok-add.ensures.added (targets (take k edges)) c.loop-edge.invariant)
