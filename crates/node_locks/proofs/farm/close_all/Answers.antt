-- The nodes stand at their places.
use Rattle.std.proofs.Common.{◌≡◌, ℕ, Some, sym, subst, rules}
use Rattle.std.specs.Prelude.{length, slice_get}
use Rattle.rules_apart.specs.Fitting.{node_count}
use Rattle.apart_node.specs.Node.{NodeData, here}
use Rattle.node_locks.specs.Hearing.{AllAreNodes}
use Rattle.node_locks.specs.Places.{nth_node}
use Rattle.node_locks.specs.Wiring.{AreNodes}
use Rattle.node_locks.proofs.Wired.{are-all}
use Rattle.node_locks.proofs.farm.close_all.Goals as goal

pub invariant_of-all : goal.invariant_of-all
invariant_of-all g c =
    let code = g.W.Setup.code in
    let nodes = c.args.nodes.items in
    let settings : c.config.result.now ≡ code.settings = search rules in
    let placed : (i : ℕ) (n : NodeData) → slice_get nodes i ≡ Some n → here n ≡ nth_node code.settings i =
    λ i n e. subst (λ s. here n ≡ nth_node s i) settings
    (c.all_placed.ensures (search rules) i n (subst (λ l. slice_get l i ≡ Some n) (sym c.as_slice-2.ensures.value) e)) in
    let each = subst (λ l. AllAreNodes l) c.as_slice.ensures.value c.look_at.ensures in
    let count : length nodes ≡ node_count code.settings = search rules in
    subst (λ d. AreNodes d nodes) (sym c.requires.runs) (are-all code g.W.Setup.link nodes count c.requires.are placed each)
