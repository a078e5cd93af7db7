-- The bells leave the nodes as they are.
use Rattle.std.proofs.Common.{◌≡◌, length, arith}
use Rattle.std.proofs.lemmas.List.{with_items_is}
use Rattle.node_locks.proofs.nodes.Nodes.new.Goals as goal

pub returns-clause-logs : goal.returns-clause-logs
returns-clause-logs c =
    let nodes = c.hang_bells.new.nodes in
    let n : length nodes ≡ c.in_ok-nodes.nodes.len = omega arith in
    rw (with_items_is c.in_ok-nodes.nodes nodes n, c.hang_bells.ensures, c.as_mut_slice.ensures.value) c.in_ok-nodes.ensures.logs
