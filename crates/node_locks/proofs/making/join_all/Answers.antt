-- At first no node has a port.
use Rattle.std.proofs.Common.{◌≡◌, List, [], subst, rules, sym}
use Rattle.std.specs.Prelude.{replicate}
use Rattle.apart_node.specs.Ports.{PortData}
use Rattle.rules_apart.specs.Fitting.{node_count}
use Rattle.node_locks.specs.Joining.{AreJoinedTo}
use Rattle.node_locks.proofs.Joining.{none-joined}
use Rattle.node_locks.proofs.making.join_all.Goals as goal

pub loop-core-init : goal.loop-core-init
loop-core-init c =
    let s = c.args.config.now in
    let none : c.in_ok-rooms.rooms.items ≡ replicate (node_count s) [] = search rules in
    subst (λ (r : List (List PortData)). AreJoinedTo s 0 0 r) (sym none) (none-joined s)
