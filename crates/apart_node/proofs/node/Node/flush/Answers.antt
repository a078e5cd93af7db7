-- What was sent goes onto the links.
use Rattle.std.proofs.Common.{refl}
use Rattle.apart_node.specs.Node.{NodeData}
use Rattle.apart_node.specs.NodeInside.{node_of_parts}
use Rattle.apart_node.proofs.Keeping.Gathering.{flushes-gather, gathers-keep}
use Rattle.apart_node.proofs.node.Node.flush.Goals as goal

pub invariant_of-self : goal.invariant_of-self
invariant_of-self g c =
    let new : NodeData = record { member = c.self.inside.member; log = c.self.inside.log.items; room = c.flush.new.self } in
    record {
      last = c.self.invariant.last;
      node = gathers-keep (node_of_parts c.self.inside) new (flushes-gather (node_of_parts c.self.inside) new (record {
        member = refl;
        log = refl;
        room = c.flush.ensures.room;
        sent = rw c.self.invariant.last at c.flush.ensures.sent;
      })) c.self.invariant.node;
      own = c.self.invariant.own;
    }
