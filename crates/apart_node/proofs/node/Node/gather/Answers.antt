-- What has arrived is taken from the links.
use Rattle.std.proofs.Common.{refl}
use Rattle.apart_node.specs.Node.{last_stamp}
use Rattle.apart_node.specs.NodeInside.{node_of_parts}
use Rattle.apart_node.proofs.Keeping.Gathering.{gathers-keep, member-refl}
use Rattle.apart_node.proofs.node.Node.gather.Goals as goal

pub invariant_of-self : goal.invariant_of-self
invariant_of-self g c = record {
  last = c.self.invariant.last;
  node = gathers-keep (node_of_parts c.self.inside) (record {
    member = c.self.inside.member;
    log = c.self.inside.log.items;
    room =
        c.gather.new.self;
  })
      (record {
        member = member-refl c.self.inside.member;
        log = refl;
        room = c.gather.ensures.room;
        sent = c.gather.ensures.sent (last_stamp c.self.inside.log.items);
      })
      c.self.invariant.node;
  own = c.self.invariant.own;
}
