-- A node that has done nothing.
use Rattle.std.proofs.Common.{refl}
use Rattle.apart_node.specs.Node.{last_from}
use Rattle.apart_node.proofs.Keeping.Starting.{starts}
use Rattle.apart_node.proofs.node.Node.new.Goals as goal

pub invariant_of-result : goal.invariant_of-result
unfolding last_from
invariant_of-result c = record {
  last = rw c.new-2.ensures.items refl;
  node = rw (c.in_ok-room.ensures, c.new-2.ensures.items, c.node.ensures.value)
      (starts c.args.config.now c.args.member c.args.ports.items c.requires.unused c.requires.start c.requires.settings c.requires.idle);
  own = c.own_count-own.ensures;
}
