-- The state is one of such a node.
use Rattle.apart_member.specs.DataInside.{member_of}
use Rattle.apart_member.proofs.TakenAlways.{member-kind}
use Rattle.apart_member.proofs.member.Member.node.Goals as goal

pub returns-in-Core-clause-kind : goal.returns-in-Core-clause-kind
returns-in-Core-clause-kind c = rw (← c.self.view_is) (member-kind (member_of c.self.inside) c.self.invariant)

pub returns-in-Directory-clause-kind : goal.returns-in-Directory-clause-kind
returns-in-Directory-clause-kind c = rw (← c.self.view_is) (member-kind (member_of c.self.inside) c.self.invariant)

pub returns-in-Vendor-clause-kind : goal.returns-in-Vendor-clause-kind
returns-in-Vendor-clause-kind c = rw (← c.self.view_is) (member-kind (member_of c.self.inside) c.self.invariant)
