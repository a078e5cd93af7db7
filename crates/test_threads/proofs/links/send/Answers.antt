use Rattle.std.proofs.Common.{sym, subst}
use Rattle.rules_maps.specs.Nodes.{TidReq}
use Rattle.net_links.specs.Linked.{MayCarry}
use Rattle.net_links.specs.declared.rule.Ends.{Ends}
use Rattle.test_threads.proofs.links.send.Goals as goal

pub push-requires : goal.push-requires
push-requires g c = record { carried = subst (λ (e : Ends). MayCarry e TidReq) (sym c.loop-stamp.invariant.1) c.requires }
