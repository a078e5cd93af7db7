use Rattle.std.proofs.Common.{sym, subst}
use Rattle.tcc_msg.specs.Plain.{msg_of}
use Rattle.net_links.specs.Linked.{MayCarry}
use Rattle.net_links.specs.Views.{OutletData}
use Rattle.net_links.proofs.Moves.{sends}
use Rattle.net_links.proofs.outlet.Outlet.push.Goals as goal

pub push_as-requires-clause-rule : goal.push_as-requires-clause-rule
push_as-requires-clause-rule g c n =
    let may = subst (λ (o : OutletData). MayCarry o.ends (msg_of c.args.mail.msg)) (sym c.self.view_is) c.requires.carried in
    sends n _ _ _ c.self.invariant.1 may
