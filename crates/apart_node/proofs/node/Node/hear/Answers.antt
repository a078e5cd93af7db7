-- What the peer has taken is a beginning of what was sent.
use Rattle.std.proofs.Common.{◌≡◌, ℕ, List, ◌++◌, ap, sym, ◌∙◌}
use Rattle.tcc_base.specs.declared.names.NodeId.{NodeId}
use Rattle.rules_maps.specs.Bridge.{node_of}
use Rattle.rules_tcc.specs.Local.{Mail}
use Rattle.apart_node.specs.Node.{last_stamp}
use Rattle.apart_node.specs.Ports.{RoomData, handed_to, taken_from}
use Rattle.apart_node.proofs.node.Node.hear.Goals as goal

-- the nodes by their members' names
named : (a b : RoomData) (t : ℕ) (m n : NodeId) (rest : List Mail) → a.own ≡ m → b.own ≡ n
    → handed_to a t (node_of b.own) ≡ taken_from b (node_of a.own) ++ rest → handed_to a t (node_of n) ≡ taken_from b (node_of m) ++ rest
named a b t m n rest e f h = ap (λ x. handed_to a t (node_of x)) (sym f) ∙ (h ∙ ap (λ x. taken_from b (node_of x) ++ rest) e)

pub returns-clause-begins : goal.returns-clause-begins
returns-clause-begins g c =
    rw (← c.self.view_is, ← c.peer.view_is)
    (let h = c.hear.ensures.begins (last_stamp c.self.inside.log.items) in (
      h.0,
      named c.self.inside.room c.peer.inside.room (last_stamp c.self.inside.log.items) c.self.inside.member.node c.peer.inside.member.node
          h.0
          c.self.invariant.node.own c.peer.invariant.node.own h.1,
    ))
