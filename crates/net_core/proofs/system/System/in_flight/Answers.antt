-- A message in flight, on its link or not yet.
use Rattle.std.proofs.Common.{◌<◌, ◌≤◌, ◌-◌, drop, sym, ap, ◌∙◌, subst}
use Rattle.std.specs.Prelude.{slice_get}
use Rattle.rules_maps.specs.Bridge.{node_of}
use Rattle.tcc_msg.specs.Plain.{sends_of}
use Rattle.rules_tcc.specs.Links.{in_flight}
use Rattle.machine_links.specs.Flights.{net_of}
use Rattle.net_core.specs.Machine.{world_of}
use Rattle.net_core.proofs.Links.Seeking.{flies-elsewhere, flies-placed, flies-unsent}
use Rattle.net_core.proofs.system.System.in_flight.Goals as goal
use Rattle.net_core.proofs.system.System.in_flight.Goals.{else-same_node-via-then-same_node+else-name-sent}
use Rattle.net_core.proofs.system.System.in_flight.Goals.{else-same_node-via-else-same_node}

pub returns-then-name-sent : goal.returns-then-name-sent
unfolding world_of
returns-then-name-sent c =
    let src = node_of c.args.name.src in
    let dst = node_of c.args.name.dst in
    let net = net_of c.self.inside.flights in
    let sends = sends_of (drop c.self.inside.placed c.self.inside.out.list.items) in
    let here = subst (λ n. n ≤ c.args.name.seq) c.sent-sent.ensures c.if-name-sent.true in
    c.unsent_at.ensures
    ∙ ap (λ n. slice_get (sends dst) (c.args.name.seq - n)) c.sent-sent.ensures
    ∙ flies-unsent net (node_of c.self.inside.sender) sends src dst c.args.name.seq (sym c.same_node.ensures ∙ c.if-same_node.true) here
    ∙ ap (λ m. in_flight (world_of m).net src dst c.args.name.seq) c.self.view_is

pub returns : goal.returns
unfolding world_of
returns c =
    let src = node_of c.args.name.src in
    let dst = node_of c.args.name.dst in
    let net = net_of c.self.inside.flights in
    let n = node_of c.self.inside.sender in
    let sends = sends_of (drop c.self.inside.placed c.self.inside.out.list.items) in
    let end = ap (λ m. in_flight (world_of m).net src dst c.args.name.seq) c.self.view_is in
    elim c.else-same_node.branch [
      | else-same_node-via-then-same_node+else-name-sent w ↦ c.get.ensures
          ∙ flies-placed net n sends src dst c.args.name.seq
          (subst (λ k. c.args.name.seq < k) c.sent-sent.ensures w.if-name-sent.false) ∙ end
      | else-same_node-via-else-same_node w ↦ c.get.ensures
          ∙ flies-elsewhere net n sends src dst c.args.name.seq (sym c.same_node.ensures ∙ w.if-same_node.false) ∙ end
    ]
