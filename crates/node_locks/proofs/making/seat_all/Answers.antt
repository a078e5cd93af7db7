-- One node more has its ports.
use Rattle.std.proofs.Common.{◌≡◌, ◌++◌, ◌∷◌, ℕ, List, Some, subst, rules, refl, ap, sym, ◌∙◌, length}
use Rattle.std.specs.Prelude.{All, reverse, slice_get}
use Rattle.std.specs.Arc.{arc_value}
use Rattle.rules_maps.specs.Bridge.{node_of}
use Rattle.apart_node.specs.Node.{NodeData}
use Rattle.apart_node.specs.Ports.{ArePorts, IsUnused, PortData}
use Rattle.node_locks.specs.Joining.{AreJoinedTo}
use Rattle.node_locks.specs.Places.{nth_node}
use Rattle.node_locks.specs.Starting.{IsFresh}
use Rattle.node_locks.proofs.Seats.{fresh-next, left-first, logs-none, next-ports, none-left, ports-of, ports-push, ports_in, seated}
use Rattle.node_locks.proofs.Seats.{unused-of}
use Rattle.node_locks.proofs.making.seat_all.Goals as goal

pub new-requires-clause-ports : goal.new-requires-clause-ports
new-requires-clause-ports c =
    let s = (arc_value c.args.code.now).settings in
    let nodes = c.loop-ports.nodes.items in
    let split = ap reverse c.in-Some.ensures.items ∙ left-first c.pop.new.self.items c.in-Some.ports in
    let all = ap (λ (l : List (List PortData)). ports_in nodes ++ l) (sym split) ∙ c.loop-ports.invariant.all in
    let got = next-ports nodes (reverse c.pop.new.self.items) c.args.rooms.items c.in-Some.ports all in
    let i : c.len-in-Some.result ≡ length nodes = search rules in
    let settings : c.config.result.now ≡ s = search rules in
    let ports = ports-of s c.args.rooms.items (length nodes) c.in-Some.ports c.requires.joined got in
    subst (λ t. ArePorts t (node_of c.in_ok-member.member.node) c.ports.inside.items.items) (sym settings)
    (subst (λ n. ArePorts s n c.ports.inside.items.items) (sym (c.in_ok-member.ensures.node ∙ ap (nth_node s) i))
    (subst (λ (l : List PortData). ArePorts s (nth_node s (length nodes)) l) (sym c.ports.view_is) ports))

pub new-requires-clause-unused : goal.new-requires-clause-unused
new-requires-clause-unused c =
    let s = (arc_value c.args.code.now).settings in
    let nodes = c.loop-ports.nodes.items in
    let split = ap reverse c.in-Some.ensures.items ∙ left-first c.pop.new.self.items c.in-Some.ports in
    let all = ap (λ (l : List (List PortData)). ports_in nodes ++ l) (sym split) ∙ c.loop-ports.invariant.all in
    let got = next-ports nodes (reverse c.pop.new.self.items) c.args.rooms.items c.in-Some.ports all in
    subst (λ (l : List PortData). All IsUnused l) (sym c.ports.view_is)
    (unused-of s c.args.rooms.items (length nodes) c.in-Some.ports c.requires.joined got)

pub loop-ports-preserved : goal.loop-ports-preserved
loop-ports-preserved c =
    let code = arc_value c.args.code.now in
    let s = code.settings in
    let nodes = c.loop-ports.nodes.items in
    let n = c.in_ok-new.field-0 in
    let left = reverse c.pop.new.self.items in
    let split = ap reverse c.in-Some.ensures.items ∙ left-first c.pop.new.self.items c.in-Some.ports in
    let all = ap (λ (l : List (List PortData)). ports_in nodes ++ l) (sym split) ∙ c.loop-ports.invariant.all in
    let i : c.len-in-Some.result ≡ length nodes = search rules in
    let settings : c.config.result.now ≡ s = search rules in
    let ports : n.room.ports ≡ c.in-Some.ports = ap (λ (m : NodeData). m.room.ports) c.in_ok-new.ensures ∙ c.ports.view_is in
    let fresh : IsFresh code (length nodes) n = subst (λ (m : NodeData). IsFresh code (length nodes) m) (sym c.in_ok-new.ensures) (record {
      placed = record { runs = c.in_ok-member.ensures.code; node = c.in_ok-member.ensures.node ∙ ap (nth_node s) i };
      log = refl;
      settings = settings;
      own = refl;
    }) in
    record {
      all = ap (λ (l : List NodeData). ports_in l ++ left) c.push_reserved.ensures.items
          ∙ ports-push nodes n left ∙ ap (λ (ps : List PortData). ports_in nodes ++ ps ∷ left) ports ∙ all;
      fresh = subst (λ (l : List NodeData). (k : ℕ) (m : NodeData) → slice_get l k ≡ Some m
          → IsFresh code k m) (sym c.push_reserved.ensures.items)
          (fresh-next code nodes n fresh c.loop-ports.invariant.fresh);
      room = search rules;
    }

pub returns-clause-are : goal.returns-clause-are
returns-clause-are c =
    let code = arc_value c.args.code.now in
    let nodes = c.loop-ports.nodes.items in
    let whole = none-left (ports_in nodes) c.loop-ports.rooms.items c.args.rooms.items (search rules) c.loop-ports.invariant.all in
    seated code nodes c.loop-ports.invariant.fresh
    (subst (λ (l : List (List PortData)). AreJoinedTo code.settings code.settings.cores 0 l) (sym whole) c.requires.joined)

pub returns-clause-logs : goal.returns-clause-logs
returns-clause-logs c = logs-none c.loop-ports.nodes.items (λ i n e. (c.loop-ports.invariant.fresh i n e).log)
