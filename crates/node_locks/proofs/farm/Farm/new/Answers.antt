-- The nodes are of their own wiring, and nothing is in their logs.
use Rattle.std.proofs.Common.{◌≡◌, ap, sym, ◌∙◌, subst}
use Rattle.std.specs.Prelude.{All, []}
use Rattle.std.specs.Arc.{arc_value}
use Rattle.node_locks.specs.Hearing.{AllAreNodes}
use Rattle.node_locks.specs.Wiring.{AreOf, NodesData, links_of, logs_of}
use Rattle.node_locks.proofs.Entries.{entries-none}
use Rattle.node_locks.proofs.Wired.{are-wired}
use Rattle.node_locks.proofs.farm.Farm.new.Goals as goal

pub put_down-desks-requires-clause-are : goal.put_down-desks-requires-clause-are
put_down-desks-requires-clause-are g c =
    let a : NodesData = record { code = arc_value c.nodes.inside.code; nodes = c.nodes.inside.nodes.items } in
    let is : a ≡ c.args.nodes = c.nodes.view_is in
    let each = subst (λ l. AllAreNodes l) c.as_slice.ensures.value c.look_at.ensures in
    let code : a.code ≡ g.W.Setup.code = ap (λ (v : NodesData). v.code) is ∙ c.requires.code in
    let link : links_of a ≡ g.W.Setup.link = ap links_of is ∙ sym c.requires.link in
    subst (λ d. AreOf d g.W.Setup.link a.nodes) code (subst (λ w. AreOf a.code w a.nodes) link (are-wired a c.nodes.invariant each))

pub put_down-desks-requires-clause-amount : goal.put_down-desks-requires-clause-amount
put_down-desks-requires-clause-amount g c =
    let a : NodesData = record { code = arc_value c.nodes.inside.code; nodes = c.nodes.inside.nodes.items } in
    let is : a ≡ c.args.nodes = c.nodes.view_is in
    c.open-entries.ensures.amount
    ∙ sym (entries-none a.nodes (subst (λ (v : NodesData). All (λ log. log ≡ []) (logs_of v.nodes)) (sym is) c.requires.logs))
