-- The choice among the useful events.
use Rattle.std.proofs.Common.{inl, arith, ap, ◌∙◌, sym}
use Rattle.rules_maps.specs.Bridge.{node_of}
use Rattle.rules_maps.specs.Nodes.{Deliver}
use Rattle.apart_node.specs.NodeInside.{node_of_parts}
use Rattle.apart_node.proofs.Picking.Choices.{none-useful}
use Rattle.apart_node.proofs.Picking.Chosen.{draws-useful, late-useless, letter-chosen, own-chosen}
use Rattle.apart_node.proofs.node.Node.choose.Goals as goal

pub returns-then-self-ge-LAST_STAMP-clause-chosen : goal.returns-then-self-ge-LAST_STAMP-clause-chosen
returns-then-self-ge-LAST_STAMP-clause-chosen c =
    let l = c.self.invariant.last in
    let h = c.if-self-ge-LAST_STAMP.true in
    rw (← c.self.view_is) (inl (late-useless (node_of_parts c.self.inside) (omega (arith, l, h))))

pub returns-in-Nothing-clause-chosen : goal.returns-in-Nothing-clause-chosen
returns-in-Nothing-clause-chosen c =
    let n = node_of_parts c.self.inside in
    let l = c.self.invariant.last in
    let h = c.if-self-ge-LAST_STAMP.false in
    let d = rw l at c.in-Nothing.ensures.drawn in
    rw (← c.self.view_is)
    (inl (none-useful n (sym (draws-useful n c.self.inside.own c.self.invariant.own (omega (arith, l, h))) ∙ d)))

pub returns-in-Own-clause-chosen : goal.returns-in-Own-clause-chosen
returns-in-Own-clause-chosen c =
    let n = node_of_parts c.self.inside in
    let l = c.self.invariant.last in
    let h = c.if-self-ge-LAST_STAMP.false in
    let d = rw l at c.in-Own.ensures.drawn in
    rw (← c.self.view_is)
    (own-chosen n c.self.inside.own c.self.invariant.own (omega (arith, l, h)) c.args.pick c.in-Own.k c.own_deed.result d.0 d.1
    (rw c.draw.ensures.same at c.own_deed.ensures))

pub returns-in-Letter-clause-chosen : goal.returns-in-Letter-clause-chosen
returns-in-Letter-clause-chosen c =
    let n = node_of_parts c.self.inside in
    let l = c.self.invariant.last in
    let h = c.if-self-ge-LAST_STAMP.false in
    let d = rw l at c.in-Letter.ensures.drawn in
    let w = c.in-Letter.waiting in
    let e = c.delivery.ensures.event ∙ ap (λ x. Deliver (node_of w.src) (node_of x) w.letter.number) c.node-node.ensures.value in
    rw (← c.self.view_is)
    (letter-chosen n c.self.inside.own c.self.invariant.own (omega (arith, l, h)) c.args.pick w c.delivery.result d
    c.delivery.ensures.waiting e c.self.invariant.node.own
    (omega (arith, c.len.ensures, c.if-len-ge-LOG_END.false)))
