-- A message is sought among those that don't stand on their links.
use Rattle.std.proofs.Common.{◌+◌, ◌<◌, ◌≤◌, length, drop, refl, sym, ap, ◌∙◌, arith}
use Rattle.std.specs.Prelude.{slice_get}
use Rattle.rules_maps.specs.Bridge.{node_of}
use Rattle.tcc_msg.specs.Plain.{sends_of}
use Rattle.net_core.proofs.Links.Seeking.{sought-here, sought-none, sought-other, sought-past}
use Rattle.net_core.proofs.Links.Placing.{next-first}
use Rattle.net_core.proofs.enabling.unsent_at.Goals as goal
use Rattle.net_core.proofs.enabling.unsent_at.Goals.{then-same_node+else-left-eq0, else-same_node}

pub loop-i-init : goal.loop-i-init
loop-i-init c = refl

pub returns-then-left-eq0 : goal.returns-then-left-eq0
returns-then-left-eq0 c =
    let xs = c.args.out.now.list.items in
    let h : c.loop-i.i < length xs = omega (arith, c.args.out.now.list.ok) in
    sym (c.loop-i.invariant ∙ sought-here xs c.loop-i.i (node_of c.args.dst) c.index.result.now c.loop-i.left
    (next-first xs c.loop-i.i c.index.result.now h c.index.ensures) (sym c.same_node.ensures ∙ c.if-same_node.true) c.if-left-eq0.true)

pub loop-i-preserved : goal.loop-i-preserved
loop-i-preserved c =
    let xs = c.args.out.now.list.items in
    let n = node_of c.args.dst in
    let h : c.loop-i.i < length xs = omega (arith, c.args.out.now.list.ok) in
    let first = next-first xs c.loop-i.i c.index.result.now h c.index.ensures in
    elim c.if-same_node.branch [
      | then-same_node+else-left-eq0 w ↦ c.loop-i.invariant
          ∙ sought-past xs c.loop-i.i n c.index.result.now c.loop-i.left first (sym c.same_node.ensures ∙ w.if-same_node.true)
          w.if-left-eq0.false
          ∙ ap (slice_get (sends_of (drop (c.loop-i.i + 1) xs) n)) (sym w.left-is)
      | else-same_node w ↦ c.loop-i.invariant
          ∙ sought-other xs c.loop-i.i n c.index.result.now c.loop-i.left first (sym c.same_node.ensures ∙ w.if-same_node.false)
          ∙ ap (slice_get (sends_of (drop (c.loop-i.i + 1) xs) n)) (sym w.left-is)
    ]

pub returns : goal.returns
returns c =
    let xs = c.args.out.now.list.items in
    let h : length xs ≤ c.loop-i.i = omega (arith, c.args.out.now.list.ok) in
    sym (c.loop-i.invariant ∙ sought-none xs c.loop-i.i (node_of c.args.dst) c.loop-i.left h)
