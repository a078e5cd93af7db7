-- The next message goes to the node, or doesn't.
use Rattle.std.proofs.Common.{◌≡◌, ◌+◌, ap, arith, drop, length, suc}
use Rattle.rules_maps.specs.Bridge.{node_of}
use Rattle.tcc_msg.specs.Plain.{sends_of}
use Rattle.watch_machine.proofs.Numbering.{next-goes, next-stays, none-left}
use Rattle.watch_machine.proofs.sending.count_to.Goals as goal
use Rattle.watch_machine.proofs.sending.count_to.Goals.{then-goes_to, else-goes_to}

pub loop-to-preserved : goal.loop-to-preserved
loop-to-preserved c =
    let ms = c.args.messages.now in
    let k = c.loop-to.to-index in
    let n = node_of c.args.dst in
    elim c.if-goes_to.branch [
      | then-goes_to w ↦
          let one : length (sends_of (drop k ms) n) ≡ suc (length (sends_of (drop (k + 1) ms) n)) =
          ap length (next-goes ms k _ n c.goes_to.result c.loop-to-test.true c.goes_to.ensures w.if-goes_to.true) in
          record {
            all = omega (arith, one, w.count-is, c.loop-to.invariant.all);
            few = omega (arith, w.count-is, c.loop-to.invariant.few);
          }
      | else-goes_to w ↦
          let same : length (sends_of (drop k ms) n) ≡ length (sends_of (drop (k + 1) ms) n) =
          ap length (next-stays ms k _ n c.goes_to.result c.loop-to-test.true c.goes_to.ensures w.if-goes_to.false) in
          record {
            all = omega (arith, same, w.count-is, c.loop-to.invariant.all);
            few = omega (arith, w.count-is, c.loop-to.invariant.few);
          }
    ]

pub returns : goal.returns
returns c =
    let none : length (sends_of (drop c.loop-to.to-index c.args.messages.now) (node_of c.args.dst)) ≡ 0 =
    ap length (none-left c.args.messages.now c.loop-to.to-index (node_of c.args.dst) c.loop-to-test.false) in
    omega (arith, none, c.loop-to.invariant.all)
