-- The next message goes to the node and is told, or doesn't.
use Rattle.std.proofs.Common.{◌≡◌, ◌+◌, ap, arith, drop, length, map, suc, ◌∙◌}
use Rattle.std.proofs.lemmas.List.{map-append}
use Rattle.rules_maps.specs.Bridge.{node_of}
use Rattle.tcc_msg.specs.Plain.{sends_of}
use Rattle.watch.specs.Plain.{fact_of}
use Rattle.watch_machine.proofs.Numbering.{all-told, next-goes, next-stays, none-left, told-more, told-same}
use Rattle.watch_machine.proofs.sending.tell_numbered.Goals as goal
use Rattle.watch_machine.proofs.sending.tell_numbered.Goals.{then-goes_to+in_ok-push, else-goes_to}

pub overflow_add-seq : goal.overflow_add-seq
overflow_add-seq c =
    let ms = c.args.messages.now in
    let k = c.loop-to.to-index in
    let n = node_of c.args.dst in
    let one : length (sends_of (drop k ms) n) ≡ suc (length (sends_of (drop (k + 1) ms) n)) =
    ap length (next-goes ms k _ n c.goes_to.result c.loop-to-test.true c.goes_to.ensures c.if-goes_to.true) in
    omega (arith, one, c.loop-to.invariant.number, c.requires)

pub loop-to-preserved : goal.loop-to-preserved
loop-to-preserved c =
    let ms = c.args.messages.now in
    let k = c.loop-to.to-index in
    let src = node_of c.args.src in
    let n = node_of c.args.dst in
    elim c.if-goes_to.branch [
      | then-goes_to+in_ok-push w ↦
          let next = next-goes ms k _ n c.goes_to.result c.loop-to-test.true c.goes_to.ensures w.if-goes_to.true in
          let one : length (sends_of (drop k ms) n) ≡ suc (length (sends_of (drop (k + 1) ms) n)) = ap length next in
          record {
            number = omega (arith, one, w.seq-is, c.loop-to.invariant.number);
            told = told-more src n c.loop-to.seq c.if-goes_to.seq _ _ _ (map fact_of c.loop-to.facts) (map fact_of c.if-goes_to.facts) _
                next w.seq-is (ap (map fact_of) (w.facts-is ∙ w.in_ok-push.ensures) ∙ map-append fact_of c.loop-to.facts _)
                c.loop-to.invariant.told;
          }
      | else-goes_to w ↦
          let next = next-stays ms k _ n c.goes_to.result c.loop-to-test.true c.goes_to.ensures w.if-goes_to.false in
          let same : length (sends_of (drop k ms) n) ≡ length (sends_of (drop (k + 1) ms) n) = ap length next in
          record {
            number = omega (arith, same, w.seq-is, c.loop-to.invariant.number);
            told = told-same src n c.loop-to.seq c.if-goes_to.seq _ _ (map fact_of c.loop-to.facts) (map fact_of c.if-goes_to.facts) _ next
                w.seq-is (ap (map fact_of) w.facts-is) c.loop-to.invariant.told;
          }
    ]

pub returns : goal.returns
returns c =
    all-told (node_of c.args.src) (node_of c.args.dst) c.loop-to.seq _ (map fact_of c.loop-to.facts) _
    (none-left c.args.messages.now c.loop-to.to-index (node_of c.args.dst) c.loop-to-test.false) c.loop-to.invariant.told
