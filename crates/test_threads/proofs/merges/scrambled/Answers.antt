use Rattle.std.proofs.Common.{refl, sym, subst, arith}
use Rattle.test_threads.proofs.FirstLogs.{AreFirst, first-none, first-core, first-empty, first-all}
use Rattle.test_threads.proofs.merges.scrambled.Goals as goal

pub loop-number-init : goal.loop-number-init
loop-number-init c = subst (AreFirst c.args.config 0) (sym c.new-by_node.ensures) (first-none c.args.config)

pub loop-number-preserved : goal.loop-number-preserved
loop-number-preserved c =
    let cores = c.requires.cores in
    let more = c.loop-number-test.true in
    subst (λ k. AreFirst c.args.config k c.push.new.self) (omega arith)
    (first-core c.args.config c.loop-number.number _ c.push.new.self _ c.loop-number.invariant c.in_ok-push.ensures _ c.in_ok-log.ensures
    refl (omega arith))

pub returns : goal.returns
returns c =
    let s = c.args.config in
    let cores = c.requires.cores in
    let dirs = c.requires.dirs in
    let d = first-empty s _ _ c.push-2.new.self _ c.loop-number.invariant c.in_ok-push-2.ensures c.new.ensures in
    let v = first-empty s _ _ c.push-3.new.self _ d c.in_ok-push-3.ensures c.new-2.ensures in
    let end = c.loop-number-test.false in
    first-all s c.push-3.new.self (subst (λ k. AreFirst s k c.push-3.new.self) (omega arith) v)
