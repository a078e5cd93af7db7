use Rattle.std.proofs.Common.{refl, sym, subst, arith}
use Rattle.test_threads.proofs.FirstLogs.{AreFirst, first-none, first-core, first-empty, first-vendor, first-all}
use Rattle.test_threads.proofs.merges.small_logs.Goals as goal

pub returns : goal.returns
returns c =
    let s = c.args.config in
    let cores = c.requires.cores in
    let dirs = c.requires.dirs in
    let l0 : AreFirst s 0 c.new-by_node.result = subst (AreFirst s 0) (sym c.new-by_node.ensures) (first-none s) in
    let l1 = first-core s 0 _ c.push.new.self _ l0 c.in_ok-push.ensures _ c.in_ok-log_of_one.ensures refl (omega arith) in
    let l2 = first-core s 1 _ c.push-2.new.self _ l1 c.in_ok-push-2.ensures _ c.in_ok-log_of_one-2.ensures refl (omega arith) in
    let l3 = first-empty s 2 _ c.push-3.new.self _ l2 c.in_ok-push-3.ensures c.new.ensures in
    let l4 = first-vendor s 3 _ c.push-4.new.self _ l3 c.in_ok-push-4.ensures _ c.in_ok-log_of_one-3.ensures refl (omega arith) in
    first-all s c.push-4.new.self (subst (λ k. AreFirst s k c.push-4.new.self) (omega arith) l4)
