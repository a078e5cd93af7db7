use Rattle.std.proofs.Common.{◌≡◌, ◌==◌, true, false, ◌++◌, sym, ap, ◌∙◌, arith}
use Rattle.std.proofs.lemmas.Bool.Decides.{nat_tests}
use Rattle.rules_program.specs.Cores.{printed}
use Rattle.machine_commits.proofs.Printed.{printed-own, printed-other}
use Rattle.machine_commits.proofs.list.CommitList.console.Goals as goal
use Rattle.machine_commits.proofs.list.CommitList.console.Goals.{then-eq+in_ok-append, else-eq}

pub loop-commit-init : goal.loop-commit-init
unfolding printed
loop-commit-init c = c.new-bytes.ensures

pub loop-commit-preserved : goal.loop-commit-preserved
loop-commit-preserved c =
    let commits = c.deref-commit-items.result.now in
    let at = c.loop-commit.commit-index in
    let here = c.commit-item.result in
    elim c.if-eq.branch [
      | then-eq+in_ok-append w ↦
          let own : (c.args.core.0 == here.core.0) ≡ true = grind (arith, nat_tests) in
          let next = printed-own c.args.core.0 commits at here c.loop-commit-test.true c.commit-item.is own in
          w.bytes-is ∙ (w.in_ok-append.ensures ∙ (ap (λ ys. ys ++ here.console) c.loop-commit.invariant ∙ sym next))
      | else-eq w ↦
          let other : (c.args.core.0 == here.core.0) ≡ false = grind (arith, nat_tests) in
          let next = printed-other c.args.core.0 commits at here c.loop-commit-test.true c.commit-item.is other in
          w.bytes-is ∙ (c.loop-commit.invariant ∙ sym next)
    ]
