use Rattle.std.proofs.Common.{◌≡◌, take}
use Rattle.rules_program.specs.Cores.{printed}
use Rattle.machine_commits.proofs.list.CommitList.console.Given as goal

abbrev pub invariant-loop-commit : goal.invariant-loop-commit
invariant-loop-commit l = l.bytes ≡ printed l.core.0 (take l.commit-index l.commit-items)
