-- The lines of the commits so far are written.
use Rattle.std.proofs.Common.{◌≡◌, ◌++◌, string_bytes, take}
use Rattle.std.specs.List.{flat_map}
use Rattle.report_text.specs.Text.{commit_text}
use Rattle.report_text.proofs.body.push_commits.Given as goal

abbrev pub invariant-loop-commit : goal.invariant-loop-commit
invariant-loop-commit l = string_bytes l.text ≡ string_bytes l.fn.text ++ flat_map commit_text (take l.commit-index l.commits)
