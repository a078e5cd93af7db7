-- A run by phases, and one that follows a list, from the start that the command's files give.
use Rattle.std.proofs.Common.{◌∙◌}
use Rattle.std.specs.String.{string_bytes}
use Rattle.tcc_cli.proofs.Comes.{followed-comes, phased-comes}
use Rattle.tcc_cli.proofs.top.finish.Goals as goal

pub returns-in-Phases-clause-comes : goal.returns-in-Phases-clause-comes
returns-in-Phases-clause-comes g c =
    phased-comes c.args.command.now _ _ _ _ _ c.run_phased.result (λ f. f.done) (λ f. string_bytes f.text) _ _ _ _ c.args.read.now
    c.in-Phases.is c.requires.start c.requires.settings c.run_phased.ensures.ran

pub returns-in-Follow-clause-comes : goal.returns-in-Follow-clause-comes
returns-in-Follow-clause-comes g c =
    followed-comes c.args.command.now _ _ _ _ c.run_following.result (λ f. f.done) (λ f. string_bytes f.text) _ _ _ _ c.args.read.now _ _
    c.in-Follow.is c.requires.start c.requires.settings c.requires.count (c.bytes-in-Follow.ensures ∙ c.index-read-0-in-Follow.is)
    c.run_following.ensures.ran
