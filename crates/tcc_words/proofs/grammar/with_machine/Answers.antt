use Rattle.std.proofs.Common.{ap, ◌∙◌}
use Rattle.std.proofs.lemmas.Result.{IfOk-weaker}
use Rattle.clap.specs.Words.{App, app_of}
use Rattle.tcc_words.specs.Grammar.{memory_rules, node_rules, with_rules}
use Rattle.tcc_words.proofs.Rules.{more_rules}
use Rattle.tcc_words.proofs.grammar.with_machine.Goals as goal

pub returns : goal.returns
returns c =
    IfOk-weaker c.with_memory.result _ _ (λ m h. h
    ∙ (ap (λ (a : App). with_rules memory_rules a) c.in_ok-nodes.ensures
    ∙ more_rules (app_of c.args.command) node_rules memory_rules)) c.with_memory.ensures
