use Rattle.std.proofs.Common.{ap, ◌∙◌, codes}
use Rattle.std.proofs.lemmas.Result.{IfOk-weaker}
use Rattle.clap.specs.Words.{App, app_of, with_rule}
use Rattle.tcc_words.specs.Grammar.{option}
use Rattle.tcc_words.proofs.Rules.{four_rules}
use Rattle.tcc_words.proofs.grammar.with_nodes.Goals as goal

pub returns : goal.returns
returns c =
    IfOk-weaker c.with_option-4.result _ _ (λ m h. h
    ∙ (ap (λ (a : App). with_rule a (option (codes "ways")))
    (c.in_ok-sets.ensures ∙ ap (λ (a : App). with_rule a (option (codes "sets")))
    (c.in_ok-dirs.ensures ∙ ap (λ (a : App). with_rule a (option (codes "dirs"))) c.in_ok-cores.ensures))
    ∙ four_rules (app_of c.args.command) (option (codes "cores")) (option (codes "dirs")) (option (codes "sets")) (option (codes "ways"))))
    c.with_option-4.ensures
