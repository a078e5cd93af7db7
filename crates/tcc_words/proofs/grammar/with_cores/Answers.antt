use Rattle.std.proofs.Common.{ap, ◌∙◌, codes}
use Rattle.std.proofs.lemmas.Result.{IfOk-weaker}
use Rattle.clap.specs.Words.{App, app_of, with_rule}
use Rattle.tcc_words.specs.Grammar.{option}
use Rattle.tcc_words.proofs.Rules.{three_rules}
use Rattle.tcc_words.proofs.grammar.with_cores.Goals as goal

pub returns : goal.returns
returns c =
    IfOk-weaker c.with_option-3.result _ _ (λ m h. h
    ∙ (ap (λ (a : App). with_rule a (option (codes "ways")))
    (c.in_ok-sets.ensures ∙ ap (λ (a : App). with_rule a (option (codes "sets"))) c.in_ok-cores.ensures)
    ∙ three_rules (app_of c.args.command) (option (codes "cores")) (option (codes "sets")) (option (codes "ways"))))
    c.with_option-3.ensures
