use Rattle.std.proofs.Common.{ap, ◌∙◌, codes}
use Rattle.std.proofs.lemmas.Result.{IfOk-weaker}
use Rattle.clap.specs.Words.{App, app_of, with_rule}
use Rattle.tcc_words.specs.Grammar.{flag, option}
use Rattle.tcc_words.proofs.Rules.{three_rules}
use Rattle.tcc_words.proofs.grammar.with_memory.Goals as goal

pub returns : goal.returns
returns c =
    IfOk-weaker c.with_flag.result _ _ (λ m h. h
    ∙ (ap (λ (a : App). with_rule a (flag (codes "raw") (codes "raw")))
    (c.in_ok-base.ensures ∙ ap (λ (a : App). with_rule a (option (codes "base"))) c.in_ok-ram.ensures)
    ∙ three_rules (app_of c.args.command) (option (codes "ram")) (option (codes "base")) (flag (codes "raw") (codes "raw"))))
    c.with_flag.ensures
