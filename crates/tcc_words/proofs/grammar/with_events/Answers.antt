use Rattle.std.proofs.Common.{ap, ◌∙◌, codes}
use Rattle.std.proofs.lemmas.Result.{IfOk-weaker}
use Rattle.clap.specs.Words.{App, app_of, with_rule}
use Rattle.tcc_words.specs.Grammar.{option}
use Rattle.tcc_words.proofs.Rules.{two_rules}
use Rattle.tcc_words.proofs.grammar.with_events.Goals as goal

pub returns : goal.returns
returns c =
    IfOk-weaker c.with_option-2.result _ _ (λ m h. h
    ∙ (ap (λ (a : App). with_rule a (option (codes "seed"))) c.in_ok-steps.ensures
    ∙ two_rules (app_of c.args.command) (option (codes "steps")) (option (codes "seed")))) c.with_option-2.ensures
