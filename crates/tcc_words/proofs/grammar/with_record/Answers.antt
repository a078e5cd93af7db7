use Rattle.std.proofs.Common.{ap, ◌∙◌, codes}
use Rattle.std.proofs.lemmas.Result.{IfOk-weaker}
use Rattle.clap.specs.Words.{App, app_of, with_rule}
use Rattle.tcc_words.specs.Grammar.{option, places}
use Rattle.tcc_words.proofs.Rules.{two_rules}
use Rattle.tcc_words.proofs.grammar.with_record.Goals as goal

pub returns : goal.returns
returns c =
    IfOk-weaker c.with_places.result _ _ (λ m h. h
    ∙ (ap (λ (a : App). with_rule a (places (codes "image"))) c.in_ok-record.ensures
    ∙ two_rules (app_of c.args.command) (option (codes "record")) (places (codes "image")))) c.with_places.ensures
