use Rattle.std.proofs.Common.{ap, ◌∙◌, codes}
use Rattle.std.proofs.lemmas.Result.{IfOk-weaker}
use Rattle.clap.specs.Words.{App, app_of, with_rule}
use Rattle.tcc_words.specs.Grammar.{machine_rules, place, places}
use Rattle.tcc_words.proofs.Rules.{filed_rules}
use Rattle.tcc_words.proofs.grammar.with_file.Goals as goal

pub returns : goal.returns
returns c =
    IfOk-weaker c.with_places.result _ _ (λ m h. h
    ∙ (ap (λ (a : App). with_rule a (places (codes "image")))
    (c.in_ok-file.ensures ∙ ap (λ (a : App). with_rule a (place c.args.name.now)) c.in_ok-machine.ensures)
    ∙ filed_rules (app_of c.args.command) machine_rules (place c.args.name.now) (places (codes "image")))) c.with_places.ensures
