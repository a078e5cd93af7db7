use Rattle.std.proofs.Common.{ap, ◌∙◌, codes, List, [], ◌∷◌, ◌++◌}
use Rattle.std.proofs.lemmas.Result.{IfOk-weaker}
use Rattle.clap.specs.Words.{App, Rule, app_of, with_rule}
use Rattle.tcc_words.specs.Grammar.{event_rules, flag, machine_rules, option, with_rules}
use Rattle.tcc_words.proofs.Rules.{more_rules, two_rules}
use Rattle.tcc_words.proofs.grammar.with_source.Goals as goal

pub returns : goal.returns
returns c =
    let last : List Rule = option (codes "schedule") ∷ flag (codes "bus") (codes "bus") ∷ [] in
    IfOk-weaker c.with_flag.result _ _ (λ m h. h
    ∙ (ap (λ (a : App). with_rule a (flag (codes "bus") (codes "bus"))) (c.in_ok-schedule.ensures
    ∙ ap (λ (a : App). with_rule a (option (codes "schedule"))) (c.in_ok-events.ensures
    ∙ ap (λ (a : App). with_rules event_rules a) c.in_ok-machine.ensures))
    ∙ (two_rules (with_rules event_rules (with_rules machine_rules (app_of c.args.command))) (option (codes "schedule"))
    (flag (codes "bus") (codes "bus"))
    ∙ (more_rules (with_rules machine_rules (app_of c.args.command)) event_rules last
    ∙ more_rules (app_of c.args.command) machine_rules (event_rules ++ last))))) c.with_flag.ensures
