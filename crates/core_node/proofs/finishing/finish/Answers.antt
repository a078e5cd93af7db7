use Rattle.std.proofs.Common.{ℕ, Option, ap, ◌∙◌}
use Rattle.rules_tcc.specs.State.{CoreState}
use Rattle.rules_tcc.specs.Attempt.{one_more_instruction}
use Rattle.rv_exec.specs.Needs.{need_of}
use Rattle.rv_exec.specs.Running.{alone}
use Rattle.core_node.specs.View.{core_of}
use Rattle.core_node.specs.Executing.{given}
use Rattle.core_node.proofs.Finished.{finished_noted}
use Rattle.core_node.proofs.finishing.finish.Goals as goal

pub returns-clause-does : goal.returns-clause-does
returns-clause-does c =
    let p = alone c.args.inst.now in
    let n = need_of c.args.need in
    c.advance.ensures.does ∙ ap (λ (o : Option ℕ). one_more_instruction p o (core_of c.note.new.core)) c.given.ensures
    ∙ ap (λ (s : CoreState). one_more_instruction p (given n c.args.word) s) c.in_ok-note.ensures.does
    ∙ finished_noted p n c.args.word (core_of c.args.core.now) c.requires.goes_on
