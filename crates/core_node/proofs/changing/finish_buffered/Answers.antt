use Rattle.std.proofs.Common.{ℕ, Option, ap, ◌∙◌}
use Rattle.rules_tcc.specs.State.{CoreState}
use Rattle.rules_tcc.specs.Attempt.{one_more_instruction}
use Rattle.rules_tcc.specs.Execute.{stored_in_buffer}
use Rattle.rv_exec.specs.Needs.{need_of}
use Rattle.rv_exec.specs.Running.{alone}
use Rattle.core_node.specs.View.{core_of}
use Rattle.core_node.specs.Executing.{given}
use Rattle.core_node.proofs.Changed.{finished_buffered}
use Rattle.core_node.proofs.changing.finish_buffered.Goals as goal

pub returns-clause-does : goal.returns-clause-does
returns-clause-does c =
    let p = alone c.args.inst.now in
    let n = need_of c.args.need in
    c.advance.ensures.does ∙ ap (λ (o : Option ℕ). one_more_instruction p o (core_of c.store_buffered.new.core)) c.given.ensures
    ∙ ap (λ (s : CoreState). one_more_instruction p (given n c.args.word) s)
    (c.in-Ok-store_buffered.ensures.does ∙ ap (stored_in_buffer c.args.w.0 c.args.value) c.in-Ok.ensures.does)
    ∙ finished_buffered p n c.args.word c.args.w.0 c.args.value (core_of c.args.core.now) c.requires.goes_on
