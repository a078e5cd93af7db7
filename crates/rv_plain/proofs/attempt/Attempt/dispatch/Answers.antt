use Rattle.std.proofs.Common.{refl}
use Rattle.image_load.specs.Contents.{started}
use Rattle.rv_plain.proofs.Stepping.{buffered_step-found, buffered_step-failed}
use Rattle.rv_plain.specs.Attempts.{attempt_of}
use Rattle.rv_exec.specs.declared.outcome.Outcome.TheVariants.{Goes}
use Rattle.rv_plain.proofs.attempt.Attempt.dispatch.Goals as goal

pub returns-in-Err-clause-does : goal.returns-in-Err-clause-does
unfolding attempt_of
returns-in-Err-clause-does c =
    let at = c.args.code.now in
    rw (
      buffered_step-failed at.settings.base (started at) (attempt_of c.args.self.now c.args.memory.now Goes) c.in-Err.trap c.in-Err.ensures,
      c.end.ensures.state,
      c.end.ensures.outcome,
    ) refl

pub returns-in-Ok-clause-does : goal.returns-in-Ok-clause-does
unfolding attempt_of started
returns-in-Ok-clause-does c =
    let at = c.args.code.now in
    rw (buffered_step-found at.settings.base (started at) (attempt_of c.args.self.now c.args.memory.now Goes) c.in-Ok.inst c.in-Ok.ensures)
    c.execute_inst.ensures.does
