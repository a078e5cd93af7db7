use Rattle.std.proofs.Common.{◌≡◌, Some}
use Rattle.image_load.specs.Contents.{started}
use Rattle.rv_code.specs.Machine.{program}
use Rattle.rv_plain.specs.Attempts.{attempt_of}
use Rattle.rv_plain.specs.Buffered.{plain_view}
use Rattle.rv_exec.specs.declared.outcome.Outcome.TheVariants.{Goes}
use Rattle.rules_program.specs.Plain.{steps}
use Rattle.run_outcomes.proofs.next.run_to_end.Given as goal

abbrev pub invariant-loop-k : goal.invariant-loop-k
invariant-loop-k l =
    (steps l.code.settings.base (program (started l.code)) l.k (plain_view (attempt_of l.fn.attempt l.fn.memory Goes))
    ≡ Some (plain_view (attempt_of l.attempt l.memory Goes)))
    × (l.attempt.n ≡ l.k)
    × (l.memory.ram ≡ l.fn.memory.ram)
