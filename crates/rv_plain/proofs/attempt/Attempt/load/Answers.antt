use Rattle.std.proofs.Common.{refl}
use Rattle.rv_plain.specs.Attempts.{attempt_of}
use Rattle.rules_program.specs.Ram.{loaded, word_of}
use Rattle.rv_plain.proofs.attempt.Attempt.load.Goals as goal

pub returns-clause-does : goal.returns-clause-does
unfolding attempt_of loaded word_of
returns-clause-does c = rw (c.finish.ensures, c.in_ok-push.ensures, c.read-value.ensures, c.read.ensures) refl
