use Rattle.std.proofs.Common.{refl}
use Rattle.core_node.proofs.Steps.{did_silently}
use Rattle.core_node.proofs.granting.grant.Goals as goal

pub returns-in-Running-clause-does : goal.returns-in-Running-clause-does
returns-in-Running-clause-does c = rw c.in-Running.is (did_silently _ _ _ _ refl)

pub returns-in-Probing-clause-does : goal.returns-in-Probing-clause-does
returns-in-Probing-clause-does c = rw c.in-Probing.is (did_silently _ _ _ _ refl)

pub returns-in-Ready-clause-does : goal.returns-in-Ready-clause-does
returns-in-Ready-clause-does c = rw c.in-Ready.is (did_silently _ _ _ _ refl)

pub returns-in-Solo-clause-does : goal.returns-in-Solo-clause-does
returns-in-Solo-clause-does c = rw c.in-Solo.is (did_silently _ _ _ _ refl)

pub returns-in-Halted-clause-does : goal.returns-in-Halted-clause-does
returns-in-Halted-clause-does c = rw c.in-Halted.is (did_silently _ _ _ _ refl)
