use Rattle.rules_tcc.proofs.Useful.{useful-holds, useful-ordered, before-itself, useful-enabled}
use Rattle.rules_tcc.proofs.Done.{done-useless}
use Rattle.rules_tcc.proofs.useful_events_are_listed.Goals as goal

pub returns-clause-holds : goal.returns-clause-holds
returns-clause-holds c = useful-holds

pub returns-clause-ordered : goal.returns-clause-ordered
returns-clause-ordered c = useful-ordered

pub returns-clause-once : goal.returns-clause-once
returns-clause-once c = before-itself

pub returns-clause-enabled : goal.returns-clause-enabled
returns-clause-enabled c = useful-enabled

pub returns-clause-done : goal.returns-clause-done
returns-clause-done c = done-useless
