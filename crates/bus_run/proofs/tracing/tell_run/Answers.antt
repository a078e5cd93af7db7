-- With records, or without.
use Rattle.bus_run.proofs.tracing.tell_run.Goals as goal

pub returns-then-states-clause-told : goal.returns-then-states-clause-told
returns-then-states-clause-told g c = rw (c.if-states.true) c.tell_states.ensures.told

pub returns-then-states-clause-broken : goal.returns-then-states-clause-broken
returns-then-states-clause-broken g c = rw (c.if-states.true) c.tell_states.ensures.broken

pub returns-else-states-clause-told : goal.returns-else-states-clause-told
returns-else-states-clause-told g c = rw (c.if-states.false) c.tell_facts.ensures.told

pub returns-else-states-clause-broken : goal.returns-else-states-clause-broken
returns-else-states-clause-broken g c = rw (c.if-states.false) c.tell_facts.ensures.broken
