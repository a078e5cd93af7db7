-- Each law is a lemma.
use Rattle.watch_changes.specs.Nodes.{records_at}
use Rattle.watch_changes.proofs.Acting.{acts-alone}
use Rattle.watch_changes.proofs.Beginning.{begins-by-node}
use Rattle.watch_changes.proofs.Merging.{changes-new, changes-ordered, put-changes}
use Rattle.watch_changes.proofs.Ordered.{records-ordered}
use Rattle.watch_changes.proofs.Touching.{touched-suffices}
use Rattle.watch_changes.proofs.Traced.{plain-trace}
use Rattle.watch_changes.proofs.laws.Goals as goal

pub returns-clause-lead_on : goal.returns-clause-lead_on
returns-clause-lead_on c = λ sh first w v n.
    put-changes (records_at sh first w n) (records_at sh first v n) (records-ordered sh first w n) (records-ordered sh first v n)

pub returns-clause-none_twice : goal.returns-clause-none_twice
returns-clause-none_twice c = λ sh first w v n.
    changes-ordered (records_at sh first w n) (records_at sh first v n) (records-ordered sh first w n) (records-ordered sh first v n)

pub returns-clause-none_as_it_was : goal.returns-clause-none_as_it_was
returns-clause-none_as_it_was c = λ sh first w v n.
    changes-new (records_at sh first w n) (records_at sh first v n) (records-ordered sh first w n) (records-ordered sh first v n)

pub returns-clause-others_stay : goal.returns-clause-others_stay
returns-clause-others_stay c = acts-alone

pub returns-clause-touched_suffices : goal.returns-clause-touched_suffices
returns-clause-touched_suffices c = touched-suffices

pub returns-clause-without_records : goal.returns-clause-without_records
returns-clause-without_records c = plain-trace

pub returns-clause-begins_by_node : goal.returns-clause-begins_by_node
returns-clause-begins_by_node c = begins-by-node
