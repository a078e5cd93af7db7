-- Each law is a lemma.
use Rattle.bus_changes.proofs.Following.{events-follow}
use Rattle.bus_changes.proofs.Leading.{cores-lead, parts-lead}
use Rattle.bus_changes.proofs.Traced.{plain-trace}
use Rattle.bus_changes.proofs.laws.Goals as goal

pub returns-clause-cores_lead_on : goal.returns-clause-cores_lead_on
returns-clause-cores_lead_on c = cores-lead

pub returns-clause-parts_lead_on : goal.returns-clause-parts_lead_on
returns-clause-parts_lead_on c = parts-lead

pub returns-clause-events_follow : goal.returns-clause-events_follow
returns-clause-events_follow c = events-follow

pub returns-clause-without_records : goal.returns-clause-without_records
returns-clause-without_records c = plain-trace
