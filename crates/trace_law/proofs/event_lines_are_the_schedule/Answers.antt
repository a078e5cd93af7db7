use Rattle.trace_law.proofs.Scheduled.{lines-are-told, events-are-lines, schedule-in-trace}
use Rattle.trace_law.proofs.event_lines_are_the_schedule.Goals as goal

pub returns-clause-told : goal.returns-clause-told
returns-clause-told c = lines-are-told

pub returns-clause-events : goal.returns-clause-events
returns-clause-events c = events-are-lines

pub returns-clause-schedule : goal.returns-clause-schedule
returns-clause-schedule c = schedule-in-trace
