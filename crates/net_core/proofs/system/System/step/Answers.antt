-- An event is taken, between two calls that put messages on their links.
use Rattle.std.proofs.Common.{ap}
use Rattle.tcc_msg.specs.Plain.{event_of}
use Rattle.net_core.specs.declared.taking.StepError.TheVariants.{Memory, Refused}
use Rattle.net_core.proofs.Events.Runs.{answers-after, not-enabled, refused-exactly, taken-exactly, took-after, took-before}
use Rattle.net_core.proofs.Events.Runs.{wanting}
use Rattle.net_core.proofs.system.System.step.Goals as goal

pub returns-then-enabled-clause-refused : goal.returns-then-enabled-clause-refused
returns-then-enabled-clause-refused c =
    refused-exactly c.args.self.now c.prepare.new.self (event_of c.args.e) Memory
    (wanting c.args.self.now c.prepare.new.self (event_of c.args.e) c.if-not-prepare.ensures.kept c.if-enabled.ensures)

pub returns-else-enabled-clause-refused : goal.returns-else-enabled-clause-refused
returns-else-enabled-clause-refused c =
    refused-exactly c.args.self.now c.prepare.new.self (event_of c.args.e) Refused
    (not-enabled c.args.self.now c.prepare.new.self (event_of c.args.e) c.if-not-prepare.ensures.kept c.if-enabled.ensures)

pub returns-in-Err-clause-refused : goal.returns-in-Err-clause-refused
returns-in-Err-clause-refused c =
    refused-exactly c.args.self.now _ (event_of c.args.e) c.in-Err.error
    (answers-after c.args.self.now c.prepare.new.self c.take.new.self
    (event_of c.args.e) c.in-Err.error c.if-not-prepare.ensures.kept c.in-Err.ensures)

pub returns-in-Ok-clause-told : goal.returns-in-Ok-clause-told
returns-in-Ok-clause-told c =
    (took-after c.args.self.now c.prepare.new.self c.take.new.self
    (event_of c.args.e) c.in-Ok.done c.if-not-prepare.ensures.kept c.in-Ok.ensures).tells

pub returns-in-Ok-clause-sent : goal.returns-in-Ok-clause-sent
returns-in-Ok-clause-sent c =
    (took-before c.args.self.now c.take.new.self c.settle.new.self (event_of c.args.e) c.in-Ok.done
    (took-after c.args.self.now c.prepare.new.self c.take.new.self
    (event_of c.args.e) c.in-Ok.done c.if-not-prepare.ensures.kept c.in-Ok.ensures)
    (record { history = c.settle.ensures.history; events = c.settle.ensures.events; code = ap (λ d. d.code) c.settle.ensures.cores })
    c.settle.ensures.last).sent

pub returns-in-Ok-clause-refused : goal.returns-in-Ok-clause-refused
returns-in-Ok-clause-refused c =
    taken-exactly c.args.self.now c.take.new.self (event_of c.args.e) c.in-Ok.done
    (took-after c.args.self.now c.prepare.new.self c.take.new.self
    (event_of c.args.e) c.in-Ok.done c.if-not-prepare.ensures.kept c.in-Ok.ensures)
