-- What was seen before the event, and what changed of it.
use Rattle.std.proofs.Common.{ap, map, ◌∙◌}
use Rattle.std.specs.String.{string_bytes}
use Rattle.tcc_msg.specs.Plain.{event_of}
use Rattle.watch.specs.Plain.{fact_of}
use Rattle.watch_run.proofs.Told.{look-inside, text-tells}
use Rattle.watch_run.proofs.telling.shown_event.Goals as goal

pub tell_event-requires : goal.tell_event-requires
tell_event-requires c =
    look-inside c.args.states _ c.args.system.now c.take.new.system (event_of c.args.e) c.in_ok-take.ensures.took c.in_ok-before.ensures

pub returns-clause-text : goal.returns-clause-text
returns-clause-text c =
    text-tells c.tell_event.result c.args.states _ c.args.system.now c.take.new.system (event_of c.args.e)
    (string_bytes c.args.text.now) _ _
    c.in_ok-take.ensures.took c.in_ok-before.ensures
    (ap (map fact_of) (c.deref.ensures.value ∙ c.facts.view_is) ∙ c.in_ok-take.ensures.facts) c.tell_event.ensures
