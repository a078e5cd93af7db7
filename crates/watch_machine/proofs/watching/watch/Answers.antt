-- What it sent is told behind what it did at its node.
use Rattle.std.proofs.Common.{◌++◌, map, ap, sym, ◌∙◌, subst}
use Rattle.tcc_msg.specs.Plain.{event_of}
use Rattle.watch.specs.Plain.{fact_of}
use Rattle.watch_machine.specs.Telling.{HasRoomFor, last_facts}
use Rattle.watch_machine.proofs.Enabled.{next-enabled}
use Rattle.watch_machine.proofs.watching.watch.Goals as goal

pub tell_sent-requires-clause-settled : goal.tell_sent-requires-clause-settled
tell_sent-requires-clause-settled c = c.in_ok-watch_node.ensures.settled

pub tell_sent-requires-clause-room : goal.tell_sent-requires-clause-room
tell_sent-requires-clause-room c =
    subst (HasRoomFor c.watch_node.new.system) (sym c.actor.ensures) c.in_ok-watch_node.ensures.room

pub returns-in-Ok : goal.returns-in-Ok
returns-in-Ok c =
    let t = c.in_ok-watch_node.ensures in
    record {
      next = t.next;
      told = c.in-Ok.ensures
          ∙ ap (λ a. map fact_of c.watch_node.new.facts ++ last_facts c.watch_node.new.system a) c.actor.ensures ∙ t.told;
      settled = t.settled;
      events = t.events;
      code = t.code;
    }

pub returns-in-Err : goal.returns-in-Err
returns-in-Err c = next-enabled c.args.system.now c.watch_node.new.system (event_of c.args.e) c.in_ok-watch_node.ensures.next
