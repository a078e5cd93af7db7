-- What the core does, as an event of its node.
use Rattle.std.proofs.Common.{ap}
use Rattle.std.specs.Option.{option_map}
use Rattle.rules_maps.specs.Bridge.{node_of}
use Rattle.tcc_msg.specs.Plain.{event_of, msg_of}
use Rattle.apart_member.proofs.Events.{deliver-did, evict-did, exec-did, known, source-there, way-there}
use Rattle.apart_member.proofs.acting.act_core.Goals as goal
use Rattle.apart_member.proofs.acting.act_core.Goals.{in-Ok, in-Err}

pub evict-requires-clause-set_exists : goal.evict-requires-clause-set_exists
evict-requires-clause-set_exists c =
    (way-there c.args.core.now.config (event_of c.args.event) c.in-Evict.field-0.0 c.in-Evict.set c.in-Evict.way (ap event_of c.in-Evict.is)
    c.requires.names).0

pub evict-requires-clause-way_exists : goal.evict-requires-clause-way_exists
evict-requires-clause-way_exists c =
    (way-there c.args.core.now.config (event_of c.args.event) c.in-Evict.field-0.0 c.in-Evict.set c.in-Evict.way (ap event_of c.in-Evict.is)
    c.requires.names).1

pub deliver-requires : goal.deliver-requires
deliver-requires c =
    known c.args.core.now.config c.in-Deliver.name.src
    (source-there c.args.core.now.config (event_of c.args.event) (node_of c.in-Deliver.name.src) (node_of c.in-Deliver.name.dst)
    c.in-Deliver.name.seq (ap event_of c.in-Deliver.is) c.requires.names)

pub returns-after-exec-clause-acts : goal.returns-after-exec-clause-acts
returns-after-exec-clause-acts c = elim c.match-exec.branch [
  | in-Ok w ↦ (rw w.result-is
      (exec-did c.args.code.now c.args.core.now.config (event_of c.args.event) (option_map msg_of c.args.msg) c.args.core.now
      c.exec.new.self c.args.out.now c.exec.new.out c.args.core.now.id.0 c.in-Exec.field-0.0 c.requires.same
      (ap event_of c.in-Exec.is) c.requires.at c.requires.empty w.in-Ok.ensures.does))
  | in-Err w ↦ rw w.result-is tt
]

pub returns-in-Ok-evict-clause-acts : goal.returns-in-Ok-evict-clause-acts
returns-in-Ok-evict-clause-acts c =
    evict-did c.args.code.now c.args.core.now.config (event_of c.args.event) (option_map msg_of c.args.msg) c.args.core.now c.evict.new.self
    c.args.out.now c.evict.new.out c.in-Evict.field-0.0 c.in-Evict.set c.in-Evict.way c.requires.same (ap event_of c.in-Evict.is)
    c.requires.empty c.in-Ok-evict.ensures.does

pub returns-in-Ok-deliver-clause-acts : goal.returns-in-Ok-deliver-clause-acts
returns-in-Ok-deliver-clause-acts c =
    deliver-did c.args.code.now c.args.core.now.config (event_of c.args.event) (option_map msg_of c.args.msg) c.args.core.now
    c.deliver.new.self c.args.out.now c.deliver.new.out (node_of c.in-Deliver.name.src) (node_of c.in-Deliver.name.dst)
    c.in-Deliver.name.seq (msg_of c.in-Some.msg) c.requires.same (ap event_of c.in-Deliver.is) (ap (option_map msg_of) c.in-Some.is)
    c.requires.empty c.in-Ok-deliver.ensures.does
