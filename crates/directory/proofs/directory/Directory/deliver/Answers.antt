use Rattle.tcc_msg.specs.Plain.{msg_of}
use Rattle.directory.proofs.Leaving.{gives-leaves}
use Rattle.directory.proofs.directory.Directory.deliver.Goals as goal

pub returns-in-Ok-clause-leaves : goal.returns-in-Ok-clause-leaves
returns-in-Ok-clause-leaves c =
    gives-leaves c.args.self.now.lines.place.shape c.args.self.now c.take.new.self c.args.out.now.list.items
    c.take.new.out.list.items c.in-Ok.handled
    c.args.src.0 (msg_of c.args.msg.now) c.in-Ok.ensures.gives
