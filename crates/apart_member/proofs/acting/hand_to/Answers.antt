-- What the directory answers.
use Rattle.std.proofs.Common.{subst, sym}
use Rattle.tcc_msg.specs.Plain.{msg_of, sends_of}
use Rattle.rules_tcc.specs.DirDeliver.{dir_deliver}
use Rattle.directory.specs.Data.{dir_of}
use Rattle.apart_member.specs.Acting.{TakesAs}
use Rattle.apart_member.proofs.Events.{gives-answers}
use Rattle.apart_member.proofs.acting.hand_to.Goals as goal

pub returns-in-Ok-clause-answers : goal.returns-in-Ok-clause-answers
returns-in-Ok-clause-answers c = λ ram.
    subst (λ b. TakesAs (dir_of ram c.args.dir.now) (dir_deliver c.args.dir.now.lines.place.shape (dir_of ram c.args.dir.now) c.args.src.0
    (msg_of c.args.msg.now)) (dir_of ram c.deliver.new.self) (sends_of c.deliver.new.out.list.items) b) (sym c.is_consumed.ensures)
    (gives-answers c.args.dir.now c.deliver.new.self c.args.out.now.list.items c.deliver.new.out.list.items c.in-Ok.handled
    (λ s. dir_deliver c.args.dir.now.lines.place.shape s c.args.src.0 (msg_of c.args.msg.now)) c.requires.empty c.in-Ok.ensures.gives ram)
