use Rattle.std.proofs.Common.{ap, ◌∙◌}
use Rattle.tcc_msg.specs.Plain.{sends_of}
use Rattle.tcc_msg.proofs.Lemmas.{sends_of-push}
use Rattle.tcc_msg.proofs.outgoing.Outgoing.push.Goals as goal

pub returns-in-Ok-clause-sends : goal.returns-in-Ok-clause-sends
returns-in-Ok-clause-sends c = λ n. ap (λ xs. sends_of xs n) c.in-Ok.ensures.items
    ∙ sends_of-push c.args.self.now.list.items c.args.dst c.args.msg n
