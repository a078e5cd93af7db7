use Rattle.count_law.proofs.Balanced.{messages-add-up}
use Rattle.count_law.proofs.messages_add_up.Goals as goal

pub returns : goal.returns
returns c = messages-add-up
