use Rattle.checkpoint_text.proofs.SameMachines.{machines-same}
use Rattle.checkpoint_text.proofs.laws.texts_tell_machines_apart.Goals as goal

pub returns : goal.returns
returns c = machines-same
