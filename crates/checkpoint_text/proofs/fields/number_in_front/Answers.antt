use Rattle.checkpoint_text.proofs.Reading.{number-shorter}
use Rattle.checkpoint_text.proofs.fields.number_in_front.Goals as goal

pub returns : goal.returns
returns c = number-shorter _ _ c.number.ensures
