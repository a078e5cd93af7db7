use Rattle.schedule_text.proofs.FirstLines.{given_back}
use Rattle.schedule_text.proofs.laws.what_was_written_is_read.Goals as goal

pub returns : goal.returns
returns c = given_back
