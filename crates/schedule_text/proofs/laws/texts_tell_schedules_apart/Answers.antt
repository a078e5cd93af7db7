use Rattle.schedule_text.proofs.Texts.{one_text}
use Rattle.schedule_text.proofs.laws.texts_tell_schedules_apart.Goals as goal

pub returns : goal.returns
returns c = one_text
