use Rattle.theorem_serial.proofs.OneCore.UsedWords.{attempts_sound}
use Rattle.theorem_serial.proofs.attempts_are_sound_or_doomed.Goals as goal

pub returns : goal.returns
returns c = record { sound = attempts_sound }
