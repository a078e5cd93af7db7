use Rattle.theorem_sound.proofs.Steps.{each_sound_after, sound_at_start}
use Rattle.theorem_sound.proofs.machines_stay_sound.Goals as goal

pub returns : goal.returns
returns c = record { start = sound_at_start; after = each_sound_after }
