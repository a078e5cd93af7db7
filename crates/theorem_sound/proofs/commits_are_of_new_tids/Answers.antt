use Rattle.theorem_sound.proofs.Steps.{each_anew, sound_fewer}
use Rattle.theorem_sound.proofs.commits_are_of_new_tids.Goals as goal

pub returns : goal.returns
returns c = record { anew = each_anew; fewer = sound_fewer }
