use Rattle.theorem_attempt.proofs.SoundDeliver.{cores-sound}
use Rattle.theorem_attempt.proofs.cores_stay_sound.Goals as goal

pub returns : goal.returns
returns c = cores-sound
