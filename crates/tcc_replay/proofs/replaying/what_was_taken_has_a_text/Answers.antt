-- Each event names what the machine has.
use Rattle.tcc_replay.proofs.Formed.{has-text}
use Rattle.tcc_replay.proofs.replaying.what_was_taken_has_a_text.Goals as goal

pub returns : goal.returns
returns c = has-text
