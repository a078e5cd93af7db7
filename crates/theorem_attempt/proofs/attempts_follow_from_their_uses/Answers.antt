use Rattle.theorem_attempt.proofs.FollowsRun.{attempts-fit}
use Rattle.theorem_attempt.proofs.attempts_follow_from_their_uses.Goals as goal

pub returns : goal.returns
returns c = attempts-fit
