use Rattle.theorem_live.proofs.FitSteps.{links_fit}
use Rattle.theorem_live.proofs.messages_fit_their_links.Goals as goal

pub returns : goal.returns
returns c = record { fit = links_fit }
