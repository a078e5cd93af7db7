use Rattle.outcomes_law.proofs.Reports.{reports-end-with-their-state}
use Rattle.outcomes_law.proofs.reports_end_with_their_state.Goals as goal

pub returns : goal.returns
returns c = reports-end-with-their-state
