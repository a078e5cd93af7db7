use Rattle.console_law.proofs.Consoles.{consoles-are-the-reports}
use Rattle.console_law.proofs.consoles_are_the_reports.Goals as goal

pub returns : goal.returns
returns c = consoles-are-the-reports
