-- As many as were sent are laid out.
use Rattle.std.proofs.Common.{sym, ap, ◌∙◌, length}
use Rattle.machine_links.proofs.Laid.{length-laid}
use Rattle.machine_links.proofs.lane.Lane.sent.Goals as goal

pub returns : goal.returns
returns c = sym (length-laid _ c.self.inside.sent) ∙ ap length c.self.view_is
