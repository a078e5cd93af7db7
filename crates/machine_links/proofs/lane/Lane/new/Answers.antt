-- Nothing is laid out.
use Rattle.std.proofs.Common.{refl}
use Rattle.machine_links.specs.Laid.{laid}
use Rattle.machine_links.proofs.lane.Lane.new.Goals as goal

pub returns : goal.returns
unfolding laid
returns c = refl
