-- The vendor of the world.
use Rattle.std.proofs.Common.{◌∙◌, ap}
use Rattle.net_core.specs.Machine.{Machine, world_of}
use Rattle.net_core.proofs.system.System.next_tid.Goals as goal

pub returns : goal.returns
unfolding world_of
returns c = c.next.ensures ∙ ap (λ (m : Machine). m.next) c.self.view_is
