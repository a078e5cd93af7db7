-- A link of the machine carries the request.
use Rattle.std.proofs.Common.{refl}
use Rattle.rules_maps.specs.Messages.{fits}
use Rattle.test_threads.proofs.members.ask_tid.Goals as goal

pub tell-requires : goal.tell-requires
unfolding fits
tell-requires c = rw (c.requires.settings, c.requires.node) (record { fits = refl; line = tt; tid = tt })
