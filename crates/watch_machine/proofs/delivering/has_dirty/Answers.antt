-- The mask of the frame's dirty words, and no dirty word where there is no frame.
use Rattle.std.proofs.Common.{sym, refl}
use Rattle.core_node.specs.View.{core_of}
use Rattle.watch_core.proofs.Lemmas.{clean, dirty-bit}
use Rattle.watch_machine.proofs.delivering.has_dirty.Goals as goal

pub returns-in-Some : goal.returns-in-Some
returns-in-Some c = rw (c.in-Some.ensures.1.dirty, dirty-bit) refl

pub returns-in-None : goal.returns-in-None
unfolding core_of
returns-in-None c = sym (clean c.args.core.now.cache c.args.line.0 c.in-None.ensures)
