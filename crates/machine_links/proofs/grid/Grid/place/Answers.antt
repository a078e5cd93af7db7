-- The place by the test that was made.
use Rattle.std.proofs.Common.{sym, ◌∙◌}
use Rattle.machine_links.proofs.Placing.{place-none}
use Rattle.machine_links.proofs.grid.Grid.place.Goals as goal

pub returns-then-is_link : goal.returns-then-is_link
returns-then-is_link c = sym c.link.ensures

pub returns-else-is_link : goal.returns-else-is_link
returns-else-is_link c = sym (place-none _ _ _ _ (sym c.is_link.ensures ∙ c.if-is_link.false))
