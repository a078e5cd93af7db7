-- The place of a link, from the numbers of its ends.
use Rattle.machine_links.proofs.Placing.{place-yes}
use Rattle.machine_links.proofs.grid.Grid.link.Goals as goal

pub returns : goal.returns
returns c = rw (c.rank.ensures, c.nodes.ensures, c.rank-2.ensures) (place-yes _ _ _ _ c.requires)
