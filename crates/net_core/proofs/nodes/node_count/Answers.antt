use Rattle.std.proofs.Common.{sym}
use Rattle.net_core.proofs.Places.{nodes-length}
use Rattle.net_core.proofs.nodes.node_count.Goals as goal

pub returns : goal.returns
returns c = rw (c.cores.ensures.value, c.dirs.ensures.value) (sym (nodes-length c.args.config.now))
