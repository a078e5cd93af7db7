use Rattle.std.proofs.Common.{arith}
use Rattle.spec_cache.proofs.Marked.{reads_beyond}
use Rattle.spec_cache.proofs.marks.any_reads.Goals as goal

pub returns : goal.returns
returns c = reads_beyond c.args.dirs c.args.home c.args.ways.now c.loop-way.way-index (omega arith) c.loop-way.invariant
