use Rattle.std.proofs.Common.{◌≡◌, ◌<◌, ℕ, get_or, None, false}
use Rattle.spec_cache.specs.Home.{reads_in}
use Rattle.spec_cache.proofs.marks.any_reads.Given as goal

abbrev pub invariant-loop-way : goal.invariant-loop-way
invariant-loop-way l = (j : ℕ) → j < l.way-index → reads_in l.dirs l.home (get_or l.ways j None) ≡ false
