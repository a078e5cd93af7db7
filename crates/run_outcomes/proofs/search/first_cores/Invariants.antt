use Rattle.std.proofs.Common.{◌≡◌, ℕ, ◌<◌, length, slice_index_or}
use Rattle.image_load.specs.Contents.{started}
use Rattle.rv_plain.specs.Cores.{core_of, no_state}
use Rattle.rv_plain.specs.Machine.{start_core}
use Rattle.run_outcomes.proofs.search.first_cores.Given as goal

abbrev pub invariant-loop-core : goal.invariant-loop-core
invariant-loop-core l =
    (length l.cores ≡ l.core)
    × ((k : ℕ) → k < l.core
    → core_of (slice_index_or l.cores k no_state) ≡ start_core l.loaded.settings.cores k ((started l.loaded).entry k))
