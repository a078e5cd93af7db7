-- The directories so far.
use Rattle.std.proofs.Common.{◌<◌, ℕ}
use Rattle.machine_dirs.specs.Bank.{dirs_of}
use Rattle.machine_parts.specs.Directories.{IsGoodDirectory}
use Rattle.machine_parts.proofs.dirs.are_good_directories.Given as goal

abbrev pub invariant-loop-d : goal.invariant-loop-d
invariant-loop-d l = (ram : ℕ → ℕ) (d : ℕ) → d < l.d → IsGoodDirectory l.fn.dirs.settings d (dirs_of ram l.fn.dirs d)
