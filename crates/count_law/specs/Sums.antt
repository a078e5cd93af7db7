-- How the counts of a core add up.
use Rattle.std.specs.Prelude.{ℕ, ◌+◌, ◌<◌, ◌≡◌, ◌==◌, Bool, List, get_or, count_by, sum_by, filter, if◌then◌else◌}
use Rattle.image_load.specs.Start.{Start}
use Rattle.rules_riscv.specs.Starting.{AfterRun}
use Rattle.tcc_base.specs.declared.access.Commit.{Commit}
use Rattle.rules_maps.specs.Nodes.{Event}
use Rattle.rules_tcc.specs.Step.{History}
use Rattle.watch_count.specs.Tables.{nothing}
use Rattle.watch_count.specs.declared.tables.CoreCounts.{CoreCounts}
use Rattle.watch_run.specs.Looked.{counts_of_run}

-- the core's row in the counts of this run
abbrev pub row_of : Start → List Event → (core : ℕ) → CoreCounts
row_of s es c = get_or (counts_of_run s es).cores c nothing

-- a commit of this core
abbrev pub is_of : (core : ℕ) → Commit → Bool
is_of c m = m.core.0 == c

-- the commits of this core, and the instructions of all of them
abbrev pub commits_of : (core : ℕ) → List Commit → ℕ
commits_of c ms = count_by (is_of c) ms

abbrev pub instructions_of : (core : ℕ) → List Commit → ℕ
instructions_of c ms = sum_by (λ m. m.n) (filter (is_of c) ms)

-- what the run has come to, and the core's counts
pub record AddUp (h : History) (core : ℕ) (k : CoreCounts) : Type 0 where
  -- each instruction that was executed was committed, was lost, or is under way
  pub executed : k.instructions.executed ≡ k.instructions.committed + k.instructions.lost + k.instructions.still_open
  -- those under way are those of the attempt that the core is in
  pub under_way : k.instructions.still_open ≡ (h.world.cores core).n
  -- each attempt that began was committed, was violated, or is under way
  pub begun : k.attempts.begun ≡ k.attempts.committed + k.attempts.violated + k.attempts.still_open
  -- one is under way just where the core has executed some instruction of it
  pub one_open : k.attempts.still_open ≡ (if (h.world.cores core).n == 0 then 0 else 1)
  -- each commit of the core counts once
  pub commits : k.attempts.committed ≡ commits_of core h.commits
  -- and its instructions are those committed
  pub instructions : k.instructions.committed ≡ instructions_of core h.commits

-- so it is of each core, after each run of the rules from a program's start
abbrev pub CountsAddUp : Type 0
CountsAddUp = (s : Start) (es : List Event) → AfterRun s es (λ h. (c : ℕ) → c < s.settings.cores → AddUp h c (row_of s es c))
