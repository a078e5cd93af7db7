-- What a report shows of a machine at the end of a run.
use Rattle.std.specs.Prelude.{ℕ, List}
use Rattle.tcc_base.specs.declared.access.Commit.{Commit}
use Rattle.tcc_base.specs.declared.access.CoreEnd.{CoreEnd}

-- a core as its committed transactions left it; `regs` are the values of x0 to x31
pub record ShownCore : Type 0 where
  pub ended : CoreEnd
  pub pc : ℕ
  pub regs : List ℕ
  pub console : List ℕ

-- the commits from first to last, the cores by number, and RAM: `count` words from the address `base` on, with the value
-- that each word has and the value that it was loaded with
pub record Shown : Type 0 where
  pub commits : List Commit
  pub cores : List ShownCore
  pub base : ℕ
  pub count : ℕ
  pub ram : ℕ → ℕ
  pub loaded : ℕ → ℕ
