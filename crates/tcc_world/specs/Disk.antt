-- What a store of files is to a contract, as far as it tells.
use Rattle.std.specs.Prelude.{ℕ, Bool, List, Option}

pub record Disk : Type 0 where
  -- whether a write makes the contents of its name known
  pub tells : Bool
  -- by name, where the store tells them
  pub contents : List ℕ → Option (List ℕ)
  -- how often a read or a write of this name has failed
  pub failed_reads : List ℕ → ℕ
  pub failed_writes : List ℕ → ℕ
