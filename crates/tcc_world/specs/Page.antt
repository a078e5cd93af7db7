-- What a place to write to is to a contract, as far as it tells.
use Rattle.std.specs.Prelude.{ℕ, List, Option}

pub record Page : Type 0 where
  -- the bytes that were taken, where they are told
  pub bytes : Option (List ℕ)
  -- how often it has failed
  pub faults : ℕ

-- a page before and after a call
pub record Written : Type 0 where
  pub before : Page
  pub after : Page
