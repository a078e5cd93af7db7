-- What a store on disk keeps of its faults.
use Rattle.std.specs.Prelude.{ℕ, List}

pub record Booked : Type 0 where
  pub unread : List (List ℕ)  -- the names of the failed reads, in order
  pub unwritten : List (List ℕ)  -- the names of the failed writes, in order
