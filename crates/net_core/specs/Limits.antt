-- How much a machine does.
use Rattle.std.specs.Prelude.{ℕ, ◌^◌}

-- the events that a machine takes, and so its TIDs
abbrev pub machine_limit : ℕ
machine_limit = 2 ^ 40
