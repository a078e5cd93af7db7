-- How much a machine does, and how much a text holds.
use Rattle.std.specs.Prelude.{ℕ, ◌-◌, ◌^◌}

-- the events of a run, and so its TIDs
abbrev pub run_limit : ℕ
run_limit = 4194304

-- the events that a schedule's text has, and the most that a command may ask for
abbrev pub text_limit : ℕ
text_limit = 4194304

-- the instructions of an attempt
abbrev pub attempt_limit : ℕ
attempt_limit = 2 ^ 32 - 1
