-- The machine with one bus, to be read in this order: the state; an instruction and a commit (Exec, Commit); how the other cores take a
-- commit (Take); all of it as one step and as a run (Step); what may be chosen, and when all is done (Useful); schedules worked by hand
-- (Told, Cases, Filling).
pub mod State
pub mod Commit
pub mod Exec
pub mod Take
pub mod Step
pub mod Useful
pub mod Told
pub mod Cases
pub mod Filling
