-- The merge of logs that fit is a run, and logs have one merge.
pub mod Fitting
pub mod Running
pub mod Unique
