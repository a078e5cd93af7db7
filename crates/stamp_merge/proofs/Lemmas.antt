-- What other crates may cite: logs that fit can be merged, their merge is a run, and logs have one merge.
pub use Rattle.stamp_merge.proofs.Laws.Fitting.{are_logs}
pub use Rattle.stamp_merge.proofs.Laws.Running.{merged_logs_run, after_merged_logs}
pub use Rattle.stamp_merge.proofs.Laws.Unique.{merge-one}
