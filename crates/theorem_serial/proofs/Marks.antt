-- Marked lines, their masks and how many a Commit counts; and what a commit stored of them.
pub mod CoreMarks
pub mod CoreMarking
pub mod MarksKept
pub mod CommitMasks
pub mod StoredKept
pub mod NamedKept
pub mod CountsKept
pub mod ReadsKept
pub mod AfterKept
pub mod DirRecords
pub mod MaskLaws
