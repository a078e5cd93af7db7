-- The proofs of this crate.
pub mod Picked
pub mod Tables
pub mod Numbers
pub mod SameMessages
pub mod SameCores
pub mod CoreTables
pub mod SameDirectories
pub mod DirTables
pub mod SameCommits
pub mod SameMachines
pub mod Lemmas
pub mod CoreRows
pub mod Written
pub mod Each
pub mod Flying
pub mod DirRows
pub mod Reading
