-- The proofs of this crate.
mod Lists
mod Flying
mod Written
