-- The proofs of this crate.
mod Below
mod Flying
mod Granted
mod Noted
mod Together
mod Traffic
