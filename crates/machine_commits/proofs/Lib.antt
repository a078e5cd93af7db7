pub mod Lemmas
mod Forgetting
mod Places
mod Printed
