mod Lists
mod Written
mod Growing
pub mod Lemmas
