pub mod Booleans
pub mod Numbers
pub mod Lists
pub mod Words
pub mod Nodes
pub mod Lemmas
