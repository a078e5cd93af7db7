pub mod Numbers
pub mod Numerals
pub mod Fields
pub mod Fronts
pub mod Texts
pub mod Lemmas
