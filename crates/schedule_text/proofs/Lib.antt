mod EachLine
mod FirstLines
mod Numbers
pub mod Lemmas
mod Texts
mod Words
pub mod Ascii
