pub mod Cores
pub mod Orders
pub mod Plain
pub mod Program
pub mod Ram
pub mod Registers
