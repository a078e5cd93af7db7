pub mod Divisions
pub mod Products
pub mod Splice
