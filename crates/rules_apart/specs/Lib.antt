-- What the contracts of the crates above cite.
pub mod Carried
pub mod Filled
pub mod Fitting
