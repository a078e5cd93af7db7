-- What the contracts of this crate cite.
pub mod Chains
pub mod Changes
pub mod Counted
pub mod Digests
pub mod Edges
pub mod Explored
pub mod HowMany
pub mod Left
pub mod Next
pub mod Outcomes
pub mod Results
pub mod Serially
pub mod States
pub mod Stuck
pub mod Tried
pub mod Ways
