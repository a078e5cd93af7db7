-- What the contracts of this crate cite.
pub mod Subject
pub mod Lane
pub mod Laid
pub mod Pieces
pub mod LaneInside
pub mod Passed
pub mod Places
pub mod Flights
pub mod FlightsInside
