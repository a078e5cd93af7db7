-- What the contracts of this crate and of those above it cite.
pub mod Peers
pub mod Ports
pub mod Moves
pub mod RoomInside
pub mod Node
pub mod Choice
pub mod Tally
pub mod PortInside
pub mod Drawn
pub mod Deeds
pub mod Linked
pub mod Acts
pub mod NodeInside
