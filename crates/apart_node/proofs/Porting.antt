-- The ports of a node, and what moves through them.
pub mod Seats
pub mod SeveralMoves
pub mod Pools
pub mod Named
pub mod ChangedElement
pub mod Posted
pub mod Rooms
pub mod Placed
