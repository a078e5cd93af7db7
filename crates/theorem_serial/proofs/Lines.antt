-- Lines: their owners, tags and sharers, and which of them a core holds or awaits.
pub mod CoreHolds
pub mod SharersKept
pub mod GetsKept
pub mod LineOwners
