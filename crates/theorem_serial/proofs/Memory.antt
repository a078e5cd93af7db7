-- What lies in memory, and messages that go to the homes of their lines.
pub mod CoreHomes
pub mod HomesKept
