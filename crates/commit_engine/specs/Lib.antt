pub mod Engine
pub mod Sent
pub mod Solo
