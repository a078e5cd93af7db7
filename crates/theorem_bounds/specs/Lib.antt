pub mod Bounds
pub mod Messages
pub mod Riscv
