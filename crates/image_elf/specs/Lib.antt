pub mod Elf
pub mod Tests
pub mod Faults
