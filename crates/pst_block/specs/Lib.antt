pub mod Block
pub mod Fault
pub mod Good
pub mod Walk
pub mod Table
pub mod Blocks
pub mod Source
