pub mod Entry
pub mod Fault
pub mod Good
pub mod Page
pub mod Trailer
