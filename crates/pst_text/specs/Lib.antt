pub mod Names
pub mod Parts
pub mod Line
pub mod Kept
pub mod Text
pub mod Quoted
pub mod Characters
pub mod Time
