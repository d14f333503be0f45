pub mod Apart
pub mod Claimed
pub mod Flags
pub mod Marked
pub mod Step
