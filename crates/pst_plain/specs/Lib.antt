pub mod Written
pub mod Carried
pub mod Blocks
pub mod Twin
pub mod Laws
pub mod Faults
