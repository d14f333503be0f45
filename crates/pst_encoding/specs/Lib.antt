pub mod Tables
pub mod Permute
pub mod Cyclic
pub mod Method
pub mod Codec
pub mod Pairs
