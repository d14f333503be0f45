pub mod Change
pub mod Elsewhere
pub mod Encoded
pub mod Layout
pub mod Made
pub mod Pages
pub mod Plan
pub mod Sealed
