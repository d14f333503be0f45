pub mod Each
pub mod Fault
pub mod First
pub mod Kind
