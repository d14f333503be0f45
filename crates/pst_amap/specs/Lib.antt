pub mod Exact
pub mod Grammar
pub mod Lost
pub mod Map
pub mod Marks
pub mod Old
pub mod Report
pub mod Values
