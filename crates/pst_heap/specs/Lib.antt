pub mod PageMap
pub mod Values
pub mod Grammar
pub mod Fault
pub mod PageMaps
pub mod View
pub mod Items
pub mod Laws
