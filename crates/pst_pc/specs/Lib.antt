pub mod Values
pub mod Fault
pub mod Grammar
pub mod Laws
pub mod View
pub mod Left
pub mod LookUps
pub use Rattle.pst_heap.specs as pst_heap
