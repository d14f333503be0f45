pub mod Parts
pub mod Grammar
pub mod Fault
pub mod Values
pub mod Laws
pub mod Kind
pub mod View
pub mod LookUps
pub use Rattle.pst_msg.specs as pst_msg
