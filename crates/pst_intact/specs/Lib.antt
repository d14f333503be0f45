pub mod Fault
pub mod Sought
pub mod View
pub use Rattle.pst_store.specs as pst_store
pub use Rattle.pst_store.specs.pst_msg as pst_msg
