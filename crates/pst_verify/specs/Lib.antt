pub mod Counts
pub mod Report
pub mod Verified
pub mod LookUps
pub use Rattle.pst_reach.specs.pst_store as pst_store
pub use Rattle.pst_reach.specs as pst_reach
pub use Rattle.pst_reach.specs.pst_store.pst_msg as pst_msg
