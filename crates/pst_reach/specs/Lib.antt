pub mod Reach
pub mod Levels
pub mod Path
pub mod Search
pub mod Laws
pub use Rattle.pst_store.specs as pst_store
pub use Rattle.pst_intact.specs as pst_intact
