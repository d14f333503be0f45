pub mod Lost
pub mod Nodes
pub mod Laws
pub mod View
pub use Rattle.pst_intact.specs as pst_intact
pub use Rattle.pst_damage.specs as pst_damage
pub use Rattle.pst_remains.specs as pst_remains
