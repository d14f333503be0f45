pub mod Nid
pub mod Values
pub mod Fault
pub mod Grammar
pub mod Laws
pub mod NodeLaw
pub mod Shown
pub mod Left
pub mod View
pub mod NodeLookUps
pub mod LookUps
pub use Rattle.pst_pc.specs as pst_pc
pub use Rattle.pst_names.specs as pst_names
