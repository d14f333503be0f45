pub mod Value
pub mod Places
pub mod Filed
pub mod Props
pub mod Columns
pub mod Cells
pub mod Laws
pub mod Leaf
pub mod Pen
pub use Rattle.pst_datatree.specs as pst_datatree
pub use Rattle.pst_value.specs as pst_value
pub use Rattle.pst_names.specs as pst_names
pub use Rattle.pst_pc.specs as pst_pc
pub use Rattle.pst_tc.specs as pst_tc
pub use Rattle.pst_text.specs as pst_text
