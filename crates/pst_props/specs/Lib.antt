pub mod Told
pub mod DocumentIndexes
pub mod NamesIndex
pub mod Path
pub mod Node
pub mod Found
pub mod Property
pub mod Texts
pub use Rattle.pst_verify.specs as pst_verify
pub use Rattle.pst_whole.specs as pst_whole
