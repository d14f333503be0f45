pub mod Alike
pub mod Checked
pub mod Database
pub mod Entries
pub mod Fault
pub mod Marks
pub mod Node
pub mod NodeTable
pub mod Roots
pub mod Source
pub mod Space
pub mod Views
pub mod Known
pub mod Counts
pub mod Trees
pub mod SpanIndex
pub mod SpanIndexes
pub mod SubIndexes
pub mod NodeIndexes
pub use Rattle.pst_block.specs as pst_block
pub use Rattle.pst_subnode.specs as pst_subnode
