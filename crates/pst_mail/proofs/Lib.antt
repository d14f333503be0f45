pub mod SubnodeLemmas
pub mod MessageLemmas
pub mod LimitLemmas
pub mod MessageLaws
pub mod ContentsLaws
pub mod AlikeLemmas
pub mod ViewLemmas
pub mod FolderLemmas
pub mod LookUpLaws
pub use Rattle.pst_pc.proofs as pst_pc
pub use Rattle.pst_names.proofs as pst_names
