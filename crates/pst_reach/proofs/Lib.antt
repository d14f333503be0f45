pub mod SearchLemmas
pub mod FolderLemmas
pub mod LevelLemmas
pub mod StoreLemmas
pub mod LoopLemmas
pub mod ListLemmas
pub mod PathLemmas
pub mod WayLaws
pub mod ReachLaws
pub mod RootLemmas
pub mod CountLaws
pub use Rattle.pst_store.proofs as pst_store
