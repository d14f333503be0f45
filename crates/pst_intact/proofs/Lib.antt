pub mod IntactLemmas
pub use Rattle.pst_store.proofs as pst_store
