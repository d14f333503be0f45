pub mod StoreLaws
pub mod StoreLemmas
pub mod KindLemmas
pub use Rattle.pst_msg.proofs as pst_msg
