pub mod DatabaseLaws
pub mod MarkLaws
pub mod NodeLemmas
pub mod SpaceLaws
pub mod SpaceLemmas
pub mod UnitLemmas
pub mod CountLemmas
pub mod ListingLaws
pub mod SpanLemmas
pub mod SpanIndexesLemmas
pub mod SubIndexesLemmas
pub mod NodeIndexesLemmas
pub use Rattle.pst_subnode.proofs as pst_subnode
