pub mod EncodeLemmas
pub mod ImageLemmas
pub mod LayoutLemmas
pub mod PageLemmas
pub mod PlanLemmas
pub mod SealLemmas
pub mod WriteLemmas
