pub mod HeadLemmas
pub mod ListingLemmas
pub mod MessageLemmas
pub mod OutputLemmas
pub mod RowCountLemmas
pub mod RowIdsLemmas
pub mod RowsLemmas
