pub mod CellLemmas
pub mod ColumnLemmas
pub mod DocLemmas
pub mod MemberLemmas
pub mod PenLemmas
pub mod PlaceLemmas
pub mod PropLemmas
pub use Rattle.pst_text.proofs as pst_text
