pub mod Answer
pub mod Hint
pub mod Laws
pub mod Loading
pub mod Outside
pub mod Refusal
pub mod Run
pub use Rattle.pst_export.specs.Export
