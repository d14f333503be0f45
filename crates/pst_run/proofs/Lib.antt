pub mod AnswerLemmas
pub mod LineLemmas
pub mod Loading
pub mod OutsideLemmas
pub mod RunLemmas
pub mod SaidLemmas
pub mod WholeLemmas
