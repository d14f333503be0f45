pub mod LostLemmas
pub mod WholeLemmas
pub mod WholeLaws
