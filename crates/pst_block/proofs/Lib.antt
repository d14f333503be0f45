pub mod BlockLemmas
pub mod BlockLaws
pub mod TableLemmas
pub mod UnitLemmas
pub mod WalkLemmas
pub mod WalkLaws
