pub mod PcLemmas
pub mod PcLaws
pub mod AlikeLaws
pub mod LookUpLaws
pub mod AskLemmas
