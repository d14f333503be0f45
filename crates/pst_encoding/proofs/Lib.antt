pub mod TurnLemmas
pub mod TableLemmas
pub mod CyclicLemmas
pub mod PairLemmas
pub mod PassLemmas
pub mod MethodLemmas
