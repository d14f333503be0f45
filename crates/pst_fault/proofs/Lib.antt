pub mod EachLemmas
pub mod FirstLemmas
pub mod GeneralLemmas
pub mod JoinLemmas
pub mod ToldLemmas
