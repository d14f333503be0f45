pub mod CountLemmas
pub mod VerifyLemmas
pub mod LookUpLaws
