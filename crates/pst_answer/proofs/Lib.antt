mod DamageLemmas
pub mod DeclinedLemmas
mod DecodedLemmas
pub mod WholeLemmas
