pub mod Ask
pub mod Nid
pub mod Property
pub mod Verbs
pub mod Words
pub use Rattle.clap.specs as clap
