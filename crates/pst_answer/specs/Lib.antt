pub mod Answer
pub mod Words
