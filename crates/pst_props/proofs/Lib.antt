pub mod AttachmentLemmas
pub mod FoundLemmas
pub mod NameLemmas
pub mod PathLemmas
pub mod PropertyLemmas
