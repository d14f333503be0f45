pub use Rattle.pst_mail.specs.Nid
pub use Rattle.pst_mail.specs.Values
pub use Rattle.pst_mail.specs.Fault
pub use Rattle.pst_mail.specs.Grammar
pub use Rattle.pst_mail.specs.NodeLaw
pub use Rattle.pst_mail.specs.Shown
pub use Rattle.pst_mail.specs.Left
pub use Rattle.pst_mail.specs.View
pub use Rattle.pst_mail.specs.NodeLookUps
pub use Rattle.pst_mail.specs.LookUps
pub use Rattle.pst_remembered.specs.Keys
pub use Rattle.pst_remembered.specs.Roles
pub use Rattle.pst_remembered.specs.Faults
pub use Rattle.pst_remembered.specs.Broken
pub use Rattle.pst_remembered.specs.RowCounts
pub use Rattle.pst_remembered.specs.RowNames
pub mod Laws
pub mod Indexes
pub mod Known
pub mod Checker
pub mod Counts
pub mod Growth
pub mod Rest
pub mod Steps
pub mod Frames
pub use Rattle.pst_pc.specs as pst_pc
pub use Rattle.pst_names.specs as pst_names
pub use Rattle.pst_mail.specs as pst_mail
pub use Rattle.pst_remembered.specs as pst_remembered
