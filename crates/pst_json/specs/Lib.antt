pub use Rattle.pst_value_json.specs.pst_text.Line
pub use Rattle.pst_value_json.specs.pst_text.Parts
pub use Rattle.pst_value_json.specs.pst_text.Names
pub use Rattle.pst_value_json.specs.Value
pub use Rattle.pst_value_json.specs.Places
pub use Rattle.pst_value_json.specs.Filed
pub use Rattle.pst_value_json.specs.Props
pub use Rattle.pst_value_json.specs.Cells
pub use Rattle.pst_props.specs.Told
pub use Rattle.pst_props.specs.DocumentIndexes
pub use Rattle.pst_props.specs.NamesIndex
pub use Rattle.pst_props.specs.Path
pub use Rattle.pst_props.specs.Node
pub use Rattle.pst_props.specs.Found
pub use Rattle.pst_props.specs.Property
pub use Rattle.pst_props.specs.Texts
pub mod Head
pub mod Nodes
pub mod Check
pub mod Folders
pub mod FolderRows
pub mod Contents
pub mod Messages
pub mod Listings
pub mod RowCounts
pub mod RowIds
pub mod Output
pub use Rattle.pst_verify.specs as pst_verify
pub use Rattle.pst_verify.specs.pst_store as pst_store
pub use Rattle.pst_verify.specs.pst_msg as pst_msg
pub use Rattle.pst_ndb.specs as pst_ndb
pub use Rattle.pst_whole.specs as pst_whole
pub use Rattle.pst_whole.specs.pst_intact as pst_intact
pub use Rattle.pst_whole.specs.pst_damage as pst_damage
pub use Rattle.pst_whole.specs.pst_remains as pst_remains
pub use Rattle.pst_value_json.specs.pst_pc as pst_pc
pub use Rattle.pst_value_json.specs.pst_datatree as pst_datatree
pub use Rattle.pst_props.specs as pst_props
