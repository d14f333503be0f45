-- The indexes that the documents of one file keep, one after another.
use Rattle.pst_block.specs.Table.{Table}
use Rattle.pst_props.specs.declared.document_indexes.DocumentIndexes.{DocumentIndexes}
use Rattle.pst_ndb.specs.NodeIndexes.{AreNodeIndexes}

-- among these blocks each index that they keep is one of its list, or of its data
pub record AreDocumentIndexes (t : Table) (i : DocumentIndexes) : Type 0 where
  pub shown : AreNodeIndexes t i.shown
  pub recipients : AreNodeIndexes t i.recipients
  pub attachments : AreNodeIndexes t i.attachments
