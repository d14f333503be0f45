-- What is known stays true with other indexes, more page maps, more that was asked, more faults, and more that was counted.
use Rattle.pst_fault.specs.Fault.{at_node}
use Rattle.pst_block.specs.Table.{Table}
use Rattle.pst_pc.specs.pst_heap.declared.maps.PageMaps.{PageMaps}
use Rattle.pst_pc.specs.pst_heap.PageMaps.{AreMapsTrue}
use Rattle.pst_ndb.specs.declared.node_indexes.NodeIndexes.{NodeIndexes}
use Rattle.pst_ndb.specs.NodeIndexes.{AreNodeIndexes}
use Rattle.pst_remembered.specs.declared.asked.KnownAsks.{KnownAsks}
use Rattle.pst_remembered.specs.declared.faults.Faults.{Faults}
use Rattle.pst_msg.specs.declared.indexes.Indexes.{Indexes}
use Rattle.pst_msg.specs.declared.known.KnownParts.{KnownParts}
use Rattle.pst_remembered.specs.declared.row_counts.RowCounts.{RowCounts}
use Rattle.pst_remembered.specs.declared.row_names.RowNames.{RowNames}
use Rattle.pst_remembered.specs.Asked.{AreAskedTrue}
use Rattle.pst_remembered.specs.Broken.{context_part}
use Rattle.pst_remembered.specs.Faults.{AreFaultsOf}
use Rattle.pst_msg.specs.Indexes.{AreIndexes}
use Rattle.pst_msg.specs.Known.{IsTrueOf}
use Rattle.pst_remembered.specs.RowCounts.{AreRowCounts}
use Rattle.pst_remembered.specs.RowNames.{AreRowNames}
use Rattle.pst_msg.proofs.KnownLemmas.{held_later, message_later, attachment_later}

-- those of a context, and its faults
pub aids_turned : (t : Table) (k : KnownParts) (index : NodeIndexes) (maps : PageMaps) (asked : KnownAsks) (broken : Faults) → IsTrueOf t k → AreNodeIndexes t index → AreMapsTrue t maps → AreAskedTrue t asked → AreFaultsOf at_node (context_part t) broken → IsTrueOf t (record k { index = index; maps = maps; asked = asked; broken = broken })
aids_turned t k index maps asked broken is turned more kept faults = record {
  contexts = is.contexts;
  messages = is.messages;
  attachments = is.attachments;
  lists = is.lists;
  index = turned;
  indexes = is.indexes;
  maps = more;
  asked = kept;
  row_names = is.row_names;
  row_counts = is.row_counts;
  broken = faults;
  broken_lists = is.broken_lists;
  messages_in = λ s there. message_later t k _ s (λ q h. h) (λ q h. h) (is.messages_in s there);
  attachments_in = λ s there. attachment_later t k _ s (λ q h. h) (λ q h. h) (is.attachments_in s there);
  lists_in = λ s there. held_later t k _ s (λ q h. h) (λ q h. h) (is.lists_in s there);
}

-- indexes of the lists of messages
pub indexes_turned : (t : Table) (k : KnownParts) (indexes : Indexes) → IsTrueOf t k → AreIndexes t indexes → IsTrueOf t (record k { indexes = indexes })
indexes_turned t k indexes is turned = record {
  contexts = is.contexts;
  messages = is.messages;
  attachments = is.attachments;
  lists = is.lists;
  index = is.index;
  indexes = turned;
  maps = is.maps;
  asked = is.asked;
  row_names = is.row_names;
  row_counts = is.row_counts;
  broken = is.broken;
  broken_lists = is.broken_lists;
  messages_in = λ s there. message_later t k _ s (λ q h. h) (λ q h. h) (is.messages_in s there);
  attachments_in = λ s there. attachment_later t k _ s (λ q h. h) (λ q h. h) (is.attachments_in s there);
  lists_in = λ s there. held_later t k _ s (λ q h. h) (λ q h. h) (is.lists_in s there);
}

-- what rows name
pub names_turned : (t : Table) (k : KnownParts) (row_names : RowNames) → IsTrueOf t k → AreRowNames t row_names → IsTrueOf t (record k { row_names = row_names })
names_turned t k row_names is turned = record {
  contexts = is.contexts;
  messages = is.messages;
  attachments = is.attachments;
  lists = is.lists;
  index = is.index;
  indexes = is.indexes;
  maps = is.maps;
  asked = is.asked;
  row_names = turned;
  row_counts = is.row_counts;
  broken = is.broken;
  broken_lists = is.broken_lists;
  messages_in = λ s there. message_later t k _ s (λ q h. h) (λ q h. h) (is.messages_in s there);
  attachments_in = λ s there. attachment_later t k _ s (λ q h. h) (λ q h. h) (is.attachments_in s there);
  lists_in = λ s there. held_later t k _ s (λ q h. h) (λ q h. h) (is.lists_in s there);
}

-- how many rows there are
pub counts_turned : (t : Table) (k : KnownParts) (row_counts : RowCounts) → IsTrueOf t k → AreRowCounts t row_counts → IsTrueOf t (record k { row_counts = row_counts })
counts_turned t k row_counts is turned = record {
  contexts = is.contexts;
  messages = is.messages;
  attachments = is.attachments;
  lists = is.lists;
  index = is.index;
  indexes = is.indexes;
  maps = is.maps;
  asked = is.asked;
  row_names = is.row_names;
  row_counts = turned;
  broken = is.broken;
  broken_lists = is.broken_lists;
  messages_in = λ s there. message_later t k _ s (λ q h. h) (λ q h. h) (is.messages_in s there);
  attachments_in = λ s there. attachment_later t k _ s (λ q h. h) (λ q h. h) (is.attachments_in s there);
  lists_in = λ s there. held_later t k _ s (λ q h. h) (λ q h. h) (is.lists_in s there);
}
