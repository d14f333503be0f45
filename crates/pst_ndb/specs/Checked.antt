-- What a check answers of a file without fault.
use Rattle.std.specs.Prelude.{◌≡◌, length}
use Rattle.pst_bytes.specs.declared.Image.{Image}
use Rattle.pst_bytes.specs.Image.{bytes_of}
use Rattle.pst_header.specs.declared.header.Header.{Header}
use Rattle.pst_amap.specs.Report.{IsReport}
use Rattle.pst_ndb.specs.declared.check.Checked.{Checked}
use Rattle.pst_ndb.specs.Counts.{AreExpanded}
use Rattle.pst_ndb.specs.Entries.{page_total, block_list, node_list, block_table}
use Rattle.pst_ndb.specs.Marks.{MapsMark}
use Rattle.pst_ndb.specs.Space.{space_claimed}
use Rattle.pst_ndb.specs.Views.{image_of_ndb, header_of, table_of_ndb, nodes_of}

-- What is answered of a file with this header.
pub record IsCheckedOf (file : Image) (h : Header) (c : Checked) : Type 0 where
  -- the node database: of which file, with which header, blocks and nodes
  pub image : image_of_ndb c.ndb ≡ file
  pub header : header_of c.ndb ≡ h
  pub table : table_of_ndb c.ndb ≡ block_table (bytes_of file) h
  pub nodes : nodes_of c.ndb ≡ node_list (bytes_of file) h
  -- what is reported of the maps: the order of bits, the lost runs and the old map pages; the maps mark these and the space in
  -- use, and nothing else
  pub report : IsReport (bytes_of file) h (space_claimed (bytes_of file) h) c.map
  pub marks : MapsMark (bytes_of file) h c.map
  -- the work: each page of the trees and each block once, and each internal block once to which chains of identifiers lead from
  -- the nodes; no context was looked at, and no folder walked from
  pub pages : c.work.pages ≡ page_total (bytes_of file) h
  pub sums : c.work.sums ≡ length (block_list (bytes_of file) h)
  pub expansions : AreExpanded (table_of_ndb c.ndb) (nodes_of c.ndb) c.work.expansions
  pub contexts : c.work.contexts ≡ 0
  pub walked : c.work.walked ≡ 0
