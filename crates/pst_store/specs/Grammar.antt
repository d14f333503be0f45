-- What a store is: of which bytes, and with which header, trees and order of bits. Nothing here walks, marks, remembers or names
-- a fault. The numbers are those of [MS-PST].
use Rattle.std.specs.Prelude.{ℕ, List, ◌++◌}
use Rattle.pst_header.specs.Head.{Head}
use Rattle.pst_header.specs.Header.{end_of}
use Rattle.pst_page.specs.declared.kind.PageKind.TheVariants.{Bbt, Nbt}
use Rattle.pst_space.specs.Apart.{AreApart}
use Rattle.pst_space.specs.Claimed.{unit_total}
use Rattle.pst_block.specs.Walk.{AreGood}
use Rattle.pst_amap.specs.Grammar.{AreExactly, IsOldPage, is_marked_beside, MarkJust}
use Rattle.pst_amap.specs.Lost.{IsRun}
use Rattle.pst_amap.specs.Report.{Maps}
use Rattle.pst_ndb.specs.Database.{IsSpelt, AllHaveTrees, blocks_in, claimed_units}
use Rattle.pst_ndb.specs.Roots.{Roots}
use Rattle.pst_msg.specs.pst_pc.Grammar.{IsPc}
use Rattle.pst_msg.specs.pst_mail.declared.nid.TheConstants.{STORE, ROOT, FOLDER, SEARCH_FOLDER, MESSAGE, ASSOCIATED}
use Rattle.pst_msg.specs.Grammar.{HasProperties, MayHaveNames, IsFolder, IsMessage}
use Rattle.pst_store.specs.Parts.{StoreParts, parts_table, parts_entries, used_in, HasNode}

pub record IsStore (I : List ℕ) (s : StoreParts) : Type 0 where
  -- The header is good, and its fields are these (2.2.2.6).
  pub header : Head I s.header
  -- Under its two roots lie the two B-trees, of good pages: in each page the keys rise, within the bounds that all pages above it
  -- give (2.2.2.7.7).
  pub block_tree : IsSpelt Bbt I (end_of s.header) s.header.bbt s.blocks
  pub node_tree : IsSpelt Nbt I (end_of s.header) s.header.nbt s.nodes
  -- Each block that the block B-tree names is there, at its length, and good (2.2.2.8).
  pub blocks : AreGood I (end_of s.header) (blocks_in I s.blocks)
  -- Nothing overlaps: no two of the map pages, the pages of both trees and the blocks have a byte in common.
  pub apart : AreApart (used_in I s)
  -- The allocation maps are good, and mark the units of all of these, in one order of bits (2.2.2.7.2).
  pub maps : Maps I s.header (claimed_units s.header (used_in I s)) s.order
  -- The old map pages are these: pages at the places of old ones, marked, with nothing in use on them (2.2.2.7.5, 2.2.2.7.6).
  pub old : AreExactly (IsOldPage s.order I (end_of s.header) (used_in I s)) s.old
  -- The lost runs are these: runs, as long as can be, of units that are marked, and where nothing in use and no old map page lies.
  pub lost : AreExactly (IsRun (is_marked_beside s.order I (used_in I s ++ s.old)) (unit_total s.header)) s.lost
  -- The maps mark exactly the units in which something in use lies, or an old map page, or a lost run.
  pub marks : MarkJust s.order I (unit_total s.header) (used_in I s ++ (s.old ++ s.lost))
  -- The data of each node has a tree of blocks, and its subnodes have lists, which nest no deeper than they may (2.2.2.8.3).
  pub trees : AllHaveTrees (parts_table I s) (parts_entries I s)
  -- The message store and the root folder are there: their nodes are property contexts (2.4.3, 2.4.4).
  pub store : HasProperties (parts_table I s) (parts_entries I s) STORE
  pub root : HasProperties (parts_table I s) (parts_entries I s) ROOT
  -- Where the node of the name map is there, it is a property context, whose streams name properties (2.4.7).
  pub names : MayHaveNames (parts_table I s) (parts_entries I s)
  -- A node of the type of folders is a property context, and its tables, where they are there, are table contexts, whose rows name
  -- nodes of the types that belong there; a search folder is a property context (2.4.4).
  pub folders : (r : Roots) → HasNode I s FOLDER r → IsFolder (parts_table I s) (parts_entries I s) r
  pub searches : (r : Roots) → HasNode I s SEARCH_FOLDER r → IsPc (parts_table I s) r
  -- A node of a type of messages is a property context, and its subnodes are: its recipient table and its attachment table, where
  -- they are there, which are table contexts; for each row of the latter the attachment, a property context, and so, in turn, the
  -- message that it embeds (2.4.5, 2.4.6).
  pub messages : (r : Roots) → HasNode I s MESSAGE r → IsMessage (parts_table I s) r
  pub associated : (r : Roots) → HasNode I s ASSOCIATED r → IsMessage (parts_table I s) r
