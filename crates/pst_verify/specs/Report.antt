-- What is reported of a store.
use Rattle.std.specs.Prelude.{◌≡◌, ℕ, ◌+◌, List, length}
use Rattle.pst_btree.specs.Tree.{pages_of}
use Rattle.pst_reach.specs.pst_store.pst_msg.Counts.{IsRaised}
use Rattle.pst_reach.specs.pst_store.pst_msg.Values.{is_folder, is_message}
use Rattle.pst_ndb.specs.Counts.{AreExpanded, capped}
use Rattle.pst_ndb.specs.Database.{blocks_in}
use Rattle.pst_ndb.specs.Roots.{all_roots}
use Rattle.pst_reach.specs.pst_store.Parts.{StoreParts, parts_table, parts_entries}
use Rattle.pst_reach.specs.Reach.{AreAllReached, AreAllUnreached}
use Rattle.pst_reach.specs.Levels.{reaches_of, folders_in}
use Rattle.pst_reach.specs.Path.{unreached_of}
use Rattle.pst_verify.specs.declared.report.Report.{Report}
use Rattle.pst_verify.specs.Counts.{count_of}

-- what is told of it
pub record IsToldOf (I : List ℕ) (s : StoreParts) (report : Report) : Type 0 where
  -- how many pages both trees have, how many blocks and nodes there are, how many of these are folders and how many messages
  pub pages : report.pages ≡ length (pages_of s.blocks) + length (pages_of s.nodes)
  pub blocks : report.blocks ≡ length (blocks_in I s.blocks)
  pub nodes : report.nodes ≡ length (parts_entries I s)
  pub folders : report.folders ≡ count_of is_folder (all_roots (parts_entries I s))
  pub messages : report.messages ≡ count_of is_message (all_roots (parts_entries I s))
  -- The order of bits of the maps, and the lost runs.
  pub order : report.order ≡ s.order
  pub lost : report.lost.items ≡ s.lost
  -- the folders that the root folder reaches, and those that it does not
  pub reached : report.reached.items ≡ reaches_of (parts_table I s) (parts_entries I s)
  pub unreached : report.unreached.items ≡ unreached_of (parts_table I s) (parts_entries I s)

pub record IsReportOf (I : List ℕ) (s : StoreParts) (report : Report) : Type 0 where
  pub told : IsToldOf I s report
  -- The folders that are reached are all to which a way leads from the root folder, each with the least number of rows that lead
  -- to it and its least parent; and the others are all to which none does.
  pub reached : AreAllReached (parts_table I s) (parts_entries I s) report.reached.items
  pub unreached : AreAllUnreached (parts_table I s) (parts_entries I s) report.unreached.items
  -- The work: each page and each block once; each internal block once to which chains of identifiers lead from the nodes; each
  -- context once that the contents name; and each folder once that is reached, but for search folders.
  pub decoded : report.work.pages ≡ report.pages
  pub summed : report.work.sums ≡ report.blocks
  pub expanded : AreExpanded (parts_table I s) (parts_entries I s) report.work.expansions
  pub contexts : IsRaised (parts_table I s) (parts_entries I s) 0 report.work.contexts
  pub walked : report.work.walked ≡ capped (folders_in report.reached.items)
