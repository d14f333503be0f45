-- What an iterator over the entries of a subnode list has left.
use Rattle.std.specs.Prelude.{List, ◌++◌}
use Rattle.pst_bytes.specs.Image.{bytes_of}
use Rattle.pst_fault.specs.First.{join_from}
use Rattle.pst_block.specs.Table.{Table}
use Rattle.pst_block.specs.Blocks.{table_of}
use Rattle.pst_subnode.specs.declared.sub.Sub.{Sub}
use Rattle.pst_subnode.specs.declared.entries.Subs.{Subs}
use Rattle.pst_subnode.specs.declared.entries.Rest.{Rest}
use Rattle.pst_subnode.specs.Body.{sub_at}
use Rattle.pst_subnode.specs.List.{leaf_subs}

-- the entries that are left of an SLBLOCK
abbrev pub sub_entries_left : Rest → List Sub
sub_entries_left r = join_from (sub_at (bytes_of r.body)) r.next r.left

-- those of the SLBLOCKs that are left of an SIBLOCK
abbrev pub leaves_left : Table → Rest → List Sub
leaves_left t r = join_from (leaf_subs t (bytes_of r.body)) r.next r.left

-- the entries that are left
abbrev pub subs_left : Subs → List Sub
subs_left s = sub_entries_left s.entries ++ leaves_left (table_of s.blocks) s.leaves
