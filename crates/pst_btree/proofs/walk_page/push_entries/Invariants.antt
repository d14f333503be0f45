use Rattle.std.proofs.Common.{◌≡◌, ◌++◌}
use Rattle.pst_bytes.specs.Image.{bytes_of}
use Rattle.pst_page.specs.Page.{entries_at, entries_from}
use Rattle.pst_btree.proofs.walk_page.push_entries.Given as goal

abbrev pub invariant-loop-i : goal.invariant-loop-i
invariant-loop-i l = l.places.items ++ entries_from (bytes_of l.page.image) l.page.bref.ib l.i ≡ l.fn.places.items ++ entries_at (bytes_of l.page.image) l.page.bref.ib
