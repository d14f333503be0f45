use Rattle.std.proofs.Common.{◌≡◌}
use Rattle.pst_bytes.specs.Image.{bytes_of}
use Rattle.pst_page.specs.Page.{entries_at, entries_from}
use Rattle.pst_btree.specs.Find.{rest_from}
use Rattle.pst_btree.proofs.nodes.stretch_in.Given as goal

abbrev pub invariant-loop-i : goal.invariant-loop-i
invariant-loop-i l =
    rest_from l.page.kind (bytes_of l.page.image) l.low (entries_from (bytes_of l.page.image) l.page.bref.ib l.i)
    ≡ rest_from l.page.kind (bytes_of l.page.image) l.low (entries_at (bytes_of l.page.image) l.page.bref.ib)
