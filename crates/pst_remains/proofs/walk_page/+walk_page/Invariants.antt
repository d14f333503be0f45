use Rattle.std.proofs.Common.{◌≡◌, ◌-◌, length}
use Rattle.pst_bytes.specs.Image.{bytes_of}
use Rattle.pst_header.specs.Header.{end_of}
use Rattle.pst_page.specs.Page.{entries_from}
use Rattle.pst_remains.specs.Pages.{left_so_far, look_at, look_each}
use Rattle.pst_remains.proofs.walk_page.+walk_page.Given as goal

abbrev pub decreases-walk_page : goal.decreases-walk_page
decreases-walk_page l = l.level

-- what is left of the pages below, from what is found so far, is the whole walk
abbrev pub invariant-loop-i : goal.invariant-loop-i
invariant-loop-i l = record {
  left : look_each l.kind (bytes_of l.image) (look_at l.kind (bytes_of l.image) (end_of l.header) (l.level - 1)) l.least l.high (left_so_far l.claims l.seen.broken.items l.seen.leaves.items) (entries_from (bytes_of l.image) l.page.bref.ib l.i)
      ≡ look_at l.kind (bytes_of l.image) (end_of l.header) l.level (left_so_far l.fn.claims l.fn.seen.broken.items l.fn.seen.leaves.items) l.fn.bref l.from l.low l.high;
  same : length l.claims ≡ length l.fn.claims;
}
