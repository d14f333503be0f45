use Rattle.std.proofs.Common.{◌≡◌, ◌≤◌, ◌+◌, ◌*◌, ◌-◌, length}
use Rattle.pst_bytes.specs.Image.{bytes_of}
use Rattle.pst_header.specs.Header.{end_of}
use Rattle.pst_page.specs.Page.{entries_from}
use Rattle.pst_space.specs.Marked.{marked}
use Rattle.pst_btree.specs.Tree.{page_spans_at}
use Rattle.pst_btree.specs.Walk.{walk_of, children, found_so_far}
use Rattle.pst_btree.proofs.SomeLemmas.{IsSomeLeft}
use Rattle.pst_btree.proofs.walk_page.+walk_page.Given as goal

abbrev pub decreases-walk_page : goal.decreases-walk_page
decreases-walk_page l = l.level

-- what is left of the children, from what is found so far, is the whole walk
abbrev pub invariant-loop-i : goal.invariant-loop-i
invariant-loop-i l = record {
  gives : children l.kind (bytes_of l.image) (walk_of l.kind (bytes_of l.image) (end_of l.header) (l.level - 1)) l.high (found_so_far l.claims l.tally.places.items l.tally.pages) (entries_from (bytes_of l.image) l.page.bref.ib l.i)
      ≡ walk_of l.kind (bytes_of l.image) (end_of l.header) l.level (found_so_far l.fn.claims l.fn.tally.places.items l.fn.tally.pages) l.fn.bref l.low l.high;
  same : length l.claims ≡ length l.fn.claims;
  counted : 8 * l.tally.pages ≤ marked l.claims;
  decoded : marked l.claims + 8 * l.fn.tally.pages ≡ marked l.fn.claims + 8 * l.tally.pages;
  some : IsSomeLeft l.kind (bytes_of l.image) (l.level - 1) l.page.bref.ib l.i l.claims l.fn.claims (page_spans_at l.kind (bytes_of l.image) l.level l.fn.bref);
}
