use Rattle.std.proofs.Common.{◌-◌, ap, sym, ◌∙◌, arith}
use Rattle.pst_bytes.specs.Image.{bytes_of}
use Rattle.pst_btree.specs.Find.{rest_from}
use Rattle.pst_btree.proofs.FindLemmas.{below_start}
use Rattle.pst_btree.proofs.FromLemmas.{begins, has_level, has_page_inside, has_page_shape, kept_start}
use Rattle.pst_btree.proofs.StretchLemmas.{leaf_rises}
use Rattle.pst_btree.proofs.nodes.+stretch_below.Goals as goal

pub known_page-page-requires-clause-inside : goal.known_page-page-requires-clause-inside
known_page-page-requires-clause-inside t c = omega (arith, has_page_inside _ _ _ _ _ c.requires.tree, c.requires.inside)

pub known_page-page-requires-clause-shape : goal.known_page-page-requires-clause-shape
known_page-page-requires-clause-shape t c = has_page_shape _ _ _ _ _ c.requires.tree

pub stretch_in-requires-clause-leaf : goal.stretch_in-requires-clause-leaf
stretch_in-requires-clause-leaf t c = rw (c.known_page-page.ensures.image, c.known_page-page.ensures.bref) (has_level _ _ _ _ _ c.requires.tree ∙ c.if-level-eq0.true)

pub stretch_in-requires-clause-rises : goal.stretch_in-requires-clause-rises
stretch_in-requires-clause-rises t c = rw (c.known_page-page.ensures.image, c.known_page-page.ensures.kind, c.known_page-page.ensures.bref) (leaf_rises _ _ _ _ _ c.requires.tree c.if-level-eq0.true)

-- the loop begins at the last child whose key is at most the one that is wanted
pub loop-i-init : goal.loop-i-init
loop-i-init t c =
    let I = bytes_of c.args.image in
    let u = rw (c.known_page-page.ensures.image, c.known_page-page.ensures.kind, c.known_page-page.ensures.bref) at c.up_to.ensures in
    let kept = kept_start c.args.kind I c.args.end c.args.level (c.args.level - 1) c.args.bref c.requires.tree (omega arith) in
    let b = begins c.args.kind I c.args.end (c.args.level - 1) c.args.bref.ib c.args.low c.up_to.result kept u in
    let all = below_start c.args.kind I c.args.level (c.args.level - 1) c.args.bref (omega arith) in
    record {
      kept = rw c.saturating_sub-first.ensures b.kept;
      left = rw c.saturating_sub-first.ensures b.left ∙ ap (rest_from c.args.kind I c.args.low) (sym all);
    }
