use Rattle.std.proofs.Common.{Some, sym, ap, ◌∙◌, arith}
use Rattle.pst_btree.proofs.FindLemmas.{page_inside, page_shape}
use Rattle.pst_btree.proofs.DescendLemmas.{path_page, path_none, path_leaf_some, path_leaf_none}
use Rattle.pst_btree.proofs.descend.find_steps.Goals as goal

pub known_page-page-requires-clause-inside : goal.known_page-page-requires-clause-inside
known_page-page-requires-clause-inside c = omega (arith, page_inside _ _ _ _ _ (path_page _ _ _ _ _ _ _ c.loop-page.invariant.path), c.args.tree.now.inside)

pub known_page-page-requires-clause-shape : goal.known_page-page-requires-clause-shape
known_page-page-requires-clause-shape c = page_shape _ _ _ _ _ (path_page _ _ _ _ _ _ _ c.loop-page.invariant.path)

pub returns-then-count-eq0-clause-found : goal.returns-then-count-eq0-clause-found
returns-then-count-eq0-clause-found c =
    let u = rw (c.known_page-page.ensures.image, c.known_page-page.ensures.kind, c.known_page-page.ensures.bref, c.if-count-eq0.true) at c.up_to-count.ensures in
    sym (path_none _ _ _ _ _ _ _ c.loop-page.invariant.path u)

pub returns-then-key-clause-found : goal.returns-then-key-clause-found
returns-then-key-clause-found c =
    let u = rw (c.known_page-page.ensures.image, c.known_page-page.ensures.kind, c.known_page-page.ensures.bref) at c.up_to-count.ensures in
    let path = rw c.if-level-eq0.true at c.loop-page.invariant.path in
    let value = rw (c.known_page-page.ensures.image, c.known_page-page.ensures.kind, c.known_page-page.ensures.bref) at c.key.ensures.value in
    sym (path_leaf_none _ _ _ _ _ _ _ path u (omega arith) (rw (← value) c.if-key.true))

pub returns-then-level-eq0-clause-found : goal.returns-then-level-eq0-clause-found
returns-then-level-eq0-clause-found c =
    let u = rw (c.known_page-page.ensures.image, c.known_page-page.ensures.kind, c.known_page-page.ensures.bref) at c.up_to-count.ensures in
    let path = rw c.if-level-eq0.true at c.loop-page.invariant.path in
    let value = rw (c.known_page-page.ensures.image, c.known_page-page.ensures.kind, c.known_page-page.ensures.bref) at c.key.ensures.value in
    let place = rw (c.known_page-page.ensures.image, c.known_page-page.ensures.bref) at c.place.ensures.value in
    ap Some place ∙ sym (path_leaf_some _ _ _ _ _ _ _ path u (omega arith) (sym value ∙ c.if-key.false))
