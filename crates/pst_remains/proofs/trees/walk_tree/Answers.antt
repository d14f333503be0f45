use Rattle.pst_bytes.specs.Image.{bytes_of}
use Rattle.pst_header.specs.Header.{end_of}
use Rattle.pst_header.proofs.Head.{mapped_end}
use Rattle.pst_remains.proofs.LeafLemmas.{left_keys_rise, left_leaves}
use Rattle.pst_remains.proofs.trees.walk_tree.Goals as goal

pub returns-clause-leaves : goal.returns-clause-leaves
returns-clause-leaves c =
    let e = rw (c.level_of-level.ensures, c.new.ensures.items, c.new-2.ensures.items) at c.in_ok-walk_page.ensures.left in
    left_leaves c.args.kind (bytes_of c.args.image) (end_of c.args.header.now) c.args.claims.now _ c.args.root _ _ e (mapped_end _ _ c.requires.mapped)

pub returns-clause-keys : goal.returns-clause-keys
returns-clause-keys c =
    let e = rw (c.level_of-level.ensures, c.new.ensures.items, c.new-2.ensures.items) at c.in_ok-walk_page.ensures.left in
    left_keys_rise c.args.kind (bytes_of c.args.image) (end_of c.args.header.now) c.args.claims.now _ c.args.root _ _ e (mapped_end _ _ c.requires.mapped)
