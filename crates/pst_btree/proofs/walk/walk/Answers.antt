use Rattle.std.proofs.Common.{◌+◌, ◌≤◌, ℕ, List, length, All, None, refl, sym, subst}
use Rattle.pst_bytes.specs.Image.{bytes_of}
use Rattle.pst_header.proofs.Head.{head_end}
use Rattle.pst_page.specs.Entry.{entry_size}
use Rattle.pst_btree.proofs.TreeLaws.{walked, tree_there}
use Rattle.pst_btree.proofs.InsideLemmas.{entries_inside}
use Rattle.pst_btree.proofs.walk.walk.Goals as goal

pub invariant_of-view : goal.invariant_of-view
invariant_of-view c =
    let g = rw c.new.ensures.items at c.in_ok-walk_page.ensures.gives in
    let w = walked c.args.kind (bytes_of c.args.image) _ _ _ _ _ _ c.args.root g in
    record { inside = rw c.end-end.ensures (head_end _ _ c.requires.head); spelt = rw c.end-end.ensures w.0; counted = w.2 }

pub returns-clause-walked : goal.returns-clause-walked
returns-clause-walked c =
    let g = rw c.new.ensures.items at c.in_ok-walk_page.ensures.gives in
    let w = walked c.args.kind (bytes_of c.args.image) _ _ _ _ _ _ c.args.root g in
    record {
      image = refl;
      end = c.end-end.ensures;
      kind = refl;
      root = refl;
      level = c.level_of-level.ensures;
      tree = tree_there c.args.kind (bytes_of c.args.image) _ _ c.args.root w.0;
      claims = w.3;
    }

pub returns-clause-places : goal.returns-clause-places
returns-clause-places c =
    let g = rw c.new.ensures.items at c.in_ok-walk_page.ensures.gives in
    (walked c.args.kind (bytes_of c.args.image) _ _ _ _ _ _ c.args.root g).1

pub returns-clause-inside : goal.returns-clause-inside
returns-clause-inside c =
    let g = rw c.new.ensures.items at c.in_ok-walk_page.ensures.gives in
    let w = walked c.args.kind (bytes_of c.args.image) _ _ _ _ _ _ c.args.root g in
    let inside = entries_inside c.args.kind (bytes_of c.args.image) _ _ c.args.root 0 None w.0 (head_end _ _ c.requires.head) in
    subst (λ (ps : List ℕ). All (λ at. at + entry_size c.args.kind 0 ≤ length (bytes_of c.args.image)) ps) (sym w.1) inside
