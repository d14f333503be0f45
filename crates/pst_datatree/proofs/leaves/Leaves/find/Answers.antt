use Rattle.std.proofs.Common.{◌≡◌, ◌+◌, ◌≤◌, arith, sym}
use Rattle.pst_datatree.specs.Leaves.{leaves_table, leaves_tree}
use Rattle.pst_datatree.specs.Marks.{start_of}
use Rattle.pst_datatree.proofs.LeafLemmas.{all_before, none_behind}
use Rattle.pst_datatree.proofs.leaves.Leaves.find.Goals as goal

pub loop-part-preserved : goal.loop-part-preserved
loop-part-preserved c =
    let view = c.args.self.now in
    let start = start_of (leaves_table view) (leaves_tree view) in
    let found = c.part-found.result in
    let next : c.loop-part.before + found.len ≡ start (c.loop-part.part + 1) = sym c.part-found.ensures.behind in
    let same = c.part-found.ensures.before in
    let le : found.before ≤ c.args.n = omega (arith, same, c.loop-part.invariant.before) in
    let past = all_before found c.args.n c.has_span.result c.if-has_span.false c.has_span.ensures le in
    record {
      marks = c.add.ensures start c.loop-part.invariant.marks next;
      start = next;
      before = omega (arith, same, past);
    }

pub returns-clause-none : goal.returns-clause-none
returns-clause-none c =
    let view = c.args.self.now in
    let start = start_of (leaves_table view) (leaves_tree view) in
    let at = c.loop-part in
    none_behind (leaves_table view) (leaves_tree view) at.part c.args.n view.parts.sound
    (omega (arith, c.count-count.ensures, c.loop-part-test.false)) (omega (arith, at.invariant.start, at.invariant.before))
