use Rattle.std.proofs.Common.{arith, ◌≡◌, ◌-◌, refl, ap, ◌∙◌}
use Rattle.pst_make.specs.Layout.{tree_pages, branch_pages}
use Rattle.pst_make.proofs.LayoutLemmas.{branches_step, branches_none, tree_few}
use Rattle.pst_make.proofs.layout.tree_pages.Goals as goal

pub loop-branches-init : goal.loop-branches-init
loop-branches-init c = rw c.pages_for-level.ensures refl

pub overflow_add-pages : goal.overflow_add-pages
overflow_add-pages c =
    let step = branches_step c.loop-branches.branches c.loop-branches.pages c.loop-branches.level c.pages_above-level.result _ c.loop-branches-test.true c.pages_above-level.ensures c.loop-branches.invariant in
    let few = tree_few c.args.capacity c.args.n c.requires c.ranges.n.fits in
    omega (arith, step, few)

pub loop-branches-preserved : goal.loop-branches-preserved
loop-branches-preserved c =
    branches_step c.loop-branches.branches c.loop-branches.pages c.loop-branches.level c.pages_above-level.result _ c.loop-branches-test.true c.pages_above-level.ensures c.loop-branches.invariant

pub returns : goal.returns
unfolding tree_pages
returns c =
    let none : 15 - c.loop-branches.branches ≡ 0 = omega arith in
    let e = ap (λ k. branch_pages k c.loop-branches.level) none ∙ branches_none c.loop-branches.level in
    omega (arith, e, c.loop-branches.invariant)
