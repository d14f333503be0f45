use Rattle.std.proofs.Common.{◌≡◌, ◌∙◌, suc, ◌-◌, arith, subst, reverse}
use Rattle.pst_reach.specs.Path.{path_above, path_to}
use Rattle.pst_reach.proofs.PathLemmas.{path_begun, path_goes_up, path_ends}
use Rattle.pst_reach.proofs.paths.path_of.Goals as goal

pub loop-depth-init : goal.loop-depth-init
loop-depth-init c = path_begun c.args.reached.now c.args.last c.new-path.result.items c.new-path.ensures.items

pub loop-depth-preserved : goal.loop-depth-preserved
loop-depth-preserved c =
    let xs = c.args.reached.now in
    let l = c.loop-depth in
    let one : l.depth ≡ suc (l.depth - 1) = omega (arith, c.loop-depth-test.true) in
    let here = subst (λ d. path_above xs d l.nid (reverse l.path.items) ≡ path_to xs c.args.last) one l.invariant in
    path_goes_up xs (l.depth - 1) l.nid c.parent_of-nid.result l.path.items c.push.new.self.items (path_to xs c.args.last) (c.in_ok-push.ensures.items) c.parent_of-nid.ensures here

pub returns : goal.returns
returns c =
    let xs = c.args.reached.now in
    let l = c.loop-depth in
    let none : l.depth ≡ 0 = omega (arith, c.loop-depth-test.false) in
    let here = subst (λ d. path_above xs d l.nid (reverse l.path.items) ≡ path_to xs c.args.last) none l.invariant in
    c.reverse.ensures.items ∙ path_ends xs l.nid l.path.items c.push-2.new.self.items (path_to xs c.args.last) c.in_ok-push-2.ensures.items here
