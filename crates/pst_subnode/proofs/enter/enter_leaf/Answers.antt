use Rattle.std.proofs.Common.{◌≡◌, ◌+◌, ◌*◌, None, sym, ◌∙◌, arith}
use Rattle.std.proofs.lemmas.Result.{err_from_is_err_and}
use Rattle.pst_block.specs.Blocks.{table_of}
use Rattle.pst_subnode.specs.Tree.{sub_fault, sub_height}
use Rattle.pst_subnode.proofs.StateLemmas.{known_tells}
use Rattle.pst_subnode.proofs.WalkLemmas.{walked_none, counts_none}
use Rattle.pst_subnode.proofs.WeightLemmas.{unit_least}
use Rattle.pst_subnode.proofs.enter.enter_leaf.Goals as goal

pub returns-in_err-height_known-clause-enters : goal.returns-in_err-height_known-clause-enters
returns-in_err-height_known-clause-enters c = λ s trees.
    let p = err_from_is_err_and c.from_residual.result c.from_residual.ensures.1 in
    let t = table_of c.args.blocks.now in
    let known = c.height_known.ensures in
    let tells = known_tells t c.args.heights.now c.args.bid c.in-Some.height 0 c.args.limit c.height_known.result (omega (arith, c.requires.is_list.rank)) c.requires.known c.requires.come (sym c.state.ensures ∙ c.in-Some.is) known.marked known.fits known.high in
    rw (p.1, p.2) (record {
      exact = (rw c.in_err-height_known.was at tells);
      walked = walked_none t _ s c.args.heights.now trees c.requires.known;
    })

pub returns-in-Some-clause-enters : goal.returns-in-Some-clause-enters
returns-in-Some-clause-enters c = λ s trees.
    let t = table_of c.args.blocks.now in
    let known = c.height_known.ensures in
    let tells = known_tells t c.args.heights.now c.args.bid c.in-Some.height 0 c.args.limit c.height_known.result (omega (arith, c.requires.is_list.rank)) c.requires.known c.requires.come (sym c.state.ensures ∙ c.in-Some.is) known.marked known.fits known.high in
    let told : (sub_fault t c.args.limit c.args.bid ≡ None) × (c.in_ok-height_known.field-0 ≡ sub_height t c.args.limit c.args.bid) = (rw c.in_ok-height_known.was at tells) in
    let is = c.in_ok-height_known.ensures.known in
    record {
      none = told.0;
      value = told.1;
      small = is.2;
      walked = walked_none t _ s c.args.heights.now trees c.requires.known;
      counts = counts_none s c.args.heights.now;
      there = λ e internal. (c.in-Some.height, omega (arith, is.0, is.1), sym c.state.ensures ∙ c.in-Some.is);
    }

pub returns-in-Some-clause-light : goal.returns-in-Some-clause-light
returns-in-Some-clause-light c = omega (arith, unit_least (2 * c.args.limit + 1))

pub returns-clause-enters : goal.returns-clause-enters
returns-clause-enters c = λ s trees. (rw c.in_ok-open_slblock.was at (c.open_slblock.ensures.opens s trees))
