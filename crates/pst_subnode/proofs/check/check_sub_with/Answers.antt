use Rattle.std.proofs.Common.{refl, ap, ◌∙◌}
use Rattle.pst_block.specs.Blocks.{table_of}
use Rattle.pst_fault.proofs.FirstLemmas.{only_memory}
use Rattle.pst_subnode.specs.declared.check.TheConstants.{LISTS}
use Rattle.pst_subnode.specs.List.{subs_of}
use Rattle.pst_subnode.specs.Tree.{at_top}
use Rattle.pst_subnode.proofs.TreeLaws.{sub_law}
use Rattle.pst_subnode.proofs.check.check_sub_with.Goals as goal

pub returns-in-Ok-clause-found : goal.returns-in-Ok-clause-found
returns-in-Ok-clause-found c =
    let t = table_of c.args.blocks.now in
    let is = c.in-Ok.ensures.exact in
    rw c.from.ensures (((sub_law t LISTS c.args.bid c.in-Ok.height (subs_of t c.args.bid)).1 (is.0, is.1, refl)).0)

pub returns-in-Err-clause-only : goal.returns-in-Err-clause-only
returns-in-Err-clause-only c = λ height list has le.
    let t = table_of c.args.blocks.now in
    let sound = ((sub_law t LISTS c.args.bid height list).0 (has, le)).0 in
    c.fault_at_top.ensures ∙ ap (at_top c.args.bid c.args.nid) (only_memory _ _ sound c.in-Err.ensures.exact)
