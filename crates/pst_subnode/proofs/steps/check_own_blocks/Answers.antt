use Rattle.std.proofs.Common.{arith}
use Rattle.pst_fault.proofs.FirstLemmas.{is_first_then}
use Rattle.pst_block.specs.Blocks.{table_of}
use Rattle.pst_subnode.specs.List.{list_fault}
use Rattle.pst_subnode.proofs.SubLemmas.{sub_fault_list}
use Rattle.pst_subnode.proofs.steps.check_own_blocks.Goals as goal

-- where one list may nest its own blocks come first
pub returns-in-Err-clause-faults : goal.returns-in-Err-clause-faults
returns-in-Err-clause-faults c =
    let t = table_of c.args.blocks.now in
    c.put_list.ensures t (rw (sub_fault_list t 1 0 c.args.bid (omega arith) c.requires.named) (is_first_then (list_fault t c.args.bid) _ _ c.in-Err.ensures.exact)) c.requires.faults
