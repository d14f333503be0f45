use Rattle.std.proofs.Common.{sym, ◌∙◌}
use Rattle.pst_heap.specs.View.{data_of}
use Rattle.pst_bth.specs.Rows.{sizes_of}
use Rattle.pst_bth.proofs.BthLemmas.{records_some}
use Rattle.pst_bth.proofs.check.known_bth.Goals as goal

pub returns-clause-records : goal.returns-clause-records
returns-clause-records c =
    c.of_header.ensures.records ∙ sym (records_some (data_of c.args.heap.now) (sizes_of c.args.cb_key c.args.cb_ent) c.args.hid c.in-Some.head (sym c.in-Some.ensures.value))
