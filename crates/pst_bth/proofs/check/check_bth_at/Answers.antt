use Rattle.std.proofs.Common.{◌≡◌, Some, None, sym, ◌∙◌}
use Rattle.pst_heap.specs.View.{data_of}
use Rattle.pst_bth.specs.Rows.{sizes_of}
use Rattle.pst_bth.specs.View.{records_of}
use Rattle.pst_bth.proofs.BthLaws.{bth_law}
use Rattle.pst_bth.proofs.check.check_bth_at.Goals as goal

pub returns-in-Ok-clause-found : goal.returns-in-Ok-clause-found
returns-in-Ok-clause-found c =
    (bth_law (data_of c.args.heap.now) (sizes_of c.args.cb_key c.args.cb_ent) c.args.named c.args.hid (records_of c.in-Ok.bth)).1 (c.in-Ok.ensures.exact, c.in-Ok.ensures.records)

pub returns-in-Err-clause-only : goal.returns-in-Err-clause-only
returns-in-Err-clause-only c = λ records is.
    let none = ((bth_law (data_of c.args.heap.now) (sizes_of c.args.cb_key c.args.cb_ent) c.args.named c.args.hid records).0 is).0 in
    let impossible : None ≡ Some c.in-Err.fault = sym none ∙ c.in-Err.ensures.exact in
    cc
