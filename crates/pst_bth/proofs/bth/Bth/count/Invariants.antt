use Rattle.std.proofs.Common.{◌≡◌, ◌+◌, length, map, None}
use Rattle.pst_btree.specs.Order.{Rises}
use Rattle.pst_bth.specs.Values.{record_key}
use Rattle.pst_bth.specs.View.{records_of}
use Rattle.pst_bth.specs.Left.{bth_left, records_left}
use Rattle.pst_bth.proofs.bth.Bth.count.Given as goal

-- those counted and those left are all; the keys that are left rise from the count on
abbrev pub invariant-loop-rest : goal.invariant-loop-rest
invariant-loop-rest l = record {
  same : bth_left l.rest ≡ l.self;
  rises : Rises l.count None (map record_key (records_left l.rest));
  counted : l.count + length (records_left l.rest) ≡ length (records_of l.self);
}

abbrev pub decreases-loop-rest : goal.decreases-loop-rest
decreases-loop-rest l = length (records_left l.rest)
