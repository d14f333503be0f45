use Rattle.std.proofs.Common.{◌≡◌, ◌*◌, ◌≤◌, length}
use Rattle.pst_bytes.specs.Image.{bytes_of}
use Rattle.pst_header.specs.Header.{end_of}
use Rattle.pst_amap.specs.Old.{old_below}
use Rattle.pst_amap.proofs.old.claim_old_maps.Given as goal

abbrev pub invariant-loop-region : goal.invariant-loop-region
invariant-loop-region l = record {
  found : old_below l.order (bytes_of l.image) (end_of l.header) (record { claimed = l.initial.claims; count = 0 }) l.region ≡ record { claimed = l.claims; count = l.count };
  units : length l.claims ≡ length l.initial.claims;
  few : l.count ≤ 2 * l.region;
}
