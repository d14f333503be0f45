-- A list of records whose keys rise is a finite map.
use Rattle.std.proofs.Common.{None}
use Rattle.pst_btree.proofs.EntryLemmas.{with_contains, contains_with}
use Rattle.pst_bth.specs.Values.{record_key}
use Rattle.pst_bth.specs.Laws.{BthMapLaw}
use Rattle.pst_bth.proofs.BthLaws.{rise_law}

pub bth_map_law : BthMapLaw
bth_map_law h z named hid none key r =
    let rise = rise_law h z named hid none in
    (with_contains record_key _ key r, λ c. contains_with record_key _ 0 None key r c.0.0 rise c.0.1 c.0.2 c.1)
