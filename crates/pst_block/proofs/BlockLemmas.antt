-- What the tests of a block mean.
use Rattle.std.proofs.Common.{◌≡◌, ℕ, ◌+◌, ◌%◌, ◌≤◌, true, List, arith}
use Rattle.std.proofs.lemmas.Bool.{eqb-true, leb-true, eq-eqb, le-leb, and_parts, and_from}
use Rattle.pst_page.specs.declared.entry.BlockEntry.{BlockEntry}
use Rattle.std.specs.Prelude.{◌&&◌, nat_le}
use Rattle.pst_header.specs.Place.{is_place, IsPlace}
use Rattle.pst_header.proofs.PlaceLemmas.{is_place_good as place_good, good_is_place as good_place}
use Rattle.pst_block.specs.Block.{block_size, block_span}
use Rattle.pst_block.specs.Fault.{has_block_trailer}
use Rattle.pst_block.specs.Good.{HasBlockTrailer}

-- ---- its size

pub size_large : (cb : ℕ) → cb + 16 ≤ block_size cb
unfolding block_size
size_large cb = omega arith

pub size_whole : (cb : ℕ) → block_size cb % 64 ≡ 0
unfolding block_size
size_whole cb = omega arith

-- ---- the place

pub is_place_good : (end : ℕ) (e : BlockEntry) → (nat_le e.cb 8176 && is_place end (block_span e)) ≡ true → (e.cb ≤ 8176) × IsPlace end (block_span e)
is_place_good end e is = let p = and_parts _ _ is in (leb-true _ _ p.0, place_good end (block_span e) p.1)

pub good_is_place : (end : ℕ) (e : BlockEntry) → (e.cb ≤ 8176) × IsPlace end (block_span e) → (nat_le e.cb 8176 && is_place end (block_span e)) ≡ true
good_is_place end e (small, place) = and_from _ _ (le-leb _ _ small) (good_place end (block_span e) place)

-- ---- the trailer

pub has_trailer_good : (I : List ℕ) (e : BlockEntry) → has_block_trailer I e ≡ true → HasBlockTrailer I e
unfolding has_block_trailer
has_trailer_good I e is =
    let a = and_parts _ _ is in
    let b = and_parts _ _ a.0 in
    let c = and_parts _ _ b.0 in
    record {
      length = eqb-true _ _ c.0;
      signature = eqb-true _ _ b.1;
      check = eqb-true _ _ a.1;
      bid = eqb-true _ _ c.1;
    }

pub good_has_trailer : (I : List ℕ) (e : BlockEntry) → HasBlockTrailer I e → has_block_trailer I e ≡ true
unfolding has_block_trailer
good_has_trailer I e t =
    let named = and_from _ _ (eq-eqb _ _ t.length) (eq-eqb _ _ t.bid) in
    and_from _ _ (and_from _ _ named (eq-eqb _ _ t.signature)) (eq-eqb _ _ t.check)
