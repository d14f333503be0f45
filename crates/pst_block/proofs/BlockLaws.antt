-- A block has no first fault exactly where it is good.
use Rattle.std.proofs.Common.{◌≡◌, ◌≤◌, ℕ, List, None, Result, Ok, Err, refl}
use Rattle.std.specs.Prelude.{◌↔◌, OnOk, IsOk}
use Rattle.pst_fault.specs.declared.fault.Fault.{Fault}
use Rattle.pst_fault.specs.First.{Checks}
use Rattle.pst_fault.proofs.FirstLemmas.{none_then, both_none, holds_or_none, holds_or_true}
use Rattle.pst_page.specs.declared.entry.BlockEntry.{BlockEntry}
use Rattle.pst_header.specs.Place.{IsPlace}
use Rattle.pst_block.specs.Block.{block_span}
use Rattle.pst_block.specs.Fault.{block_place_fault, block_trailer_fault, block_fault}
use Rattle.pst_block.specs.Good.{HasBlockTrailer, GoodBlock, BlockLaw}
use Rattle.pst_block.proofs.BlockLemmas.{is_place_good, good_is_place, has_trailer_good, good_has_trailer}

-- ---- the parts

pub place_law : (end : ℕ) (e : BlockEntry) → ((e.cb ≤ 8176) × IsPlace end (block_span e)) ↔ (block_place_fault end e ≡ None)
unfolding block_place_fault
place_law end e = (
  λ p. holds_or_true _ _ (good_is_place end e p),
  λ none. is_place_good end e (holds_or_none _ _ none),
)

pub trailer_law : (I : List ℕ) (e : BlockEntry) → HasBlockTrailer I e ↔ (block_trailer_fault I e ≡ None)
unfolding block_trailer_fault
trailer_law I e = (
  λ t. holds_or_true _ _ (good_has_trailer I e t),
  λ none. has_trailer_good I e (holds_or_none _ _ none),
)

-- ---- the whole

pub block_law : BlockLaw
unfolding block_fault
block_law I end e = (
  λ g. both_none (block_place_fault end e) (block_trailer_fault I e) ((place_law end e).0 (g.small, g.place)) ((trailer_law I e).0 g.trailer),
  λ none.
      let both = none_then (block_place_fault end e) (block_trailer_fault I e) none in
      let lies = (place_law end e).1 both.0 in
      record { small = lies.0; place = lies.1; trailer = (trailer_law I e).1 both.1 },
)

-- ---- what is read

pub good_if : {X : Type 0} (I : List ℕ) (end : ℕ) (e : BlockEntry) (r : Result X Fault) → Checks r (block_fault end I e) → OnOk r (GoodBlock I end e)
good_if I end e (Ok x) none = (block_law I end e).1 none
good_if I end e (Err f) some = tt

pub block_only : {X : Type 0} (I : List ℕ) (end : ℕ) (e : BlockEntry) (r : Result X Fault) → Checks r (block_fault end I e) → GoodBlock I end e → IsOk r
block_only I end e (Ok x) none g = refl
block_only I end e (Err f) some g = let none = (block_law I end e).0 g in cc
