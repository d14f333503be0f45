-- What is known of the identifiers in SLBLOCKs is true.
use Rattle.std.proofs.Common.{◌≡◌, ℕ, Bool, true, false, Some, None, refl, sym, ◌∙◌}
use Rattle.std.specs.Prelude.{cond}
use Rattle.std.specs.Ordering.{nat_cmp, eq_by_cmp}
use Rattle.std.specs.BTreeMap.{get, IsEmpty, IsUnchanged}
use Rattle.std.proofs.lemmas.Map.Lookups.{exact_unsigned}
use Rattle.std.proofs.lemmas.Map.Views.{tells_apart}
use Rattle.pst_block.specs.Block.{bid_key}
use Rattle.pst_block.specs.Table.{Table}
use Rattle.pst_datatree.proofs.KeyLemmas.{entry_same}
use Rattle.pst_subnode.specs.declared.ranges.NidRange.{NidRange}
use Rattle.pst_subnode.specs.declared.ranges.Ranges.{Ranges}
use Rattle.pst_subnode.specs.Numbers.{AreNumbersTrue}
use Rattle.pst_subnode.specs.Ranges.{IsRangeOf, range_of, AreRangesTrue}

-- nothing is known
pub no_ranges : (t : Table) (r : Ranges) → IsEmpty r.ranges → AreNumbersTrue t r.numbers → AreRangesTrue t r
unfolding range_of AreRangesTrue
no_ranges t r empty none = ((λ bid range known. let bad : None ≡ Some range = (rw empty at known) in cc), none)

-- bit 0 of an identifier says nothing
range_same : (t : Table) (a b : ℕ) (range : NidRange) → bid_key a ≡ bid_key b → IsRangeOf t a range → IsRangeOf t b range
range_same t a b range same is = rw (← entry_same t a b same) is

-- nothing is put in
pub range_kept : (t : Table) (old new : Ranges) → IsUnchanged old.ranges new.ranges → AreRangesTrue t old → new.numbers ≡ old.numbers → AreRangesTrue t new
unfolding range_of AreRangesTrue
range_kept t old new same are others = ((λ bid range known. are.0 bid range (rw same at known)), rw others are.1)

-- a range is put in
pub range_put : (t : Table) (old new : Ranges) (bid : ℕ) (range : NidRange) → ((key : ℕ) → get nat_cmp new.ranges key ≡ cond (eq_by_cmp nat_cmp (bid_key bid) key) (Some range) (get nat_cmp old.ranges key)) → IsRangeOf t bid range → AreRangesTrue t old → new.numbers ≡ old.numbers → AreRangesTrue t new
unfolding range_of AreRangesTrue
range_put t old new bid range put is are others = ((λ q other known. by_test q other (eq_by_cmp nat_cmp (bid_key bid) (bid_key q)) refl (sym (put (bid_key q)) ∙ known)), rw others are.1)
  where
    by_test : (q : ℕ) (other : NidRange) (v : Bool) → eq_by_cmp nat_cmp (bid_key bid) (bid_key q) ≡ v → cond v (Some range) (get nat_cmp old.ranges (bid_key q)) ≡ Some other → IsRangeOf t q other
    by_test q other true here known =
        let same : range ≡ other = cc in
        rw same at (range_same t bid q range (tells_apart exact_unsigned (bid_key bid) (bid_key q) here) is)
    by_test q other false here known = are.0 q other known

-- ---- what is known

pub known_range : (t : Table) (r : Ranges) (bid : ℕ) (range : NidRange) → AreRangesTrue t r → range_of r bid ≡ Some range → IsRangeOf t bid range
unfolding AreRangesTrue
known_range t r bid range are known = are.0 bid range known

pub known_numbers : (t : Table) (r : Ranges) → AreRangesTrue t r → AreNumbersTrue t r.numbers
unfolding AreRangesTrue
known_numbers t r are = are.1
