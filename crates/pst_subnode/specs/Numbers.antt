-- What is known of identifiers by their numbers: which number each has, which numbers are those of an SLBLOCK, and which were
-- met in this turn.
use Rattle.std.specs.Prelude.{◌≡◌, ℕ, true, nat_eq, Option, Some, List, map, slice_get}
use Rattle.std.specs.Global.{Vec}
use Rattle.std.specs.List.{list_any}
use Rattle.std.specs.Ordering.{nat_cmp}
use Rattle.std.specs.BTreeMap.{get}
use Rattle.pst_block.specs.Block.{bid_key}
use Rattle.pst_block.specs.Table.{Table, entry_of}
use Rattle.pst_subnode.specs.declared.sub.Sub.{Sub}
use Rattle.pst_subnode.specs.declared.numbers.Numbers.{Numbers}
use Rattle.pst_subnode.specs.declared.stamps.Stamps.{Stamps}
use Rattle.pst_subnode.specs.List.{sub_nid, subs_at, slblock_subs, are_distinct}

-- the number of an identifier, if it has one
unfoldable pub nid_number : Numbers → ℕ → Option ℕ
nid_number n nid = get nat_cmp n.numbers nid

-- the numbers that are kept of the SLBLOCK of a block identifier, whose bit 0 says nothing
unfoldable pub numbers_kept : Numbers → ℕ → Option (Vec ℕ)
numbers_kept n bid = get nat_cmp n.leaves (bid_key bid)

-- the identifiers of entries have these numbers, in order
pub record HaveNumbers (n : Numbers) (subs : List Sub) (numbers : List ℕ) : Type 0 where
  pub each : map (nid_number n) (map sub_nid subs) ≡ map Some numbers

-- each number stays, and so do those that are kept of SLBLOCKs
pub record KeepsNumbers (old new : Numbers) : Type 0 where
  pub stay : (nid number : ℕ) → nid_number old nid ≡ Some number → nid_number new nid ≡ Some number
  pub leaves : new.leaves ≡ old.leaves

-- those that are kept of each SLBLOCK are the numbers of its identifiers
unfoldable pub AreNumbersTrue : Table → Numbers → Type 0
AreNumbersTrue t n = (bid : ℕ) (numbers : Vec ℕ) → numbers_kept n bid ≡ Some numbers → HaveNumbers n (subs_at (slblock_subs t) (entry_of t bid)) numbers.items

-- numbers were met in this turn, and none stands twice among them
pub record AreMetOnce (s : Stamps) (numbers : List ℕ) : Type 0 where
  pub once : are_distinct numbers ≡ true
  pub met : (number : ℕ) → list_any (nat_eq number) numbers ≡ true → slice_get s.stamps.items number ≡ Some s.turn

-- so were the numbers of the identifiers of entries
pub record AreSubsMet (n : Numbers) (s : Stamps) (subs : List Sub) : Type 0 where
  pub numbers : List ℕ
  pub have : HaveNumbers n subs numbers
  pub met : AreMetOnce s numbers
