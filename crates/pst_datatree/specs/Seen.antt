-- What is known of data trees, and what is counted.
use Rattle.std.specs.Prelude.{◌≡◌, ℕ, ◌+◌, ◌-◌, ◌^◌, min, Bool, true, Some, None, List, ◌⊎◌}
use Rattle.std.specs.Ordering.{nat_cmp}
use Rattle.std.specs.BTreeSet.{contains, btree_set_len}
use Rattle.pst_page.specs.declared.entry.BlockEntry.{BlockEntry}
use Rattle.pst_block.specs.Block.{bid_key}
use Rattle.pst_block.specs.Table.{Table, entry_of, body_of}
use Rattle.pst_datatree.specs.declared.seen.Seen.{Seen}
use Rattle.pst_datatree.specs.List.{has_level_two}
use Rattle.pst_datatree.specs.Names.{IsInternal, NamesBlock}
use Rattle.pst_datatree.specs.Data.{xblock_fault, xxblock_fault}

-- how many internal blocks have been expanded
abbrev pub tree_expansions : Seen → ℕ
tree_expansions s = s.expansions

-- a count of 64 bits, raised; it stays at its greatest value
abbrev pub raised : ℕ → ℕ → ℕ
raised count more = min (count + more) (2 ^ 64 - 1)

-- the block of an identifier is known; its bit 0 says nothing
unfoldable pub has_tree : Seen → ℕ → Bool
has_tree s bid = contains nat_cmp s.trees (bid_key bid)

-- the keys of the blocks that are known
abbrev pub tree_keys : Seen → List ℕ
tree_keys s = s.trees.keys

-- the block of a key is known
abbrev pub holds_tree : Seen → ℕ → Bool
holds_tree s key = contains nat_cmp s.trees key

-- an XBLOCK or XXBLOCK without fault
abbrev pub IsSoundTree : Table → BlockEntry → Type 0
IsSoundTree t e = (xblock_fault t e ≡ None) ⊎ (xxblock_fault t e ≡ None)

-- What is known is true: a block that is known is an XBLOCK or XXBLOCK without fault. So what is passed over hides none.
pub record IsSeenTrue (t : Table) (s : Seen) : Type 0 where
  pub holds : (bid : ℕ) (e : BlockEntry) → entry_of t bid ≡ Some e → has_tree s bid ≡ true → IsSoundTree t e

-- ---- what is added

-- all internal blocks that an entry's block names are known
abbrev pub NamesKnown : Table → Seen → BlockEntry → Type 0
NamesKnown t s e = (next : ℕ) (x : BlockEntry) → NamesBlock (body_of t e) next → IsInternal t next x → has_tree s next ≡ true

-- With each block that is known all are known that it names.
abbrev pub IsClosed : Table → Seen → Type 0
IsClosed t s = (bid : ℕ) (e : BlockEntry) → has_tree s bid ≡ true → IsInternal t bid e → NamesKnown t s e

-- What was known is known still, only such keys are new, and what is known stays closed.
pub record AddsTrees (t : Table) (IsNew : ℕ → Type 0) (old new : Seen) : Type 0 where
  pub stays : (key : ℕ) → holds_tree old key ≡ true → holds_tree new key ≡ true
  pub only : (key : ℕ) → holds_tree new key ≡ true → (holds_tree old key ≡ true) ⊎ IsNew key
  pub closed : IsClosed t old → IsClosed t new

-- the block of an identifier is known, if it is an internal block that the block B-tree has
abbrev pub IsKnownTree : Table → Seen → ℕ → Type 0
IsKnownTree t s bid = (e : BlockEntry) → IsInternal t bid e → has_tree s bid ≡ true

-- ---- what is counted

-- how many blocks are known
abbrev pub known_trees : Seen → ℕ
known_trees s = btree_set_len s.trees

-- so many blocks more were expanded than are known, each of these once
abbrev pub IsAhead : ℕ → Seen → Type 0
IsAhead k s = tree_expansions s ≡ raised (known_trees s) k

-- each block that was expanded meanwhile is known since
abbrev pub KeepsCount : Seen → Seen → Type 0
KeepsCount old new = (k : ℕ) → IsAhead k old → IsAhead k new

-- and one more was expanded
abbrev pub RaisesCount : Seen → Seen → Type 0
RaisesCount old new = (k : ℕ) → IsAhead k old → IsAhead (k + 1) new

-- no XXBLOCK is known since
abbrev pub NoNewTwo : Table → Seen → Seen → Type 0
NoNewTwo t old new = (bid : ℕ) (e : BlockEntry) → entry_of t bid ≡ Some e → has_level_two (body_of t e) ≡ true → has_tree new bid ≡ true → has_tree old bid ≡ true
