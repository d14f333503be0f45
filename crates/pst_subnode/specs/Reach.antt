-- Which internal blocks chains lead to: a chain begins with an identifier of a list, and each next one is named by an entry of
-- the block before ([MS-PST] 2.2.2.8.3.2, 2.2.2.8.3.3).
use Rattle.std.specs.Prelude.{◌≡◌, ℕ, ◌<◌, true, List, ◌⊎◌}
use Rattle.std.specs.List.{Contains}
use Rattle.pst_page.specs.declared.entry.BlockEntry.{BlockEntry}
use Rattle.pst_block.specs.Block.{bid_key}
use Rattle.pst_block.specs.Table.{Table, body_of}
use Rattle.pst_datatree.specs.Names.{IsInternal, NamesBlock}
use Rattle.pst_datatree.specs.List.{count_in}
use Rattle.pst_subnode.specs.Body.{leaf_bid_in, sub_in, is_slblock, is_siblock}

-- an entry of the body of an SIBLOCK names this identifier
abbrev pub NamesLeaf : List ℕ → ℕ → Type 0
NamesLeaf body bid = (is_siblock body ≡ true) × ((i : ℕ) × (i < count_in body) × (bid ≡ leaf_bid_in body i))

-- one of the body of an SLBLOCK does, for data or for subnodes
abbrev pub NamesBelow : List ℕ → ℕ → Type 0
NamesBelow body bid = (is_slblock body ≡ true) × ((i : ℕ) × (i < count_in body) × ((bid ≡ (sub_in body i).bid_data) ⊎ (bid ≡ (sub_in body i).bid_sub)))

-- an entry of the internal block of an identifier names another
pub data NamesNext (t : Table) : ℕ → ℕ → Type 0 where
  of_tree : (bid next : ℕ) (e : BlockEntry) → IsInternal t bid e → NamesBlock (body_of t e) next → NamesNext t bid next
  of_siblock : (bid next : ℕ) (e : BlockEntry) → IsInternal t bid e → NamesLeaf (body_of t e) next → NamesNext t bid next
  of_slblock : (bid next : ℕ) (e : BlockEntry) → IsInternal t bid e → NamesBelow (body_of t e) next → NamesNext t bid next

-- a chain leads to an identifier
pub data Leads (t : Table) (from : List ℕ) : ℕ → Type 0 where
  begins : (bid : ℕ) → Contains from bid → Leads t from bid
  goes_on : (bid next : ℕ) → Leads t from bid → NamesNext t bid next → Leads t from next

-- a key is that of an internal block to which a chain leads
abbrev pub IsReached : Table → List ℕ → ℕ → Type 0
IsReached t from key = (bid : ℕ) × (e : BlockEntry) × Leads t from bid × IsInternal t bid e × (key ≡ bid_key bid)
