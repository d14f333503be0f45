-- Look-ups among the entries of leaves: where keys rise, the list is a finite map from its keys.
use Rattle.std.specs.Prelude.{◌≡◌, ℕ, ◌==◌, ◌↔◌, List, [], ◌∷◌, map, Option, Some, None, if◌then◌else◌}
use Rattle.std.specs.List.{Contains}
use Rattle.pst_page.specs.declared.kind.PageKind.TheVariants.{Bbt}
use Rattle.pst_page.specs.declared.entry.BlockEntry.{BlockEntry}
use Rattle.pst_page.specs.declared.entry.NodeEntry.{NodeEntry}
use Rattle.pst_page.specs.Entry.{key_of}
use Rattle.pst_btree.specs.Order.{Rises}

-- a block's identifier without its bit 0
abbrev pub block_key : BlockEntry → ℕ
block_key entry = key_of Bbt entry.bid

abbrev pub node_key : NodeEntry → ℕ
node_key entry = entry.nid

-- the first entry with a key
unfoldable pub first_with : {X : Type 0} → (X → ℕ) → ℕ → List X → Option X
first_with key_in key [] = None
first_with key_in key (entry ∷ rest) = if key_in entry == key then Some entry else first_with key_in key rest

abbrev pub block_with : ℕ → List BlockEntry → Option BlockEntry
block_with key entries = first_with block_key key entries

abbrev pub node_with : ℕ → List NodeEntry → Option NodeEntry
node_with nid entries = first_with node_key nid entries

-- Where keys rise, an entry is found under a key exactly where it is there and has that key.
abbrev pub BlockMapLaw : Type 0
BlockMapLaw = (entries : List BlockEntry) → Rises 0 None (map block_key entries) → (key : ℕ) (entry : BlockEntry) → (block_with key entries ≡ Some entry) ↔ (Contains entries entry × (block_key entry ≡ key))

abbrev pub NodeMapLaw : Type 0
NodeMapLaw = (entries : List NodeEntry) → Rises 0 None (map node_key entries) → (nid : ℕ) (entry : NodeEntry) → (node_with nid entries ≡ Some entry) ↔ (Contains entries entry × (node_key entry ≡ nid))
