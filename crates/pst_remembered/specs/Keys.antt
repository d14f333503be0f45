-- A set of nodes, each with a number, by the blocks of their data and of their subnodes, bit 0 of their identifiers cleared.
use Rattle.std.specs.Prelude.{ℕ, Bool, List, [], ◌∷◌}
use Rattle.std.specs.List.{list_any}
use Rattle.std.specs.Ordering.{nat_cmp, ordering_then}
use Rattle.std.specs.declared.cmp.Ordering.{Ordering}
use Rattle.std.specs.BTreeMap.{is_at}
use Rattle.std.specs.BTreeSet.{insert_key}
use Rattle.pst_block.specs.Block.{bid_key}
use Rattle.pst_ndb.specs.Roots.{Roots}
use Rattle.pst_remembered.specs.declared.keys.NodeSet.{NodeSet}

-- pairs in the order of their first parts, then of their second
abbrev pub pair_cmp : (ℕ × ℕ) → (ℕ × ℕ) → Ordering
pair_cmp x y = ordering_then (nat_cmp x.0 y.0) (nat_cmp x.1 y.1)

-- data, subnodes, and a number
abbrev pub Key : Type 0
Key = (ℕ × ℕ) × ℕ

abbrev pub key_cmp : Key → Key → Ordering
key_cmp x y = ordering_then (pair_cmp x.0 y.0) (nat_cmp x.1 y.1)

-- of a node with a number
abbrev pub key : ℕ → Roots → Key
key n r = ((bid_key r.bid_data, bid_key r.bid_sub), n)

-- of its data alone, with a number
abbrev pub data_key : ℕ → Roots → Key
data_key n r = ((bid_key r.bid_data, 0), n)

-- of its list of subnodes alone
abbrev pub list_key : Roots → Key
list_key r = ((0, bid_key r.bid_sub), 0)

-- of a node without subnodes: by its data, with a number
abbrev pub alone_key : (ℕ × ℕ) → Key
alone_key x = ((x.0, 0), x.1)

-- keys, and those of nodes without subnodes at their places among them
abbrev pub with_alone : List (ℕ × ℕ) → List Key → List Key
with_alone [] ks = ks
with_alone (x ∷ rest) ks = insert_key key_cmp (with_alone rest ks) (alone_key x)

unfoldable pub keys_in : NodeSet → List Key
keys_in keys = with_alone keys.alone keys.others

unfoldable pub holds : NodeSet → Key → Bool
holds keys k = list_any (is_at (key_cmp k)) (keys_in keys)

abbrev pub has : NodeSet → ℕ → Roots → Bool
has keys n r = holds keys (key n r)
