-- The faults of nodes, and a file that has none.
use Rattle.std.proofs.Common.{◌≡◌, ℕ, List, [], ◌∷◌, Bool, true, false, cond, eqb, Some, None, sym, ap, ◌∙◌}
use Rattle.std.specs.Prelude.{option_map}
use Rattle.pst_header.specs.declared.header.Header.{Header}
use Rattle.pst_header.specs.Header.{header_fault, fields}
use Rattle.pst_header.specs.Head.{Head}
use Rattle.pst_header.proofs.Head.{header_law}
use Rattle.pst_btree.specs.Entries.{first_with, node_with}
use Rattle.pst_btree.proofs.EntryLemmas.{with_contains}
use Rattle.pst_fault.specs.Fault.{at_node}
use Rattle.pst_datatree.specs.Data.{data_fault}
use Rattle.pst_subnode.specs.declared.check.TheConstants.{LISTS}
use Rattle.pst_subnode.specs.Tree.{sub_fault, at_top}
use Rattle.pst_ndb.specs.Entries.{block_table, node_list}
use Rattle.pst_fault.specs.Each.{first_of}
use Rattle.pst_fault.proofs.FirstLemmas.{none_then, both_none}
use Rattle.pst_fault.proofs.ToldLemmas.{none_told, told_none}
use Rattle.pst_page.specs.declared.entry.NodeEntry.{NodeEntry}
use Rattle.pst_block.specs.Table.{Table}
use Rattle.pst_ndb.specs.Fault.{node_fault, nodes_fault, file_fault, ndb_fault}
use Rattle.pst_ndb.specs.Space.{space_fault}

-- ---- nodes without fault

-- a node has no fault exactly where its data has none and its subnodes have none
pub node_none : (t : Table) (e : NodeEntry) → data_fault t e.bid_data ≡ None → sub_fault t LISTS e.bid_sub ≡ None → node_fault t e ≡ None
unfolding node_fault
node_none t e content subs = both_none _ _ (none_told (at_node e.nid) (data_fault t e.bid_data) content) (none_told (at_top e.bid_sub e.nid) (sub_fault t LISTS e.bid_sub) subs)

none_both : (t : Table) (e : NodeEntry) → node_fault t e ≡ None → (option_map (at_node e.nid) (data_fault t e.bid_data) ≡ None) × (option_map (at_top e.bid_sub e.nid) (sub_fault t LISTS e.bid_sub) ≡ None)
unfolding node_fault
none_both t e none = none_then _ _ none

pub none_data : (t : Table) (e : NodeEntry) → node_fault t e ≡ None → data_fault t e.bid_data ≡ None
none_data t e none = told_none (at_node e.nid) (data_fault t e.bid_data) (none_both t e none).0

pub none_subs : (t : Table) (e : NodeEntry) → node_fault t e ≡ None → sub_fault t LISTS e.bid_sub ≡ None
none_subs t e none = told_none (at_top e.bid_sub e.nid) (sub_fault t LISTS e.bid_sub) (none_both t e none).1

-- a node that is found has none
pub found_sound : (t : Table) (entries : List NodeEntry) (nid : ℕ) (e : NodeEntry) → nodes_fault t entries ≡ None → node_with nid entries ≡ Some e → node_fault t e ≡ None
unfolding first_of first_with
found_sound t [] nid e none found = absurd cc
found_sound t (x ∷ rest) nid e none found =
    let both = none_then (node_fault t x) (nodes_fault t rest) none in
    by_test (eqb x.nid nid) both.0 (λ h. found_sound t rest nid e both.1 h) found
  where
    by_test : (here : Bool) → node_fault t x ≡ None → (node_with nid rest ≡ Some e → node_fault t e ≡ None) → cond here (Some x) (node_with nid rest) ≡ Some e → node_fault t e ≡ None
    by_test true this later h = let same : x ≡ e = cc in ap (node_fault t) (sym same) ∙ this
    by_test false this later h = later h

-- ---- a file without fault

pub file_sound : (I : List ℕ) (h : Header) → Head I h → file_fault I h ≡ None → ndb_fault I ≡ None
unfolding ndb_fault
file_sound I h head none = let header = (header_law I h).0 head in both_none (header_fault I) (file_fault I (fields I)) header.0 (ap (file_fault I) (sym header.1) ∙ none)

pub file_fields : (I : List ℕ) (h : Header) → Head I h → h ≡ fields I
file_fields I h head = ((header_law I h).0 head).1

pub file_trees : (I : List ℕ) (h : Header) (t : Table) (entries : List NodeEntry) → file_fault I h ≡ None → t ≡ block_table I h → entries ≡ node_list I h → nodes_fault t entries ≡ None
unfolding file_fault
file_trees I h t entries none table is = rw (table, is) (none_then (space_fault I h) (nodes_fault (block_table I h) (node_list I h)) none).1

-- ---- what is found has the key

pub first_keyed : {X : Type 0} (key_in : X → ℕ) (key : ℕ) (xs : List X) (x : X) → first_with key_in key xs ≡ Some x → key_in x ≡ key
first_keyed key_in key xs x found = (with_contains key_in xs key x found).1

-- ---- the header of a file without fault

pub sound_head : (I : List ℕ) (h : Header) → ndb_fault I ≡ None → h ≡ fields I → Head I h
unfolding ndb_fault
sound_head I h none is = (header_law I h).1 ((none_then (header_fault I) (file_fault I (fields I)) none).0, is)
