-- Roots that are alike have the same values.
use Rattle.std.proofs.Common.{◌≡◌, ℕ, List, Option, Some, None, refl, ap}
use Rattle.std.specs.Prelude.{option_map}
use Rattle.pst_bytes.specs.declared.span.Span.{Span}
use Rattle.pst_bytes.specs.Image.{num}
use Rattle.pst_fault.specs.Each.{there_or}
use Rattle.pst_block.specs.Table.{Table}
use Rattle.pst_btree.specs.Entries.{first_with}
use Rattle.pst_datatree.proofs.KeyLemmas.{data_spans_same}
use Rattle.pst_ndb.specs.pst_subnode.declared.sub.Sub.{Sub}
use Rattle.pst_ndb.specs.pst_subnode.List.{sub_nid, subs_of}
use Rattle.pst_ndb.proofs.pst_subnode.HeightLaws.{subs_same}
use Rattle.pst_ndb.specs.Roots.{Roots, sub_roots, subnode_of}
use Rattle.pst_heap.specs.Values.{HeapData, heap_at, item_of}
use Rattle.pst_ndb.specs.Alike.{Alike}
use Rattle.pst_value.specs.declared.hnid.Hnid.{Hnid}
use Rattle.pst_value.specs.declared.hnid.Hnid.TheVariants.{Nothing, Item, Subnode}
use Rattle.pst_value.specs.Hnid.{hnid_of}
use Rattle.pst_value.specs.Values.{held_of, one_span, node_spans, spans_under, hnid_spans, some_spans, held_spans, value_spans}
use Rattle.pst_value.specs.Fault.{missing_at, length_fault, hnid_fault, value_held_fault, value_fault}
use Rattle.pst_value.specs.Laws.{AlikeValueLaw}

abbrev pub heap_with : List ℕ → List Span → HeapData
heap_with I spans = record { image = I; spans = spans }

-- their data is the same heap
pub heap_alike : (t : Table) (r s : Roots) → Alike r s → heap_at t r ≡ heap_at t s
heap_alike t r s e = ap (heap_with t.image) (data_spans_same t r.bid_data s.bid_data e.0)

-- and their subnodes have the same data
data_under_same : (t : Table) (r s : Roots) (found : Option Sub) → option_map (node_spans t) (option_map (sub_roots r) found) ≡ option_map (node_spans t) (option_map (sub_roots s) found)
data_under_same t r s None = refl
data_under_same t r s (Some x) = refl

subnode_alike : (t : Table) (r s : Roots) (nid : ℕ) → Alike r s → option_map (node_spans t) (subnode_of t r nid) ≡ option_map (node_spans t) (subnode_of t s nid)
unfolding subnode_of
subnode_alike t r s nid e = rw (subs_same t r.bid_sub s.bid_sub e.1) (data_under_same t r s (first_with sub_nid nid (subs_of t s.bid_sub)))

under_alike : (t : Table) (r s : Roots) (h : Hnid) → Alike r s → spans_under t r h ≡ spans_under t s h
under_alike t r s Nothing e = refl
under_alike t r s (Item hid) e = ap (λ h. option_map one_span (item_of h hid)) (heap_alike t r s e)
under_alike t r s (Subnode nid) e = subnode_alike t r s nid e

hnid_alike : (t : Table) (r s : Roots) (hnid : ℕ) → Alike r s → hnid_spans t r hnid ≡ hnid_spans t s hnid
unfolding hnid_spans
hnid_alike t r s hnid e = under_alike t r s (hnid_of hnid) e

spans_alike : (t : Table) (r s : Roots) (raw : Span) (held : Option ℕ) → Alike r s → held_spans t r raw held ≡ held_spans t s raw held
spans_alike t r s raw None e = ap some_spans (hnid_alike t r s (num t.image raw.at 4) e)
spans_alike t r s raw (Some width) e = refl

pub value_alike : (t : Table) (r s : Roots) (kind : ℕ) (raw : Span) → Alike r s → value_spans t r kind raw ≡ value_spans t s kind raw
unfolding value_spans
value_alike t r s kind raw e = spans_alike t r s raw (held_of kind raw.len) e

named_alike : (t : Table) (r s : Roots) (kind place named : ℕ) → Alike r s → hnid_fault t r kind place named ≡ hnid_fault t s kind place named
unfolding hnid_fault
named_alike t r s kind place named e =
    let hnid = num t.image named 4 in
    ap (there_or (missing_at named hnid) (length_fault kind place)) (hnid_alike t r s hnid e)

held_alike : (t : Table) (r s : Roots) (kind place : ℕ) (raw : Span) (held : Option ℕ) → Alike r s → value_held_fault t r kind place raw held ≡ value_held_fault t s kind place raw held
held_alike t r s kind place raw None e = named_alike t r s kind place raw.at e
held_alike t r s kind place raw (Some width) e = refl

pub fault_alike : (t : Table) (r s : Roots) (kind place : ℕ) (raw : Span) → Alike r s → value_fault t r kind place raw ≡ value_fault t s kind place raw
unfolding value_fault
fault_alike t r s kind place raw e = held_alike t r s kind place raw (held_of kind raw.len) e

pub alike_value_law : AlikeValueLaw
alike_value_law t r s e = (
  (λ hnid. hnid_alike t r s hnid e),
  (λ kind raw. value_alike t r s kind raw e),
  (λ kind place raw. fault_alike t r s kind place raw e),
)
