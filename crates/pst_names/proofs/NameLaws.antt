-- The grammar of the name map, and its first fault, say the same.
use Rattle.std.proofs.Common.{◌≡◌, ℕ, ◌%◌, ◌<◌, length, Option, Some, None, refl, ◌↔◌, arith}
use Rattle.std.specs.Prelude.{nat_eq, IsOkUnless, Result, Ok, Err}
use Rattle.std.proofs.lemmas.Bool.{eqb-true, eq-eqb}
use Rattle.pst_fault.specs.declared.kind.Kind.TheVariants.{Property as BadProperty}
use Rattle.pst_fault.specs.declared.fault.Fault.{Fault}
use Rattle.pst_fault.specs.Fault.{fault_at, no_memory}
use Rattle.pst_fault.specs.First.{TellsFirst}
use Rattle.pst_fault.specs.Each.{first_of}
use Rattle.pst_fault.proofs.FirstLemmas.{none_then, both_none, holds_or_none, holds_or_true, only_memory}
use Rattle.pst_fault.proofs.EachLemmas.{of_none, none_of}
use Rattle.pst_fault.proofs.ToldLemmas.{told_none, none_told}
use Rattle.pst_block.specs.Table.{Table}
use Rattle.pst_ndb.specs.Roots.{Roots}
use Rattle.pst_ndb.specs.Views.{table_of_node}
use Rattle.pst_heap.specs.Fault.{told_under}
use Rattle.pst_pc.specs.Values.{Property}
use Rattle.pst_names.specs.declared.streams.TheConstants.{GUIDS, ENTRIES, STRINGS}
use Rattle.pst_names.specs.Streams.{stream_of, stream_bytes, stream_place}
use Rattle.pst_names.specs.Fault.{type_fault, width_fault, name_entry_fault, guids_count, strings_of, all_entries, entries_fault, streams_fault, names_fault}
use Rattle.pst_names.specs.Grammar.{IsBinary, HasWholeParts, IsEntry, IsNameMap}
use Rattle.pst_names.specs.Laws.{NameMapLaw}
use Rattle.pst_names.specs.LookUps.{NameMapLookUpsLaw}
use Rattle.pst_names.specs.Entry.{NameEntry, prop_id}
use Rattle.pst_names.specs.Name.{naming_entry}
use Rattle.pst_names.specs.View.{node_of_names, names_roots}
use Rattle.pst_btree.proofs.EntryLemmas.{with_contains}
use Rattle.pst_names.proofs.EntryLaws.{whole_law, entry_law}

-- ---- a stream

type_law : (o : Option Property) → IsBinary o ↔ (type_fault o ≡ None)
type_law None = ((λ w. refl), (λ e. tt))
type_law (Some p) = (
  (λ e. holds_or_true (nat_eq p.kind 0x0102) (fault_at BadProperty p.at) (eq-eqb p.kind 0x0102 e)),
  (λ e. eqb-true p.kind 0x0102 (holds_or_none (nat_eq p.kind 0x0102) (fault_at BadProperty p.at) e)),
)

parts_law : (width : ℕ) (o : Option Property) → 0 < width → HasWholeParts width o ↔ (width_fault width o ≡ None)
parts_law width o some =
    let n = length (stream_bytes o) in
    let law = whole_law width n some in (
      (λ w. holds_or_true (nat_eq (n % width) 0) (fault_at BadProperty (stream_place o)) (eq-eqb (n % width) 0 (law.0 w))),
      (λ e. law.1 (eqb-true (n % width) 0 (holds_or_none (nat_eq (n % width) 0) (fault_at BadProperty (stream_place o)) e))),
    )

-- ---- the map

pub name_map_law : NameMapLaw
unfolding names_fault streams_fault entries_fault
name_map_law t r = (
  (λ m.
      let entries : first_of (name_entry_fault (guids_count t r) (strings_of t r)) (all_entries t r) ≡ None = of_none (name_entry_fault (guids_count t r) (strings_of t r)) (all_entries t r) (λ e c. (entry_law (guids_count t r) (strings_of t r) e).0 (m.each e c)) in
      let streams =
      both_none _ _ ((type_law (stream_of t r GUIDS)).0 m.guids)
      (both_none _ _ ((type_law (stream_of t r ENTRIES)).0 m.entries)
      (both_none _ _ ((type_law (stream_of t r STRINGS)).0 m.strings)
      (both_none _ _ ((parts_law 16 (stream_of t r GUIDS) (omega arith)).0 m.whole_guids) ((parts_law 8 (stream_of t r ENTRIES) (omega arith)).0 m.whole_entries)))) in
      none_told (told_under r) _ (both_none _ _ streams entries)),
  (λ none.
      let both = none_then _ _ (told_none (told_under r) _ none) in
      let a = none_then _ _ both.0 in
      let b = none_then _ _ a.1 in
      let c = none_then _ _ b.1 in
      let d = none_then _ _ c.1 in
      record {
        guids = (type_law (stream_of t r GUIDS)).1 a.0;
        entries = (type_law (stream_of t r ENTRIES)).1 b.0;
        strings = (type_law (stream_of t r STRINGS)).1 c.0;
        whole_guids = (parts_law 16 (stream_of t r GUIDS) (omega arith)).1 d.0;
        whole_entries = (parts_law 8 (stream_of t r ENTRIES) (omega arith)).1 d.1;
        each = λ e c. (entry_law (guids_count t r) (strings_of t r) e).1 (none_of (name_entry_fault (guids_count t r) (strings_of t r)) (all_entries t r) e both.1 c);
      }),
)

pub none_names : (t : Table) (r : Roots) → names_fault t r ≡ None → IsNameMap t r
none_names t r none = (name_map_law t r).1 none

pub names_none : (t : Table) (r : Roots) → IsNameMap t r → names_fault t r ≡ None
names_none t r is = (name_map_law t r).0 is

-- a name map is refused for want of memory alone
pub refused_for_memory : {X : Type 0} (t : Table) (r : Roots) (result : Result X Fault) → TellsFirst result (names_fault t r) → IsNameMap t r → IsOkUnless result no_memory
refused_for_memory t r (Ok x) told is = tt
refused_for_memory t r (Err f) told is = only_memory (names_fault t r) f (names_none t r is) told

-- the entry that names a property is one
pub named_entry : (t : Table) (r : Roots) (id : ℕ) (e : NameEntry) → names_fault t r ≡ None → naming_entry t r id ≡ Some e → IsEntry (guids_count t r) (strings_of t r) e
named_entry t r id e none found = IsNameMap.each (none_names t r none) e (with_contains prop_id (all_entries t r) id e found).0

-- ---- what a name map is asked

pub look_ups_law : NameMapLookUpsLaw
look_ups_law m = record {
  map = none_names (table_of_node (node_of_names m)) (names_roots m) m.sound;
  name = λ id found is. is;
}
