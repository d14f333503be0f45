-- A fault of a heap, or of a BTH in it, is that of each context with the same data, whatever the list of subnodes. All else that a
-- context asks of its list has faults of other kinds.
use Rattle.std.proofs.Common.{◌≡◌, ℕ, zero, suc, Bool, true, false, if◌then◌else◌, List, [], ◌∷◌, Option, Some, None, Result, Err, refl, sym, ap, ◌∙◌}
use Rattle.std.specs.Prelude.{option_map, IfErr}
use Rattle.pst_bytes.specs.declared.span.Span.{Span}
use Rattle.pst_bytes.specs.Image.{num}
use Rattle.pst_fault.specs.declared.fault.Fault.{Fault}
use Rattle.pst_fault.specs.declared.kind.Kind.TheVariants.{Property}
use Rattle.pst_fault.specs.Each.{first_of, there_or}
use Rattle.pst_fault.specs.Fault.{fault_at, at_node}
use Rattle.pst_fault.specs.First.{◌then◌, holds_or, first_below, Tells}
use Rattle.pst_fault.proofs.ToldLemmas.{told_some as told_first}
use Rattle.pst_block.specs.Table.{Table}
use Rattle.pst_datatree.specs.Data.{size_of, data_spans}
use Rattle.pst_ndb.specs.Roots.{Roots}
use Rattle.pst_pc.specs.pst_heap.Values.{HeapData, heap_at, user_root_of, user_root_place, item_of}
use Rattle.pst_pc.specs.pst_heap.Fault.{heap_fault, client_fault, item_or, in_context, told_under}
use Rattle.pst_bth.specs.Fault.{bth_fault}
use Rattle.pst_value.specs.declared.hnid.Hnid.{Hnid}
use Rattle.pst_value.specs.declared.hnid.Hnid.TheVariants.{Nothing, Item, Subnode}
use Rattle.pst_value.specs.Fault.{missing_kind, missing_at, is_length, length_fault, hnid_fault, value_held_fault, value_fault}
use Rattle.pst_value.specs.Hnid.{hnid_of}
use Rattle.pst_value.specs.Values.{held_of, hnid_spans}
use Rattle.pst_pc.specs.Fault.{property_fault, untold_pc_fault, pc_fault}
use Rattle.pst_pc.specs.Values.{pc_client, pc_sizes, pc_records, record_place, kind_in, raw_in}
use Rattle.pst_tc.specs.Fault.{info_fault, cell_fault, cells_fault, bad_row, row_fault, row_record_fault, no_fault, matrix_fault, tc_body_fault, untold_tc_fault, tc_fault}
use Rattle.pst_tc.specs.Info.{column_count, column_kind, column_place, index_place, index_hid, matrix_place, matrix_hnid, is_present, cell_span, is_typed}
use Rattle.pst_tc.specs.Values.{tc_client, tc_sizes, tc_records, row_of_record}
use Rattle.pst_remembered.specs.declared.faults.Faults.{Faults}
use Rattle.pst_remembered.specs.declared.role.Role.{Role}
use Rattle.pst_remembered.specs.declared.role.Role.TheVariants.{Properties, Listed, Recipients, Attachments}
use Rattle.pst_remembered.specs.Broken.{roots_at, context_part, is_of_data}
use Rattle.pst_remembered.specs.Faults.{IsFaultOf, fault_kept, AreFaultsOf, IsTold}
use Rattle.pst_remembered.specs.Keys.{Key}
use Rattle.pst_remembered.specs.Roles.{role_number, role_fault}
use Rattle.pst_remembered.proofs.FaultsLemmas.{role_again, told_kept, told_some}

-- ---- a part without faults of these kinds

abbrev IsOther : Option Fault → Type 0
IsOther o = (f : Fault) → o ≡ Some f → is_of_data f.kind ≡ false

other_none : IsOther None
other_none f e = absurd cc

other_fault : (g : Fault) → is_of_data g.kind ≡ false → IsOther (Some g)
other_fault g is f e = let same : g ≡ f = cc in rw (← same) is

other_then : (a b : Option Fault) → IsOther a → IsOther b → IsOther (a then b)
other_then None b oa ob = ob
other_then (Some g) b oa ob = oa

other_holds : (b : Bool) (g : Fault) → is_of_data g.kind ≡ false → IsOther (holds_or b g)
other_holds true g is = other_none
other_holds false g is = other_fault g is

other_there : {X : Type 0} (missing : Fault) (part : X → Option Fault) (o : Option X) → is_of_data missing.kind ≡ false → ((x : X) → IsOther (part x)) → IsOther (there_or missing part o)
other_there missing part None is all = other_fault missing is
other_there missing part (Some x) is all = all x

other_if : (b : Bool) (o : Option Fault) → IsOther o → IsOther (if b then o else None)
other_if true o is = is
other_if false o is = other_none

other_first : {X : Type 0} (part : X → Option Fault) (xs : List X) → ((x : X) → IsOther (part x)) → IsOther (first_of part xs)
unfolding first_of
other_first part [] all = other_none
other_first part (x ∷ rest) all = other_then (part x) (first_of part rest) (all x) (other_first part rest all)

other_below : (part : ℕ → Option Fault) (n : ℕ) → ((i : ℕ) → IsOther (part i)) → IsOther (first_below part n)
other_below part zero all = other_none
other_below part (suc n) all = other_then (first_below part n) (part n) (other_below part n all) (all n)

-- ---- values, and rows

missing_other : (h : Hnid) → is_of_data (missing_kind h) ≡ false
missing_other Nothing = refl
missing_other (Item hid) = refl
missing_other (Subnode nid) = refl

hnid_other : (t : Table) (r : Roots) (kind place named : ℕ) → IsOther (hnid_fault t r kind place named)
unfolding hnid_fault
hnid_other t r kind place named =
    let hnid = num t.image named 4 in
    other_there (missing_at named hnid) (length_fault kind place) (hnid_spans t r hnid) (missing_other (hnid_of hnid))
    (λ spans. other_holds (is_length kind (size_of spans)) (fault_at Property place) refl)

held_other : (t : Table) (r : Roots) (kind place : ℕ) (raw : Span) (held : Option ℕ) → IsOther (value_held_fault t r kind place raw held)
held_other t r kind place raw None = hnid_other t r kind place raw.at
held_other t r kind place raw (Some width) = other_none

value_other : (t : Table) (r : Roots) (kind place : ℕ) (raw : Span) → IsOther (value_fault t r kind place raw)
unfolding value_fault
value_other t r kind place raw = held_other t r kind place raw (held_of kind raw.len)

property_other : (t : Table) (r : Roots) (x : ℕ × Span) → IsOther (property_fault t r x)
unfolding property_fault
property_other t r x = value_other t r (kind_in t.image x.1) (record_place x.1) (raw_in x.1)

cell_other : (t : Table) (r : Roots) (s row : Span) (c : ℕ) → IsOther (cell_fault t r s row.at c)
unfolding cell_fault
cell_other t r s row c =
    let cell = cell_span t.image row.at c in
    let value = value_fault t r (column_kind t.image c) cell.at cell in
    other_if (is_present t.image s row.at c) (if (is_typed t.image c) then value else None)
    (other_if (is_typed t.image c) value (value_other t r (column_kind t.image c) cell.at cell))

cells_other : (t : Table) (r : Roots) (s row : Span) → IsOther (cells_fault t r s row.at)
unfolding cells_fault
cells_other t r s row = other_below (λ i. cell_fault t r s row.at (column_place s i)) (column_count t.image s) (λ i. cell_other t r s row (column_place s i))

row_other : (t : Table) (r : Roots) (s : Span) (x : ℕ × Span) → IsOther (row_record_fault t r s x)
unfolding row_record_fault
row_other t r s x =
    other_there (bad_row x) (row_fault t r s x) (row_of_record t r s x) refl
    (λ row. other_then _ (cells_fault t r s row.at) (other_holds _ (bad_row x) refl) (cells_other t r s row))

matrix_other : (t : Table) (r : Roots) (s : Span) → IsOther (matrix_fault t r s)
unfolding matrix_fault
matrix_other t r s =
    let hnid = matrix_hnid t.image s in
    other_there (missing_at (matrix_place s) hnid) no_fault (hnid_spans t r hnid) (missing_other (hnid_of hnid)) (λ spans. other_none)

-- ---- a fault of these kinds, under another list

abbrev Follows : Option Fault → Option Fault → Type 0
Follows a b = (f : Fault) → a ≡ Some f → is_of_data f.kind ≡ true → b ≡ Some f

follows_other : (a b : Option Fault) → IsOther a → Follows a b
follows_other a b other f e is = let no : is_of_data f.kind ≡ false = other f e in absurd cc

follows_then : (first a b : Option Fault) → Follows a b → Follows (first then a) (first then b)
follows_then None a b follows f e is = follows f e is
follows_then (Some g) a b follows f e is = e

follows_item : (named : ℕ) (a b : Span → Option Fault) (o : Option Span) → ((s : Span) → Follows (a s) (b s)) → Follows (item_or named a o) (item_or named b o)
follows_item named a b None all f e is = e
follows_item named a b (Some s) all f e is = all s f e is

heap_same : (t : Table) (r s : Roots) → r.bid_data ≡ s.bid_data → heap_at t r ≡ heap_at t s
heap_same t r s e = ap (λ (bid : ℕ). record { image = t.image; spans = data_spans t bid }) e

properties_follow : (h g : HeapData) (a b : Option Fault) → h ≡ g → IsOther a
    → Follows (heap_fault h then client_fault pc_client h then bth_fault h pc_sizes (user_root_place h) (user_root_of h) then a)
    (heap_fault g then client_fault pc_client g then bth_fault g pc_sizes (user_root_place g) (user_root_of g) then b)
properties_follow h g a b same other =
    rw (← same)
    (follows_then (heap_fault h) _ _ (follows_then (client_fault pc_client h) _ _
    (follows_then (bth_fault h pc_sizes (user_root_place h) (user_root_of h)) a b (follows_other a b other))))

pc_follows : (t : Table) (r s : Roots) → r.bid_data ≡ s.bid_data → Follows (untold_pc_fault t r) (untold_pc_fault t s)
unfolding untold_pc_fault
pc_follows t r s e = properties_follow (heap_at t r) (heap_at t s) _ _ (heap_same t r s e) (other_first (property_fault t r) (pc_records t r) (property_other t r))

info_follows : (t : Table) (i : Span) (h g : HeapData) (a b : Option Fault) → h ≡ g → IsOther a
    → Follows (info_fault t.image i then bth_fault h tc_sizes (index_place i) (index_hid t.image i) then a)
    (info_fault t.image i then bth_fault g tc_sizes (index_place i) (index_hid t.image i) then b)
info_follows t i h g a b same other =
    rw (← same)
    (follows_then (info_fault t.image i) _ _ (follows_then (bth_fault h tc_sizes (index_place i) (index_hid t.image i)) a b (follows_other a b other)))

body_follows : (t : Table) (r s : Roots) (i : Span) → r.bid_data ≡ s.bid_data → Follows (tc_body_fault t r i) (tc_body_fault t s i)
unfolding tc_body_fault
body_follows t r s i e =
    info_follows t i (heap_at t r) (heap_at t s) _ _ (heap_same t r s e)
    (other_then (matrix_fault t r i) (first_of (row_record_fault t r i) (tc_records t r i)) (matrix_other t r i)
    (other_first (row_record_fault t r i) (tc_records t r i) (row_other t r i)))

table_follows : (t : Table) (h g : HeapData) (a b : Span → Option Fault) → h ≡ g → ((i : Span) → Follows (a i) (b i))
    → Follows (heap_fault h then client_fault tc_client h then item_or (user_root_place h) a (item_of h (user_root_of h)))
    (heap_fault g then client_fault tc_client g then item_or (user_root_place g) b (item_of g (user_root_of g)))
table_follows t h g a b same all =
    rw (← same)
    (follows_then (heap_fault h) _ _ (follows_then (client_fault tc_client h) _ _
    (follows_item (user_root_place h) a b (item_of h (user_root_of h)) all)))

tc_follows : (t : Table) (r s : Roots) → r.bid_data ≡ s.bid_data → Follows (untold_tc_fault t r) (untold_tc_fault t s)
unfolding untold_tc_fault
tc_follows t r s e = table_follows t (heap_at t r) (heap_at t s) (tc_body_fault t r) (tc_body_fault t s) (heap_same t r s e) (λ i. body_follows t r s i e)

-- ---- told of another node

told_follows : (r s : Roots) (a b : Option Fault) (f : Fault) → r.bid_data ≡ s.bid_data → Follows a b → option_map (told_under r) a ≡ Some f → is_of_data f.kind ≡ true → option_map (told_under s) b ≡ Some (at_node s.top f)
told_follows r s a b f e follows is matches =
    let there = told_first (told_under r) a f is in
    let kind : is_of_data there.0.kind ≡ true = rw (← there.2) at matches in
    let under : told_under s there.0 ≡ at_node s.top (told_under r there.0) = ap (λ (bid : ℕ). in_context bid s.top there.0) (sym e) in
    rw (follows there.0 there.1 kind) (ap Some (under ∙ ap (at_node s.top) there.2))

role_of_data : (t : Table) (role : Role) (r s : Roots) (f : Fault) → r.bid_data ≡ s.bid_data → role_fault t role r ≡ Some f → is_of_data f.kind ≡ true → role_fault t role s ≡ Some (at_node s.top f)
unfolding pc_fault tc_fault
role_of_data t Properties r s f e is matches = told_follows r s (untold_pc_fault t r) (untold_pc_fault t s) f e (pc_follows t r s e) is matches
role_of_data t (Listed items) r s f e is matches = told_follows r s (untold_tc_fault t r) (untold_tc_fault t s) f e (tc_follows t r s e) is matches
role_of_data t Recipients r s f e is matches = told_follows r s (untold_tc_fault t r) (untold_tc_fault t s) f e (tc_follows t r s e) is matches
role_of_data t Attachments r s f e is matches = told_follows r s (untold_tc_fault t r) (untold_tc_fault t s) f e (tc_follows t r s e) is matches

-- ---- what is remembered by the data alone

err_kind : (answer : Result (Unit {0}) Fault) (f : Fault) → answer ≡ Err f → IfErr answer (λ g. is_of_data g.kind ≡ true) → is_of_data f.kind ≡ true
err_kind answer f e is = rw e at is

pub data_keep : (t : Table) (role : Role) (q : Key) (r : Roots) (answer : Result (Unit {0}) Fault) → q.0.0 ≡ r.bid_data → q.1 ≡ role_number role → Tells answer (role_fault t role r) tt
    → IfErr answer (λ f. is_of_data f.kind ≡ true) → (f : Fault) → answer ≡ Err f → IsTold f → IsFaultOf at_node (context_part t) q f
data_keep t role q r answer matches number tells kinds f e told other =
    role_again t role q other number
    ∙ role_of_data t role r (roots_at q other) f (sym matches) (told_some answer (role_fault t role r) f tells e told) (err_kind answer f e kinds)

pub data_told : (t : Table) (role : Role) (faults : Faults) (q : Key) (r : Roots) (nid : ℕ) (f g : Fault) → AreFaultsOf at_node (context_part t) faults → q.0.0 ≡ r.bid_data → q.1 ≡ role_number role → Some f ≡ fault_kept faults q
    → is_of_data f.kind ≡ true → nid ≡ r.top → g ≡ at_node nid f → role_fault t role r ≡ Some g
data_told t role faults q r nid f g are matches number is kind top told =
    role_of_data t role (roots_at q 0) r (at_node 0 f) matches (sym (role_again t role q 0 number) ∙ told_kept at_node (context_part t) faults q f 0 are is) kind
    ∙ ap Some (ap (λ (n : ℕ). at_node n f) (sym top) ∙ sym told)
