-- What a table context asks of the list of subnodes of its node.
use Rattle.std.proofs.Common.{◌≡◌, ℕ, ◌+◌, ◌<◌, true, Option, Some, None, refl, sym, ap, ◌∙◌}
use Rattle.std.specs.Prelude.{option_map}
use Rattle.std.proofs.lemmas.Bool.{false≢true, eqb-true}
use Rattle.pst_bytes.specs.declared.span.Span.{Span}
use Rattle.pst_bytes.specs.Image.{num}
use Rattle.pst_fault.specs.declared.fault.Fault.{Fault}
use Rattle.pst_fault.specs.Each.{first_of, there_or}
use Rattle.pst_fault.specs.First.{first_below}
use Rattle.pst_fault.proofs.FirstLemmas.{none_then, both_none, first_more, none_below}
use Rattle.pst_fault.proofs.ToldLemmas.{told_none}
use Rattle.pst_block.specs.Block.{bid_key}
use Rattle.pst_block.specs.Table.{Table}
use Rattle.pst_datatree.proofs.KeyLemmas.{data_spans_same}
use Rattle.pst_ndb.specs.Roots.{Roots, subnode_of}
use Rattle.pst_heap.specs.Values.{HeapData, heap_at, user_root_of, user_root_place, item_of}
use Rattle.pst_heap.specs.Fault.{no_item, told_under}
use Rattle.pst_bth.specs.Values.{bth_records}
use Rattle.pst_value.specs.declared.asks.Asks.{Asks}
use Rattle.pst_value.specs.declared.hnid.Hnid.TheVariants.{Nothing, Item, Subnode}
use Rattle.pst_value.specs.Hnid.{hnid_of}
use Rattle.pst_value.specs.Values.{hnid_spans}
use Rattle.pst_value.specs.Fault.{missing_at}
use Rattle.pst_value.specs.Asks.{SameData, has_block, has_matrix}
use Rattle.pst_value.specs.Met.{are_met, AsksMore, HoldsWith}
use Rattle.pst_value.proofs.AskLemmas.{same_heap, spans_nowhere, spans_in_item}
use Rattle.pst_tc.specs.Asks.{SameMatrix, AsksMatrix, HoldsMatrix}
use Rattle.pst_tc.specs.Info.{column_count, column_place, row_size, matrix_place, matrix_hnid, index_hid}
use Rattle.pst_tc.specs.Values.{tc_sizes, info_of, tc_records, row_or_none, row_of_blocks, row_of_matrix, row_of_record}
use Rattle.pst_tc.specs.Fault.{no_fault, cell_fault, cells_fault, row_fault, row_record_fault, matrix_fault, tc_body_fault, untold_tc_fault, tc_fault}
use Rattle.pst_tc.proofs.AlikeLaws.{body_with, fault_with}
use Rattle.pst_tc.proofs.RowLemmas.{BodyFacts, body_facts}

-- ---- the matrix

-- the same spans are named, and the same rows
same_matrix : (t : Table) (r s : Roots) (i : Span) → hnid_spans t r (matrix_hnid t.image i) ≡ hnid_spans t s (matrix_hnid t.image i)
    → ((size n : ℕ) → row_of_matrix t s (matrix_hnid t.image i) size n ≡ row_of_matrix t r (matrix_hnid t.image i) size n) → matrix_fault t r i ≡ None → SameMatrix t r i s
unfolding matrix_fault row_of_record
same_matrix t r s i spans rows none = (
  sym (ap (there_or (missing_at (matrix_place i) (matrix_hnid t.image i)) no_fault) spans) ∙ none,
  (λ x. rows (row_size t.image i) (num t.image x.1.at 4)),
)

rows_nowhere : (t : Table) (r s : Roots) (hnid size n : ℕ) → hnid_of hnid ≡ Nothing → row_of_matrix t s hnid size n ≡ row_of_matrix t r hnid size n
unfolding row_of_matrix
rows_nowhere t r s hnid size n is = rw is refl

pub nothing_asked : (t : Table) (r : Roots) (i : Span) (hnid : ℕ) → matrix_fault t r i ≡ None → hnid ≡ matrix_hnid t.image i → hnid_of hnid ≡ Nothing → AsksMatrix t r i None
nothing_asked t r i hnid none same is = λ s e met.
    let here : hnid_of (matrix_hnid t.image i) ≡ Nothing = rw same at is in
    same_matrix t r s i (spans_nowhere t r s (matrix_hnid t.image i) here) (λ size n. rows_nowhere t r s (matrix_hnid t.image i) size n here) none

rows_in_item : (t : Table) (r s : Roots) (hnid hid size n : ℕ) → SameData r s → hnid_of hnid ≡ Item hid → row_of_matrix t s hnid size n ≡ row_of_matrix t r hnid size n
unfolding row_of_matrix
rows_in_item t r s hnid hid size n e is = rw is (ap (λ (h : HeapData). row_or_none size n (item_of h hid)) (sym (same_heap t r s e)))

pub item_asked : (t : Table) (r : Roots) (i : Span) (hnid hid : ℕ) → matrix_fault t r i ≡ None → hnid ≡ matrix_hnid t.image i → hnid_of hnid ≡ Item hid → AsksMatrix t r i None
item_asked t r i hnid hid none same is = λ s e met.
    let here : hnid_of (matrix_hnid t.image i) ≡ Item hid = rw same at is in
    same_matrix t r s i (spans_in_item t r s (matrix_hnid t.image i) hid e here) (λ size n. rows_in_item t r s (matrix_hnid t.image i) hid size n e here) none

block_of : (t : Table) (x : Roots) (o : Option Roots) → has_block (bid_key x.bid_data) o ≡ true → (y : Roots) × (o ≡ Some y) × (bid_key y.bid_data ≡ bid_key x.bid_data)
block_of t x None e = absurd (false≢true e)
block_of t x (Some y) e = (y, refl, eqb-true _ _ e)

spans_in_blocks : (t : Table) (r s x y : Roots) (hnid nid : ℕ) → hnid_of hnid ≡ Subnode nid → subnode_of t r nid ≡ Some x → subnode_of t s nid ≡ Some y → bid_key y.bid_data ≡ bid_key x.bid_data → hnid_spans t r hnid ≡ hnid_spans t s hnid
unfolding hnid_spans
spans_in_blocks t r s x y hnid nid is a b e = rw (is, a, b) (ap Some (sym (data_spans_same t y.bid_data x.bid_data e)))

rows_in_blocks : (t : Table) (r s x y : Roots) (hnid nid size n : ℕ) → hnid_of hnid ≡ Subnode nid → subnode_of t r nid ≡ Some x → subnode_of t s nid ≡ Some y → bid_key y.bid_data ≡ bid_key x.bid_data → row_of_matrix t s hnid size n ≡ row_of_matrix t r hnid size n
unfolding row_of_matrix
rows_in_blocks t r s x y hnid nid size n is a b e = rw (is, a, b) (ap (row_of_blocks size n) (data_spans_same t y.bid_data x.bid_data e))

pub blocks_asked : (t : Table) (r x : Roots) (i : Span) (hnid nid : ℕ) → matrix_fault t r i ≡ None → hnid ≡ matrix_hnid t.image i → hnid_of hnid ≡ Subnode nid → Some x ≡ subnode_of t r nid → AsksMatrix t r i (Some (nid, bid_key x.bid_data))
blocks_asked t r x i hnid nid none same is there = λ s e met.
    let here : hnid_of (matrix_hnid t.image i) ≡ Subnode nid = rw same at is in
    let w = block_of t x (subnode_of t s nid) met in
    same_matrix t r s i
    (spans_in_blocks t r s x w.0 (matrix_hnid t.image i) nid here (sym there) w.1 w.2)
    (λ size n. rows_in_blocks t r s x w.0 (matrix_hnid t.image i) nid size n here (sym there) w.1 w.2)
    none

pub blocks_there : (t : Table) (r : Roots) (i : Span) (hnid nid : ℕ) → matrix_fault t r i ≡ None → hnid ≡ matrix_hnid t.image i → hnid_of hnid ≡ Subnode nid → None ≡ subnode_of t r nid → ⊥
unfolding matrix_fault hnid_spans
blocks_there t r i hnid nid none same is there =
    let here : hnid_of (matrix_hnid t.image i) ≡ Subnode nid = rw same at is in
    let bad = rw (here, ← there) at none in
    cc

pub matrix_holds : (t : Table) (r : Roots) (i : Span) (a : Option (ℕ × ℕ)) (asks : Asks) → AsksMatrix t r i a → ((u : Table) (s : Roots) → are_met u s asks ≡ has_matrix u s a) → HoldsMatrix t r i asks
matrix_holds t r i a asks asked is = λ s e met. asked s e (sym (is t s) ∙ met)

-- ---- the cells of a row

pub cell_at : (t : Table) (r : Roots) (i : Span) (row k c : ℕ) → cells_fault t r i row ≡ None → k < column_count t.image i → c ≡ column_place i k → cell_fault t r i row c ≡ None
unfolding cells_fault
cell_at t r i row k c none lt is = rw is (none_below (λ k. cell_fault t r i row (column_place i k)) (column_count t.image i) k none lt)

-- no cell of the first columns has a fault
abbrev pub HoldCells : Table → Roots → Asks → Span → ℕ → ℕ → Type 0
HoldCells t r asks i row n = HoldsWith t r asks (λ s. first_below (λ k. cell_fault t s i row (column_place i k)) n)

pub cells_next : (t : Table) (r : Roots) (old new : Asks) (i : Span) (row k c : ℕ) → HoldCells t r old i row k → AsksMore old new → c ≡ column_place i k → HoldsWith t r new (λ s. cell_fault t s i row c) → HoldCells t r new i row (k + 1)
cells_next t r old new i row k c holds more is cell = λ s e met. first_more (λ k. cell_fault t s i row (column_place i k)) k (holds s e (more t s met)) (rw is at cell s e met)

pub cells_hold : (t : Table) (r : Roots) (asks : Asks) (i : Span) (row n : ℕ) → HoldCells t r asks i row n → n ≡ column_count t.image i → HoldsWith t r asks (λ s. cells_fault t s i row)
unfolding cells_fault
cells_hold t r asks i row n holds is = λ s e met. rw is at holds s e met

-- ---- a row

row_none : (t : Table) (r s : Roots) (i : Span) (x : ℕ × Span) (row : Span) → row_of_record t s i x ≡ row_of_record t r i x → Some row ≡ row_of_record t r i x → row_record_fault t r i x ≡ None → cells_fault t s i row.at ≡ None → row_record_fault t s i x ≡ None
unfolding row_record_fault
row_none t r s i x row same is none cells =
    let here : row_fault t r i x row ≡ None = rw (← is) at none in
    rw (same, ← is) (both_none _ _ (none_then _ _ here).0 cells)

pub row_holds : (t : Table) (r : Roots) (i : Span) (x : ℕ × Span) (row : Span) (old new : Asks) → HoldsMatrix t r i old → AsksMore old new → Some row ≡ row_of_record t r i x → row_record_fault t r i x ≡ None
    → HoldsWith t r new (λ s. cells_fault t s i row.at) → HoldsWith t r new (λ s. row_record_fault t s i x)
row_holds t r i x row old new asked more is none cells = λ s e met. row_none t r s i x row ((asked s e (more t s met)).1 x) is none (cells s e met)

-- ---- the whole

pub body_named : (t : Table) (r : Roots) (i : Span) → tc_body_fault t r i ≡ None → matrix_fault t r i ≡ None
body_named t r i none = BodyFacts.matrix (body_facts t r i none)

body_holds : (t : Table) (r s : Roots) (i : Span) → SameData r s → BodyFacts t r i → matrix_fault t s i ≡ None → first_of (row_record_fault t s i) (tc_records t r i) ≡ None → tc_body_fault t s i ≡ None
unfolding tc_body_fault tc_records
body_holds t r s i e facts matrix rows =
    sym (ap (λ (h : HeapData). body_with t.image i h (matrix_fault t s i) (first_of (row_record_fault t s i) (bth_records h tc_sizes (index_hid t.image i)))) (same_heap t r s e))
    ∙ both_none _ _ facts.info (both_none _ _ facts.index (both_none _ _ matrix rows))

item_holds : (missing : Fault) (part other : Span → Option Fault) (o : Option Span) → there_or missing part o ≡ None → ((i : Span) → o ≡ Some i → part i ≡ None → other i ≡ None) → there_or missing other o ≡ None
item_holds missing part other None none holds = absurd cc
item_holds missing part other (Some i) none holds = holds i refl none

info_same : (t : Table) (r : Roots) (i : Span) → item_of (heap_at t r) (user_root_of (heap_at t r)) ≡ Some i → info_of t r ≡ i
unfolding info_of
info_same t r i is = rw is refl

untold_holds : (t : Table) (r s : Roots) → SameData r s → untold_tc_fault t r ≡ None → matrix_fault t s (info_of t r) ≡ None → first_of (row_record_fault t s (info_of t r)) (tc_records t r (info_of t r)) ≡ None → untold_tc_fault t s ≡ None
unfolding untold_tc_fault
untold_holds t r s e none matrix rows =
    let h = heap_at t r in
    let a = none_then _ _ none in
    let b = none_then _ _ a.1 in
    sym (ap (λ (h : HeapData). fault_with h (tc_body_fault t s)) (same_heap t r s e))
    ∙ both_none _ _ a.0 (both_none _ _ b.0 (item_holds (no_item (user_root_place h)) (tc_body_fault t r) (tc_body_fault t s) (item_of h (user_root_of h)) b.1
    (λ i is sound. let same = info_same t r i is in body_holds t r s i e (body_facts t r i sound) (rw same at matrix) (rw same at rows))))

-- where its rows have no fault by a list, the same data is a table context without fault
pub tc_holds : (t : Table) (r : Roots) (i : Span) (old new : Asks) → tc_fault t r ≡ None → i ≡ info_of t r → HoldsMatrix t r i old → AsksMore old new
    → HoldsWith t r new (λ s. first_of (row_record_fault t s i) (tc_records t r i)) → HoldsWith t r new (tc_fault t)
unfolding tc_fault
tc_holds t r i old new sound is asked more holds = λ s e met.
    let matrix = (asked s e (more t s met)).0 in
    ap (option_map (told_under s)) (untold_holds t r s e (told_none (told_under r) _ sound) (rw is at matrix) (rw is at holds s e met))
