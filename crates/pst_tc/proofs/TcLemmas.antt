-- A table context, step by step.
use Rattle.std.proofs.Common.{◌≡◌, ℕ, ◌+◌, ◌<◌, true, false, List, Option, Some, None, refl, sym, ap, ◌∙◌, inl, inr}
use Rattle.std.specs.Prelude.{option_map, is_some}
use Rattle.pst_bytes.specs.declared.span.Span.{Span}
use Rattle.pst_fault.specs.declared.fault.Fault.{Fault}
use Rattle.pst_fault.specs.First.{◌then◌, first_below, IsFirst}
use Rattle.pst_fault.proofs.ToldLemmas.{told_none, told_some, told_first, told_next}
use Rattle.pst_fault.proofs.FirstLemmas.{none_then, first_at, first_more}
use Rattle.pst_block.specs.Table.{Table}
use Rattle.pst_ndb.specs.Roots.{Roots}
use Rattle.pst_fault.specs.Each.{first_of}
use Rattle.pst_heap.specs.Values.{item_of}
use Rattle.pst_heap.specs.Fault.{item_or, no_item}
use Rattle.pst_heap.specs.Fault.{heap_fault, client_fault}
use Rattle.pst_heap.specs.Values.{user_root_of, user_root_place}
use Rattle.pst_heap.specs.Values.{heap_at}
use Rattle.pst_heap.specs.Fault.{told_under}
use Rattle.pst_tc.specs.Info.{column_count, column_place, index_place, index_hid, matrix_place, matrix_hnid}
use Rattle.pst_fault.specs.Each.{there_or}
use Rattle.pst_bth.specs.Fault.{bth_fault}
use Rattle.pst_bth.specs.Values.{bth_records}
use Rattle.pst_value.specs.Values.{hnid_spans}
use Rattle.pst_value.specs.Fault.{missing_at}
use Rattle.pst_tc.specs.Fault.{cell_fault, cells_fault, row_record_fault, no_fault, matrix_fault, info_fault, tc_body_fault, untold_tc_fault, tc_fault}
use Rattle.pst_tc.specs.Values.{tc_sizes, tc_records}

-- ---- cells

pub cells_more : (t : Table) (r : Roots) (s : Span) (row i c : ℕ) → first_below (λ k. cell_fault t r s row (column_place s k)) i ≡ None → c ≡ column_place s i → option_map (told_under r) (cell_fault t r s row c) ≡ None → first_below (λ k. cell_fault t r s row (column_place s k)) (i + 1) ≡ None
cells_more t r s row i c before is passed =
    first_more (λ k. cell_fault t r s row (column_place s k)) i before (rw is at (told_none (told_under r) (cell_fault t r s row c) passed))

pub cells_fail : (t : Table) (r : Roots) (s : Span) (row i c : ℕ) (f : Fault) → i < column_count t.image s → first_below (λ k. cell_fault t r s row (column_place s k)) i ≡ None → c ≡ column_place s i → option_map (told_under r) (cell_fault t r s row c) ≡ Some f → option_map (told_under r) (cells_fault t r s row) ≡ Some f
unfolding cells_fault
cells_fail t r s row i c f lt before is failed =
    let here : option_map (told_under r) (cell_fault t r s row (column_place s i)) ≡ Some f = rw is at failed in
    let x = told_some (told_under r) (cell_fault t r s row (column_place s i)) f here in
    let all = first_at (λ k. cell_fault t r s row (column_place s k)) (column_count t.image s) i x.0 before x.1 lt in
    rw all (ap Some x.2)

pub cells_done : (t : Table) (r : Roots) (s : Span) (row : ℕ) → first_below (λ k. cell_fault t r s row (column_place s k)) (column_count t.image s) ≡ None → option_map (told_under r) (cells_fault t r s row) ≡ None
unfolding cells_fault
cells_done t r s row e = rw e refl

-- ---- the matrix

there_is : (o : Option (List Span)) (f : Fault) → true ≡ is_some o → there_or f no_fault o ≡ None
there_is None f e = absurd cc
there_is (Some x) f e = refl

there_is_none : (o : Option (List Span)) (f : Fault) → false ≡ is_some o → there_or f no_fault o ≡ Some f
there_is_none None f e = refl
there_is_none (Some x) f e = absurd cc

pub matrix_there : (t : Table) (r : Roots) (s : Span) (hnid : ℕ) → hnid ≡ matrix_hnid t.image s → true ≡ is_some (hnid_spans t r hnid) → matrix_fault t r s ≡ None
unfolding matrix_fault
matrix_there t r s hnid is e = there_is (hnid_spans t r (matrix_hnid t.image s)) _ (rw is at e)

pub matrix_missing : (t : Table) (r : Roots) (s : Span) (hnid : ℕ) → hnid ≡ matrix_hnid t.image s → false ≡ is_some (hnid_spans t r hnid) → matrix_fault t r s ≡ Some (missing_at (matrix_place s) hnid)
unfolding matrix_fault
matrix_missing t r s hnid is e = rw is (there_is_none (hnid_spans t r (matrix_hnid t.image s)) _ (rw is at e))

pub info_told_none : (r : Roots) (I : List ℕ) (s : Span) → option_map (told_under r) (info_fault I s) ≡ None → info_fault I s ≡ None
info_told_none r I s e = told_none (told_under r) (info_fault I s) e

-- ---- the table

pub front_fails : (t : Table) (r : Roots) (s : Span) (f : Fault) → option_map (told_under r) (info_fault t.image s) ≡ Some f → option_map (told_under r) (tc_body_fault t r s) ≡ Some f
unfolding tc_body_fault
front_fails t r s f e = told_first (told_under r) (info_fault t.image s) _ f e

pub index_fails : (t : Table) (r : Roots) (s : Span) (f : Fault) → option_map (told_under r) (info_fault t.image s) ≡ None → option_map (told_under r) (bth_fault (heap_at t r) tc_sizes (index_place s) (index_hid t.image s)) ≡ Some f → option_map (told_under r) (tc_body_fault t r s) ≡ Some f
unfolding tc_body_fault
index_fails t r s f a e = told_next (told_under r) _ _ a ∙ told_first (told_under r) (bth_fault (heap_at t r) tc_sizes (index_place s) (index_hid t.image s)) _ f e

-- what is left behind TCINFO and the row index: the matrix, and then the rows

pub matrix_first : (t : Table) (r : Roots) (s : Span) (rows : Option Fault) (f : Fault) → option_map (told_under r) (matrix_fault t r s) ≡ Some f → option_map (told_under r) (matrix_fault t r s then rows) ≡ Some f
matrix_first t r s rows f e = told_first (told_under r) (matrix_fault t r s) rows f e

pub matrix_next : (t : Table) (r : Roots) (s : Span) (rows : Option Fault) → option_map (told_under r) (matrix_fault t r s) ≡ None → option_map (told_under r) (matrix_fault t r s then rows) ≡ option_map (told_under r) rows
matrix_next t r s rows e = told_next (told_under r) (matrix_fault t r s) rows e

pub matrix_left : (t : Table) (r : Roots) (s : Span) → option_map (told_under r) (info_fault t.image s) ≡ None → option_map (told_under r) (bth_fault (heap_at t r) tc_sizes (index_place s) (index_hid t.image s)) ≡ None
    → option_map (told_under r) (matrix_fault t r s then first_of (row_record_fault t r s) (bth_records (heap_at t r) tc_sizes (index_hid t.image s))) ≡ option_map (told_under r) (tc_body_fault t r s)
unfolding tc_body_fault tc_records
matrix_left t r s a b = sym (told_next (told_under r) _ _ a ∙ told_next (told_under r) _ _ b)

-- ---- the context

pub heap_fails : (t : Table) (r : Roots) (f : Fault) → option_map (told_under r) (heap_fault (heap_at t r)) ≡ Some f → tc_fault t r ≡ Some f
unfolding tc_fault untold_tc_fault
heap_fails t r f e = told_first (told_under r) (heap_fault (heap_at t r)) _ f e

pub heap_refused : (t : Table) (r : Roots) (f : Fault) → IsFirst (option_map (told_under r) (heap_fault (heap_at t r))) f → IsFirst (tc_fault t r) f
heap_refused t r f (inl out) = inl out
heap_refused t r f (inr e) = inr (heap_fails t r f e)

pub client_fails : (t : Table) (r : Roots) (f : Fault) → option_map (told_under r) (heap_fault (heap_at t r)) ≡ None → option_map (told_under r) (client_fault 0x7C (heap_at t r)) ≡ Some f → tc_fault t r ≡ Some f
unfolding tc_fault untold_tc_fault
client_fails t r f a e = told_next (told_under r) _ _ a ∙ told_first (told_under r) (client_fault 0x7C (heap_at t r)) _ f e

-- where nothing failed up to the client signature, what is left is what TCINFO names
pub context_left : (t : Table) (r : Roots) → option_map (told_under r) (heap_fault (heap_at t r)) ≡ None → option_map (told_under r) (client_fault 0x7C (heap_at t r)) ≡ None
    → (o : Option Span) → o ≡ item_of (heap_at t r) (user_root_of (heap_at t r)) → option_map (told_under r) (item_or (user_root_place (heap_at t r)) (tc_body_fault t r) o) ≡ tc_fault t r
unfolding tc_fault untold_tc_fault
context_left t r a b o is = rw is (sym (told_next (told_under r) _ _ a ∙ told_next (told_under r) _ _ b))

-- ---- without fault

pub record TcFacts (t : Table) (r : Roots) : Type 0 where
  pub heap : heap_fault (heap_at t r) ≡ None
  pub table : item_or (user_root_place (heap_at t r)) (tc_body_fault t r) (item_of (heap_at t r) (user_root_of (heap_at t r))) ≡ None

pub facts : (t : Table) (r : Roots) → tc_fault t r ≡ None → TcFacts t r
unfolding tc_fault untold_tc_fault
facts t r none =
    let a = none_then _ _ (told_none (told_under r) _ none) in
    let b = none_then _ _ a.1 in
    record { heap = a.0; table = b.1 }

pub has_heap : (t : Table) (r : Roots) → tc_fault t r ≡ None → heap_fault (heap_at t r) ≡ None
has_heap t r none = TcFacts.heap (facts t r none)

pub table_sound : (t : Table) (r : Roots) (s : Span) → tc_fault t r ≡ None → Some s ≡ item_of (heap_at t r) (user_root_of (heap_at t r)) → tc_body_fault t r s ≡ None
table_sound t r s none is =
    let e : item_or (user_root_place (heap_at t r)) (tc_body_fault t r) (item_of (heap_at t r) (user_root_of (heap_at t r))) ≡ None = TcFacts.table (facts t r none) in
    (rw (← is) at e)

pub info_there : (t : Table) (r : Roots) → tc_fault t r ≡ None → None ≡ item_of (heap_at t r) (user_root_of (heap_at t r)) → ⊥
info_there t r none is =
    let e : item_or (user_root_place (heap_at t r)) (tc_body_fault t r) (item_of (heap_at t r) (user_root_of (heap_at t r))) ≡ None = TcFacts.table (facts t r none) in
    let bad : Some (no_item (user_root_place (heap_at t r))) ≡ None = (rw (← is) at e) in
    cc
