-- TCINFO, step by step.
use Rattle.std.proofs.Common.{◌≡◌, ℕ, ◌+◌, ◌*◌, ◌/◌, ◌<◌, ◌≤◌, true, false, List, Some, None, refl, arith}
use Rattle.std.proofs.lemmas.Bool.{leb-true, ltb-true, and_parts}
use Rattle.pst_bytes.specs.declared.span.Span.{Span}
use Rattle.pst_bytes.specs.Image.{num}
use Rattle.pst_fault.specs.declared.kind.Kind.TheVariants.{Table as BadTable}
use Rattle.pst_fault.specs.Fault.{fault_at}
use Rattle.pst_fault.specs.First.{first_below}
use Rattle.pst_fault.proofs.FirstLemmas.{none_then, holds_or_none, first_at, first_more, none_below}
use Rattle.pst_tc.specs.Info.{column_count, row_size, ones_end, is_info, is_column, column_place, column_start, column_width, column_bit}
use Rattle.pst_tc.specs.Fault.{column_fault}
use Rattle.pst_tc.specs.Fault.{info_fault}

pub info_bad : (I : List ℕ) (s : Span) → is_info I s ≡ false → info_fault I s ≡ Some (fault_at BadTable s.at)
unfolding info_fault
info_bad I s h = rw h refl

pub info_good : (I : List ℕ) (s : Span) → is_info I s ≡ true → first_below (column_fault I s) (column_count I s) ≡ None → info_fault I s ≡ None
unfolding info_fault
info_good I s h e = rw h e

pub column_bad : (I : List ℕ) (s : Span) (i c : ℕ) → is_info I s ≡ true → i < column_count I s → first_below (column_fault I s) i ≡ None → c ≡ column_place s i → is_column I s c ≡ false → info_fault I s ≡ Some (fault_at BadTable c)
unfolding info_fault column_fault
column_bad I s i c h lt before is bad =
    let here : column_fault I s i ≡ Some (fault_at BadTable c) = rw (← is, bad) refl in
    rw h (first_at (column_fault I s) (column_count I s) i (fault_at BadTable c) before here lt)

pub column_more : (I : List ℕ) (s : Span) (i c : ℕ) → first_below (column_fault I s) i ≡ None → c ≡ column_place s i → is_column I s c ≡ true → first_below (column_fault I s) (i + 1) ≡ None
unfolding column_fault
column_more I s i c before is good = first_more (column_fault I s) i before (rw (← is, good) refl)

-- the numbers of a TCINFO
pub record InfoFacts (I : List ℕ) (s : Span) : Type 0 where
  pub room : 22 + 8 * column_count I s ≤ s.len
  pub least : 4 ≤ row_size I s
  pub most : row_size I s ≤ 8176
  pub ones : ones_end I s ≤ row_size I s

pub info_facts : (I : List ℕ) (s : Span) → is_info I s ≡ true → InfoFacts I s
unfolding is_info
info_facts I s h =
    let a = and_parts _ _ h in
    let b = and_parts _ _ a.0 in
    let c = and_parts _ _ b.0 in
    let d = and_parts _ _ c.0 in
    let e = and_parts _ _ d.0 in
    let f = and_parts _ _ e.0 in
    let most : row_size I s ≤ 8176 = leb-true _ _ a.1 in
    let ones : ones_end I s ≤ row_size I s = leb-true _ _ b.1 in
    let twos : num I (s.at + 4) 2 ≤ ones_end I s = leb-true _ _ c.1 in
    let fours : num I (s.at + 2) 2 ≤ num I (s.at + 4) 2 = leb-true _ _ d.1 in
    let four : 4 ≤ num I (s.at + 2) 2 = leb-true _ _ e.1 in
    let room : 22 + 8 * column_count I s ≤ s.len = leb-true _ _ f.1 in
    record { room = room; least = omega (arith, most, ones, twos, fours, four); most = most; ones = ones }

pub info_room : (I : List ℕ) (s : Span) → is_info I s ≡ true → 22 + 8 * column_count I s ≤ s.len
info_room I s h = InfoFacts.room (info_facts I s h)

-- ---- without fault

pub sound_info : (I : List ℕ) (s : Span) → info_fault I s ≡ None → is_info I s ≡ true
unfolding info_fault
sound_info I s none = holds_or_none _ _ (none_then _ _ none).0

pub sound_room : (I : List ℕ) (s : Span) → info_fault I s ≡ None → 22 + 8 * column_count I s ≤ s.len
sound_room I s none = info_room I s (sound_info I s none)

pub sound_least : (I : List ℕ) (s : Span) → info_fault I s ≡ None → 4 ≤ row_size I s
sound_least I s none = InfoFacts.least (info_facts I s (sound_info I s none))

pub sound_most : (I : List ℕ) (s : Span) → info_fault I s ≡ None → row_size I s ≤ 8176
sound_most I s none = InfoFacts.most (info_facts I s (sound_info I s none))

pub sound_column : (I : List ℕ) (s : Span) (i c : ℕ) → info_fault I s ≡ None → i < column_count I s → c ≡ column_place s i → is_column I s c ≡ true
unfolding info_fault column_fault
sound_column I s i c none lt is = rw is (holds_or_none _ _ (none_below (column_fault I s) (column_count I s) i (none_then _ _ none).1 lt))

pub cell_inside : (I : List ℕ) (s : Span) (c : ℕ) → is_column I s c ≡ true → column_start I c + column_width I c ≤ row_size I s
unfolding is_column
cell_inside I s c h = leb-true _ _ (and_parts _ _ h).0

pub bit_inside : (I : List ℕ) (s : Span) (c : ℕ) → is_column I s c ≡ true → ones_end I s + column_bit I c / 8 < row_size I s
unfolding is_column
bit_inside I s c h = ltb-true _ _ (and_parts _ _ h).1
