-- The entries of a stream, piece by piece.
use Rattle.std.proofs.Common.{◌≡◌, ℕ, ◌+◌, ◌-◌, ◌*◌, ◌/◌, ◌<◌, ◌≤◌, true, false, List, ◌∷◌, length, take, Option, Some, None, sym, ap, ◌∙◌, arith}
use Rattle.pst_bytes.specs.declared.span.Span.{Span}
use Rattle.pst_bytes.specs.Image.{bytes_at}
use Rattle.pst_fault.specs.declared.fault.Fault.{Fault}
use Rattle.pst_fault.specs.declared.kind.Kind.TheVariants.{Property as BadProperty}
use Rattle.pst_fault.specs.Fault.{fault_at}
use Rattle.pst_fault.specs.Each.{first_of}
use Rattle.pst_datatree.specs.Spans.{joined_bytes}
use Rattle.pst_names.specs.Entry.{NameEntry, name_entry_bytes, entry_with, name_entries}
use Rattle.pst_names.specs.Fault.{name_entry_fault}
use Rattle.pst_names.specs.Known.{allows, AreAllowed, IsFirstBad}
use Rattle.pst_names.specs.Behind.{IsBehind}
use Rattle.pst_names.proofs.EntryLemmas.{entry_here, entry_across, passed_many, refused_at, passed_all}
use Rattle.pst_names.proofs.FaultLemmas.{allowed_none, refused_some}
use Rattle.pst_names.proofs.RestLemmas.{joins}

-- the first fault from an entry on, of so many in all
abbrev pub left_from : (NameEntry → Option Fault) → (ℕ → NameEntry) → ℕ → ℕ → Option Fault
left_from f entry i count = first_of f (name_entries entry i (count - i))

-- so many without a fault are passed over
many_pass : (f : NameEntry → Option Fault) (entry : ℕ → NameEntry) (i m count : ℕ) (total : Option Fault) → i + m ≤ count → ((j : ℕ) → j < m → f (entry (i + j)) ≡ None) → left_from f entry i count ≡ total → left_from f entry (i + m) count ≡ total
many_pass f entry i m count total le none so_far =
    let n : count - i ≡ m + (count - (i + m)) = omega (arith, le) in
    sym (passed_many f entry i m (count - (i + m)) none) ∙ ap (λ k. first_of f (name_entries entry i k)) (sym n) ∙ so_far

-- the one behind them has a fault
one_refused : (f : NameEntry → Option Fault) (entry : ℕ → NameEntry) (i j count : ℕ) (total : Option Fault) (x : Fault) → i + j < count → ((k : ℕ) → k < j → f (entry (i + k)) ≡ None) → f (entry (i + j)) ≡ Some x → left_from f entry i count ≡ total → total ≡ Some x
one_refused f entry i j count total x lt none failed so_far =
    sym so_far ∙ refused_at f entry i j (count - i) x none failed (omega (arith, lt))

-- ---- those that lie side by side in a piece

pub front_passes : (I : List ℕ) (all : List Span) (guids : ℕ) (strings front : List ℕ) (i m count : ℕ) (s : Span) (rest : List Span) (total : Option Fault) → IsBehind I all (8 * i) (s ∷ rest) → front ≡ bytes_at I s → length front ≡ s.len
    → m ≡ length front / 8 → i + m ≤ count → AreAllowed guids strings front
    → left_from (name_entry_fault guids strings) (entry_with all (joined_bytes I all)) i count ≡ total → left_from (name_entry_fault guids strings) (entry_with all (joined_bytes I all)) (i + m) count ≡ total
front_passes I all guids strings front i m count s rest total b is len whole le good so_far =
    many_pass (name_entry_fault guids strings) (entry_with all (joined_bytes I all)) i m count total le none so_far
  where
    none : (j : ℕ) → j < m → name_entry_fault guids strings (entry_with all (joined_bytes I all) (i + j)) ≡ None
    none j lt =
        let inside : 8 * j + 8 ≤ length front = omega (arith, lt, whole) in
        rw (entry_here I all i j s rest front b is len inside) (allowed_none guids strings (s.at + 8 * j) (name_entry_bytes front j) (good j inside))

pub front_fails : (I : List ℕ) (all : List Span) (guids : ℕ) (strings front : List ℕ) (i j count : ℕ) (s : Span) (rest : List Span) (total : Option Fault) → IsBehind I all (8 * i) (s ∷ rest) → front ≡ bytes_at I s → length front ≡ s.len
    → i + length front / 8 ≤ count → IsFirstBad guids strings front (Some j)
    → left_from (name_entry_fault guids strings) (entry_with all (joined_bytes I all)) i count ≡ total → total ≡ Some (fault_at BadProperty (s.at + 8 * j))
front_fails I all guids strings front i j count s rest total b is len le bad so_far =
    let lt : i + j < count = omega (arith, bad.0, le) in
    let failed : name_entry_fault guids strings (entry_with all (joined_bytes I all) (i + j)) ≡ Some (fault_at BadProperty (s.at + 8 * j)) =
    rw (entry_here I all i j s rest front b is len bad.0) (refused_some guids strings (s.at + 8 * j) (name_entry_bytes front j) bad.1) in
    one_refused (name_entry_fault guids strings) (entry_with all (joined_bytes I all)) i j count total (fault_at BadProperty (s.at + 8 * j)) lt none failed so_far
  where
    none : (k : ℕ) → k < j → name_entry_fault guids strings (entry_with all (joined_bytes I all) (i + k)) ≡ None
    none k lt =
        let inside : 8 * k + 8 ≤ length front = omega (arith, lt, bad.0) in
        rw (entry_here I all i k s rest front b is len inside) (allowed_none guids strings (s.at + 8 * k) (name_entry_bytes front k) (bad.2 k lt))

-- ---- one that lies in several pieces

pub one_passes : (I : List ℕ) (all : List Span) (guids : ℕ) (strings : List ℕ) (i count : ℕ) (s : Span) (rest : List Span) (total : Option Fault) → IsBehind I all (8 * i) (s ∷ rest) → 0 < s.len → 8 * i + 8 ≤ length (joined_bytes I all) → i < count
    → allows guids strings (take 8 (joined_bytes I (s ∷ rest))) ≡ true
    → left_from (name_entry_fault guids strings) (entry_with all (joined_bytes I all)) i count ≡ total → left_from (name_entry_fault guids strings) (entry_with all (joined_bytes I all)) (i + 1) count ≡ total
one_passes I all guids strings i count s rest total b some le lt good so_far =
    many_pass (name_entry_fault guids strings) (entry_with all (joined_bytes I all)) i 1 count total (omega (arith, lt)) none so_far
  where
    none : (j : ℕ) → j < 1 → name_entry_fault guids strings (entry_with all (joined_bytes I all) (i + j)) ≡ None
    none j one =
        let here : i + j ≡ i = omega (arith, one) in
        rw (here, entry_across I all i s rest b some le) (allowed_none guids strings s.at (take 8 (joined_bytes I (s ∷ rest))) good)

pub one_fails : (I : List ℕ) (all : List Span) (guids : ℕ) (strings : List ℕ) (i count : ℕ) (s : Span) (rest : List Span) (total : Option Fault) → IsBehind I all (8 * i) (s ∷ rest) → 0 < s.len → 8 * i + 8 ≤ length (joined_bytes I all) → i < count
    → allows guids strings (take 8 (joined_bytes I (s ∷ rest))) ≡ false
    → left_from (name_entry_fault guids strings) (entry_with all (joined_bytes I all)) i count ≡ total → total ≡ Some (fault_at BadProperty s.at)
one_fails I all guids strings i count s rest total b some le lt bad so_far =
    let here : i + 0 ≡ i = omega arith in
    let failed : name_entry_fault guids strings (entry_with all (joined_bytes I all) (i + 0)) ≡ Some (fault_at BadProperty s.at) =
    rw (here, entry_across I all i s rest b some le) (refused_some guids strings s.at (take 8 (joined_bytes I (s ∷ rest))) bad) in
    one_refused (name_entry_fault guids strings) (entry_with all (joined_bytes I all)) i 0 count total (fault_at BadProperty s.at) (omega (arith, lt)) (λ k none. absurd (omega (arith, none))) failed so_far

-- none is left
pub none_left : (I : List ℕ) (all : List Span) (guids : ℕ) (strings : List ℕ) (i count : ℕ) (total : Option Fault) → count - i ≡ 0 → left_from (name_entry_fault guids strings) (entry_with all (joined_bytes I all)) i count ≡ total → total ≡ None
none_left I all guids strings i count total none so_far = sym so_far ∙ rw none (passed_all (name_entry_fault guids strings) (entry_with all (joined_bytes I all)) i)

-- ---- places

-- so many entries further on
pub further : (I : List ℕ) (all mid rest : List Span) (i m n : ℕ) → n ≡ 8 * m → IsBehind I all (8 * i) mid → IsBehind I mid n rest → IsBehind I all (8 * (i + m)) rest
further I all mid rest i m n is a b = let same : 8 * i + n ≡ 8 * (i + m) = omega (arith, is) in rw same at (joins I all mid rest (8 * i) n a b)
