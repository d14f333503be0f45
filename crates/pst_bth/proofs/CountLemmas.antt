-- How many records come before one: at most as its key says, since keys rise.
use Rattle.std.proofs.Common.{◌≡◌, ℕ, zero, suc, ◌+◌, ◌-◌, ◌*◌, ◌<◌, ◌≤◌, List, [], ◌++◌, map, length, None, sym, ap, subst, ◌∙◌, arith}
use Rattle.std.proofs.lemmas.List.{length-map, length-append}
use Rattle.pst_bytes.specs.declared.span.Span.{Span}
use Rattle.pst_page.specs.Page.{places}
use Rattle.pst_page.proofs.EntryLemmas.{places_count}
use Rattle.pst_btree.specs.Order.{Rises}
use Rattle.pst_btree.proofs.RiseLemmas.{lower}
use Rattle.pst_bth.specs.declared.sizes.Sizes.{Sizes}
use Rattle.pst_bth.specs.Rows.{row_key, row_count, row_place, rows_from, leaf_size}
use Rattle.pst_heap.specs.Values.{HeapData}
use Rattle.pst_bth.specs.Values.{record_at, record_key, header_rows, records_under}
use Rattle.pst_bth.specs.Fault.{bth_header_fault}
use Rattle.pst_bth.proofs.RowLemmas.{rows_end}
use Rattle.pst_bth.proofs.BthLaws.{keys_are, header_rises}

-- ---- records that lie one behind the other, and others behind them

places_past : (f : ℕ → ℕ) (width at n m : ℕ) (ys : List ℕ) → Rises n None (map f (places at width m ++ ys)) → Rises (n + m) None (map f ys)
places_past f width at n zero ys r = lower n (n + 0) None (map f ys) (omega arith) r
places_past f width at n (suc m) ys r =
    let least = r.0 in
    lower (f at + 1 + m) (n + suc m) None (map f ys) (omega (arith, least)) (places_past f width (at + width) (f at + 1) m ys r.2)

places_last : (f : ℕ → ℕ) (width at n m : ℕ) (ys : List ℕ) → Rises n None (map f (places at width (suc m) ++ ys)) → n + m ≤ f (at + m * width)
places_last f width at n zero ys r = let same : at + 0 * width ≡ at = omega arith in let least = r.0 in rw same (omega (arith, least))
places_last f width at n (suc m) ys r =
    let same : at + suc m * width ≡ at + width + m * width = omega arith in
    let least = r.0 in
    let behind = places_last f width (at + width) (f at + 1) m ys r.2 in
    rw same (omega (arith, least, behind))

-- ---- what is left of a leaf is passed over

module _ (I : List ℕ) (z : Sizes) (s : Span) (i : ℕ) (rest : List ℕ) where
  pub leaf_last : (n : ℕ) → i < row_count (leaf_size z) s → Rises n None (map record_key (map (record_at I z) (rows_from (leaf_size z) s i ++ rest)))
      → n + (row_count (leaf_size z) s - i) ≤ row_key I z.key (row_place (leaf_size z) s (row_count (leaf_size z) s - 1)) + 1
  unfolding rows_from
  leaf_last n lt r =
      let size = leaf_size z in
      let count = row_count size s in
      let m : count - i ≡ suc (count - i - 1) = omega arith in
      let keys = subst (λ (ks : List ℕ). Rises n None ks) (keys_are I z (rows_from size s i ++ rest)) r in
      let last : n + (count - i - 1) ≤ row_key I z.key (row_place size s i + (count - i - 1) * size) =
      places_last (row_key I z.key) size (row_place size s i) n (count - i - 1) rest (subst (λ (k : ℕ). Rises n None (map (row_key I z.key) (places (row_place size s i) size k ++ rest))) m keys) in
      let number : i + (count - i - 1) ≡ count - 1 = omega arith in
      let at : row_place size s i + (count - i - 1) * size ≡ row_place size s (count - 1) = (omega arith) ∙ ap (row_place size s) number in
      let there = rw at at last in
      omega (arith, there, m)

  pub leaf_past : (n : ℕ) → Rises n None (map record_key (map (record_at I z) (rows_from (leaf_size z) s i ++ rest)))
      → Rises (n + (row_count (leaf_size z) s - i)) None (map record_key (map (record_at I z) (rows_from (leaf_size z) s (row_count (leaf_size z) s) ++ rest)))
  unfolding rows_from
  leaf_past n r =
      let size = leaf_size z in
      let count = row_count size s in
      let keys = subst (λ (ks : List ℕ). Rises n None ks) (keys_are I z (rows_from size s i ++ rest)) r in
      rw (rows_end size s count (omega arith)) (subst (λ (ks : List ℕ). Rises (n + (count - i)) None ks) (sym (keys_are I z rest)) (places_past (row_key I z.key) size (row_place size s i) n (count - i) rest keys))

  pub leaf_length : (n : ℕ) → n + (row_count (leaf_size z) s - i) + length (map (record_at I z) (rows_from (leaf_size z) s (row_count (leaf_size z) s) ++ rest))
      ≡ n + length (map (record_at I z) (rows_from (leaf_size z) s i ++ rest))
  unfolding rows_from
  leaf_length n =
      let size = leaf_size z in
      let count = row_count size s in
      let gone : rows_from size s count ≡ [] = rows_end size s count (omega arith) in
      let behind : length (map (record_at I z) (rows_from size s count ++ rest)) ≡ length rest = rw gone (length-map rest (record_at I z)) in
      let all : length (map (record_at I z) (rows_from size s i ++ rest)) ≡ (count - i) + length rest =
      length-map (rows_from size s i ++ rest) (record_at I z) ∙ length-append (rows_from size s i) rest ∙ ap (λ k. k + length rest) (places_count (row_place size s i) size (count - i)) in
      omega (arith, behind, all)

-- ---- all of them

pub records_rise : (h : HeapData) (z : Sizes) (head : Span) → bth_header_fault h z head ≡ None → Rises 0 None (map record_key (records_under h z head))
records_rise h z head none = subst (λ (ks : List ℕ). Rises 0 None ks) (sym (keys_are h.image z (header_rows h z head))) (header_rises h z head none)
