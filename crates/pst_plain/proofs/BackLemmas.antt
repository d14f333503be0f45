-- A block whose body is changed and changed back is as it was, and blocks that are apart are changed in either order.
use Rattle.std.proofs.Common.{◌≡◌, ℕ, ◌+◌, ◌≤◌, ◌⊎◌, inl, inr, List, [], ◌∷◌, length, take, drop, refl, sym, ap, ◌∙◌, arith}
use Rattle.std.specs.List.{All}
use Rattle.std.proofs.lemmas.List.Elements.{All-head, All-tail}
use Rattle.byteorder.specs.Endian.{little_bytes, little_number}
use Rattle.byteorder.specs.Numbers.{length-bytes_low_first}
use Rattle.pst_bytes.specs.Image.{num, bytes_at}
use Rattle.pst_bytes.specs.declared.span.Span.{Span}
use Rattle.pst_bytes.specs.Span.{IsApartFrom, IsApartFromAll}
use Rattle.pst_encoding.specs.Tables.{IsByte}
use Rattle.pst_page.specs.declared.entry.BlockEntry.{BlockEntry}
use Rattle.pst_block.specs.Block.{block_size, block_span, body_span, trailer_at}
use Rattle.pst_block.proofs.BlockLemmas.{size_large}
use Rattle.pst_space.specs.Apart.{AreApart}
use Rattle.pst_block.specs.Walk.{block_spans}
use Rattle.pst_plain.specs.Written.{written}
use Rattle.pst_plain.specs.Carried.{carried, with_carried}
use Rattle.pst_plain.specs.Blocks.{EndsBy}
use Rattle.pst_plain.specs.Twin.{with_body}
use Rattle.pst_plain.proofs.CodingLemmas.{Coding, IsCoding, IsUndoneBy, all_changed}
use Rattle.pst_plain.proofs.WriteLemmas.{length_written, bytes_here, bytes_elsewhere, written_again, written_same, written_apart}
use Rattle.pst_plain.proofs.HeadLemmas.{carried_fits, carried_back, num_fits, num_written, num_elsewhere, num_stands, span_bytes, written_bytes}
use Rattle.pst_plain.proofs.StepLemmas.{body_inside, body_length}

-- ---- one block, changed and changed back

pub block_again : (I : List ℕ) (coding back : Coding) (e : BlockEntry) → IsCoding coding → IsUndoneBy coding back → All IsByte I → EndsBy (length I) e → with_body (back e.bid) e (with_body (coding e.bid) e I) ≡ I
unfolding with_body with_carried
block_again I coding back e is undone all by_end =
    let old = bytes_at I (body_span e) in
    let old_bytes = span_bytes I (body_span e) all in
    let new = coding e.bid old in
    let new_bytes = is.bytes e.bid old old_bytes in
    let a = e.ib in
    let t = trailer_at e + 4 in
    let large = size_large e.cb in
    let k : e.ib + block_size e.cb ≤ length I = by_end in
    let inside : a + e.cb ≤ length I = body_inside (length I) e by_end in
    let old_long : length old ≡ e.cb = body_length I e inside in
    let long : length new ≡ e.cb = is.long e.bid old ∙ old_long in
    let apart : a + e.cb ≤ t = omega (arith, large) in
    let room : t + 4 ≤ length I = omega (arith, large, k) in
    let J = written I a new in
    let J_long : length J ≡ length I = length_written I a new (omega (arith, long, inside)) in
    let J_bytes = written_bytes I a new all new_bytes in
    let v : num J t 4 ≡ num I t 4 = num_elsewhere I a new t 4 (omega (arith, long, inside)) (inr (omega (arith, long, apart))) in
    let over = carried (num J t 4) old new in
    let over_fits = carried_fits (num J t 4) old new (num_fits J t J_bytes) old_bytes new_bytes in
    let four = little_bytes 4 over in
    let four_long : length four ≡ 4 = length-bytes_low_first 0 4 over in
    let K = written J t four in
    let K_body : bytes_at K (body_span e) ≡ new =
    bytes_elsewhere J t four (body_span e) (omega (arith, four_long, J_long, room)) (inl apart)
    ∙ bytes_here I a new (body_span e) refl (sym long) (omega (arith, long, inside)) in
    let stands : written I a old ≡ I = written_same I a old (omega (arith, old_long, inside)) (ap (λ n. take n (drop a I)) (sym old_long)) in
    let again : written K a old ≡ written I t four =
    sym (written_apart J a old t four (omega (arith, old_long, apart)) (omega (arith, four_long, J_long, room)))
    ∙ ap (λ l. written l t four) (written_again I a new old (long ∙ sym old_long) (omega (arith, long, inside)) ∙ stands) in
    let L = written I t four in
    let L_check : num L t 4 ≡ over = num_written I t over room over_fits in
    rw (K_body, undone e.bid old old_bytes, again, L_check, carried_back (num J t 4) old new)
    (ap (λ n. written L t (little_bytes 4 n)) v
    ∙ written_again I t four (little_bytes 4 (num I t 4)) (four_long ∙ sym (length-bytes_low_first 0 4 (num I t 4))) (omega (arith, four_long, room))
    ∙ num_stands I t room all)

-- ---- two blocks that are apart

-- writes that are apart, whichever lies first
pub written_swap : (I : List ℕ) (at : ℕ) (bytes : List ℕ) (place : ℕ) (others : List ℕ) → at + length bytes ≤ length I → place + length others ≤ length I
    → (at + length bytes ≤ place) ⊎ (place + length others ≤ at) → written (written I at bytes) place others ≡ written (written I place others) at bytes
written_swap I at bytes place others first second (inl h) = written_apart I at bytes place others h second
written_swap I at bytes place others first second (inr h) = sym (written_apart I place others at bytes h first)

-- what stands in a block, once another that is apart from it is changed
module _ (I : List ℕ) (e : BlockEntry) (new : List ℕ) (by_end : EndsBy (length I) e) (long : length new ≡ e.cb) where
  abbrev put : List ℕ
  put = written (written I e.ib new) (trailer_at e + 4) (little_bytes 4 (carried (num (written I e.ib new) (trailer_at e + 4) 4) (bytes_at I (body_span e)) new))

  pub put_long : length put ≡ length I
  put_long =
      let large = size_large e.cb in
      let k : e.ib + block_size e.cb ≤ length I = by_end in
      let J_long : length (written I e.ib new) ≡ length I = length_written I e.ib new (omega (arith, long, large, k)) in
      let over = carried (num (written I e.ib new) (trailer_at e + 4) 4) (bytes_at I (body_span e)) new in
      let four_long : length (little_bytes 4 over) ≡ 4 = length-bytes_low_first 0 4 over in
      length_written (written I e.ib new) (trailer_at e + 4) (little_bytes 4 over) (omega (arith, four_long, J_long, large, k)) ∙ J_long

  pub put_elsewhere : (s : Span) → IsApartFrom s (block_span e) → bytes_at put s ≡ bytes_at I s
  put_elsewhere s apart =
      let large = size_large e.cb in
      let k : e.ib + block_size e.cb ≤ length I = by_end in
      let J_long : length (written I e.ib new) ≡ length I = length_written I e.ib new (omega (arith, long, large, k)) in
      let over = carried (num (written I e.ib new) (trailer_at e + 4) 4) (bytes_at I (body_span e)) new in
      let four_long : length (little_bytes 4 over) ≡ 4 = length-bytes_low_first 0 4 over in
      let check : IsApartFrom s (record { at = trailer_at e + 4; len = length (little_bytes 4 over) }) =
      elim apart [ inl h ↦ inl (omega (arith, h, large)) | inr h ↦ inr (omega (arith, h, four_long, large)) ] in
      let body : IsApartFrom s (record { at = e.ib; len = length new }) =
      elim apart [ inl h ↦ inl h | inr h ↦ inr (omega (arith, h, long, large)) ] in
      bytes_elsewhere (written I e.ib new) (trailer_at e + 4) (little_bytes 4 over) s (omega (arith, four_long, J_long, large, k)) check
      ∙ bytes_elsewhere I e.ib new s (omega (arith, long, large, k)) body

-- two blocks that are apart, changed in either order
abbrev KeepsLength : (List ℕ → List ℕ) → Type 0
KeepsLength change = (body : List ℕ) → length (change body) ≡ length body

pub body_long : (change : List ℕ → List ℕ) (e : BlockEntry) (I : List ℕ) → KeepsLength change → EndsBy (length I) e → length (with_body change e I) ≡ length I
unfolding with_body with_carried
body_long change e I keeps by_end =
    put_long I e (change (bytes_at I (body_span e))) by_end (keeps (bytes_at I (body_span e)) ∙ body_length I e (body_inside (length I) e by_end))

pub body_elsewhere : (change : List ℕ → List ℕ) (e : BlockEntry) (I : List ℕ) (s : Span) → KeepsLength change → EndsBy (length I) e → IsApartFrom s (block_span e) → bytes_at (with_body change e I) s ≡ bytes_at I s
unfolding with_body with_carried
body_elsewhere change e I s keeps by_end apart =
    put_elsewhere I e (change (bytes_at I (body_span e))) by_end (keeps (bytes_at I (body_span e)) ∙ body_length I e (body_inside (length I) e by_end)) s apart

-- what is written in a block: the same, once another block is changed
check_elsewhere : (change : List ℕ → List ℕ) (e : BlockEntry) (I : List ℕ) (at : ℕ) → KeepsLength change → EndsBy (length I) e → IsApartFrom (record { at = at; len = 4 }) (block_span e) → num (with_body change e I) at 4 ≡ num I at 4
unfolding num
check_elsewhere change e I at keeps by_end apart = ap (little_number 4) (body_elsewhere change e I (record { at = at; len = 4 }) keeps by_end apart)

-- how a block that is changed is written
over_of : (I : List ℕ) (e : BlockEntry) (old new : List ℕ) → e.ib + e.cb ≤ length I → length new ≡ e.cb → EndsBy (length I) e
    → num (written I e.ib new) (trailer_at e + 4) 4 ≡ num I (trailer_at e + 4) 4
over_of I e old new inside long by_end =
    let large = size_large e.cb in
    num_elsewhere I e.ib new (trailer_at e + 4) 4 (omega (arith, long, inside)) (inr (omega (arith, long, large)))

abbrev both_written : List ℕ → BlockEntry → List ℕ → List ℕ → List ℕ
both_written I e new four = written (written I e.ib new) (trailer_at e + 4) four

body_written : (change : List ℕ → List ℕ) (e : BlockEntry) (I : List ℕ) → KeepsLength change → EndsBy (length I) e
    → with_body change e I ≡ both_written I e (change (bytes_at I (body_span e))) (little_bytes 4 (carried (num I (trailer_at e + 4) 4) (bytes_at I (body_span e)) (change (bytes_at I (body_span e)))))
unfolding with_body with_carried
body_written change e I keeps by_end =
    let old = bytes_at I (body_span e) in
    let inside = body_inside (length I) e by_end in
    let v = over_of I e old (change old) inside (keeps old ∙ body_length I e inside) by_end in
    ap (λ n. both_written I e (change old) (little_bytes 4 (carried n old (change old)))) v

inner_apart : (e d : BlockEntry) (a n b m : ℕ) → IsApartFrom (block_span e) (block_span d) → e.ib ≤ a → a + n ≤ e.ib + block_size e.cb → d.ib ≤ b → b + m ≤ d.ib + block_size d.cb → (a + n ≤ b) ⊎ (b + m ≤ a)
inner_apart e d a n b m (inl h) from to start end = inl (omega arith)
inner_apart e d a n b m (inr h) from to start end = inr (omega arith)

writes_swap : (I : List ℕ) (e d : BlockEntry) (x y p q : List ℕ) → EndsBy (length I) e → EndsBy (length I) d → IsApartFrom (block_span e) (block_span d) → length x ≡ e.cb → length y ≡ d.cb → length p ≡ 4 → length q ≡ 4
    → both_written (both_written I d y q) e x p ≡ both_written (both_written I e x p) d y q
writes_swap I e d x y p q e_end d_end apart x_long y_long p_long q_long =
    let e_large = size_large e.cb in
    let d_large = size_large d.cb in
    let ek : e.ib + block_size e.cb ≤ length I = e_end in
    let dk : d.ib + block_size d.cb ≤ length I = d_end in
    let a = e.ib in
    let c = trailer_at e + 4 in
    let b = d.ib in
    let f = trailer_at d + 4 in
    let K = written I b y in
    let K_long : length K ≡ length I = length_written I b y (omega (arith, y_long, d_large, dk)) in
    let M = written I a x in
    let M_long : length M ≡ length I = length_written I a x (omega (arith, x_long, e_large, ek)) in
    let N = written M b y in
    let N_long : length N ≡ length I = length_written M b y (omega (arith, y_long, d_large, dk, M_long)) ∙ M_long in
    let aq = inner_apart e d a (length x) f (length q) apart (omega arith) (omega (arith, x_long, e_large)) (omega (arith, d_large)) (omega (arith, q_long, d_large)) in
    let ay = inner_apart e d a (length x) b (length y) apart (omega arith) (omega (arith, x_long, e_large)) (omega arith) (omega (arith, y_long, d_large)) in
    let cq = inner_apart e d c (length p) f (length q) apart (omega (arith, e_large)) (omega (arith, p_long, e_large)) (omega (arith, d_large)) (omega (arith, q_long, d_large)) in
    let cy = inner_apart e d c (length p) b (length y) apart (omega (arith, e_large)) (omega (arith, p_long, e_large)) (omega arith) (omega (arith, y_long, d_large)) in
    let first : written (written K f q) a x ≡ written (written K a x) f q =
    sym (written_swap K a x f q (omega (arith, K_long, x_long, e_large, ek)) (omega (arith, K_long, q_long, d_large, dk)) aq) in
    let second : written K a x ≡ N = sym (written_swap I a x b y (omega (arith, x_long, e_large, ek)) (omega (arith, y_long, d_large, dk)) ay) in
    let third : written (written N f q) c p ≡ written (written N c p) f q =
    sym (written_swap N c p f q (omega (arith, N_long, p_long, e_large, ek)) (omega (arith, N_long, q_long, d_large, dk)) cq) in
    let fourth : written N c p ≡ written (written M c p) b y =
    sym (written_swap M c p b y (omega (arith, M_long, p_long, e_large, ek)) (omega (arith, M_long, y_long, d_large, dk)) cy) in
    ap (λ l. written l c p) (first ∙ ap (λ l. written l f q) second) ∙ third ∙ ap (λ l. written l f q) fourth

pub turned : (s t : Span) → IsApartFrom s t → IsApartFrom t s
turned s t (inl h) = inr h
turned s t (inr h) = inl h

part_apart : (e d : BlockEntry) (s : Span) → IsApartFrom (block_span e) (block_span d) → e.ib ≤ s.at → s.at + s.len ≤ e.ib + block_size e.cb → IsApartFrom s (block_span d)
part_apart e d s (inl h) from to = inl (omega arith)
part_apart e d s (inr h) from to = inr (omega arith)

pub bodies_swap : (I : List ℕ) (change other : List ℕ → List ℕ) (e d : BlockEntry) → KeepsLength change → KeepsLength other → EndsBy (length I) e → EndsBy (length I) d → IsApartFrom (block_span e) (block_span d)
    → with_body change e (with_body other d I) ≡ with_body other d (with_body change e I)
bodies_swap I change other e d keeps keeps_other e_end d_end apart =
    let e_large = size_large e.cb in
    let d_large = size_large d.cb in
    let A = with_body change e I in
    let B = with_body other d I in
    let A_long : length A ≡ length I = body_long change e I keeps e_end in
    let B_long : length B ≡ length I = body_long other d I keeps_other d_end in
    let e_in_B : EndsBy (length B) e = rw B_long e_end in
    let d_in_A : EndsBy (length A) d = rw A_long d_end in
    let back = turned (block_span e) (block_span d) apart in
    let x = change (bytes_at I (body_span e)) in
    let y = other (bytes_at I (body_span d)) in
    let B_body : bytes_at B (body_span e) ≡ bytes_at I (body_span e) = body_elsewhere other d I (body_span e) keeps_other d_end (part_apart e d (body_span e) apart (omega arith) (omega (arith, e_large))) in
    let A_body : bytes_at A (body_span d) ≡ bytes_at I (body_span d) = body_elsewhere change e I (body_span d) keeps e_end (part_apart d e (body_span d) back (omega arith) (omega (arith, d_large))) in
    let B_check : num B (trailer_at e + 4) 4 ≡ num I (trailer_at e + 4) 4 =
    check_elsewhere other d I (trailer_at e + 4) keeps_other d_end (part_apart e d (record { at = trailer_at e + 4; len = 4 }) apart (omega (arith, e_large)) (omega (arith, e_large))) in
    let A_check : num A (trailer_at d + 4) 4 ≡ num I (trailer_at d + 4) 4 =
    check_elsewhere change e I (trailer_at d + 4) keeps e_end (part_apart d e (record { at = trailer_at d + 4; len = 4 }) back (omega (arith, d_large)) (omega (arith, d_large))) in
    let p = little_bytes 4 (carried (num I (trailer_at e + 4) 4) (bytes_at I (body_span e)) x) in
    let q = little_bytes 4 (carried (num I (trailer_at d + 4) 4) (bytes_at I (body_span d)) y) in
    let left : with_body change e B ≡ both_written B e x p = body_written change e B keeps e_in_B
    ∙ ap (λ l. both_written B e (change l) (little_bytes 4 (carried (num B (trailer_at e + 4) 4) l (change l)))) B_body
    ∙ ap (λ n. both_written B e x (little_bytes 4 (carried n (bytes_at I (body_span e)) x))) B_check in
    let right : with_body other d A ≡ both_written A d y q = body_written other d A keeps_other d_in_A
    ∙ ap (λ l. both_written A d (other l) (little_bytes 4 (carried (num A (trailer_at d + 4) 4) l (other l)))) A_body
    ∙ ap (λ n. both_written A d y (little_bytes 4 (carried n (bytes_at I (body_span d)) y))) A_check in
    let x_long : length x ≡ e.cb = keeps (bytes_at I (body_span e)) ∙ body_length I e (body_inside (length I) e e_end) in
    let y_long : length y ≡ d.cb = keeps_other (bytes_at I (body_span d)) ∙ body_length I d (body_inside (length I) d d_end) in
    let p_long : length p ≡ 4 = length-bytes_low_first 0 4 (carried (num I (trailer_at e + 4) 4) (bytes_at I (body_span e)) x) in
    let q_long : length q ≡ 4 = length-bytes_low_first 0 4 (carried (num I (trailer_at d + 4) 4) (bytes_at I (body_span d)) y) in
    left
    ∙ ap (λ l. both_written l e x p) (body_written other d I keeps_other d_end)
    ∙ writes_swap I e d x y p q e_end d_end apart x_long y_long p_long q_long
    ∙ ap (λ l. both_written l d y q) (sym (body_written change e I keeps e_end))
    ∙ sym right

-- ---- all blocks

pub all_swap : (rest : List BlockEntry) (I : List ℕ) (coding : Coding) (change : List ℕ → List ℕ) (e : BlockEntry) → IsCoding coding → KeepsLength change → EndsBy (length I) e → All (EndsBy (length I)) rest
    → IsApartFromAll (block_span e) (block_spans rest) → with_body change e (all_changed coding rest I) ≡ all_changed coding rest (with_body change e I)
unfolding all_changed
all_swap [] I coding change e is keeps e_end ends apart = refl
all_swap (d ∷ rest) I coding change e is keeps e_end ends apart =
    let d_end = All-head (EndsBy (length I)) d rest ends in
    let tail = All-tail (EndsBy (length I)) d rest ends in
    let J = with_body (coding d.bid) d I in
    let J_long : length J ≡ length I = body_long (coding d.bid) d I (is.long d.bid) d_end in
    all_swap rest J coding change e is keeps (rw J_long e_end) (rw J_long tail) apart.1
    ∙ ap (all_changed coding rest) (bodies_swap I change (coding d.bid) e d keeps (is.long d.bid) e_end d_end apart.0)

pub all_back : (entries : List BlockEntry) (I : List ℕ) (coding back : Coding) → IsCoding coding → IsCoding back → IsUndoneBy coding back → All IsByte I → All (EndsBy (length I)) entries → AreApart (block_spans entries)
    → all_changed back entries (all_changed coding entries I) ≡ I
unfolding all_changed
all_back [] I coding back is is_back undone all ends apart = refl
all_back (e ∷ rest) I coding back is is_back undone all ends apart =
    let e_end = All-head (EndsBy (length I)) e rest ends in
    let tail = All-tail (EndsBy (length I)) e rest ends in
    let J = with_body (coding e.bid) e I in
    let J_long : length J ≡ length I = body_long (coding e.bid) e I (is.long e.bid) e_end in
    let swapped = all_swap rest J coding (back e.bid) e is (is_back.long e.bid) (rw J_long e_end) (rw J_long tail) apart.0 in
    ap (all_changed back rest) (swapped ∙ ap (all_changed coding rest) (block_again I coding back e is undone all e_end))
    ∙ all_back rest I coding back is is_back undone all tail apart.1
