-- What decoding keeps.
use Rattle.std.proofs.Common.{◌≡◌, ℕ, ◌+◌, ◌≤◌, inl, inr, List, [], ◌∷◌, ◌++◌, length, Some, None, Ok, Err, true, false, refl, sym, ap, ◌∙◌, subst, arith}
use Rattle.std.specs.Prelude.{bit_xor, fold, ◌&&◌, nat_eq}
use Rattle.std.specs.List.{All}
use Rattle.std.specs.Int.Bits.{xor_assoc, xor_self, xor_zero_l, xor_zero_r}
use Rattle.std.proofs.lemmas.Nat.{xor_comm}
use Rattle.std.proofs.lemmas.Bool.{cases_eq, ne_eqb, eq-eqb}
use Rattle.byteorder.specs.Endian.{little_bytes, little_number}
use Rattle.byteorder.specs.Numbers.{length-bytes_low_first}
use Rattle.pst_bytes.specs.Image.{num, bytes_at}
use Rattle.pst_bytes.specs.declared.span.Span.{Span}
use Rattle.pst_bytes.specs.Span.{IsApartFromAll}
use Rattle.pst_crc.specs.Crc.{crc, shifted_by, after_byte}
use Rattle.pst_crc.proofs.Linear.{shifted_by-xor}
use Rattle.pst_encoding.specs.Method.{decoded}
use Rattle.pst_encoding.specs.Tables.{IsByte}
use Rattle.pst_page.specs.declared.entry.BlockEntry.{BlockEntry}
use Rattle.pst_block.specs.Block.{block_size, body_span, trailer_at}
use Rattle.pst_block.specs.Fault.{has_block_trailer}
use Rattle.pst_block.proofs.BlockLemmas.{size_large}
use Rattle.pst_plain.specs.Written.{written}
use Rattle.pst_plain.specs.Carried.{carried, with_carried}
use Rattle.std.proofs.Common.{cond, option_and_then}
use Rattle.std.specs.Prelude.{nat_le}
use Rattle.std.proofs.lemmas.List.Elements.{All-head, All-tail, All-cons, All-nil, All-filter}
use Rattle.pst_fault.specs.First.{answer}
use Rattle.pst_header.specs.Header.{header_fault, fields, end_of}
use Rattle.pst_header.specs.Place.{is_place}
use Rattle.pst_header.proofs.Head.{head_end, header_law}
use Rattle.pst_space.specs.Claimed.{Claimed, claim_of, maps_claimed}
use Rattle.pst_space.specs.Step.{Step}
use Rattle.pst_block.specs.Block.{block_span}
use Rattle.pst_block.proofs.BlockLemmas.{is_place_good}
use Rattle.pst_plain.specs.Blocks.{has_data, block_place, claimed_with, then_placed, placed, Listed, trees_listed, data_after, data_under, data_if, data_blocks, EndsBy}
use Rattle.pst_plain.proofs.BlockLemmas.{end_later}
use Rattle.pst_plain.proofs.TwinLemmas.{method_long}
use Rattle.pst_plain.specs.Twin.{method_of, with_method, full_span, with_body, twin_of, twin_by}
use Rattle.pst_plain.specs.Laws.{xor_each, LinearLaw, CarriedLaw, TrailerLaw, IsFullCheck, FullCheckLaw, SameBesides, head_fields, block_fields, fields_of, changed_by, PlacesLaw}
use Rattle.pst_plain.proofs.CodingLemmas.{Coding, IsCoding, decoding, all_changed, decoded_is}
use Rattle.pst_plain.proofs.WriteLemmas.{length_written, bytes_here, bytes_elsewhere}
use Rattle.pst_plain.proofs.HeadLemmas.{carried_fits, num_fits, num_written, num_elsewhere, span_bytes, written_bytes, one_byte, four_bytes_fit}
use Rattle.pst_plain.proofs.StepLemmas.{body_inside, body_length}

-- ---- the check value is linear

-- two pairs, exchanged
crossed : (a b c d : ℕ) → bit_xor (bit_xor a b) (bit_xor c d) ≡ bit_xor (bit_xor a c) (bit_xor b d)
crossed a b c d =
    xor_assoc a b (bit_xor c d)
    ∙ ap (bit_xor a) (sym (xor_assoc b c d) ∙ ap (λ n. bit_xor n d) (xor_comm b c) ∙ xor_assoc c b d)
    ∙ sym (xor_assoc a c (bit_xor b d))

byte_linear : (r s a b : ℕ) → after_byte (bit_xor r s) (bit_xor a b) ≡ bit_xor (after_byte r a) (after_byte s b)
unfolding after_byte
byte_linear r s a b = ap (shifted_by 8) (crossed r s a b) ∙ shifted_by-xor 8 (bit_xor r a) (bit_xor s b)

fold_linear : (bytes others : List ℕ) (r s : ℕ) → length bytes ≡ length others → fold after_byte (bit_xor r s) (xor_each bytes others) ≡ bit_xor (fold after_byte r bytes) (fold after_byte s others)
fold_linear [] [] r s same = refl
fold_linear [] (b ∷ others) r s same = absurd (omega arith)
fold_linear (a ∷ rest) [] r s same = absurd (omega arith)
fold_linear (a ∷ rest) (b ∷ others) r s same =
    ap (λ n. fold after_byte n (xor_each rest others)) (byte_linear r s a b) ∙ fold_linear rest others (after_byte r a) (after_byte s b) (omega arith)

pub linear_law : LinearLaw
unfolding crc
linear_law bytes others same = fold_linear bytes others 0 0 same

-- ---- check values that are carried over

cancelled : (check a b : ℕ) → bit_xor (bit_xor check (bit_xor a b)) b ≡ bit_xor check a
cancelled check a b =
    xor_assoc check (bit_xor a b) b ∙ ap (bit_xor check) (xor_assoc a b b ∙ ap (bit_xor a) (xor_self b) ∙ xor_zero_r a)

right_again : (check a b : ℕ) → bit_xor check (bit_xor a b) ≡ b → check ≡ a
right_again check a b is =
    let none : bit_xor check a ≡ 0 = sym (cancelled check a b) ∙ ap (λ n. bit_xor n b) is ∙ xor_self b in
    sym (xor_zero_r check) ∙ ap (bit_xor check) (sym (xor_self a)) ∙ sym (xor_assoc check a a) ∙ ap (λ n. bit_xor n a) none ∙ xor_zero_l a

right_still : (check a b : ℕ) → check ≡ a → bit_xor check (bit_xor a b) ≡ b
right_still check a b is = ap (λ n. bit_xor n (bit_xor a b)) is ∙ sym (xor_assoc a a b) ∙ ap (λ n. bit_xor n b) (xor_self a) ∙ xor_zero_l b

pub carried_law : CarriedLaw
carried_law check old new = (right_again check (crc old) (crc new), right_still check (crc old) (crc new))

-- tests of equations that say the same
pub same_test : (a b c d : ℕ) → (a ≡ b → c ≡ d) → (c ≡ d → a ≡ b) → nat_eq a b ≡ nat_eq c d
same_test a b c d there back =
    elim (cases_eq a b) [
      | inl is ↦ eq-eqb a b is ∙ sym (eq-eqb c d (there is))
      | inr other ↦ ne_eqb a b other ∙ sym (ne_eqb c d (λ is. other (back is)))
    ]

-- ---- the trailer

-- what a block's bytes are once its body is changed, field by field
pub record Told (I T : List ℕ) (coding : Coding) (e : BlockEntry) : Type 0 where
  pub len : length T ≡ length I
  pub body : bytes_at T (body_span e) ≡ coding e.bid (bytes_at I (body_span e))
  pub check : num T (trailer_at e + 4) 4 ≡ carried (num I (trailer_at e + 4) 4) (bytes_at I (body_span e)) (coding e.bid (bytes_at I (body_span e)))
  pub others : (s : Span) → IsApartFromAll s (block_fields e) → bytes_at T s ≡ bytes_at I s
  pub bytes : All IsByte T

pub told : (I : List ℕ) (coding : Coding) (e : BlockEntry) → IsCoding coding → All IsByte I → EndsBy (length I) e → Told I (with_body (coding e.bid) e I) coding e
unfolding with_body with_carried
told I coding e is all by_end =
    let old = bytes_at I (body_span e) in
    let new = coding e.bid old in
    let t = trailer_at e + 4 in
    let large = size_large e.cb in
    let k : e.ib + block_size e.cb ≤ length I = by_end in
    let inside : e.ib + e.cb ≤ length I = body_inside (length I) e by_end in
    let long : length new ≡ e.cb = is.long e.bid old ∙ body_length I e inside in
    let apart : e.ib + e.cb ≤ t = omega (arith, large) in
    let room : t + 4 ≤ length I = omega (arith, large, k) in
    let new_bytes : All IsByte new = is.bytes e.bid old (span_bytes I (body_span e) all) in
    let K = written I e.ib new in
    let K_long : length K ≡ length I = length_written I e.ib new (omega (arith, long, inside)) in
    let K_bytes = written_bytes I e.ib new all new_bytes in
    let v : num K t 4 ≡ num I t 4 = num_elsewhere I e.ib new t 4 (omega (arith, long, inside)) (inr (omega (arith, long, apart))) in
    let over = carried (num K t 4) old new in
    let over_fits = carried_fits (num K t 4) old new (num_fits K t K_bytes) (span_bytes I (body_span e) all) new_bytes in
    let four = little_bytes 4 over in
    let four_long : length four ≡ 4 = length-bytes_low_first 0 4 over in
    let fits : t + length four ≤ length K = omega (arith, four_long, K_long, room) in
    let body : bytes_at (written K t four) (body_span e) ≡ new =
    bytes_elsewhere K t four (body_span e) fits (inl apart)
    ∙ bytes_here I e.ib new (body_span e) refl (sym long) (omega (arith, long, inside)) in
    let check : num (written K t four) t 4 ≡ carried (num I t 4) old new =
    num_written K t over (omega (arith, K_long, room)) over_fits ∙ ap (λ n. carried n old new) v in
    record {
      len = length_written K t four fits ∙ K_long;
      body = body;
      check = check;
      others = λ s apart_all.
          bytes_elsewhere K t four s fits (rw four_long apart_all.1.0) ∙ bytes_elsewhere I e.ib new s (omega (arith, long, inside)) (rw long apart_all.0);
      bytes = written_bytes K t four K_bytes (four_bytes_fit over);
    }

-- a number in the trailer apart from its check value
num_kept : (I T : List ℕ) (coding : Coding) (e : BlockEntry) (at n : ℕ) → Told I T coding e → IsApartFromAll (record { at = at; len = n }) (block_fields e) → num T at n ≡ num I at n
unfolding num
num_kept I T coding e at n says apart = ap (little_number n) (says.others (record { at = at; len = n }) apart)

pub trailer_told : (I T : List ℕ) (coding : Coding) (e : BlockEntry) → Told I T coding e → has_block_trailer T e ≡ has_block_trailer I e
unfolding has_block_trailer
trailer_told I T coding e says =
    let t = trailer_at e in
    let large = size_large e.cb in
    let old = bytes_at I (body_span e) in
    let new = coding e.bid old in
    let body_apart : e.ib + e.cb ≤ t = omega (arith, large) in
    let first = num_kept I T coding e t 2 says (inr (omega (arith, body_apart)), (inl (omega arith), tt)) in
    let second = num_kept I T coding e (t + 2) 2 says (inr (omega (arith, body_apart)), (inl (omega arith), tt)) in
    let third = num_kept I T coding e (t + 8) 8 says (inr (omega (arith, body_apart)), (inr (omega arith), tt)) in
    let test : nat_eq (carried (num I (t + 4) 4) old new) (crc new) ≡ nat_eq (num I (t + 4) 4) (crc old) =
    same_test (carried (num I (t + 4) 4) old new) (crc new) (num I (t + 4) 4) (crc old) (right_again (num I (t + 4) 4) (crc old) (crc new)) (right_still (num I (t + 4) 4) (crc old) (crc new)) in
    rw (first, second, third, says.check, says.body, test) refl

pub trailer_law : TrailerLaw
trailer_law I method e all by_end = trailer_told I (with_body (decoded method e.bid) e I) (decoded method) e (told I (decoded method) e (decoding method) all by_end)

-- ---- the header

pub record HeadTold (I T : List ℕ) (number : ℕ) : Type 0 where
  pub number_is : num T 513 1 ≡ number
  pub len : length T ≡ length I
  pub check : num T 524 4 ≡ carried (num I 524 4) (bytes_at I full_span) (bytes_at T full_span)
  pub others : (s : Span) → IsApartFromAll s head_fields → bytes_at T s ≡ bytes_at I s
  pub bytes : All IsByte T

byte_written : (I : List ℕ) (at number : ℕ) → at + 1 ≤ length I → num (written I at (number ∷ [])) at 1 ≡ number
unfolding num
byte_written I at number inside =
    let here = bytes_here I at (number ∷ []) (record { at = at; len = 1 }) refl refl (omega arith) in
    ap (little_number 1) here ∙ omega arith

pub head_told : (I : List ℕ) (number : ℕ) → All IsByte I → IsByte number → 564 ≤ length I → HeadTold I (with_method number I) number
unfolding with_method with_carried
head_told I number all byte long =
    let J = written I 513 (number ∷ []) in
    let J_long : length J ≡ length I = length_written I 513 (number ∷ []) (omega arith) in
    let J_bytes = written_bytes I 513 (number ∷ []) all (one_byte number byte) in
    let old = bytes_at I full_span in
    let new = bytes_at J full_span in
    let v : num J 524 4 ≡ num I 524 4 = num_elsewhere I 513 (number ∷ []) 524 4 (omega arith) (inr (omega arith)) in
    let over = carried (num J 524 4) old new in
    let over_fits = carried_fits (num J 524 4) old new (num_fits J 524 J_bytes) (span_bytes I full_span all) (span_bytes J full_span J_bytes) in
    let four = little_bytes 4 over in
    let four_long : length four ≡ 4 = length-bytes_low_first 0 4 over in
    let fits : 524 + length four ≤ length J = omega (arith, four_long, J_long, long) in
    let full : bytes_at (written J 524 four) full_span ≡ new = bytes_elsewhere J 524 four full_span fits (inl (omega arith)) in
    record {
      number_is = num_elsewhere J 524 four 513 1 fits (inl (omega arith)) ∙ byte_written I 513 number (omega arith);
      len = length_written J 524 four fits ∙ J_long;
      check = num_written J 524 over (omega (arith, J_long, long)) over_fits ∙ ap (λ n. carried n old new) v ∙ ap (λ l. carried (num I 524 4) old l) (sym full);
      others = λ s apart_all. bytes_elsewhere J 524 four s fits apart_all.1.0 ∙ bytes_elsewhere I 513 (number ∷ []) s (omega arith) apart_all.0;
      bytes = written_bytes J 524 four J_bytes (four_bytes_fit over);
    }

pub full_check_law : FullCheckLaw
full_check_law I number all byte long =
    let T = with_method number I in
    let says = head_told I number all byte long in
    let law = carried_law (num I 524 4) (bytes_at I full_span) (bytes_at T full_span) in
    (λ (h : IsFullCheck T). law.0 (sym says.check ∙ h), λ (h : IsFullCheck I). says.check ∙ law.1 h)

-- ---- places

apart_first : (s : Span) (xs ys : List Span) → IsApartFromAll s (xs ++ ys) → IsApartFromAll s xs
apart_first s [] ys all = tt
apart_first s (x ∷ xs) ys all = (all.0, apart_first s xs ys all.1)

apart_second : (s : Span) (xs ys : List Span) → IsApartFromAll s (xs ++ ys) → IsApartFromAll s ys
apart_second s [] ys all = all
apart_second s (x ∷ xs) ys all = apart_second s xs ys all.1

same_then : (I J K : List ℕ) (xs ys : List Span) → SameBesides I J xs → SameBesides J K ys → SameBesides I K (xs ++ ys)
same_then I J K xs ys first second = record {
  length_same = second.length_same ∙ first.length_same;
  others = λ s all. second.others s (apart_second s xs ys all) ∙ first.others s (apart_first s xs ys all);
}

-- what changing blocks one after another keeps
pub record Kept (I T : List ℕ) (entries : List BlockEntry) : Type 0 where
  pub same : SameBesides I T (fields_of entries)
  pub bytes : All IsByte T

pub all_kept : (entries : List BlockEntry) (I : List ℕ) (coding : Coding) → IsCoding coding → All IsByte I → All (EndsBy (length I)) entries → Kept I (all_changed coding entries I) entries
unfolding all_changed
all_kept [] I coding is all by_end = record { same = record { length_same = refl; others = λ s apart. refl }; bytes = all }
all_kept (e ∷ rest) I coding is all by_end =
    let J = with_body (coding e.bid) e I in
    let says = told I coding e is all (All-head (EndsBy (length I)) e rest by_end) in
    let tail = All-tail (EndsBy (length I)) e rest by_end in
    let later = all_kept rest J coding is says.bytes (subst (λ (n : ℕ). All (EndsBy n) rest) (sym says.len) tail) in
    let here : SameBesides I J (block_fields e) = record { length_same = says.len; others = says.others } in
    record { same = same_then I J (all_changed coding rest J) (block_fields e) (fields_of rest) here later.same; bytes = later.bytes }

-- where the blocks of a file end
place_inside : (end : ℕ) (e : BlockEntry) (s : Span) → block_place end e ≡ Some s → EndsBy end e
unfolding block_place
place_inside end e s is =
    elim (nat_le e.cb 8176 && is_place end (block_span e)) as (λ b. (nat_le e.cb 8176 && is_place end (block_span e)) ≡ b → cond b (Some (block_span e)) None ≡ Some s → EndsBy end e) [
      | true ↦ λ h _. (is_place_good end e h).1.inside
      | false ↦ λ h no. absurd cc
    ] refl is

claimed_inside : (end : ℕ) (claimed more : Claimed) (e : BlockEntry) → claimed_with end claimed e ≡ Some more → EndsBy end e
unfolding claimed_with
claimed_inside end claimed more e is =
    elim (block_place end e) as (λ o. block_place end e ≡ o → option_and_then (claim_of claimed) o ≡ Some more → EndsBy end e) [
      | Some s ↦ λ h _. place_inside end e s h
      | None ↦ λ h no. absurd cc
    ] refl is

pub placed_inside : (end : ℕ) (claimed : Claimed) (entries : List BlockEntry) → All (EndsBy end) (placed end claimed entries)
unfolding placed
placed_inside end claimed [] = All-nil (EndsBy end)
placed_inside end claimed (e ∷ rest) =
    elim (claimed_with end claimed e) as (λ o. claimed_with end claimed e ≡ o → All (EndsBy end) (then_placed e (λ more. placed end more rest) o)) [
      | Some more ↦ λ h. All-cons (EndsBy end) e (placed end more rest) (claimed_inside end claimed more e h) (placed_inside end more rest)
      | None ↦ λ h. All-nil (EndsBy end)
    ] refl

listed_inside : (end : ℕ) (step : Step Listed) → All (EndsBy end) (data_after end step)
listed_inside end (Ok found) = All-filter has_data (EndsBy end) (placed end found.claimed found.entries) (placed_inside end found.claimed found.entries)
listed_inside end (Err stop) = All-nil (EndsBy end)

pub data_inside : (J : List ℕ) → All (EndsBy (length J)) (data_blocks J)
unfolding data_blocks data_under
data_inside J =
    elim (header_fault J) as (λ o. header_fault J ≡ o → All (EndsBy (length J)) (data_if J (answer o (fields J)))) [
      | None ↦ λ h. end_later (end_of (fields J)) (length J) (data_under J (fields J)) (head_end J (fields J) ((header_law J (fields J)).1 (h, refl))) (listed_inside (end_of (fields J)) (trees_listed J (fields J) (maps_claimed (fields J))))
      | Some f ↦ λ h. All-nil (EndsBy (length J))
    ] refl

pub places_law : PlacesLaw
unfolding twin_of
places_law I all =
    elim (method_of I) as (λ o. method_of I ≡ o → SameBesides I (twin_by o I) (changed_by o I)) [
      | None ↦ λ h. record { length_same = refl; others = λ s apart. refl }
      | Some method ↦ λ h.
          let J = with_method 0 I in
          let head = head_told I 0 all (omega arith) (method_long I method h) in
          let same : SameBesides I J head_fields = record { length_same = head.len; others = head.others } in
          let kept = all_kept (data_blocks J) J (decoded method) (decoding method) head.bytes (data_inside J) in
          rw (decoded_is method (data_blocks J) J)
          (same_then I J (all_changed (decoded method) (data_blocks J) J) head_fields (fields_of (data_blocks J)) same kept.same)
    ] refl
