-- What the calls that change a file leave, as the definitions say it.
use Rattle.std.proofs.Common.{◌≡◌, ℕ, ◌+◌, ◌-◌, ◌<◌, ◌≤◌, List, [], ◌∷◌, ◌++◌, length, drop, get_or, Some, None, Ok, Err, true, false, cond, refl, sym, ap, ◌∙◌, arith}
use Rattle.std.specs.Prelude.{bit_xor}
use Rattle.std.specs.List.{filter}
use Rattle.std.proofs.lemmas.List.{drop_more, drop_all, length-append, length-drop, length-take-le}
use Rattle.std.proofs.lemmas.List.Elements.{filter-append}
use Rattle.std.proofs.lemmas.List.Sums.{length-filter, count_by-le-length}
use Rattle.byteorder.specs.Endian.{little_bytes}
use Rattle.pst_bytes.specs.Image.{num, bytes_at}
use Rattle.pst_bytes.specs.declared.span.Span.{Span}
use Rattle.pst_crc.specs.Crc.{crc}
use Rattle.pst_fault.specs.First.{answer}
use Rattle.pst_header.specs.Header.{header_fault, fields, end_of}
use Rattle.pst_space.specs.Claimed.{maps_claimed}
use Rattle.pst_space.specs.Step.{Step}
use Rattle.pst_encoding.specs.declared.method.Method.{Method}
use Rattle.pst_encoding.specs.Method.{decoded}
use Rattle.pst_page.specs.declared.entry.BlockEntry.{BlockEntry}
use Rattle.pst_block.specs.Block.{block_size, body_span, trailer_at}
use Rattle.pst_block.proofs.BlockLemmas.{size_large}
use Rattle.pst_plain.specs.Written.{written}
use Rattle.pst_plain.specs.Carried.{with_carried}
use Rattle.pst_plain.specs.Blocks.{has_data, placed, Listed, trees_listed, data_after, data_if, data_blocks, data_under, EndsBy}
use Rattle.pst_plain.specs.Twin.{with_method, full_span, with_body, all_decoded, data_decoded}

-- ---- the header

pub head_made : (I K L : List ℕ) (number old new : ℕ) → old ≡ crc (bytes_at I full_span) → K ≡ written I 513 (number ∷ []) → new ≡ crc (bytes_at K full_span)
    → L ≡ written K 524 (little_bytes 4 (bit_xor (num K 524 4) (bit_xor old new))) → L ≡ with_method number I
unfolding with_method with_carried
head_made I K L number old new first put second carries = rw (carries, first, second, put) refl

-- ---- a block

pub body_inside : (end : ℕ) (e : BlockEntry) → EndsBy end e → e.ib + e.cb ≤ end
body_inside end e by_end = let k : e.ib + block_size e.cb ≤ end = by_end in omega (arith, k, size_large e.cb)

pub body_length : (I : List ℕ) (e : BlockEntry) → e.ib + e.cb ≤ length I → length (bytes_at I (body_span e)) ≡ e.cb
body_length I e inside = let d = length-drop e.ib I in length-take-le e.cb (drop e.ib I) (omega (arith, d, inside))

pub body_made : (I K L : List ℕ) (method : Method) (e : BlockEntry) (span : Span) (at change : ℕ) → span ≡ body_span e → at ≡ e.ib + block_size e.cb - 12
    → K ≡ written I span.at (decoded method e.bid (bytes_at I span)) → change ≡ bit_xor (crc (bytes_at I span)) (crc (decoded method e.bid (bytes_at I span)))
    → L ≡ written K at (little_bytes 4 (bit_xor (num K at 4) change)) → L ≡ with_body (decoded method e.bid) e I
unfolding with_body with_carried
body_made I K L method e span at change is place put changes carries =
    let there : at ≡ trailer_at e + 4 = let large = size_large e.cb in omega (arith, large, place) in
    rw (carries, there, changes, put, is) refl

-- ---- block by block

all_decoded-append : (method : Method) (xs ys : List BlockEntry) (I : List ℕ) → all_decoded method (xs ++ ys) I ≡ all_decoded method ys (all_decoded method xs I)
unfolding all_decoded
all_decoded-append method [] ys I = refl
all_decoded-append method (x ∷ xs) ys I = all_decoded-append method xs ys (with_body (decoded method x.bid) x I)

-- the data blocks from one on: it, if it is one, and those behind it
data_from : (entries : List BlockEntry) (i : ℕ) (d : BlockEntry) → i < length entries → filter has_data (drop i entries) ≡ filter has_data (get_or entries i d ∷ []) ++ filter has_data (drop (i + 1) entries)
data_from entries i d lt = ap (filter has_data) (drop_more entries i d lt) ∙ filter-append has_data (get_or entries i d ∷ []) (drop (i + 1) entries)

pub decoded_next : (method : Method) (entries : List BlockEntry) (i : ℕ) (d : BlockEntry) (J K total : List ℕ) → i < length entries → K ≡ data_decoded method (get_or entries i d ∷ []) J
    → data_decoded method (drop i entries) J ≡ total → data_decoded method (drop (i + 1) entries) K ≡ total
decoded_next method entries i d J K total lt made so_far =
    ap (data_decoded method (drop (i + 1) entries)) made
    ∙ sym (all_decoded-append method (filter has_data (get_or entries i d ∷ [])) (filter has_data (drop (i + 1) entries)) J)
    ∙ sym (ap (λ (l : List BlockEntry). all_decoded method l J) (data_from entries i d lt)) ∙ so_far

pub decoded_done : (method : Method) (entries : List BlockEntry) (i : ℕ) (J total : List ℕ) → length entries ≤ i → data_decoded method (drop i entries) J ≡ total → J ≡ total
unfolding all_decoded
decoded_done method entries i J total past so_far = sym (ap (λ (l : List BlockEntry). data_decoded method l J) (drop_all i entries past)) ∙ so_far

-- how many there are
pub counted_next : (entries : List BlockEntry) (i : ℕ) (d : BlockEntry) (blocks one total : ℕ) → i < length entries → one ≡ length (filter has_data (get_or entries i d ∷ []))
    → blocks + length (filter has_data (drop i entries)) ≡ total → blocks + one + length (filter has_data (drop (i + 1) entries)) ≡ total
counted_next entries i d blocks one total lt is so_far =
    let split : length (filter has_data (drop i entries)) ≡ length (filter has_data (get_or entries i d ∷ [])) + length (filter has_data (drop (i + 1) entries)) =
    ap length (data_from entries i d lt) ∙ length-append (filter has_data (get_or entries i d ∷ [])) (filter has_data (drop (i + 1) entries)) in
    omega (arith, is, split, so_far)

pub counted_done : (entries : List BlockEntry) (i blocks total : ℕ) → length entries ≤ i → blocks + length (filter has_data (drop i entries)) ≡ total → blocks ≡ total
counted_done entries i blocks total past so_far =
    let none : length (filter has_data (drop i entries)) ≡ 0 = ap (λ (l : List BlockEntry). length (filter has_data l)) (drop_all i entries past) in
    omega (arith, none, so_far)

pub data_few : (entries : List BlockEntry) → length (filter has_data entries) ≤ length entries
data_few entries = omega (arith, length-filter has_data entries, count_by-le-length has_data entries)

-- the data blocks among data blocks are all of them
data_twice : (entries : List BlockEntry) → filter has_data (filter has_data entries) ≡ filter has_data entries
data_twice [] = refl
data_twice (e ∷ rest) =
    elim (has_data e) as (λ b. has_data e ≡ b → filter has_data (cond b (e ∷ filter has_data rest) (filter has_data rest)) ≡ cond b (e ∷ filter has_data rest) (filter has_data rest)) [
      | true ↦ λ h. rw h (ap (λ (l : List BlockEntry). e ∷ l) (data_twice rest))
      | false ↦ λ h. data_twice rest
    ] refl

step_data : (end : ℕ) (step : Step Listed) → filter has_data (data_after end step) ≡ data_after end step
step_data end (Ok found) = data_twice (placed end found.claimed found.entries)
step_data end (Err stop) = refl

pub all_data : (J : List ℕ) → filter has_data (data_blocks J) ≡ data_blocks J
unfolding data_blocks data_under
all_data J =
    elim (header_fault J) as (λ o. filter has_data (data_if J (answer o (fields J))) ≡ data_if J (answer o (fields J))) [
      | None ↦ step_data (end_of (fields J)) (trees_listed J (fields J) (maps_claimed (fields J)))
      | Some f ↦ refl
    ]
