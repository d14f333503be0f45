-- The header of a file with bCryptMethod 0 has the first fault that it has with its own, the encoding aside.
use Rattle.std.proofs.Common.{◌≡◌, ℕ, ◌+◌, ◌≤◌, inl, inr, List, [], ◌∷◌, length, Some, None, true, false, cond, refl, ap, ◌∙◌, arith}
use Rattle.std.specs.Prelude.{nat_eq, nat_le, ◌&&◌}
use Rattle.std.proofs.lemmas.Bool.{and_parts}
use Rattle.std.specs.List.{All}
use Rattle.byteorder.specs.Endian.{little_bytes, little_number}
use Rattle.byteorder.specs.Numbers.{length-bytes_low_first}
use Rattle.pst_bytes.specs.Image.{num, bytes_at}
use Rattle.pst_bytes.specs.Span.{IsApartFromAll}
use Rattle.pst_crc.specs.Crc.{crc}
use Rattle.pst_fault.specs.First.{◌then◌}
use Rattle.pst_header.specs.Header.{header_fault, check_fault, root_fault, fields, bref_at}
use Rattle.pst_encoding.specs.declared.method.Method.{Method}
use Rattle.pst_encoding.specs.Method.{method_with}
use Rattle.pst_encoding.specs.Tables.{IsByte}
use Rattle.pst_ndb.specs.Space.{space_fault}
use Rattle.pst_plain.specs.Written.{written}
use Rattle.pst_plain.specs.Carried.{carried, with_carried}
use Rattle.pst_plain.specs.Twin.{is_unicode, method_of, with_method, full_span}
use Rattle.pst_plain.specs.Laws.{head_fields}
use Rattle.pst_plain.specs.Faults.{EncodedHeaderLaw}
use Rattle.pst_plain.proofs.LawLemmas.{HeadTold, head_told, carried_law, same_test}
use Rattle.pst_plain.proofs.TwinLemmas.{method_long}
use Rattle.pst_plain.proofs.WriteLemmas.{length_written, behind}
use Rattle.pst_plain.proofs.BehindLemmas.{IsSameBehind, space_behind}

-- a number of the header that is not changed
pub kept : (I J : List ℕ) (number at n : ℕ) → HeadTold I J number → IsApartFromAll (record { at = at; len = n }) head_fields → num J at n ≡ num I at n
unfolding num
kept I J number at n says apart = ap (little_number n) (says.others (record { at = at; len = n }) apart)

pub before : (at n : ℕ) → at + n ≤ 513 → IsApartFromAll (record { at = at; len = n }) head_fields
before at n inside = (inl inside, (inl (omega arith), tt))

unicode : (I : List ℕ) (method : Method) → method_of I ≡ Some method → is_unicode I ≡ true
unfolding method_of
unicode I method is =
    elim (is_unicode I) as (λ b. cond b (method_with (num I 513 1)) None ≡ Some method → b ≡ true) [
      | true ↦ λ h. refl
      | false ↦ λ h. absurd cc
    ] is

-- what it says of the file
parts : (I : List ℕ) → is_unicode I ≡ true → (nat_le 564 (length I) ≡ true) × (nat_eq (num I 0 4) 0x4e444221 ≡ true) × (nat_eq (num I 8 2) 0x4d53 ≡ true) × (nat_eq (num I 10 2) 23 ≡ true)
unfolding is_unicode
parts I h =
    let a = and_parts (nat_le 564 (length I) && nat_eq (num I 0 4) 0x4e444221 && nat_eq (num I 8 2) 0x4d53) (nat_eq (num I 10 2) 23) h in
    let b = and_parts (nat_le 564 (length I) && nat_eq (num I 0 4) 0x4e444221) (nat_eq (num I 8 2) 0x4d53) a.0 in
    let c = and_parts (nat_le 564 (length I)) (nat_eq (num I 0 4) 0x4e444221) b.0 in
    (c.0, c.1, b.1, a.1)

-- the bytes from the first allocation map on are the same
pub method_behind : (I : List ℕ) (number : ℕ) → 564 ≤ length I → IsSameBehind I (with_method number I)
unfolding with_method with_carried
method_behind I number long =
    let J = written I 513 (number ∷ []) in
    let J_long : length J ≡ length I = length_written I 513 (number ∷ []) (omega arith) in
    let four = little_bytes 4 (carried (num J 524 4) (bytes_at I full_span) (bytes_at J full_span)) in
    let four_long : length four ≡ 4 = length-bytes_low_first 0 4 (carried (num J 524 4) (bytes_at I full_span) (bytes_at J full_span)) in
    behind J 524 four 17408 (omega (arith, J_long)) (omega (arith, four_long)) ∙ behind I 513 (number ∷ []) 17408 (omega arith) (omega arith)

-- what the header says
says_same : (I : List ℕ) (method : Method) → All IsByte I → method_of I ≡ Some method →
    let J = with_method 0 I in (header_fault J ≡ (check_fault I then root_fault I)) × (fields J ≡ fields I)
unfolding header_fault fields bref_at
says_same I method all is =
    let J = with_method 0 I in
    let long = method_long I method is in
    let says = head_told I 0 all (omega arith) long in
    let (fits, magic, client, version) = parts I (unicode I method is) in
    let partial = says.others (record { at = 8; len = 471 }) (before 8 471 (omega arith)) in
    let law = carried_law (num I 524 4) (bytes_at I full_span) (bytes_at J full_span) in
    let full : nat_eq (num J 524 4) (crc (bytes_at J full_span)) ≡ nat_eq (num I 524 4) (crc (bytes_at I full_span)) =
    ap (λ n. nat_eq n (crc (bytes_at J full_span))) says.check
    ∙ same_test (carried (num I 524 4) (bytes_at I full_span) (bytes_at J full_span)) (crc (bytes_at J full_span)) (num I 524 4) (crc (bytes_at I full_span)) law.0 law.1 in (
      rw (
        says.len,
        fits,
        kept I J 0 0 4 says (before 0 4 (omega arith)),
        magic,
        kept I J 0 8 2 says (before 8 2 (omega arith)),
        client,
        kept I J 0 10 2 says (before 10 2 (omega arith)),
        version,
        says.number_is,
        kept I J 0 4 4 says (before 4 4 (omega arith)),
        partial,
        full,
        kept I J 0 184 8 says (before 184 8 (omega arith)),
        kept I J 0 192 8 says (before 192 8 (omega arith)),
        kept I J 0 248 1 says (before 248 1 (omega arith)),
      ) refl,
      rw (
        kept I J 0 184 8 says (before 184 8 (omega arith)),
        kept I J 0 192 8 says (before 192 8 (omega arith)),
        kept I J 0 200 8 says (before 200 8 (omega arith)),
        kept I J 0 216 8 says (before 216 8 (omega arith)),
        kept I J 0 224 8 says (before 224 8 (omega arith)),
        kept I J 0 232 8 says (before 232 8 (omega arith)),
        kept I J 0 240 8 says (before 240 8 (omega arith)),
        kept I J 0 248 1 says (before 248 1 (omega arith)),
        kept I J 0 32 8 says (before 32 8 (omega arith)),
        kept I J 0 516 8 says (inr (omega arith), (inl (omega arith), tt)),
        kept I J 0 10 2 says (before 10 2 (omega arith)),
      ) refl,
    )

-- the fault of the header itself is that of its check values and its ROOT structure
pub plain_header : (I : List ℕ) (method : Method) → All IsByte I → method_of I ≡ Some method →
    let J = with_method 0 I in header_fault J ≡ (check_fault J then root_fault J)
unfolding header_fault
plain_header I method all is =
    let J = with_method 0 I in
    let says = head_told I 0 all (omega arith) (method_long I method is) in
    let (fits, magic, client, version) = parts I (unicode I method is) in
    rw (
      kept I J 0 0 4 says (before 0 4 (omega arith)),
      magic,
      kept I J 0 8 2 says (before 8 2 (omega arith)),
      client,
      kept I J 0 10 2 says (before 10 2 (omega arith)),
      version,
      says.number_is,
    ) (rw (says.len, fits) refl)

pub header_law : EncodedHeaderLaw
header_law I method all is =
    let J = with_method 0 I in
    let (head, same) = says_same I method all is in
    let behind = method_behind I 0 (method_long I method is) in
    (head, same, ap (space_fault J) same ∙ space_behind I J behind (fields I))
