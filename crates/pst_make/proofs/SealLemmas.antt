-- Two writes of check values seal a structure.
use Rattle.std.proofs.Common.{◌≡◌, ℕ, ◌+◌, ◌-◌, ◌≤◌, inl, inr, List, refl, sym, ap, ◌∙◌, subst, arith}
use Rattle.byteorder.specs.Endian.{little_number}
use Rattle.pst_bytes.specs.Image.{num, bytes_at}
use Rattle.pst_crc.specs.Crc.{crc, signature_of}
use Rattle.pst_bytes.specs.Span.{IsApartFrom}
use Rattle.pst_make.specs.Elsewhere.{SameElsewhere, one_field}
use Rattle.pst_make.specs.Sealed.{SealedHeader, SealedPage, SealedBlock, page_signature, sealed_size}

-- a number apart from what was written
num_same : (I J : List ℕ) (place size at n : ℕ) → SameElsewhere I J (one_field place size) → IsApartFrom (record { at = at; len = n }) (record { at = place; len = size }) → num J at n ≡ num I at n
unfolding num
num_same I J place size at n same apart = ap (little_number n) (same.others (record { at = at; len = n }) (apart, tt))

bytes_same : (I J : List ℕ) (place size at n : ℕ) → SameElsewhere I J (one_field place size) → IsApartFrom (record { at = at; len = n }) (record { at = place; len = size }) → bytes_at J (record { at = at; len = n }) ≡ bytes_at I (record { at = at; len = n })
bytes_same I J place size at n same apart = same.others (record { at = at; len = n }) (apart, tt)

pub header_sealed : (I J K : List ℕ) → num J 4 4 ≡ crc (bytes_at I (record { at = 8; len = 471 })) → SameElsewhere I J (one_field 4 4)
    → num K 524 4 ≡ crc (bytes_at J (record { at = 8; len = 516 })) → SameElsewhere J K (one_field 524 4) → SealedHeader K
header_sealed I J K partial first full second = record {
  partial = num_same J K 524 4 4 4 second (inl (omega arith)) ∙ partial
      ∙ ap crc (sym (bytes_same J K 524 4 8 471 second (inl (omega arith)) ∙ bytes_same I J 4 4 8 471 first (inr (omega arith))));
  full = full ∙ ap crc (sym (bytes_same J K 524 4 8 516 second (inl (omega arith))));
}

page_signature_same : (I J : List ℕ) (at place size : ℕ) → SameElsewhere I J (one_field place size) → at + 497 ≤ place → place + size ≤ at + 504 → page_signature J at ≡ page_signature I at
unfolding page_signature
page_signature_same I J at place size same above below =
    let ptype = num_same I J place size (at + 496) 1 same (inl (omega arith)) in
    let bid = num_same I J place size (at + 504) 8 same (inr (omega arith)) in
    rw (ptype, bid) refl

pub page_sealed : (I J K : List ℕ) (at : ℕ) → num J (at + 498) 2 ≡ page_signature I at → SameElsewhere I J (one_field (at + 498) 2)
    → num K (at + 500) 4 ≡ crc (bytes_at I (record { at = at; len = 496 })) → SameElsewhere J K (one_field (at + 500) 4) → SealedPage K at
page_sealed I J K at signature first check second = record {
  signature = num_same J K (at + 500) 4 (at + 498) 2 second (inl (omega arith)) ∙ signature
      ∙ sym (page_signature_same J K at (at + 500) 4 second (omega arith) (omega arith) ∙ page_signature_same I J at (at + 498) 2 first (omega arith) (omega arith));
  check = check ∙ ap crc (sym (bytes_same J K (at + 500) 4 at 496 second (inl (omega arith)) ∙ bytes_same I J (at + 498) 2 at 496 first (inl (omega arith))));
}

-- the same with the trailer at t
abbrev AreRight : List ℕ → ℕ → ℕ → ℕ → Type 0
AreRight K at cb t = (num K (t + 2) 2 ≡ signature_of at (num K (t + 8) 8)) × (num K (t + 4) 4 ≡ crc (bytes_at K (record { at = at; len = cb })))

are_right : (I J K : List ℕ) (at cb t : ℕ) → at + cb ≤ t → num J (t + 2) 2 ≡ signature_of at (num I (t + 8) 8) → SameElsewhere I J (one_field (t + 2) 2)
    → num K (t + 4) 4 ≡ crc (bytes_at I (record { at = at; len = cb })) → SameElsewhere J K (one_field (t + 4) 4) → AreRight K at cb t
are_right I J K at cb t room signature first check second = (
  num_same J K (t + 4) 4 (t + 2) 2 second (inl (omega arith)) ∙ signature
      ∙ ap (signature_of at) (sym (num_same J K (t + 4) 4 (t + 8) 8 second (inr (omega arith)) ∙ num_same I J (t + 2) 2 (t + 8) 8 first (inr (omega arith)))),
  check ∙ ap crc (sym (bytes_same J K (t + 4) 4 at cb second (inl (omega arith)) ∙ bytes_same I J (t + 2) 2 at cb first (inl (omega arith)))),
)

pub block_sealed : (I J K : List ℕ) (at cb size : ℕ) → size ≡ sealed_size cb → num J (at + (size - 16) + 2) 2 ≡ signature_of at (num I (at + (size - 16) + 8) 8)
    → SameElsewhere I J (one_field (at + (size - 16) + 2) 2) → num K (at + (size - 16) + 4) 4 ≡ crc (bytes_at I (record { at = at; len = cb }))
    → SameElsewhere J K (one_field (at + (size - 16) + 4) 4) → SealedBlock K at cb
block_sealed I J K at cb size is signature first check second =
    let room : at + cb ≤ at + (size - 16) = omega arith in
    let right = are_right I J K at cb (at + (size - 16)) room signature first check second in
    let placed = subst (λ (n : ℕ). AreRight K at cb (at + (n - 16))) is right in
    record { signature = placed.0; check = placed.1 }
