-- A header has no first fault exactly where it is good.
use Rattle.std.proofs.Common.{◌≡◌, ℕ, ◌+◌, ◌-◌, ◌*◌, ◌/◌, ◌%◌, ◌≤◌, ◌⊎◌, inl, inr, Bool, true, false, cond, ◌&&◌, ◌||◌, eqb, leb, List, length, None, Result, Ok, Err, refl, sym, ap, subst, ◌∙◌, arith}
use Rattle.std.proofs.lemmas.Bool.{eqb-true, leb-true, eq-eqb, le-leb, or_cases, and_parts, and_from, cases_eq, ne_eqb}
use Rattle.std.specs.Prelude.{IfOk}
use Rattle.pst_fault.specs.declared.fault.Fault.{Fault}
use Rattle.pst_fault.specs.First.{answer}
use Rattle.pst_fault.proofs.FirstLemmas.{none_then, both_none, holds_or_none, holds_or_true, answer_none, answer_ok}
use Rattle.pst_header.specs.declared.header.Header.{Header}
use Rattle.pst_header.specs.Header.{fields, header_fault, check_fault, root_fault, is_amap_place, is_last_amap, end_of}
use Rattle.pst_header.specs.Head.{Head, IsLastMap, IsMapped, HeaderLaw}

-- ---- the last allocation map

room : (b : Bool) (last eof : ℕ) → last + cond b 1024 512 ≤ eof → last + 512 ≤ eof
room true last eof h = omega arith
room false last eof h = h

more_room : (n last eof : ℕ) → last + cond (eqb n 0) 1024 512 ≤ eof → n ≡ 0 → last + 1024 ≤ eof
more_room n last eof h z = rw z at h

has_room : (n last eof : ℕ) → last + 512 ≤ eof → (n ≡ 0 → last + 1024 ≤ eof) → last + cond (eqb n 0) 1024 512 ≤ eof
has_room n last eof small large =
    elim (cases_eq n 0) [
      | inl z ↦ rw z (large z)
      | inr other ↦ rw (ne_eqb n 0 other) small
    ]

last_map : (last eof : ℕ) → (is_amap_place last && is_last_amap last eof) ≡ true → IsLastMap last eof
last_map last eof e =
    let both = and_parts (is_amap_place last) (is_last_amap last eof) e in
    let parts = and_parts (leb 17408 last) (eqb ((last - 17408) % 253952) 0) both.0 in
    let above : 17408 ≤ last = leb-true _ _ parts.0 in
    let whole : (last - 17408) % 253952 ≡ 0 = eqb-true _ _ parts.1 in
    let fits = leb-true _ _ both.1 in
    ((last - 17408) / 253952, omega arith, room _ last eof fits, more_room _ last eof fits)

last_map_again : (last eof : ℕ) → IsLastMap last eof → (is_amap_place last && is_last_amap last eof) ≡ true
last_map_again last eof m =
    let k = m.0 in
    let is : last ≡ 17408 + 253952 * k = m.1 in
    let above : 17408 ≤ last = omega arith in
    let whole : (last - 17408) % 253952 ≡ 0 = omega arith in
    let index : (last - 17408) / 253952 ≡ k = omega arith in
    and_from _ _ (and_from _ _ (le-leb _ _ above) (eq-eqb _ _ whole)) (le-leb _ _ (rw index (has_room (k % 8) last eof m.2 m.3)))

valid : (v : ℕ) → (eqb v 1 || eqb v 2) ≡ true → (v ≡ 1) ⊎ (v ≡ 2)
valid v e = elim (or_cases (eqb v 1) (eqb v 2) e) [ inl p ↦ inl (eqb-true _ _ p) | inr p ↦ inr (eqb-true _ _ p) ]

valid_again : (v : ℕ) → (v ≡ 1) ⊎ (v ≡ 2) → (eqb v 1 || eqb v 2) ≡ true
valid_again v (inl p) = rw p refl
valid_again v (inr p) = rw p refl

-- ---- the law

good : (I : List ℕ) → header_fault I ≡ None → Head I (fields I)
unfolding header_fault fields
good I e =
    let long = none_then _ _ e in
    let magic = none_then _ _ long.1 in
    let client = none_then _ _ magic.1 in
    let version = none_then _ _ client.1 in
    let plain = none_then _ _ version.1 in
    let rest = none_then (check_fault I) (root_fault I) plain.1 in
    let checks = none_then _ _ rest.0 in
    let eof = none_then _ _ rest.1 in
    let last = none_then _ _ eof.1 in
    record {
      long = leb-true _ _ (holds_or_none _ _ long.0);
      magic = eqb-true _ _ (holds_or_none _ _ magic.0);
      client = eqb-true _ _ (holds_or_none _ _ client.0);
      plain = eqb-true _ _ (holds_or_none _ _ plain.0);
      partial = eqb-true _ _ (holds_or_none _ _ checks.0);
      full = eqb-true _ _ (holds_or_none _ _ checks.1);
      fields_are = refl;
      version = eqb-true _ _ (holds_or_none _ _ version.0);
      eof_inside = leb-true _ _ (holds_or_none _ _ eof.0);
      last_map = last_map _ _ (holds_or_none _ _ last.0);
      valid = valid _ (holds_or_none _ _ last.1);
    }

faultless : (I : List ℕ) → Head I (fields I) → header_fault I ≡ None
unfolding header_fault fields
faultless I g =
    both_none _ _ (holds_or_true _ _ (le-leb _ _ g.long)) (
    both_none _ _ (holds_or_true _ _ (eq-eqb _ _ g.magic)) (
    both_none _ _ (holds_or_true _ _ (eq-eqb _ _ g.client)) (
    both_none _ _ (holds_or_true _ _ (eq-eqb _ _ g.version)) (
    both_none _ _ (holds_or_true _ _ (eq-eqb _ _ g.plain)) (
    both_none (check_fault I) (root_fault I)
    (both_none _ _ (holds_or_true _ _ (eq-eqb _ _ g.partial)) (holds_or_true _ _ (eq-eqb _ _ g.full)))
    (both_none _ _ (holds_or_true _ _ (le-leb _ _ g.eof_inside))
    (both_none _ _ (holds_or_true _ _ (last_map_again _ _ g.last_map)) (holds_or_true _ _ (valid_again _ g.valid))))
    )))))

pub header_law : HeaderLaw
header_law I h = (
  λ g. (faultless I (subst (Head I) g.fields_are g), g.fields_are),
  λ (none, same). subst (Head I) (sym same) (good I none),
)

-- a good header says of the space of its file what lies there
pub head_mapped : (I : List ℕ) (h : Header) → Head I h → IsMapped I h
head_mapped I h g = record { eof_inside = g.eof_inside; last_map = g.last_map }

-- ---- what is read

pub found_if : (I : List ℕ) (r : Result Header Fault) → r ≡ answer (header_fault I) (fields I) → IfOk r (λ h. Head I h)
found_if I (Ok h) e =
    let p = answer_ok (header_fault I) (fields I) h (sym e) in
    subst (Head I) p.1 (good I p.0)
found_if I (Err f) e = tt

pub mapped_if : (I : List ℕ) (r : Result Header Fault) → r ≡ answer (header_fault I) (fields I) → IfOk r (λ h. IsMapped I h)
mapped_if I (Ok h) e = head_mapped I h (found_if I (Ok h) e)
mapped_if I (Err f) e = tt

pub head_only : (I : List ℕ) (h : Header) → Head I h → answer (header_fault I) (fields I) ≡ Ok h
head_only I h g =
    answer_none _ (fields I) (faultless I (subst (Head I) g.fields_are g)) ∙ ap (λ x. Ok x) (sym g.fields_are)

-- ---- the mapped part

pub head_end : (I : List ℕ) (h : Header) → Head I h → end_of h ≤ length I
head_end I h g = omega (arith, g.eof_inside)

pub mapped_end : (I : List ℕ) (h : Header) → IsMapped I h → end_of h ≤ length I
mapped_end I h m = omega (arith, m.eof_inside)
