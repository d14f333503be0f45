-- What differs between bytes, and its check value.
use Rattle.std.proofs.Common.{◌≡◌, ℕ, ◌+◌, ◌<◌, ◌≤◌, List, ◌∷◌, ◌++◌, length, get_or, set, take, drop, sym, ap, ◌∙◌, arith}
use Rattle.std.specs.Prelude.{bit_xor}
use Rattle.std.proofs.lemmas.List.{append_assoc, append-nil, take_more_set, drop_more, drop-set-lt, drop_all, take_all}
use Rattle.pst_crc.specs.Crc.{crc}
use Rattle.pst_encoding.specs.declared.method.Method.{Method}
use Rattle.pst_encoding.specs.Method.{decoded}
use Rattle.pst_plain.specs.Laws.{xor_each}
use Rattle.pst_plain.proofs.LawLemmas.{linear_law}
use Rattle.pst_plain.proofs.WriteLemmas.{length_decoded}

-- the loop: what is done, and what is left, are all of it
pub xor_on : (i b : ℕ) (s t done : List ℕ) → i < length s → i < length t → b ≡ bit_xor (get_or s i 0) (get_or t i 0) → take i s ++ xor_each (drop i s) (drop i t) ≡ done
    → take (i + 1) (set s i b) ++ xor_each (drop (i + 1) (set s i b)) (drop (i + 1) t) ≡ done
xor_on i b s t done lt lt_too is so_far =
    let front = take_more_set s i b lt in
    let rest : drop (i + 1) (set s i b) ≡ drop (i + 1) s = drop-set-lt (i + 1) s i b (omega arith) in
    let left : drop i s ≡ get_or s i 0 ∷ drop (i + 1) s = drop_more s i 0 lt in
    let right : drop i t ≡ get_or t i 0 ∷ drop (i + 1) t = drop_more t i 0 lt_too in
    rw (front, rest, is, append_assoc) (ap (λ l. take i s ++ xor_each l (get_or t i 0 ∷ drop (i + 1) t)) (sym left) ∙ ap (λ l. take i s ++ xor_each (drop i s) l) (sym right) ∙ so_far)

pub xor_all : (i : ℕ) (s t done : List ℕ) → length s ≤ i → take i s ++ xor_each (drop i s) (drop i t) ≡ done → s ≡ done
xor_all i s t done past so_far =
    let all = take_all i s past in
    let none = drop_all i s past in
    sym (append-nil s) ∙ (rw (all, none) at so_far)

-- the check value of what differs is both
pub change_is : (method : Method) (bid : ℕ) (old new room differs : List ℕ) (change : ℕ) → room ≡ old → new ≡ decoded method bid old → differs ≡ xor_each room new → change ≡ crc differs
    → change ≡ bit_xor (crc old) (crc new)
change_is method bid old new room differs change kept made xored sum =
    let long : length old ≡ length new = sym (ap length made ∙ length_decoded method bid old) in
    sum ∙ ap crc (xored ∙ ap (λ l. xor_each l new) kept) ∙ linear_law old new long
