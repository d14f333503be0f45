-- Words of four bytes one after another, where words are left out and added to others.
use Rattle.std.proofs.Common.{◌≡◌, ◌≢◌, ℕ, zero, suc, ◌+◌, ◌-◌, ◌*◌, ◌^◌, ◌<◌, ◌≤◌, List, length, take, drop, replicate, get_or, set, inl, inr, refl, sym, ap, ◌∙◌, arith, length-drop, get_or-set_same, get_or-set_other}
use Rattle.std.specs.Prelude.{bit_xor, fold, nat_eq, if◌then◌else◌}
use Rattle.std.specs.Int.Bits.{xor_assoc, xor_zero_l, xor_zero_r}
use Rattle.std.proofs.lemmas.Bool.{cases_eq, cases_lt}
use Rattle.std.proofs.lemmas.List.{drop-drop, get_or-replicate, get_or_past, length-replicate}
use Rattle.std.proofs.lemmas.Nat.{xor_comm}
use Rattle.byteorder.specs.Endian.{little_number}
use Rattle.byteorder.specs.Numbers.{little_from-take}
use Rattle.pst_crc.specs.Crc.{shifted_by, after_byte}
use Rattle.pst_crc.specs.LeftOut.{word_in, added_in, whole_in, fed_words}
use Rattle.pst_crc.proofs.Linear.{shifted_by-xor}
use Rattle.pst_crc.proofs.Words.{shifted_by-add, none_left, none_left_of, turn, fits-drop}
use Rattle.pst_crc.proofs.Multiple.{regroup, regroup_four, of_nothing, taken_up}

-- the words that are taken decide
pub fed_within : (k r i : ℕ) (f g : ℕ → ℕ) → ((j : ℕ) → i ≤ j → j < i + k → f j ≡ g j) → fed_words r f i k ≡ fed_words r g i k
unfolding fed_words
fed_within zero r i f g h = refl
fed_within (suc k) r i f g h =
    ap (λ x. fed_words (shifted_by 32 (bit_xor r x)) f (suc i) k) (h i (omega arith) (omega arith))
    ∙ fed_within k (shifted_by 32 (bit_xor r (g i))) (suc i) f g (λ j le lt. h j (omega (arith, le)) (omega (arith, lt)))

fed_same : (k r i : ℕ) (f g : ℕ → ℕ) → ((j : ℕ) → i ≤ j → f j ≡ g j) → fed_words r f i k ≡ fed_words r g i k
fed_same k r i f g h = fed_within k r i f g (λ j le _. h j le)

fed_xor : (k r s i : ℕ) (f g : ℕ → ℕ) → fed_words (bit_xor r s) (λ j. bit_xor (f j) (g j)) i k ≡ bit_xor (fed_words r f i k) (fed_words s g i k)
unfolding fed_words
fed_xor zero r s i f g = refl
fed_xor (suc k) r s i f g =
    ap (λ x. fed_words (shifted_by 32 x) (λ j. bit_xor (f j) (g j)) (suc i) k) (regroup r s (f i) (g i))
    ∙ ap (λ x. fed_words x (λ j. bit_xor (f j) (g j)) (suc i) k) (shifted_by-xor 32 (bit_xor r (f i)) (bit_xor s (g i)))
    ∙ fed_xor k (shifted_by 32 (bit_xor r (f i))) (shifted_by 32 (bit_xor s (g i))) (suc i) f g

-- words that are 0
fed_none : (k r i : ℕ) → fed_words r (λ j. 0) i k ≡ shifted_by (32 * k) r
unfolding fed_words
fed_none zero r i = sym (none_left r)
fed_none (suc k) r i =
    let e : 32 * suc k ≡ 32 + 32 * k = omega arith in
    ap (λ x. fed_words (shifted_by 32 x) (λ j. 0) (suc i) k) (xor_zero_r r)
    ∙ fed_none k (shifted_by 32 r) (suc i) ∙ sym (ap (λ n. shifted_by n r) e ∙ shifted_by-add 32 (32 * k) r)

-- what the register makes of words: it goes past them, and what they make of 0 is added
pub past_words : (k r i : ℕ) (f : ℕ → ℕ) → bit_xor (shifted_by (32 * k) r) (fed_words 0 f i k) ≡ fed_words r f i k
past_words k r i f =
    ap (λ x. bit_xor x (fed_words 0 f i k)) (sym (fed_none k r i))
    ∙ sym (ap (λ x. fed_words x f i k) (sym (xor_zero_r r)) ∙ fed_same k (bit_xor r 0) i f (λ j. bit_xor 0 (f j)) (λ j le. sym (xor_zero_l (f j))) ∙ fed_xor k r 0 i (λ j. 0) f)

-- one word, and all others 0
abbrev pub only : ℕ → ℕ → ℕ → ℕ
only p v j = if nat_eq j p then v else 0

only_there : (p v j : ℕ) → j ≡ p → only p v j ≡ v
only_there p v j e = grind (arith, e)

only_else : (p v j : ℕ) → (j ≡ p → ⊥) → only p v j ≡ 0
only_else p v j ne = grind (arith, ne)

fed_only : (d n k i p v : ℕ) → p ≡ i + d → k ≡ d + suc n → fed_words 0 (only p v) i k ≡ shifted_by (32 * suc n) v
unfolding fed_words
fed_only zero n k i p v at_p long =
    let first : i ≡ p = omega (arith, at_p) in
    let count : k ≡ suc n = omega (arith, long) in
    let e : 32 * suc n ≡ 32 + 32 * n = omega arith in
    ap (fed_words 0 (only p v) i) count
    ∙ ap (λ x. fed_words (shifted_by 32 (bit_xor 0 x)) (only p v) (suc i) n) (only_there p v i first)
    ∙ ap (λ x. fed_words (shifted_by 32 x) (only p v) (suc i) n) (xor_zero_l v)
    ∙ fed_same n (shifted_by 32 v) (suc i) (only p v) (λ j. 0) (λ j le. only_else p v j (λ same. omega (arith, le, same, first)))
    ∙ fed_none n (shifted_by 32 v) (suc i) ∙ sym (ap (λ m. shifted_by m v) e ∙ shifted_by-add 32 (32 * n) v)
fed_only (suc d) n k i p v at_p long =
    let count : k ≡ suc (d + suc n) = omega (arith, long) in
    let next : p ≡ suc i + d = omega (arith, at_p) in
    ap (fed_words 0 (only p v) i) count
    ∙ ap (λ x. fed_words (shifted_by 32 (bit_xor 0 x)) (only p v) (suc i) (d + suc n)) (only_else p v i (λ same. omega (arith, at_p, same)))
    ∙ ap (λ x. fed_words x (only p v) (suc i) (d + suc n)) (ap (shifted_by 32) (xor_zero_l 0) ∙ of_nothing 32)
    ∙ fed_only d n (d + suc n) (suc i) p v next refl

fed_behind : (d c k i p v : ℕ) → p ≡ i + d → k ≡ d + c → 0 < c → fed_words 0 (only p v) i k ≡ shifted_by (32 * c) v
fed_behind d c k i p v at_p long some =
    let n = c - 1 in
    let e : suc n ≡ c = omega (arith, some) in
    fed_only d n k i p v at_p (omega (arith, long, e)) ∙ ap (λ x. shifted_by (32 * x) v) e

-- ---- a word is left out, and added to the four words that take it up

-- a word goes before the others
fed_first : (k i v : ℕ) (f : ℕ → ℕ) → f i ≡ v → fed_words 0 f i (suc k) ≡ bit_xor (shifted_by (32 * suc k) v) (fed_words 0 f (suc i) k)
unfolding fed_words
fed_first k i v f is =
    let rest = fed_words 0 f (suc i) k in
    let e : 32 + 32 * k ≡ 32 * suc k = omega arith in
    ap (λ x. fed_words (shifted_by 32 x) f (suc i) k) (ap (bit_xor 0) is ∙ xor_zero_l v)
    ∙ sym (past_words k (shifted_by 32 v) (suc i) f)
    ∙ ap (λ x. bit_xor x rest) (sym (shifted_by-add 32 (32 * k) v) ∙ ap (λ n. shifted_by n v) e)

-- what the four words take up
abbrev pub taken_from : ℕ → ℕ → ℕ → ℕ
taken_from i v j = bit_xor (only (i + 145) v j) (bit_xor (only (i + 183) v j) (bit_xor (only (i + 211) v j) (only (i + 300) v j)))

fed_taken : (m i v : ℕ) → fed_words 0 (taken_from i v) (suc i) (m + 300)
    ≡ bit_xor (shifted_by (32 * (suc m + 155)) v) (bit_xor (shifted_by (32 * (suc m + 117)) v) (bit_xor (shifted_by (32 * (suc m + 89)) v) (shifted_by (32 * suc m) v)))
fed_taken m i v =
    let k = m + 300 in
    let a = only (i + 145) v in
    let b = only (i + 183) v in
    let c = only (i + 211) v in
    let d = only (i + 300) v in
    let three = fed_xor k 0 0 (suc i) c d in
    let two = fed_xor k 0 0 (suc i) b (λ j. bit_xor (c j) (d j)) in
    let one = fed_xor k 0 0 (suc i) a (λ j. bit_xor (b j) (bit_xor (c j) (d j))) in
    one
    ∙ ap (bit_xor (fed_words 0 a (suc i) k)) (two ∙ ap (bit_xor (fed_words 0 b (suc i) k)) three)
    ∙ rw (
      fed_behind 144 (suc m + 155) k (suc i) (i + 145) v (omega arith) (omega arith) (omega arith),
      fed_behind 182 (suc m + 117) k (suc i) (i + 183) v (omega arith) (omega arith) (omega arith),
      fed_behind 210 (suc m + 89) k (suc i) (i + 211) v (omega arith) (omega arith) (omega arith),
      fed_behind 299 (suc m) k (suc i) (i + 300) v (omega arith) (omega arith) (omega arith),
    ) refl

pub left_out : (m i v : ℕ) (f g : ℕ → ℕ) → v < 2 ^ 32 → f i ≡ v → ((j : ℕ) → suc i ≤ j → g j ≡ bit_xor (f j) (taken_from i v j))
    → fed_words 0 f i (suc (m + 300)) ≡ fed_words 0 g (suc i) (m + 300)
left_out m i v f g lt is others =
    let k = m + 300 in
    let rest = fed_words 0 f (suc i) k in
    let e : 32 * suc k ≡ 32 * (suc m + 300) = omega arith in
    fed_first k i v f is
    ∙ ap (λ x. bit_xor x rest) (ap (λ n. shifted_by n v) e ∙ taken_up (suc m) v lt ∙ sym (fed_taken m i v))
    ∙ xor_comm (fed_words 0 (taken_from i v) (suc i) k) rest
    ∙ sym (fed_same k 0 (suc i) g (λ j. bit_xor (f j) (taken_from i v j)) others ∙ fed_xor k 0 0 (suc i) f (taken_from i v))

-- ---- the words that are left out stand in a list

changed : (words : List ℕ) (p v q e j : ℕ) → p < length words → get_or words p 0 ≡ 0 → (j ≡ e → q ≡ p) → (q ≡ p → j ≡ e)
    → get_or (set words p v) q 0 ≡ bit_xor (get_or words q 0) (only e v j)
changed words p v q e j there none to from =
    elim (cases_eq j e) [
      | inl same ↦
          let at_p : q ≡ p = to same in
          ap (λ i. get_or (set words p v) i 0) at_p ∙ get_or-set_same words p v 0 there
          ∙ sym (ap (bit_xor (get_or words q 0)) (only_there e v j same) ∙ ap (λ x. bit_xor x v) (ap (λ i. get_or words i 0) at_p ∙ none) ∙ xor_zero_l v)
      | inr other ↦
          let ne : q ≢ p = λ at_p. other (from at_p) in
          get_or-set_other words p q v 0 ne ∙ sym (ap (bit_xor (get_or words q 0)) (only_else e v j other) ∙ xor_zero_r (get_or words q 0))
    ]

pub added_more : (words : List ℕ) (i v j : ℕ) → 300 + i < length words → get_or words (300 + i) 0 ≡ 0
    → added_in (set words (300 + i) v) j ≡ bit_xor (added_in words j) (taken_from i v j)
added_more words i v j there none =
    let at_q : (k e : ℕ) → e + k ≡ i + 300 → get_or (set words (300 + i) v) (j + k) 0 ≡ bit_xor (get_or words (j + k) 0) (only e v j) =
    λ k e sum. changed words (300 + i) v (j + k) e j there none (λ same. omega (arith, same, sum)) (λ same. omega (arith, same, sum)) in
    let first : get_or (set words (300 + i) v) j 0 ≡ bit_xor (get_or words j 0) (only (i + 300) v j) =
    changed words (300 + i) v j (i + 300) j there none (λ same. omega (arith, same)) (λ same. omega (arith, same)) in
    rw (at_q 155 (i + 145) (omega arith), at_q 117 (i + 183) (omega arith), at_q 89 (i + 211) (omega arith), first)
    (sym (regroup_four (get_or words (j + 155) 0) (get_or words (j + 117) 0) (get_or words (j + 89) 0) (get_or words j 0)
    (only (i + 145) v j) (only (i + 183) v j) (only (i + 211) v j) (only (i + 300) v j)))

-- ---- bytes as words

-- the first n bytes' number, as they stand alone
first_number : (n : ℕ) (bytes : List ℕ) → little_number n (take n bytes) ≡ little_number n bytes
first_number n bytes = little_from-take 0 n n bytes (omega arith)

pub fed_bytes : (k i r : ℕ) (bytes : List ℕ) → length bytes ≡ 4 * (i + k) → ((j : ℕ) → get_or bytes j 0 < 256)
    → fold after_byte r (drop (4 * i) bytes) ≡ fed_words r (word_in bytes) i k
unfolding fed_words
fed_bytes zero i r bytes len fits =
    none_left_of r (drop (4 * i) bytes) (omega (arith, length-drop (4 * i) bytes, len))
fed_bytes (suc k) i r bytes len fits =
    let rest = drop (4 * i) bytes in
    let long : 4 ≤ length rest = omega (arith, length-drop (4 * i) bytes, len) in
    let word : little_number 4 (take 4 rest) ≡ word_in bytes i = first_number 4 rest in
    let behind : drop 4 rest ≡ drop (4 * suc i) bytes = drop-drop 4 (4 * i) bytes ∙ ap (λ n. drop n bytes) (omega arith) in
    sym (turn 4 r rest long (fits-drop (4 * i) bytes fits))
    ∙ ap (λ w. fold after_byte (shifted_by 32 (bit_xor r w)) (drop 4 rest)) word
    ∙ ap (fold after_byte (shifted_by 32 (bit_xor r (word_in bytes i)))) behind
    ∙ fed_bytes k (suc i) (shifted_by 32 (bit_xor r (word_in bytes i))) bytes (omega (arith, len)) fits

-- ---- the list of those that are left out, before any is: the register, and 0

-- the register is added to the first word
pub fed_start : (k r : ℕ) (f g : ℕ → ℕ) → g 0 ≡ bit_xor (f 0) r → ((j : ℕ) → 1 ≤ j → g j ≡ f j) → fed_words 0 g 0 (suc k) ≡ fed_words r f 0 (suc k)
unfolding fed_words
fed_start k r f g first others =
    ap (λ x. fed_words (shifted_by 32 x) g 1 k) (xor_zero_l (g 0) ∙ first ∙ xor_comm (f 0) r)
    ∙ fed_same k (shifted_by 32 (bit_xor r (f 0))) 1 g f others

nothing_else : (n j : ℕ) → get_or {A = ℕ} (replicate n 0) j 0 ≡ 0
nothing_else n j =
    elim (cases_lt j n) [
      | inl lt ↦ get_or-replicate {A = ℕ} n j 0 0 lt
      | inr le ↦ get_or_past (replicate n 0) j 0 (omega (arith, le, length-replicate {A = ℕ} n 0))
    ]

pub begun_rest : (n r j : ℕ) → 1 ≤ j → get_or {A = ℕ} (set (replicate n 0) 0 r) j 0 ≡ 0
begun_rest n r j le =
    let ne : j ≢ 0 = omega (arith, le) in
    get_or-set_other (replicate n 0) 0 j r 0 ne ∙ nothing_else n j

pub begun_fed : (n r : ℕ) (bytes words : List ℕ) → get_or words 0 0 ≡ r → ((j : ℕ) → 1 ≤ j → get_or words j 0 ≡ 0)
    → fed_words 0 (whole_in bytes words) 0 (n - 0 + 300) ≡ fed_words r (word_in bytes) 0 (n + 300)
begun_fed n r bytes words first others =
    let k = n + 299 in
    let from : n - 0 + 300 ≡ suc k = omega arith in
    let to : n + 300 ≡ suc k = omega arith in
    let none : (j : ℕ) → bit_xor (get_or words (j + 155) 0) (bit_xor (get_or words (j + 117) 0) (bit_xor (get_or words (j + 89) 0) (get_or words j 0))) ≡ get_or words j 0 =
    λ j. rw (others (j + 155) (omega arith), others (j + 117) (omega arith), others (j + 89) (omega arith), xor_zero_l (get_or words j 0), xor_zero_l (get_or words j 0)) (xor_zero_l (get_or words j 0)) in
    ap (fed_words 0 (whole_in bytes words) 0) from
    ∙ fed_start k r (word_in bytes) (whole_in bytes words)
    (ap (bit_xor (word_in bytes 0)) (none 0 ∙ first))
    (λ j le. ap (bit_xor (word_in bytes j)) (none j ∙ others j le) ∙ xor_zero_r (word_in bytes j))
    ∙ ap (fed_words r (word_in bytes) 0) (sym to)

-- ---- a turn: the word with number i is left out

pub turn_fed : (n i v r : ℕ) (bytes words : List ℕ) → i < n → 300 + i < length words → v < 2 ^ 32 → v ≡ whole_in bytes words i
    → ((j : ℕ) → i ≤ j → get_or words (300 + j) 0 ≡ 0)
    → fed_words 0 (whole_in bytes words) i (n - i + 300) ≡ r
    → fed_words 0 (whole_in bytes (set words (300 + i) v)) (i + 1) (n - (i + 1) + 300) ≡ r
turn_fed n i v r bytes words lt there small is none same =
    let m = n - (i + 1) in
    let count : n - i + 300 ≡ suc (m + 300) = omega (arith, lt) in
    let next : i + 1 ≡ suc i = omega arith in
    let others = whole_in bytes (set words (300 + i) v) in
    ap (λ x. fed_words 0 others x (m + 300)) next
    ∙ sym (left_out m i v (whole_in bytes words) others small (sym is)
    (λ j le. ap (bit_xor (word_in bytes j)) (added_more words i v j there (none i (omega arith))) ∙ sym (xor_assoc (word_in bytes j) (added_in words j) (taken_from i v j))))
    ∙ ap (fed_words 0 (whole_in bytes words) i) (sym count) ∙ same

pub turn_none : (i v : ℕ) (words : List ℕ) → ((j : ℕ) → i ≤ j → get_or words (300 + j) 0 ≡ 0) → (j : ℕ) → i + 1 ≤ j → get_or (set words (300 + i) v) (300 + j) 0 ≡ 0
turn_none i v words none j le =
    let ne : 300 + j ≢ 300 + i = omega (arith, le) in
    get_or-set_other words (300 + i) (300 + j) v 0 ne ∙ none j (omega (arith, le))
