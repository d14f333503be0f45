-- Bytes under a key: the loop that goes over them, and that it undoes itself.
use Rattle.std.proofs.Common.{◌≡◌, ℕ, ◌+◌, ◌-◌, ◌/◌, ◌%◌, ◌^◌, ◌<◌, ◌≤◌, ◌∙◌, List, [], ◌∷◌, ◌++◌, length, get_or, set, take, drop, refl, ap, sym, arith}
use Rattle.std.specs.List.{All}
use Rattle.std.proofs.lemmas.List.{append_assoc, append-nil, take_more_set, drop_more, drop-set-lt, drop_all, take_all}
use Rattle.std.proofs.lemmas.List.Elements.{All-head, All-tail, All-cons, All-nil}
use Rattle.std.proofs.lemmas.Nat.{mod_below}
use Rattle.pst_encoding.specs.Tables.{r_of, s_of, IsByte}
use Rattle.pst_encoding.specs.Cyclic.{turned, cycled_byte, cycled, CyclicLaw}
use Rattle.pst_encoding.proofs.TableLemmas.{tables_law}

-- ---- the loop: what is done, and what is left under the next key, are all of it

pub cycled_on : (key next i b : ℕ) (s done : List ℕ) → i < length s → b ≡ cycled_byte key (get_or s i 0) → next ≡ (key + 1) % 2 ^ 16
    → take i s ++ cycled key (drop i s) ≡ done → take (i + 1) (set s i b) ++ cycled next (drop (i + 1) (set s i b)) ≡ done
unfolding cycled
cycled_on key next i b s done lt is more so_far =
    let front = take_more_set s i b lt in
    let rest : drop (i + 1) (set s i b) ≡ drop (i + 1) s = drop-set-lt (i + 1) s i b (omega arith) in
    let left : drop i s ≡ get_or s i 0 ∷ drop (i + 1) s = drop_more s i 0 lt in
    rw (front, rest, more, is, append_assoc) (ap (λ l. take i s ++ cycled key l) (sym left) ∙ so_far)

pub cycled_all : (key i : ℕ) (s done : List ℕ) → length s ≤ i → take i s ++ cycled key (drop i s) ≡ done → s ≡ done
unfolding cycled
cycled_all key i s done past so_far =
    let all = take_all i s past in
    let none = drop_all i s past in
    sym (append-nil s) ∙ (rw (all, none) at so_far)

-- ---- it undoes itself

-- a byte, after a sum and a difference
under : (a h : ℕ) → a < 256 → h < 256 → ((a + (256 - h)) % 256 + h) % 256 ≡ a
under a h fits small = omega arith

over : (a h : ℕ) → a < 256 → h < 256 → ((a + h) % 256 + (256 - h)) % 256 ≡ a
over a h fits small = omega arith

turned_again : (high b : ℕ) → high < 256 → IsByte b → IsByte (turned high b) × (turned high (turned high b) ≡ b)
unfolding turned
turned_again high b high_fits fits =
    let r = tables_law b fits in
    let c = (r_of b + high) % 256 in
    let c_fits : c < 256 = omega arith in
    let s = tables_law c c_fits in
    let d = (s_of c + (256 - high)) % 256 in
    let d_fits : d < 256 = omega arith in
    let i = tables_law d d_fits in (
      i.i_byte,
      rw (i.r_undoes_i, under (s_of c) high s.s_byte high_fits, s.s_undoes_s, over (r_of b) high r.r_byte high_fits, r.i_undoes_r) refl,
    )

pub byte_again : (key b : ℕ) → IsByte b → cycled_byte key (cycled_byte key b) ≡ b
unfolding cycled_byte
byte_again key b fits =
    let low = key % 256 in
    let high = key / 256 % 256 in
    let low_fits : low < 256 = omega arith in
    let high_fits : high < 256 = omega arith in
    let a = (b + low) % 256 in
    let a_fits : a < 256 = omega arith in
    let t = turned_again high a high_fits a_fits in
    rw (under (turned high a) low t.0 low_fits, t.1, over b low fits low_fits) refl

pub byte_fits : (key b : ℕ) → IsByte (cycled_byte key b)
unfolding cycled_byte
byte_fits key b = mod_below _ 256 (omega arith)

pub cyclic_law : CyclicLaw
unfolding cycled
cyclic_law key [] fit = refl
cyclic_law key (b ∷ rest) fit =
    let here = byte_again key b (All-head IsByte b rest fit) in
    let later = cyclic_law ((key + 1) % 2 ^ 16) rest (All-tail IsByte b rest fit) in
    rw (here, later) refl

pub cycled_fits : (key : ℕ) (bytes : List ℕ) → All IsByte (cycled key bytes)
unfolding cycled
cycled_fits key [] = All-nil IsByte
cycled_fits key (b ∷ rest) = All-cons IsByte (cycled_byte key b) (cycled ((key + 1) % 2 ^ 16) rest) (byte_fits key b) (cycled_fits ((key + 1) % 2 ^ 16) rest)

pub length-cycled : (key : ℕ) (bytes : List ℕ) → length (cycled key bytes) ≡ length bytes
unfolding cycled
length-cycled key [] = refl
length-cycled key (b ∷ rest) = rw (length-cycled ((key + 1) % 2 ^ 16) rest) refl
