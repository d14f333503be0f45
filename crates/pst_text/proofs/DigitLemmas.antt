-- Digits in hexadecimal, which stand for themselves between quotes.
use Rattle.std.proofs.Common.{◌≡◌, ℕ, zero, suc, ◌+◌, ◌/◌, ◌%◌, ◌^◌, ◌<◌, ◌≤◌, Bool, true, false, cond, List, [], ◌∷◌, ◌++◌, length, take, drop, set, get_or, refl, sym, ap, ◌∙◌, inl, inr, arith, append_assoc, append-nil, eq-eqb}
use Rattle.std.proofs.lemmas.Bool.Decides.{nat_tests}
use Rattle.std.proofs.lemmas.Bool.{and_parts, cases_lt, ne_eqb, lt-ltb, le-ltb}
use Rattle.std.proofs.lemmas.List.{drop_more, drop_all, drop-set, take-append-drop}
use Rattle.std.proofs.lemmas.Grind.{flat_map-append}
use Rattle.std.specs.Prelude.{codes, slice_index, ◌&&◌, nat_lt}
use Rattle.std.specs.Fmt.{digits, digits_onto, digit_glyph}
use Rattle.hex.specs.Hex.{lower_digits, upper_digits, encode_with}
use Rattle.json.specs.Print.{escape, escape_byte}
use Rattle.json.proofs.Printed.Strings.{escape_byte_plain}
use Rattle.json.specs.Run.{is_plain}
use Rattle.std.specs.Int.{byte_at, bytes_high_first}
use Rattle.serde_json.specs.Data.{string}
use Rattle.serde_json.specs.Written.{compact_text}
use Rattle.pst_fault.specs.Fault.{hex}
use Rattle.pst_text.specs.Names.{nid_data}
use Rattle.pst_text.proofs.EscapeLemmas.{plain_byte}
use Rattle.pst_text.proofs.HexLemmas.{encode_with_append}

-- ---- the last digit of a number, and those before it

abbrev spell : ℕ → ℕ → List ℕ → List ℕ
spell k n acc = digits_onto k 16 false n acc

abbrev last_of : ℕ → ℕ
last_of n = digit_glyph false (n % 16)

spell_last : (k n : ℕ) (acc : List ℕ) → n < 16 → spell (suc k) n acc ≡ last_of n ∷ acc
spell_last k n acc h = ap (λ t. cond t (last_of n ∷ acc) (spell k (n / 16) (last_of n ∷ acc))) (eq-eqb (n / 16) 0 (omega arith))

spell_next : (k n : ℕ) (acc : List ℕ) → 16 ≤ n → spell (suc k) n acc ≡ spell k (n / 16) (last_of n ∷ acc)
spell_next k n acc h = ap (λ t. cond t (last_of n ∷ acc) (spell k (n / 16) (last_of n ∷ acc))) (ne_eqb (n / 16) 0 (λ e. omega arith))

spell-append : (k n : ℕ) (acc : List ℕ) → spell k n acc ≡ spell k n [] ++ acc
spell-append zero n acc = refl
spell-append (suc k) n acc =
    elim (cases_lt n 16) [
      | inl l ↦ spell_last k n acc l ∙ ap (λ x. x ++ acc) (sym (spell_last k n [] l))
      | inr l ↦ spell_next k n acc l ∙ spell-append k (n / 16) (last_of n ∷ acc) ∙ sym (append_assoc (spell k (n / 16) []) (last_of n ∷ []) acc)
          ∙ ap (λ x. x ++ acc) (sym (spell_next k n [] l ∙ spell-append k (n / 16) (last_of n ∷ [])))
    ]

-- the bound on the digits does not matter where it is large enough
spell_enough : (j k n : ℕ) (acc : List ℕ) → n < 16 ^ suc j → n < 16 ^ suc k → spell (suc j) n acc ≡ spell (suc k) n acc
spell_enough zero k n acc p q = spell_last zero n acc (omega arith) ∙ sym (spell_last k n acc (omega arith))
spell_enough (suc j) zero n acc p q = spell_last (suc j) n acc (omega arith) ∙ sym (spell_last zero n acc (omega arith))
spell_enough (suc j) (suc k) n acc p q =
    elim (cases_lt n 16) [
      | inl l ↦ spell_last (suc j) n acc l ∙ sym (spell_last (suc k) n acc l)
      | inr l ↦ spell_next (suc j) n acc l ∙ spell_enough j k (n / 16) (last_of n ∷ acc) (omega arith) (omega arith) ∙ sym (spell_next (suc k) n acc l)
    ]

hex_step : (n : ℕ) → 16 ≤ n → n < 2 ^ 32 → hex n ≡ hex (n / 16) ++ last_of n ∷ []
unfolding digits
hex_step n h small = spell_next 63 n [] h ∙ spell_enough 62 63 (n / 16) (last_of n ∷ []) (omega arith) (omega arith) ∙ spell-append 64 (n / 16) (last_of n ∷ [])

hex_last : (n : ℕ) → n < 16 → hex n ≡ last_of n ∷ []
unfolding digits
hex_last n h = spell_last 63 n [] h

-- ---- they stand for themselves

glyph_plain : (d : ℕ) → d < 16 → escape_byte (digit_glyph false d) ≡ digit_glyph false d ∷ []
glyph_plain d h =
    elim (cases_lt d 10) [
      | inl l ↦ rw (lt-ltb d 10 l) (escape_byte_plain (48 + d) (λ e. omega arith) (λ e. omega arith) (omega arith))
      | inr l ↦ rw (le-ltb d 10 l) (escape_byte_plain (87 + d) (λ e. omega arith) (λ e. omega arith) (omega arith))
    ]

-- the digits of a number are those before the last, and that one
escape_step : (n : ℕ) → 16 ≤ n → n < 2 ^ 32 → escape (hex n) ≡ escape (hex (n / 16)) ++ last_of n ∷ []
escape_step n h small = ap escape (hex_step n h small) ∙ flat_map-append escape_byte (hex (n / 16)) (last_of n ∷ [])
    ∙ ap (λ l. escape (hex (n / 16)) ++ l) (append-nil (escape_byte (last_of n)) ∙ glyph_plain (n % 16) (omega arith))

escape_last : (n : ℕ) → n < 16 → escape (hex n) ≡ digit_glyph false n ∷ []
escape_last n h =
    let same : n % 16 ≡ n = omega arith in
    ap escape (hex_last n h) ∙ append-nil (escape_byte (last_of n)) ∙ glyph_plain (n % 16) (omega arith) ∙ ap (λ d. digit_glyph false d ∷ []) same

-- The digits from a place on are the last ones of a number, and what is left of it has those before them.
abbrev pub AreSpelt : ℕ → ℕ → List ℕ → Type 0
AreSpelt number left last = escape (hex left) ++ last ≡ escape (hex number)

-- what is left has fewer digits than there was room for
pub room_left : (left n : ℕ) → 16 ≤ left → left < 16 ^ suc n → (0 < n) × (left / 16 < 16 ^ n)
room_left left zero h small = absurd (omega (arith, h, small))
room_left left (suc n) h small = (omega arith, omega (arith, h, small))

-- none is spelt yet
pub none_spelt : (number : ℕ) (digits : List ℕ) → length digits ≡ 8 → AreSpelt number number (drop 8 digits)
none_spelt number digits long = ap (λ l. escape (hex number) ++ l) (drop_all 8 digits (omega (arith, long))) ∙ append-nil (escape (hex number))

-- the digit before them is spelt
pub digit_spelt : (number left i : ℕ) (digits : List ℕ) → 16 ≤ left → left < 2 ^ 32 → i < length digits → AreSpelt number left (drop (i + 1) digits) → AreSpelt number (left / 16) (drop i (set digits i (last_of left)))
digit_spelt number left i digits h small inside is =
    ap (λ l. escape (hex (left / 16)) ++ l) (drop-set digits i (last_of left) inside)
    ∙ sym (append_assoc (escape (hex (left / 16))) (last_of left ∷ []) (drop (i + 1) digits))
    ∙ ap (λ l. l ++ drop (i + 1) digits) (sym (escape_step left h small))
    ∙ is

-- the first digit is spelt
pub all_spelt : (number left i : ℕ) (digits : List ℕ) → left < 16 → i < length digits → AreSpelt number left (drop (i + 1) digits) → drop i (set digits i (digit_glyph false left)) ≡ escape (hex number)
all_spelt number left i digits small inside is =
    drop-set digits i (digit_glyph false left) inside
    ∙ ap (λ l. l ++ drop (i + 1) digits) (sym (escape_last left small))
    ∙ is

-- the digits of a node's identifier, behind their prefix
pub nid_put : (nid : ℕ) (text : List ℕ) → ((text ++ codes "\"0x") ++ escape (hex nid)) ++ 34 ∷ [] ≡ text ++ compact_text (nid_data nid)
unfolding escape_byte
nid_put nid text = append_assoc (text ++ codes "\"0x") (escape (hex nid)) (34 ∷ []) ∙ append_assoc text (codes "\"0x") (escape (hex nid) ++ 34 ∷ [])

-- ---- bytes

-- all bytes of a table stand for themselves
abbrev are_plain : List ℕ → Bool
are_plain [] = true
are_plain (x ∷ xs) = is_plain x && are_plain xs

plain_at : (t : List ℕ) (d : ℕ) → are_plain t ≡ true → d < length t → escape_byte (slice_index t d) ≡ slice_index t d ∷ []
plain_at [] d all inside = absurd (omega arith)
plain_at (x ∷ t) zero all inside = plain_byte x (and_parts (is_plain x) (are_plain t) all).0
plain_at (x ∷ t) (suc d) all inside = plain_at t d (and_parts (is_plain x) (are_plain t) all).1 (omega arith)

byte_plain : (t : List ℕ) (b : ℕ) → are_plain t ≡ true → length t ≡ 16 → b < 256
    → slice_index t (b / 16) ∷ slice_index t (b % 16) ∷ [] ≡ escape (encode_with t (b ∷ []))
unfolding encode_with
byte_plain t b all long small = sym (rw (plain_at t (b / 16) all (omega arith), plain_at t (b % 16) all (omega arith)) refl)

byte_first : (t : List ℕ) (b : ℕ) (rest : List ℕ) → escape (encode_with t (b ∷ rest)) ≡ escape (encode_with t (b ∷ [])) ++ escape (encode_with t rest)
unfolding encode_with
byte_first t b rest = flat_map-append escape_byte (slice_index t (b / 16) ∷ slice_index t (b % 16) ∷ []) (encode_with t rest)

-- the bytes of a number
byte_is_small : (i n : ℕ) → byte_at i n < 256
byte_is_small zero n = omega arith
byte_is_small (suc i) n = omega arith

bytes_are_small : (count n k : ℕ) → slice_index (bytes_high_first count n) k < 256
bytes_are_small zero n k = omega arith
bytes_are_small (suc count) n zero = byte_is_small count n
bytes_are_small (suc count) n (suc k) = bytes_are_small count n k

-- digits in upper case stand for themselves
upper_escaped : (bytes : List ℕ) → ((k : ℕ) → slice_index bytes k < 256) → escape (encode_with upper_digits bytes) ≡ encode_with upper_digits bytes
unfolding encode_with
upper_escaped [] small = refl
upper_escaped (b ∷ bytes) small =
    byte_first upper_digits b bytes
    ∙ ap (λ l. l ++ escape (encode_with upper_digits bytes)) (sym (byte_plain upper_digits b refl refl (small 0)))
    ∙ ap (λ l. slice_index upper_digits (b / 16) ∷ slice_index upper_digits (b % 16) ∷ l) (upper_escaped bytes (λ k. small (suc k)))

-- those of the bytes of a number, in quotes
pub upper_quoted : (count n : ℕ) (text : List ℕ) → let shown = encode_with upper_digits (bytes_high_first count n) in text ++ (34 ∷ (shown ++ 34 ∷ [])) ≡ text ++ compact_text (string shown)
upper_quoted count n text = ap (λ l. text ++ 34 ∷ (l ++ 34 ∷ [])) (sym (upper_escaped (bytes_high_first count n) (bytes_are_small count n)))

pub lower_put : (b : ℕ) (text : List ℕ) → b < 256 → text ++ (slice_index lower_digits (b / 16) ∷ slice_index lower_digits (b % 16) ∷ []) ≡ text ++ escape (encode_with lower_digits (b ∷ []))
lower_put b text small = ap (λ l. text ++ l) (byte_plain lower_digits b refl refl small)

-- the next byte is put
pub byte_next : (t bytes : List ℕ) (i d b : ℕ) (text put whole : List ℕ) → i < length bytes → b ≡ get_or bytes i d → put ≡ text ++ escape (encode_with t (b ∷ []))
    → text ++ escape (encode_with t (drop i bytes)) ≡ whole → put ++ escape (encode_with t (drop (i + 1) bytes)) ≡ whole
byte_next t bytes i d b text put whole inside is now so_far =
    let rest = drop (i + 1) bytes in
    ap (λ l. l ++ escape (encode_with t rest)) now ∙ append_assoc text (escape (encode_with t (b ∷ []))) (escape (encode_with t rest))
    ∙ ap (λ l. text ++ l) (sym (byte_first t b rest) ∙ ap (λ x. escape (encode_with t (x ∷ rest))) is ∙ ap (λ l. escape (encode_with t l)) (sym (drop_more bytes i d inside))) ∙ so_far

-- no byte is left
pub bytes_end : (t bytes : List ℕ) (i : ℕ) (text whole : List ℕ) → length bytes ≤ i → text ++ escape (encode_with t (drop i bytes)) ≡ whole → text ≡ whole
unfolding encode_with
bytes_end t bytes i text whole past so_far = sym (append-nil text) ∙ ap (λ l. text ++ escape (encode_with t l)) (sym (drop_all i bytes past)) ∙ so_far

-- ---- digits in lower case are ASCII

abbrev all_below : ℕ → List ℕ → Bool
all_below n [] = true
all_below n (x ∷ xs) = nat_lt x n && all_below n xs

below_at : (t : List ℕ) (i : ℕ) → all_below 128 t ≡ true → slice_index t i < 128
below_at [] i all = omega arith
below_at (x ∷ t) zero all = let first = (and_parts (nat_lt x 128) (all_below 128 t) all).0 in grind (arith, nat_tests)
below_at (x ∷ t) (suc i) all = below_at t i (and_parts (nat_lt x 128) (all_below 128 t) all).1

pub lower_are_ascii : (i : ℕ) → slice_index lower_digits i < 128
lower_are_ascii i = below_at lower_digits i refl

-- ---- bytes by sixteen

-- digits in lower case stand for themselves
pub lower_escaped : (bytes : List ℕ) → ((k : ℕ) → slice_index bytes k < 256) → escape (encode_with lower_digits bytes) ≡ encode_with lower_digits bytes
unfolding encode_with
lower_escaped [] small = refl
lower_escaped (b ∷ bytes) small =
    byte_first lower_digits b bytes
    ∙ ap (λ l. l ++ escape (encode_with lower_digits bytes)) (sym (byte_plain lower_digits b refl refl (small 0)))
    ∙ ap (λ l. slice_index lower_digits (b / 16) ∷ slice_index lower_digits (b % 16) ∷ l) (lower_escaped bytes (λ k. small (suc k)))

-- those of the next bytes are put
pub chunk_next : (left chunk rest digits text put whole : List ℕ) (n : ℕ) → chunk ≡ take n left → rest ≡ drop n left
    → digits ≡ escape (encode_with lower_digits chunk) → put ≡ text ++ digits
    → text ++ escape (encode_with lower_digits left) ≡ whole → put ++ escape (encode_with lower_digits rest) ≡ whole
chunk_next left chunk rest digits text put whole n first behind are now so_far =
    let shown = encode_with lower_digits in
    ap (λ l. l ++ escape (shown rest)) (now ∙ ap (λ l. text ++ l) are)
    ∙ append_assoc text (escape (shown chunk)) (escape (shown rest))
    ∙ ap (λ l. text ++ l) (sym (flat_map-append escape_byte (shown chunk) (shown rest)) ∙ ap escape (sym (encode_with_append lower_digits chunk rest)
    ∙ ap shown (ap (λ l. l ++ rest) first ∙ ap (λ l. take n left ++ l) behind ∙ take-append-drop n left)))
    ∙ so_far
