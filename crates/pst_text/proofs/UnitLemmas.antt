-- Texts of 16-bit units, character by character.
use Rattle.std.proofs.Common.{◌≡◌, ℕ, zero, suc, ◌+◌, ◌-◌, ◌*◌, ◌<◌, ◌≤◌, true, List, [], ◌∷◌, ◌++◌, length, take, drop, get_or, refl, sym, ap, ◌∙◌, arith, append_assoc, append-nil, map, length-drop, inl, inr}
use Rattle.std.proofs.lemmas.Bool.{lt-leb, le-leb, lt-ltb, le-ltb}
use Rattle.std.proofs.Math.Seq.{take-suc}
use Rattle.std.proofs.lemmas.List.{drop_more, take_all}
use Rattle.std.proofs.lemmas.Str.Ascii.{encode_ascii}
use Rattle.std.specs.Prelude.{◌/◌, ◌%◌, false, ◌⊎◌, Option, encode_utf8_all, Some, None}
use Rattle.std.proofs.lemmas.Grind.{flat_map-append}
use Rattle.std.specs.Option.{unwrap_or}
use Rattle.std.specs.Char.{encode_utf8}
use Rattle.std.specs.Char.Utf16.{utf16_chars, utf16_lossy_chars, is_high_surrogate, is_low_surrogate, lone_unit_char, surrogate_pair_char}
use Rattle.json.proofs.Printed.Strings.{escape_byte_plain}
use Rattle.json.specs.Print.{escape, escape_byte}
use Rattle.json.specs.Run.{is_plain}
use Rattle.pst_value.specs.Units.{units_of}
use Rattle.pst_text.specs.Text.{utf8_of}
use Rattle.pst_text.proofs.EscapeLemmas.{plain_byte}

-- a unit of ASCII is a character, and its byte
lone_ascii : (u : ℕ) (us : List ℕ) → u < 128 → utf16_chars (u ∷ us) ≡ Some u ∷ utf16_chars us
unfolding utf16_chars
lone_ascii u [] small = let low : u < 0xD800 = omega arith in rw (lt-leb 0xD800 u low)
lone_ascii u (v ∷ us) small = let low : u < 0xD800 = omega arith in rw (lt-leb 0xD800 u low)

byte_ascii : (u : ℕ) (us : List ℕ) → u < 128 → encode_utf8_all (utf16_lossy_chars (u ∷ us)) ≡ u ∷ encode_utf8_all (utf16_lossy_chars us)
byte_ascii u us small =
    ap (λ l. encode_utf8_all (map (λ o. unwrap_or o 0xFFFD) l)) (lone_ascii u us small)
    ∙ ap (λ l. l ++ encode_utf8_all (utf16_lossy_chars us)) (encode_ascii u small)

-- ---- the unit at a place

unit_at : (bytes : List ℕ) (at : ℕ) → at + 2 ≤ length bytes → units_of (drop at bytes) ≡ (get_or bytes at 0 + 256 * get_or bytes (at + 1) 0) ∷ units_of (drop (at + 2) bytes)
unit_at bytes at inside =
    let after : (at + 1) + 1 ≡ at + 2 = omega arith in
    ap units_of (drop_more bytes at 0 (omega arith) ∙ ap (λ l. get_or bytes at 0 ∷ l) (drop_more bytes (at + 1) 0 (omega arith) ∙ ap (λ n. get_or bytes (at + 1) 0 ∷ drop n bytes) after))

-- it is read, behind those before it
pub unit_read : (bytes : List ℕ) (at : ℕ) (units read whole : List ℕ) → at + 2 ≤ length bytes → read ≡ units ++ (get_or bytes at 0 + 256 * get_or bytes (at + 1) 0) ∷ []
    → units ++ units_of (drop at bytes) ≡ whole → read ++ units_of (drop (at + 2) bytes) ≡ whole
unit_read bytes at units read whole inside now so_far =
    let unit = (get_or bytes at 0 + 256 * get_or bytes (at + 1) 0) ∷ [] in
    ap (λ l. l ++ units_of (drop (at + 2) bytes)) now ∙ append_assoc units unit (units_of (drop (at + 2) bytes)) ∙ ap (λ l. units ++ l) (sym (unit_at bytes at inside)) ∙ so_far

-- one of ASCII
ascii_at : (bytes : List ℕ) (at : ℕ) → at + 2 ≤ length bytes → get_or bytes at 0 < 128 → get_or bytes (at + 1) 0 ≡ 0
    → utf8_of (drop at bytes) ≡ get_or bytes at 0 ∷ utf8_of (drop (at + 2) bytes)
ascii_at bytes at inside small none =
    let same : get_or bytes at 0 + 256 * get_or bytes (at + 1) 0 ≡ get_or bytes at 0 = omega arith in
    ap (λ l. encode_utf8_all (utf16_lossy_chars l)) (unit_at bytes at inside ∙ ap (λ u. u ∷ units_of (drop (at + 2) bytes)) same)
    ∙ byte_ascii (get_or bytes at 0) (units_of (drop (at + 2) bytes)) small

-- what stands for a unit of ASCII is put
pub ascii_put : (bytes : List ℕ) (at : ℕ) (text put whole : List ℕ) → at + 2 ≤ length bytes → get_or bytes at 0 < 128 → get_or bytes (at + 1) 0 ≡ 0
    → put ≡ text ++ escape_byte (get_or bytes at 0) → text ++ escape (utf8_of (drop at bytes)) ≡ whole → put ++ escape (utf8_of (drop (at + 2) bytes)) ≡ whole
ascii_put bytes at text put whole inside small none now so_far =
    let rest = escape (utf8_of (drop (at + 2) bytes)) in
    ap (λ l. l ++ rest) now ∙ append_assoc text (escape_byte (get_or bytes at 0)) rest
    ∙ ap (λ l. text ++ l) (sym (ap escape (ascii_at bytes at inside small none))) ∙ so_far

-- one that stands for itself
pub plain_put : (bytes : List ℕ) (at : ℕ) (text put whole : List ℕ) → at + 2 ≤ length bytes → get_or bytes at 0 < 128 → get_or bytes (at + 1) 0 ≡ 0
    → is_plain (get_or bytes at 0) ≡ true → put ≡ text ++ get_or bytes at 0 ∷ []
    → text ++ escape (utf8_of (drop at bytes)) ≡ whole → put ++ escape (utf8_of (drop (at + 2) bytes)) ≡ whole
plain_put bytes at text put whole inside small none plain now so_far =
    ascii_put bytes at text put whole inside small none (now ∙ ap (λ l. text ++ l) (sym (plain_byte (get_or bytes at 0) plain))) so_far

-- the lower bytes of so many units, from a place on
abbrev lowers : List ℕ → ℕ → ℕ → List ℕ
lowers bytes at zero = []
lowers bytes at (suc n) = lowers bytes at n ++ get_or bytes (at + 2 * n) 0 ∷ []

-- so many that stand for themselves
plain_units : (n : ℕ) (bytes : List ℕ) (at : ℕ) (text whole : List ℕ) → at + 2 * n ≤ length bytes
    → ((k : ℕ) → k < n → get_or bytes (at + 2 * k) 0 + 256 * get_or bytes (at + 2 * k + 1) 0 < 128)
    → ((k : ℕ) → k < n → is_plain (get_or bytes (at + 2 * k) 0 + 256 * get_or bytes (at + 2 * k + 1) 0) ≡ true)
    → text ++ escape (utf8_of (drop at bytes)) ≡ whole → (text ++ lowers bytes at n) ++ escape (utf8_of (drop (at + 2 * n) bytes)) ≡ whole
plain_units zero bytes at text whole inside small plain so_far =
    let here : at + 2 * 0 ≡ at = omega arith in
    ap (λ l. l ++ escape (utf8_of (drop (at + 2 * 0) bytes))) (append-nil text) ∙ ap (λ i. text ++ escape (utf8_of (drop i bytes))) here ∙ so_far
plain_units (suc n) bytes at text whole inside small plain so_far =
    let i = at + 2 * n in
    let last : n < suc n = omega arith in
    let none : get_or bytes (i + 1) 0 ≡ 0 = omega (arith, small n last) in
    let same : get_or bytes i 0 + 256 * get_or bytes (i + 1) 0 ≡ get_or bytes i 0 = omega (arith, none) in
    let next : at + 2 * suc n ≡ i + 2 = omega arith in
    let before = plain_units n bytes at text whole (omega (arith, inside)) (λ k lt. small k (omega (arith, lt))) (λ k lt. plain k (omega (arith, lt))) so_far in
    ap (λ j. (text ++ lowers bytes at (suc n)) ++ escape (utf8_of (drop j bytes))) next
    ∙ plain_put bytes i (text ++ lowers bytes at n) (text ++ lowers bytes at (suc n)) whole (omega (arith, inside)) (omega (arith, small n last)) none
    (ap is_plain (sym same) ∙ plain n last) (sym (append_assoc text (lowers bytes at n) (get_or bytes i 0 ∷ []))) before

-- these bytes, one by one
lowest : (n : ℕ) (bytes : List ℕ) (at : ℕ) (low : List ℕ) → n ≤ length low → ((k : ℕ) → k < n → get_or low k 0 ≡ get_or bytes (at + 2 * k) 0) → take n low ≡ lowers bytes at n
lowest zero bytes at low within same = refl
lowest (suc n) bytes at low within same =
    let last : n < suc n = omega arith in
    take-suc low n 0 (omega (arith, within))
    ∙ ap (λ l. l ++ get_or low n 0 ∷ []) (lowest n bytes at low (omega (arith, within)) (λ k lt. same k (omega (arith, lt))))
    ∙ ap (λ x. lowers bytes at n ++ x ∷ []) (same n last)

-- eight that stand for themselves
pub eight_put : (bytes : List ℕ) (at : ℕ) (low text put : List ℕ) → at + 16 ≤ length bytes
    → ((k : ℕ) → k < 8 → get_or bytes (at + 2 * k) 0 + 256 * get_or bytes (at + 2 * k + 1) 0 < 128)
    → ((k : ℕ) → k < 8 → is_plain (get_or bytes (at + 2 * k) 0 + 256 * get_or bytes (at + 2 * k + 1) 0) ≡ true)
    → length low ≡ 8 → ((k : ℕ) → k < 8 → get_or low k 0 ≡ get_or bytes (at + 2 * k) 0)
    → put ≡ text ++ low → put ++ escape (utf8_of (drop (at + 16) bytes)) ≡ text ++ escape (utf8_of (drop at bytes))
eight_put bytes at low text put inside small plain long same now =
    let all : low ≡ lowers bytes at 8 = sym (take_all 8 low (omega (arith, long))) ∙ lowest 8 bytes at low (omega (arith, long)) same in
    ap (λ l. l ++ escape (utf8_of (drop (at + 16) bytes))) (now ∙ ap (λ l. text ++ l) all)
    ∙ plain_units 8 bytes at text (text ++ escape (utf8_of (drop at bytes))) inside small plain refl

-- ---- characters of several bytes

-- a byte that is not ASCII stands for itself
pub high_plain : (x : ℕ) → 128 ≤ x → escape_byte x ≡ x ∷ []
high_plain x h = escape_byte_plain x (λ e. omega arith) (λ e. omega arith) (omega arith)

pub encode_two : (c : ℕ) → 128 ≤ c → c < 2048 → encode_utf8 c ≡ (192 + c / 64) ∷ (128 + c % 64) ∷ []
unfolding encode_utf8
encode_two c h l = rw (le-ltb c 128 h, lt-ltb c 2048 l) refl

pub encode_three : (c : ℕ) → 2048 ≤ c → c < 65536 → encode_utf8 c ≡ (224 + c / 4096) ∷ (128 + c / 64 % 64) ∷ (128 + c % 64) ∷ []
unfolding encode_utf8
encode_three c h l = let more : 128 ≤ c = omega arith in rw (le-ltb c 128 more, le-ltb c 2048 h, lt-ltb c 65536 l) refl

encode_four : (c : ℕ) → 65536 ≤ c → encode_utf8 c ≡ (240 + c / 262144) ∷ (128 + c / 4096 % 64) ∷ (128 + c / 64 % 64) ∷ (128 + c % 64) ∷ []
unfolding encode_utf8
encode_four c h = let more : 128 ≤ c = omega arith in let two : 2048 ≤ c = omega arith in rw (le-ltb c 128 more, le-ltb c 2048 two, le-ltb c 65536 h) refl

joined_two : (text t1 t2 : List ℕ) (a b : ℕ) → t1 ≡ text ++ a ∷ [] → t2 ≡ t1 ++ b ∷ [] → t2 ≡ text ++ a ∷ b ∷ []
joined_two text t1 t2 a b p q = q ∙ ap (λ l. l ++ b ∷ []) p ∙ append_assoc text (a ∷ []) (b ∷ [])

joined_three : (text t1 t2 t3 : List ℕ) (a b c : ℕ) → t1 ≡ text ++ a ∷ [] → t2 ≡ t1 ++ b ∷ [] → t3 ≡ t2 ++ c ∷ [] → t3 ≡ text ++ a ∷ b ∷ c ∷ []
joined_three text t1 t2 t3 a b c p q r = r ∙ ap (λ l. l ++ c ∷ []) (joined_two text t1 t2 a b p q) ∙ append_assoc text (a ∷ b ∷ []) (c ∷ [])

-- a character of one byte
pub one_put : (c : ℕ) (text put : List ℕ) → c < 128 → put ≡ text ++ escape_byte c → put ≡ text ++ escape (encode_utf8 c)
one_put c text put low now = now ∙ ap (λ l. text ++ l) (sym (ap escape (encode_ascii c low) ∙ append-nil (escape_byte c)))

pub two_put : (c b : ℕ) (text t1 t2 : List ℕ) → 128 ≤ c → c < 2048 → b ≡ 128 + c % 64
    → t1 ≡ text ++ (192 + c / 64) ∷ [] → t2 ≡ t1 ++ b ∷ [] → t2 ≡ text ++ escape (encode_utf8 c)
two_put c b text t1 t2 h l e p q =
    joined_two text t1 t2 (192 + c / 64) (128 + c % 64) p (q ∙ ap (λ x. t1 ++ x ∷ []) e)
    ∙ ap (λ l. text ++ l) (sym (ap escape (encode_two c h l) ∙ rw (high_plain (192 + c / 64) (omega arith), high_plain (128 + c % 64) (omega arith)) refl))

pub three_put : (c a b : ℕ) (text t1 t2 t3 : List ℕ) → 2048 ≤ c → c < 65536 → a ≡ 128 + c / 64 % 64 → b ≡ 128 + c % 64
    → t1 ≡ text ++ (224 + c / 4096) ∷ [] → t2 ≡ t1 ++ a ∷ [] → t3 ≡ t2 ++ b ∷ [] → t3 ≡ text ++ escape (encode_utf8 c)
three_put c a b text t1 t2 t3 h l e f p q r =
    joined_three text t1 t2 t3 (224 + c / 4096) (128 + c / 64 % 64) (128 + c % 64) p (q ∙ ap (λ x. t1 ++ x ∷ []) e) (r ∙ ap (λ x. t2 ++ x ∷ []) f)
    ∙ ap (λ l. text ++ l) (sym (ap escape (encode_three c h l)
    ∙ rw (high_plain (224 + c / 4096) (omega arith), high_plain (128 + c / 64 % 64) (omega arith), high_plain (128 + c % 64) (omega arith)) refl))

pub four_put : (c x a b : ℕ) (text t1 t2 t3 t4 : List ℕ) → 65536 ≤ c → x ≡ 128 + c / 4096 % 64 → a ≡ 128 + c / 64 % 64 → b ≡ 128 + c % 64
    → t1 ≡ text ++ (240 + c / 262144) ∷ [] → t2 ≡ t1 ++ x ∷ [] → t3 ≡ t2 ++ a ∷ [] → t4 ≡ t3 ++ b ∷ [] → t4 ≡ text ++ escape (encode_utf8 c)
four_put c x a b text t1 t2 t3 t4 h d e f p q r s =
    s ∙ ap (λ y. t3 ++ y ∷ []) f
    ∙ ap (λ l. l ++ (128 + c % 64) ∷ []) (joined_three text t1 t2 t3 (240 + c / 262144) (128 + c / 4096 % 64) (128 + c / 64 % 64) p (q ∙ ap (λ y. t1 ++ y ∷ []) d) (r ∙ ap (λ y. t2 ++ y ∷ []) e))
    ∙ append_assoc text ((240 + c / 262144) ∷ (128 + c / 4096 % 64) ∷ (128 + c / 64 % 64) ∷ []) ((128 + c % 64) ∷ [])
    ∙ ap (λ l. text ++ l) (sym (ap escape (encode_four c h)
    ∙ rw (high_plain (240 + c / 262144) (omega arith), high_plain (128 + c / 4096 % 64) (omega arith), high_plain (128 + c / 64 % 64) (omega arith), high_plain (128 + c % 64) (omega arith)) refl))

-- what stands for the character at a place is put
char_put : (bytes : List ℕ) (at next c : ℕ) (text put whole : List ℕ) → utf8_of (drop at bytes) ≡ encode_utf8 c ++ utf8_of (drop next bytes)
    → put ≡ text ++ escape (encode_utf8 c) → text ++ escape (utf8_of (drop at bytes)) ≡ whole → put ++ escape (utf8_of (drop next bytes)) ≡ whole
char_put bytes at next c text put whole is now so_far =
    let rest = escape (utf8_of (drop next bytes)) in
    ap (λ l. l ++ rest) now ∙ append_assoc text (escape (encode_utf8 c)) rest
    ∙ ap (λ l. text ++ l) (sym (ap escape is ∙ flat_map-append escape_byte (encode_utf8 c) (utf8_of (drop next bytes)))) ∙ so_far

-- ---- a unit that is in no pair

in_no_pair : (u : ℕ) (us : List ℕ) → is_high_surrogate u ≡ false → utf16_chars (u ∷ us) ≡ lone_unit_char u ∷ utf16_chars us
unfolding utf16_chars
in_no_pair u [] e = refl
in_no_pair u (v ∷ us) e = rw e refl

abbrev shown_of : Option ℕ → ℕ
shown_of o = unwrap_or o 0xFFFD

alone : (bytes : List ℕ) (at u : ℕ) (o : Option ℕ) → at + 2 ≤ length bytes → u ≡ get_or bytes at 0 + 256 * get_or bytes (at + 1) 0
    → utf16_chars (u ∷ units_of (drop (at + 2) bytes)) ≡ o ∷ utf16_chars (units_of (drop (at + 2) bytes))
    → utf8_of (drop at bytes) ≡ encode_utf8 (shown_of o) ++ utf8_of (drop (at + 2) bytes)
alone bytes at u o inside is lone =
    ap (λ l. encode_utf8_all (utf16_lossy_chars l)) (unit_at bytes at inside ∙ ap (λ x. x ∷ units_of (drop (at + 2) bytes)) (sym is))
    ∙ ap (λ l. encode_utf8_all (map shown_of l)) lone

low_is_alone : (u : ℕ) (us : List ℕ) → u < 0xD800 → utf16_chars (u ∷ us) ≡ Some u ∷ utf16_chars us
low_is_alone u us low =
    in_no_pair u us (rw (lt-leb 0xD800 u low) refl) ∙ ap (λ o. o ∷ utf16_chars us) (rw (lt-leb 0xD800 u low) refl)

high_is_alone : (u : ℕ) (us : List ℕ) → 0xE000 ≤ u → utf16_chars (u ∷ us) ≡ Some u ∷ utf16_chars us
high_is_alone u us high =
    let from : 0xD800 ≤ u = omega arith in
    let past : 0xDC00 ≤ u = omega arith in
    in_no_pair u us (rw (le-leb 0xD800 u from, le-ltb u 0xDC00 past) refl) ∙ ap (λ o. o ∷ utf16_chars us) (rw (le-leb 0xD800 u from, le-ltb u 0xE000 high) refl)

-- a character of one unit is put
pub low_put : (bytes : List ℕ) (at u : ℕ) (text put whole : List ℕ) → at + 2 ≤ length bytes → u ≡ get_or bytes at 0 + 256 * get_or bytes (at + 1) 0 → u < 0xD800
    → put ≡ text ++ escape (encode_utf8 u) → text ++ escape (utf8_of (drop at bytes)) ≡ whole → put ++ escape (utf8_of (drop (at + 2) bytes)) ≡ whole
low_put bytes at u text put whole inside is low now so_far =
    char_put bytes at (at + 2) u text put whole (alone bytes at u (Some u) inside is (low_is_alone u (units_of (drop (at + 2) bytes)) low)) now so_far

pub high_put : (bytes : List ℕ) (at u : ℕ) (text put whole : List ℕ) → at + 2 ≤ length bytes → u ≡ get_or bytes at 0 + 256 * get_or bytes (at + 1) 0 → 0xE000 ≤ u
    → put ≡ text ++ escape (encode_utf8 u) → text ++ escape (utf8_of (drop at bytes)) ≡ whole → put ++ escape (utf8_of (drop (at + 2) bytes)) ≡ whole
high_put bytes at u text put whole inside is high now so_far =
    char_put bytes at (at + 2) u text put whole (alone bytes at u (Some u) inside is (high_is_alone u (units_of (drop (at + 2) bytes)) high)) now so_far

-- ---- surrogates

surrogate_is_none : (u : ℕ) → 0xD800 ≤ u → u < 0xE000 → lone_unit_char u ≡ None
surrogate_is_none u from to = rw (le-leb 0xD800 u from, lt-ltb u 0xE000 to) refl

-- the second of a pair, with no first
second_is_alone : (u : ℕ) (us : List ℕ) → 0xDC00 ≤ u → u < 0xE000 → utf16_chars (u ∷ us) ≡ None ∷ utf16_chars us
second_is_alone u us from to =
    let over : 0xD800 ≤ u = omega arith in
    in_no_pair u us (rw (le-leb 0xD800 u over, le-ltb u 0xDC00 from) refl) ∙ ap (λ o. o ∷ utf16_chars us) (surrogate_is_none u over to)

-- the first of a pair, with no second behind it
last_is_alone : (u : ℕ) → 0xD800 ≤ u → u < 0xE000 → utf16_chars (u ∷ []) ≡ None ∷ utf16_chars []
unfolding utf16_chars
last_is_alone u from to = ap (λ o. o ∷ []) (surrogate_is_none u from to)

first_is_alone : (u v : ℕ) (us : List ℕ) → 0xD800 ≤ u → u < 0xDC00 → is_low_surrogate v ≡ false → utf16_chars (u ∷ v ∷ us) ≡ None ∷ utf16_chars (v ∷ us)
unfolding utf16_chars
first_is_alone u v us from to e =
    let under : u < 0xE000 = omega arith in
    rw (e, le-leb 0xD800 u from, lt-ltb u 0xDC00 to, lt-ltb u 0xE000 under) refl

is_pair : (u v : ℕ) (us : List ℕ) → 0xD800 ≤ u → u < 0xDC00 → 0xDC00 ≤ v → v < 0xE000 → utf16_chars (u ∷ v ∷ us) ≡ Some (surrogate_pair_char u v) ∷ utf16_chars us
unfolding utf16_chars
is_pair u v us a b c d = rw (le-leb 0xD800 u a, lt-ltb u 0xDC00 b, le-leb 0xDC00 v c, lt-ltb v 0xE000 d) refl

-- ---- no unit is left

no_unit : (bytes : List ℕ) → length bytes < 2 → units_of bytes ≡ []
no_unit [] few = refl
no_unit (low ∷ []) few = refl
no_unit (low ∷ high ∷ rest) few = absurd (omega arith)

none_from : (bytes : List ℕ) (at : ℕ) → length bytes - at < 2 → units_of (drop at bytes) ≡ []
none_from bytes at few = no_unit (drop at bytes) (simp length-drop few)

-- U+FFFD is put for a surrogate with no partner
alone_put : (bytes : List ℕ) (at u : ℕ) (text put whole : List ℕ) → at + 2 ≤ length bytes → u ≡ get_or bytes at 0 + 256 * get_or bytes (at + 1) 0
    → utf16_chars (u ∷ units_of (drop (at + 2) bytes)) ≡ None ∷ utf16_chars (units_of (drop (at + 2) bytes))
    → put ≡ text ++ escape (encode_utf8 0xFFFD) → text ++ escape (utf8_of (drop at bytes)) ≡ whole → put ++ escape (utf8_of (drop (at + 2) bytes)) ≡ whole
alone_put bytes at u text put whole inside is lone now so_far = char_put bytes at (at + 2) 0xFFFD text put whole (alone bytes at u None inside is lone) now so_far

-- for the second of a pair
pub second_put : (bytes : List ℕ) (at u : ℕ) (text put whole : List ℕ) → at + 2 ≤ length bytes → u ≡ get_or bytes at 0 + 256 * get_or bytes (at + 1) 0 → 0xDC00 ≤ u → u < 0xE000
    → put ≡ text ++ escape (encode_utf8 0xFFFD) → text ++ escape (utf8_of (drop at bytes)) ≡ whole → put ++ escape (utf8_of (drop (at + 2) bytes)) ≡ whole
second_put bytes at u text put whole inside is from to now so_far = alone_put bytes at u text put whole inside is (second_is_alone u (units_of (drop (at + 2) bytes)) from to) now so_far

-- for the first of a pair, behind which no unit stands
pub last_unit_put : (bytes : List ℕ) (at u : ℕ) (text put whole : List ℕ) → at + 2 ≤ length bytes → length bytes - at < 4 → u ≡ get_or bytes at 0 + 256 * get_or bytes (at + 1) 0
    → 0xD800 ≤ u → u < 0xE000
    → put ≡ text ++ escape (encode_utf8 0xFFFD) → text ++ escape (utf8_of (drop at bytes)) ≡ whole → put ++ escape (utf8_of (drop (at + 2) bytes)) ≡ whole
last_unit_put bytes at u text put whole inside few is from to now so_far =
    alone_put bytes at u text put whole inside is (rw (none_from bytes (at + 2) (omega arith)) (last_is_alone u from to)) now so_far

-- for the first of a pair, behind which another unit stands
no_second : (v : ℕ) → (v < 0xDC00) ⊎ (0xE000 ≤ v) → is_low_surrogate v ≡ false
no_second v (inl under) = rw (lt-leb 0xDC00 v under) refl
no_second v (inr over) = let from : 0xDC00 ≤ v = omega arith in rw (le-leb 0xDC00 v from, le-ltb v 0xE000 over) refl

pub first_put : (bytes : List ℕ) (at u v : ℕ) (text put whole : List ℕ) → (at + 2) + 2 ≤ length bytes → u ≡ get_or bytes at 0 + 256 * get_or bytes (at + 1) 0
    → v ≡ get_or bytes (at + 2) 0 + 256 * get_or bytes ((at + 2) + 1) 0 → 0xD800 ≤ u → u < 0xDC00 → (v < 0xDC00) ⊎ (0xE000 ≤ v)
    → put ≡ text ++ escape (encode_utf8 0xFFFD) → text ++ escape (utf8_of (drop at bytes)) ≡ whole → put ++ escape (utf8_of (drop (at + 2) bytes)) ≡ whole
first_put bytes at u v text put whole inside is behind from to none now so_far =
    let next = unit_at bytes (at + 2) inside ∙ ap (λ x. x ∷ units_of (drop ((at + 2) + 2) bytes)) (sym behind) in
    alone_put bytes at u text put whole (omega arith) is (rw next (first_is_alone u v (units_of (drop ((at + 2) + 2) bytes)) from to (no_second v none))) now so_far

-- the character of a pair is put
pub pair_put : (bytes : List ℕ) (at u v : ℕ) (text put whole : List ℕ) → (at + 2) + 2 ≤ length bytes → u ≡ get_or bytes at 0 + 256 * get_or bytes (at + 1) 0
    → v ≡ get_or bytes (at + 2) 0 + 256 * get_or bytes ((at + 2) + 1) 0 → 0xD800 ≤ u → u < 0xDC00 → 0xDC00 ≤ v → v < 0xE000
    → put ≡ text ++ escape (encode_utf8 (surrogate_pair_char u v)) → text ++ escape (utf8_of (drop at bytes)) ≡ whole → put ++ escape (utf8_of (drop (at + 4) bytes)) ≡ whole
pair_put bytes at u v text put whole inside is behind a b c d now so_far =
    let rest = units_of (drop ((at + 2) + 2) bytes) in
    let on : (at + 2) + 2 ≡ at + 4 = omega arith in
    let next = unit_at bytes (at + 2) inside ∙ ap (λ x. x ∷ rest) (sym behind) in
    let first : at + 2 ≤ length bytes = omega arith in
    let shown = ap (λ l. encode_utf8_all (utf16_lossy_chars l)) (unit_at bytes at first ∙ ap (λ x. x ∷ units_of (drop (at + 2) bytes)) (sym is) ∙ ap (λ l. u ∷ l) next)
    ∙ ap (λ l. encode_utf8_all (map shown_of l)) (is_pair u v rest a b c d) in
    char_put bytes at (at + 4) (surrogate_pair_char u v) text put whole (shown ∙ ap (λ n. encode_utf8 (surrogate_pair_char u v) ++ utf8_of (drop n bytes)) on) now so_far

-- all are read
pub units_read : (bytes : List ℕ) (at : ℕ) (units whole : List ℕ) → length bytes - at < 2 → units ++ units_of (drop at bytes) ≡ whole → units ≡ whole
units_read bytes at units whole few so_far = sym (append-nil units) ∙ ap (λ l. units ++ l) (sym (none_from bytes at few)) ∙ so_far

-- all are put
pub units_end : (bytes : List ℕ) (end : ℕ) (text whole : List ℕ) → length bytes - end < 2 → text ++ escape (utf8_of (drop end bytes)) ≡ whole → text ≡ whole
unfolding utf16_chars
units_end bytes end text whole few so_far =
    sym (append-nil text) ∙ ap (λ l. text ++ escape (encode_utf8_all (utf16_lossy_chars l))) (sym (none_from bytes end few)) ∙ so_far
