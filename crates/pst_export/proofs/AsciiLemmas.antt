-- Units of ASCII at the front of a text.
use Rattle.std.proofs.Common.{◌≡◌, ◌<◌, ◌≤◌, ◌+◌, ◌*◌, ℕ, List, [], ◌∷◌, ◌++◌, length, drop, get_or, refl, sym, ap, ◌∙◌, arith, append_assoc}
use Rattle.std.specs.Prelude.{encode_utf8_all}
use Rattle.std.specs.Char.Utf16.{utf16_lossy_chars}
use Rattle.std.proofs.lemmas.List.{drop_more}
use Rattle.std.proofs.lemmas.Str.Ascii.{encode_ascii}
use Rattle.pst_value.specs.Units.{units_of}
use Rattle.pst_value_json.specs.pst_text.Text.{utf8_of}
use Rattle.pst_export.proofs.TextLemmas.{low_next}

-- a unit of ASCII is its byte
front_ascii : (low high : ℕ) (rest : List ℕ) → low < 128 → high ≡ 0 → utf8_of (low ∷ high ∷ rest) ≡ low ∷ utf8_of rest
front_ascii low high rest small none =
    let unit : low + 256 * high ≡ low = omega arith in
    let under : low < 0xD800 = omega arith in
    let chars = utf16_lossy_chars (units_of rest) in
    ap (λ u. encode_utf8_all (utf16_lossy_chars (u ∷ units_of rest))) unit ∙ ap encode_utf8_all (low_next low (low ∷ units_of rest) (units_of rest) refl under)
    ∙ ap (λ l. l ++ encode_utf8_all chars) (encode_ascii low small)

-- the one at a place
ascii_at : (bytes : List ℕ) (at : ℕ) (behind : List ℕ) → at + 2 ≤ length bytes → get_or bytes at 0 < 128 → get_or bytes (at + 1) 0 ≡ 0
    → utf8_of (drop at bytes ++ behind) ≡ get_or bytes at 0 ∷ utf8_of (drop (at + 2) bytes ++ behind)
ascii_at bytes at behind inside small none =
    let after : (at + 1) + 1 ≡ at + 2 = omega arith in
    let two : drop at bytes ≡ get_or bytes at 0 ∷ get_or bytes (at + 1) 0 ∷ drop (at + 2) bytes =
    drop_more bytes at 0 (omega arith) ∙ ap (λ l. get_or bytes at 0 ∷ l) (drop_more bytes (at + 1) 0 (omega arith) ∙ ap (λ n. get_or bytes (at + 1) 0 ∷ drop n bytes) after) in
    ap (λ l. utf8_of (l ++ behind)) two ∙ front_ascii (get_or bytes at 0) (get_or bytes (at + 1) 0) (drop (at + 2) bytes ++ behind) small none

pub ascii_counted : (bytes : List ℕ) (count : ℕ) (behind : List ℕ) (whole : ℕ) → 2 * count + 2 ≤ length bytes → get_or bytes (2 * count) 0 < 128 → get_or bytes (2 * count + 1) 0 ≡ 0
    → count + length (utf8_of (drop (2 * count) bytes ++ behind)) ≡ whole → (count + 1) + length (utf8_of (drop (2 * (count + 1)) bytes ++ behind)) ≡ whole
ascii_counted bytes count behind whole inside small none so_far =
    let e = ap length (ascii_at bytes (2 * count) behind inside small none) in
    let same : 2 * (count + 1) ≡ 2 * count + 2 = omega arith in
    let long = ap (λ n. length (utf8_of (drop n bytes ++ behind))) same in
    omega arith

pub ascii_put : (bytes : List ℕ) (at : ℕ) (behind text put whole : List ℕ) → at + 2 ≤ length bytes → get_or bytes at 0 < 128 → get_or bytes (at + 1) 0 ≡ 0
    → put ≡ text ++ get_or bytes at 0 ∷ [] → text ++ utf8_of (drop at bytes ++ behind) ≡ whole → put ++ utf8_of (drop (at + 2) bytes ++ behind) ≡ whole
ascii_put bytes at behind text put whole inside small none now so_far =
    let rest = utf8_of (drop (at + 2) bytes ++ behind) in
    ap (λ l. l ++ rest) now ∙ append_assoc text (get_or bytes at 0 ∷ []) rest ∙ ap (λ l. text ++ l) (sym (ascii_at bytes at behind inside small none)) ∙ so_far
