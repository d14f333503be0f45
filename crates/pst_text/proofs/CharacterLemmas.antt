-- Characters of one unit, as two numbers each.
use Rattle.std.proofs.Common.{◌≡◌, ℕ, ◌+◌, ◌*◌, ◌/◌, ◌%◌, ◌<◌, ◌≤◌, List, [], ◌∷◌, ◌++◌, true, length, take, drop, get_or, refl, sym, ap, ◌∙◌, arith, inl, inr, append_assoc, append-nil}
use Rattle.std.specs.Prelude.{◌⊎◌}
use Rattle.std.proofs.Math.Seq.{take-append-add}
use Rattle.std.proofs.lemmas.Bool.{cases_lt}
use Rattle.std.proofs.lemmas.Str.Ascii.{encode_ascii}
use Rattle.std.specs.Char.{encode_utf8}
use Rattle.json.specs.Print.{escape}
use Rattle.json.specs.Run.{is_plain}
use Rattle.pst_text.specs.Characters.{bytes_of_both}
use Rattle.pst_text.specs.Text.{utf8_of}
use Rattle.pst_text.proofs.EscapeLemmas.{plain_byte}
use Rattle.pst_text.proofs.UnitLemmas.{encode_two, encode_three, high_plain, low_put, high_put}

-- two numbers by their parts
in_parts : (low high n a b d : ℕ) → low ≡ a + 256 * b → high ≡ 256 * n + d → a < 256 → d < 256 → bytes_of_both low high ≡ take n (a ∷ b ∷ d ∷ [])
in_parts low high n a b d is also la ld =
    let e1 : high / 256 ≡ n = omega (arith, also, ld) in
    let e2 : low % 256 ≡ a = omega (arith, is, la) in
    let e3 : low / 256 ≡ b = omega (arith, is, la) in
    let e4 : high % 256 ≡ d = omega (arith, also, ld) in
    rw (e1, e2, e3, e4) refl

-- those of a unit
pub spelt : (u low high : ℕ) → u < 65536
    → (u < 128 → low ≡ u) → (128 ≤ u → u < 2048 → low ≡ u / 64 + 192 + 256 * (128 + u % 64)) → (2048 ≤ u → u < 65536 → low ≡ u / 4096 + 224 + 256 * (128 + u / 64 % 64))
    → (u < 128 → high ≡ 256) → (128 ≤ u → u < 2048 → high ≡ 512) → (2048 ≤ u → u < 65536 → high ≡ 768 + (128 + u % 64))
    → (bytes_of_both low high ≡ encode_utf8 u) × (high / 256 ≤ 3)
spelt u low high small l1 l2 l3 h1 h2 h3 =
    elim (cases_lt u 128) [
      | inl one ↦ (in_parts low high 1 u 0 0 (omega (arith, l1 one)) (omega (arith, h1 one)) (omega (arith, one)) (omega arith) ∙ sym (encode_ascii u one), omega (arith, h1 one))
      | inr more ↦
          elim (cases_lt u 2048) [
            | inl two ↦ (
              in_parts low high 2 (192 + u / 64) (128 + u % 64) 0 (omega (arith, l2 more two)) (omega (arith, h2 more two)) (omega (arith, two)) (omega arith)
                  ∙ sym (encode_two u more two),
              omega (arith, h2 more two),
            )
            | inr three ↦ (
              in_parts low high 3 (224 + u / 4096) (128 + u / 64 % 64) (128 + u % 64) (omega (arith, l3 three small)) (omega (arith, h3 three small)) (omega (arith, small)) (omega arith)
                  ∙ sym (encode_three u three small),
              omega (arith, h3 three small),
            )
          ]
    ]

-- one that stands for itself between quotes
own : (u : ℕ) → u < 65536 → (u < 128 → is_plain u ≡ true) → escape (encode_utf8 u) ≡ encode_utf8 u
own u small plain =
    elim (cases_lt u 128) [
      | inl one ↦ ap escape (encode_ascii u one) ∙ append-nil _ ∙ plain_byte u (plain one) ∙ sym (encode_ascii u one)
      | inr more ↦
          elim (cases_lt u 2048) [
            | inl two ↦ ap escape (encode_two u more two) ∙ rw (high_plain (192 + u / 64) (omega arith), high_plain (128 + u % 64) (omega arith)) refl ∙ sym (encode_two u more two)
            | inr three ↦
                ap escape (encode_three u three small) ∙ rw (high_plain (224 + u / 4096) (omega arith), high_plain (128 + u / 64 % 64) (omega arith), high_plain (128 + u % 64) (omega arith)) refl
                ∙ sym (encode_three u three small)
          ]
    ]

-- what stands there so far, and with one character more
pub one_more : (bytes : List ℕ) (at i u low high : ℕ) (so_far now whole : List ℕ) → at + 16 ≤ length bytes → i < 8 → u < 65536
    → u ≡ get_or bytes (at + 2 * i) 0 + 256 * get_or bytes (at + 2 * i + 1) 0
    → (u < 0xD800) ⊎ (0xE000 ≤ u) → (u < 128 → is_plain u ≡ true) → bytes_of_both low high ≡ encode_utf8 u
    → now ≡ so_far ++ bytes_of_both low high → so_far ++ escape (utf8_of (drop (at + 2 * i) bytes)) ≡ whole
    → now ++ escape (utf8_of (drop (at + 2 * (i + 1)) bytes)) ≡ whole
one_more bytes at i u low high so_far now whole inside lt small is alone plain shown laid before =
    let here = at + 2 * i in
    let within : here + 2 ≤ length bytes = omega (arith, inside, lt) in
    let next : at + 2 * (i + 1) ≡ here + 2 = omega arith in
    let put : now ≡ so_far ++ escape (encode_utf8 u) = laid ∙ ap (λ l. so_far ++ l) (shown ∙ sym (own u small plain)) in
    ap (λ n. now ++ escape (utf8_of (drop n bytes))) next
    ∙ (elim alone [
      | inl under ↦ low_put bytes here u so_far now whole within is under put before
      | inr over ↦ high_put bytes here u so_far now whole within is over put before
    ])

-- they are put behind a text, and what is behind them goes again
pub front_put : (old spelt text rest whole : List ℕ) (end : ℕ) → text ≡ take (length old + end) (old ++ spelt)
    → take end spelt ++ rest ≡ whole → text ++ rest ≡ old ++ whole
front_put old spelt text rest whole end is all =
    ap (λ l. l ++ rest) (is ∙ take-append-add old spelt end) ∙ append_assoc old (take end spelt) rest ∙ ap (λ l. old ++ l) all
