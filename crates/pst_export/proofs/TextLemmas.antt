-- Texts of 16-bit units, character by character, as they are written in UTF-8.
use Rattle.std.proofs.Common.{◌≡◌, ◌<◌, ◌≤◌, ◌+◌, ℕ, true, false, List, [], ◌∷◌, ◌++◌, length, map, refl, sym, ap, subst, ◌∙◌, arith, append_assoc}
use Rattle.std.specs.Prelude.{Option, Some, None, encode_utf8_all}
use Rattle.std.specs.Option.{unwrap_or}
use Rattle.std.specs.Char.{encode_utf8}
use Rattle.std.specs.Char.Utf16.{utf16_chars, utf16_lossy_chars, is_high_surrogate, is_low_surrogate, lone_unit_char, surrogate_pair_char}
use Rattle.std.specs.Io.KnownBytes.{Appends}
use Rattle.std.proofs.lemmas.Bool.{lt-leb, le-leb, lt-ltb, le-ltb}
use Rattle.pst_json.specs.Output.{AppendsFront}
use Rattle.pst_json.proofs.OutputLemmas.{Written, written_none, written_more, written_front, written_all, front_of_none}
use Rattle.pst_export.specs.Written.{Moves}

abbrev shown : List (Option ℕ) → List ℕ
shown os = map (λ o. unwrap_or o 0xFFFD) os

-- ---- a unit that is in no pair

in_no_pair : (u : ℕ) (us : List ℕ) → is_high_surrogate u ≡ false → utf16_chars (u ∷ us) ≡ lone_unit_char u ∷ utf16_chars us
unfolding utf16_chars
in_no_pair u [] e = refl
in_no_pair u (v ∷ us) e = rw e refl

low_alone : (u : ℕ) (us : List ℕ) → u < 0xD800 → utf16_chars (u ∷ us) ≡ Some u ∷ utf16_chars us
low_alone u us low = in_no_pair u us (rw (lt-leb 0xD800 u low) refl) ∙ ap (λ o. o ∷ utf16_chars us) (rw (lt-leb 0xD800 u low) refl)

high_alone : (u : ℕ) (us : List ℕ) → 0xE000 ≤ u → utf16_chars (u ∷ us) ≡ Some u ∷ utf16_chars us
high_alone u us high =
    let from : 0xD800 ≤ u = omega arith in
    let past : 0xDC00 ≤ u = omega arith in
    in_no_pair u us (rw (le-leb 0xD800 u from, le-ltb u 0xDC00 past) refl) ∙ ap (λ o. o ∷ utf16_chars us) (rw (le-leb 0xD800 u from, le-ltb u 0xE000 high) refl)

surrogate_is_none : (u : ℕ) → 0xD800 ≤ u → u < 0xE000 → lone_unit_char u ≡ None
surrogate_is_none u from to = rw (le-leb 0xD800 u from, lt-ltb u 0xE000 to) refl

second_alone : (u : ℕ) (us : List ℕ) → 0xDC00 ≤ u → u < 0xE000 → utf16_chars (u ∷ us) ≡ None ∷ utf16_chars us
second_alone u us from to =
    let over : 0xD800 ≤ u = omega arith in
    in_no_pair u us (rw (le-leb 0xD800 u over, le-ltb u 0xDC00 from) refl) ∙ ap (λ o. o ∷ utf16_chars us) (surrogate_is_none u over to)

-- ---- what comes next

pub none_next : (us : List ℕ) → us ≡ [] → utf16_lossy_chars us ≡ []
unfolding utf16_chars
none_next us is = ap utf16_lossy_chars is

pub low_next : (u : ℕ) (left us : List ℕ) → left ≡ u ∷ us → u < 0xD800 → utf16_lossy_chars left ≡ u ∷ utf16_lossy_chars us
low_next u left us is low = ap utf16_lossy_chars is ∙ ap shown (low_alone u us low)

pub high_next : (u : ℕ) (left us : List ℕ) → left ≡ u ∷ us → 0xE000 ≤ u → utf16_lossy_chars left ≡ u ∷ utf16_lossy_chars us
high_next u left us is high = ap utf16_lossy_chars is ∙ ap shown (high_alone u us high)

pub second_next : (u : ℕ) (left us : List ℕ) → left ≡ u ∷ us → 0xDC00 ≤ u → u < 0xE000 → utf16_lossy_chars left ≡ 0xFFFD ∷ utf16_lossy_chars us
second_next u left us is from to = ap utf16_lossy_chars is ∙ ap shown (second_alone u us from to)

-- behind the first unit of a pair none is left, another one is, or the second is
pub first_ends : (u : ℕ) (us : List ℕ) → us ≡ [] → 0xD800 ≤ u → u < 0xDC00 → utf16_lossy_chars (u ∷ us) ≡ 0xFFFD ∷ utf16_lossy_chars us
unfolding utf16_chars
first_ends u us is from to =
    let under : u < 0xE000 = omega arith in
    rw is (ap (λ o. shown (o ∷ [])) (surrogate_is_none u from under))

pub first_next : (u v : ℕ) (left us : List ℕ) → left ≡ v ∷ us → is_low_surrogate v ≡ false → 0xD800 ≤ u → u < 0xDC00
    → utf16_lossy_chars (u ∷ left) ≡ 0xFFFD ∷ utf16_lossy_chars left
unfolding utf16_chars
first_next u v left us is none from to =
    let under : u < 0xE000 = omega arith in
    rw is (rw (none, le-leb 0xD800 u from, lt-ltb u 0xDC00 to, lt-ltb u 0xE000 under) refl)

pub pair_next : (u v : ℕ) (left us : List ℕ) → left ≡ v ∷ us → is_low_surrogate v ≡ true → 0xD800 ≤ u → u < 0xDC00
    → utf16_lossy_chars (u ∷ left) ≡ surrogate_pair_char u v ∷ utf16_lossy_chars us
unfolding utf16_chars
pair_next u v left us is second from to = rw is (rw (second, le-leb 0xD800 u from, lt-ltb u 0xDC00 to) refl)

-- ---- texts, of which a front is gathered or written

utf8_next : (left us : List ℕ) (c : ℕ) → left ≡ c ∷ us → encode_utf8_all left ≡ encode_utf8 c ++ encode_utf8_all us
utf8_next left us c is = ap encode_utf8_all is

-- a front of a text is written, some is gathered, and these characters are left
abbrev pub IsGathered : Option (List ℕ) → Option (List ℕ) → List ℕ → List ℕ → List ℕ → Type 0
IsGathered old now whole gathered left = Written old now whole (gathered ++ encode_utf8_all left)

-- nothing is written yet
pub gathered_first : (old : Option (List ℕ)) (whole all : List ℕ) → all ≡ whole → Written old old whole all
gathered_first old whole all is = subst (Written old old whole) (sym is) (written_none old whole)

-- one character more is gathered, and what stands behind it
pub gathered_char : (before put gathered rest left us : List ℕ) (c : ℕ) → left ≡ c ∷ us → put ≡ before ++ encode_utf8 c → gathered ++ rest ≡ put ++ encode_utf8_all us
    → gathered ++ rest ≡ before ++ encode_utf8_all left
gathered_char before put gathered rest left us c next more behind =
    let text = encode_utf8_all us in
    behind ∙ ap (λ l. l ++ text) more ∙ append_assoc before (encode_utf8 c) text ∙ ap (λ l. before ++ l) (sym (utf8_next left us c next))

-- what was gathered may be written
pub gathered_moved : (old now new : Option (List ℕ)) (whole all gathered kept rest : List ℕ) → gathered ++ rest ≡ all → Written old now whole all → Moves gathered kept now new
    → Written old new whole (kept ++ rest)
gathered_moved old now new whole all gathered kept rest same so_far moves =
    let split = sym same ∙ ap (λ l. l ++ rest) (sym moves.2) ∙ append_assoc moves.0 kept rest in
    written_more old now new whole moves.0 (kept ++ rest) (subst (Written old now whole) split so_far) moves.1

-- a front of what was gathered is a front of the text
pub gathered_front : (old now new : Option (List ℕ)) (whole all gathered rest : List ℕ) → gathered ++ rest ≡ all → Written old now whole all → AppendsFront now new gathered
    → AppendsFront old new whole
gathered_front old now new whole all gathered rest same so_far front = written_front old now new whole gathered rest (subst (Written old now whole) (sym same) so_far) front

-- nothing more was written
pub gathered_still : (old now : Option (List ℕ)) (whole before left : List ℕ) → IsGathered old now whole before left → AppendsFront old now whole
gathered_still old now whole before left so_far =
    written_front old now now whole [] (before ++ encode_utf8_all left) so_far (front_of_none now [])

-- no character is left
pub gathered_last : (old now new : Option (List ℕ)) (whole before left : List ℕ) → left ≡ [] → IsGathered old now whole before left → Appends now new before → Appends old new whole
gathered_last old now new whole before left none so_far last =
    let rest : Written old now whole (before ++ []) = subst (λ l. Written old now whole (before ++ encode_utf8_all l)) none so_far in
    written_all old new whole (written_more old now new whole before [] rest last)

pub gathered_end : (old now new : Option (List ℕ)) (whole before left : List ℕ) → IsGathered old now whole before left → AppendsFront now new before → AppendsFront old new whole
gathered_end old now new whole before left so_far front = written_front old now new whole before (encode_utf8_all left) so_far front

-- ---- how long it is

length_two : (xs ys : List ℕ) → length (xs ++ ys) ≡ length xs + length ys
length_two [] ys = omega arith
length_two (x ∷ xs) ys = let e = length_two xs ys in omega arith

pub counted_more : (count more whole c : ℕ) (left us : List ℕ) → left ≡ c ∷ us → more ≡ count + length (encode_utf8 c)
    → count + length (encode_utf8_all left) ≡ whole → more + length (encode_utf8_all us) ≡ whole
counted_more count more whole c left us next is so_far =
    let e = ap length (utf8_next left us c next) ∙ length_two (encode_utf8 c) (encode_utf8_all us) in
    omega arith
