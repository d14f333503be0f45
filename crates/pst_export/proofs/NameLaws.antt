-- The names of files: which letters they have, and how they are joined.
use Rattle.std.proofs.Common.{◌≡◌, ◌<◌, ◌≤◌, ◌+◌, ◌%◌, ◌/◌, ℕ, zero, suc, Bool, true, false, List, [], ◌∷◌, ◌++◌, map, refl, sym, ap, subst, ◌∙◌, arith, append_assoc}
use Rattle.std.specs.Prelude.{◌&&◌, ◌||◌, nat_eq, nat_le, nat_lt, if◌then◌else◌, codes, flat_map, ◌==◌}
use Rattle.std.specs.Fmt.{digit_glyph, digits, digits_onto}
use Rattle.std.specs.List.{All, list_all}
use Rattle.std.proofs.Math.Nat.{mod-lt}
use Rattle.std.proofs.lemmas.Bool.{le-leb, ltb-false, ltb-true, ne_eqb}
use Rattle.std.proofs.lemmas.List.Elements.{All-append, All-cons, All-head, All-nil, All-tail}
use Rattle.std.proofs.lemmas.List.Folds.{list_all-append}
use Rattle.pst_value_json.specs.pst_text.Names.{nid_text}
use Rattle.pst_export.specs.Held.{folder_in}
use Rattle.pst_export.specs.Laws.{IsSafe, has_dots, is_letter, is_relative}

-- ---- truth values

pub and_false : (a : Bool) → (a && false) ≡ false
and_false true = refl
and_false false = refl

pub or_left : (a b : Bool) → a ≡ true → (a || b) ≡ true
or_left true b is = refl
or_left false b is = absurd cc

pub or_right : (a b : Bool) → b ≡ true → (a || b) ≡ true
or_right true b is = refl
or_right false b is = is

pub or_first : (a b : Bool) → (a || b) ≡ false → a ≡ false
or_first true b is = absurd cc
or_first false b is = refl

pub or_second : (a b : Bool) → (a || b) ≡ false → b ≡ false
or_second true b is = absurd cc
or_second false b is = is

-- ---- two dots

pub dots_joined : (a b : List ℕ) → has_dots a ≡ false → has_dots b ≡ false → has_dots (a ++ 47 ∷ b) ≡ false
dots_joined [] [] x y = refl
dots_joined [] (c ∷ b) x y = y
dots_joined (p ∷ []) b x y = rw (and_false (nat_eq p 46)) (dots_joined [] b refl y)
dots_joined (p ∷ q ∷ rest) b x y =
    let two = nat_eq p 46 && nat_eq q 46 in
    rw (or_first two (has_dots (q ∷ rest)) x) (dots_joined (q ∷ rest) b (or_second two (has_dots (q ∷ rest)) x) y)

pub dots_front : (c : ℕ) (rest : List ℕ) → nat_eq c 46 ≡ false → has_dots rest ≡ false → has_dots (c ∷ rest) ≡ false
dots_front c [] other x = refl
dots_front c (d ∷ rest) other x = rw other x

-- ---- a name in a folder

begins : (a b : List ℕ) → is_relative a ≡ true → is_relative (a ++ 47 ∷ b) ≡ true
begins [] b is = absurd cc
begins (c ∷ rest) b is = is

pub safe_joined : (a b : List ℕ) → IsSafe a → IsSafe b → IsSafe (a ++ codes "/" ++ b)
safe_joined a b x y =
    let same : a ++ codes "/" ++ b ≡ a ++ 47 ∷ b = append_assoc a (codes "/") b in
    let joined : IsSafe (a ++ 47 ∷ b) = record {
      letters = list_all-append is_letter a (47 ∷ b) ∙ ap (λ l. l && list_all is_letter (47 ∷ b)) x.letters ∙ y.letters;
      relative = begins a b x.relative;
      dots = dots_joined a b x.dots y.dots;
    } in
    subst IsSafe (sym same) joined

-- ---- digits

within : (low high c : ℕ) → low ≤ c → c ≤ high → (nat_le low c && nat_le c high) ≡ true
within low high c x y = rw (le-leb low c x, le-leb c high y) refl

by_ten : {P : Type 0} (d : ℕ) (b : Bool) → nat_lt d 10 ≡ b → (d < 10 → nat_lt d 10 ≡ true → P) → (nat_lt d 10 ≡ false → P) → P
by_ten d true is small large = small (ltb-true d 10 is) is
by_ten d false is small large = large is

glyph_letter : (d : ℕ) → d < 16 → is_letter (digit_glyph false d) ≡ true
glyph_letter d small = by_ten d (nat_lt d 10) refl (λ less is. rw is (or_left _ _ (within 48 57 (48 + d) (omega arith) (omega arith))))
    (λ is. let ten : 10 ≤ d = ltb-false d 10 is in rw is (or_right _ _ (or_left _ _ (within 97 122 (87 + d) (omega arith) (omega arith)))))

glyph_no_dot : (d : ℕ) → d < 16 → nat_eq (digit_glyph false d) 46 ≡ false
glyph_no_dot d small = by_ten d (nat_lt d 10) refl (λ less is. rw is (ne_eqb (48 + d) 46 (λ e. omega (arith, e)))) (λ is. rw is (ne_eqb (87 + d) 46 (λ e. omega (arith, e))))

-- the letters are such, and no two dots stand one behind the other
abbrev IsTidy : List ℕ → Type 0
IsTidy text = (list_all is_letter text ≡ true) × (has_dots text ≡ false)

tidy_front : (d : ℕ) (text : List ℕ) → d < 16 → IsTidy text → IsTidy (digit_glyph false d ∷ text)
tidy_front d text small is =
    (ap (λ b. b && list_all is_letter text) (glyph_letter d small) ∙ is.0, dots_front (digit_glyph false d) text (glyph_no_dot d small) is.1)

tidy_digits : (k n : ℕ) (text : List ℕ) → IsTidy text → IsTidy (digits_onto k 16 false n text)
tidy_digits zero n text is = is
tidy_digits (suc k) n text is =
    let front = tidy_front (n % 16) text (mod-lt n (omega arith)) is in
    elim (n / 16 == 0) as (λ b. IsTidy (if b then digit_glyph false (n % 16) ∷ text else digits_onto k 16 false (n / 16) (digit_glyph false (n % 16) ∷ text))) [
      | true ↦ front
      | false ↦ tidy_digits k (n / 16) (digit_glyph false (n % 16) ∷ text) front
    ]

pub nid_safe : (nid : ℕ) → IsSafe (nid_text nid)
unfolding digits
nid_safe nid =
    let is = tidy_digits 64 nid [] (refl, refl) in
    record { letters = is.0; relative = refl; dots = dots_front 120 (digits 16 false nid) refl is.1 }

pub node_safe : (folder : List ℕ) (nid : ℕ) → IsSafe folder → IsSafe (folder_in folder nid)
node_safe folder nid is = safe_joined folder (nid_text nid) is (nid_safe nid)

-- ---- lists

pub all_flat : {X Y : Type 0} (P : Y → Type 0) (f : X → List Y) → ((x : X) → All P (f x)) → (xs : List X) → All P (flat_map f xs)
all_flat P f each [] = All-nil P
all_flat P f each (x ∷ xs) = All-append P (f x) (flat_map f xs) (each x) (all_flat P f each xs)

pub all_mapped : {X Y : Type 0} (P : Y → Type 0) (f : X → Y) → ((x : X) → P (f x)) → (xs : List X) → All P (map f xs)
all_mapped P f each [] = All-nil P
all_mapped P f each (x ∷ xs) = All-cons P (f x) (map f xs) (each x) (all_mapped P f each xs)

-- of each element of which something holds
pub all_flat_of : {X Y : Type 0} (Q : X → Type 0) (P : Y → Type 0) (f : X → List Y) → ((x : X) → Q x → All P (f x)) → (xs : List X) → All Q xs → All P (flat_map f xs)
all_flat_of Q P f each [] all = All-nil P
all_flat_of Q P f each (x ∷ xs) all = All-append P (f x) (flat_map f xs) (each x (All-head Q x xs all)) (all_flat_of Q P f each xs (All-tail Q x xs all))
