-- Objects that are written member by member.
use Rattle.std.proofs.Common.{◌≡◌, ℕ, ◌+◌, ◌<◌, ◌≤◌, Bool, true, false, length, drop, get_or, map, List, [], ◌∷◌, ◌++◌, Option, Some, None, Ordering, Less, Equal, Greater, nat_cmp, refl, sym, ap, ◌∙◌, append_assoc, append-nil}
use Rattle.std.specs.Prelude.{◌&&◌}
use Rattle.std.specs.Cmp.Lexicographic.{slice_cmp}
use Rattle.std.specs.Ordering.{match_ordering}
use Rattle.std.proofs.lemmas.Bool.{and_parts}
use Rattle.std.proofs.lemmas.List.{drop_more, drop_all}
use Rattle.json.specs.Print.{escape}
use Rattle.serde_json.specs.Data.{Data, object, array, Members, no_members, member, put}
use Rattle.serde_json.specs.Written.{compact_text, items_text, members_text}
use Rattle.serde_json.specs.View.{items_of}
use Rattle.pst_text.specs.Quoted.{all_plain}
use Rattle.pst_value_json.specs.Pen.{key_and_colon, and_member, and_member_if, before, is_last, IsLast, InObject}
use Rattle.pst_value_json.specs.Places.{member_if}
use Rattle.pst_text.proofs.EscapeLemmas.{all_escaped}

-- ---- members, one more at the end

pub before_more : (done : Members) (k : List ℕ) (d : Data) (rest : Members) → before (and_member done k d) rest ≡ before done (member k d rest)
before_more no_members k d rest = refl
before_more (member l e ms) k d rest = ap (member l e) (before_more ms k d rest)

pub before_none : (done : Members) (k : List ℕ) (d : Data) → before done (member k d no_members) ≡ and_member done k d
before_none no_members k d = refl
before_none (member l e ms) k d = ap (member l e) (before_none ms k d)

-- one that may be there
pub if_more : (done : Members) (k : List ℕ) (o : Option Data) (rest : Members) → before (and_member_if done k o) rest ≡ before done (member_if k o rest)
if_more done k None rest = refl
if_more done k (Some d) rest = before_more done k d rest

-- a key stands behind those of more members
pub last_more : (done : Members) (l k : List ℕ) (e : Data) → is_last done k ≡ true → match_ordering (slice_cmp nat_cmp k l) false false true ≡ true → is_last (and_member done l e) k ≡ true
last_more no_members l k e last behind = ap (λ b. b && true) behind
last_more (member m x ms) l k e last behind =
    let both = and_parts (match_ordering (slice_cmp nat_cmp k m) false false true) (is_last ms k) last in
    ap (λ b. b && is_last (and_member ms l e) k) both.0 ∙ last_more ms l k e both.1 behind

pub last_if : (done : Members) (l k : List ℕ) (o : Option Data) → is_last done k ≡ true → match_ordering (slice_cmp nat_cmp k l) false false true ≡ true → is_last (and_member_if done l o) k ≡ true
last_if done l k None last behind = last
last_if done l k (Some e) last behind = last_more done l k e last behind

-- put into a tree, it comes last
put_greater : (o : Ordering) (a b c : Members) → match_ordering o false false true ≡ true → match_ordering o a b c ≡ c
put_greater Less a b c is = absurd cc
put_greater Equal a b c is = absurd cc
put_greater Greater a b c is = refl

pub put_last : (done : Members) (k : List ℕ) (d : Data) → is_last done k ≡ true → put k d done ≡ and_member done k d
put_last no_members k d last = refl
put_last (member l e ms) k d last =
    let both = and_parts (match_ordering (slice_cmp nat_cmp k l) false false true) (is_last ms k) last in
    put_greater (slice_cmp nat_cmp k l) _ _ (member l e (put k d ms)) both.0 ∙ ap (member l e) (put_last ms k d both.1)

-- a value is put behind a key
pub begun : {P : Type 0} (Puts : P → P → Data → Type 0) (AtKey : P → P → Members → List ℕ → Type 0) (base s now : P) (front : Members) (k : List ℕ) (d : Data)
    → AtKey base s front k → Puts s now d → IsLast front k → InObject Puts AtKey base now (and_member front k d)
begun Puts AtKey base s now front k d at puts last = (s, front, k, d, at, puts, last, refl)

-- ---- the text of an object

-- a mark, a key, its value, and what stands behind them
shape : (text key value rest : List ℕ) (x : ℕ) → (text ++ x ∷ 34 ∷ (key ++ 34 ∷ 58 ∷ [])) ++ (value ++ rest) ≡ text ++ x ∷ 34 ∷ (key ++ 34 ∷ 58 ∷ (value ++ rest))
shape text key value rest x = simp append_assoc

member_is : (k : List ℕ) (d : Data) (rest : Members) → all_plain k ≡ true → members_text false (member k d rest) ≡ 34 ∷ (k ++ 34 ∷ 58 ∷ (compact_text d ++ members_text true rest))
member_is k d rest all =
    let behind = compact_text d ++ members_text true rest in
    ap (λ l. 34 ∷ l) (append_assoc (escape k) (34 ∷ []) (58 ∷ behind)) ∙ ap (λ l. 34 ∷ (l ++ 34 ∷ 58 ∷ behind)) (all_escaped k all)

-- a key is put, behind a mark
key_put : (old now mark k : List ℕ) (x : ℕ) (d : Data) (rest : Members) → all_plain k ≡ true → mark ≡ x ∷ key_and_colon k → now ≡ old ++ mark
    → now ++ (compact_text d ++ members_text true rest) ≡ old ++ x ∷ members_text false (member k d rest)
key_put old now mark k x d rest all marks is =
    ap (λ l. l ++ (compact_text d ++ members_text true rest)) (is ∙ ap (λ l. old ++ l) marks) ∙ shape old k (compact_text d) (members_text true rest) x
    ∙ ap (λ l. old ++ x ∷ l) (sym (member_is k d rest all))

-- the first key is put
pub first_key : (base now mark k : List ℕ) (d : Data) (rest : Members) → all_plain k ≡ true → mark ≡ 123 ∷ key_and_colon k → now ≡ base ++ mark
    → now ++ (compact_text d ++ members_text true rest) ≡ base ++ compact_text (object (member k d rest))
first_key base now mark k d rest all marks is = key_put base now mark k 123 d rest all marks is

-- the next key is put, behind a value
pub next_key : (base s old now mark k : List ℕ) (front : Members) (last : List ℕ) (e : Data) (done : Members) (d : Data) (rest : Members) → all_plain k ≡ true
    → ((x : Data) (xs : Members) → s ++ (compact_text x ++ members_text true xs) ≡ base ++ compact_text (object (before front (member last x xs))))
    → old ≡ s ++ compact_text e → done ≡ and_member front last e → mark ≡ 44 ∷ key_and_colon k → now ≡ old ++ mark
    → now ++ (compact_text d ++ members_text true rest) ≡ base ++ compact_text (object (before done (member k d rest)))
next_key base s old now mark k front last e done d rest all so_far put all_are marks is =
    key_put old now mark k 44 d rest all marks is
    ∙ ap (λ l. l ++ members_text true (member k d rest)) put ∙ append_assoc s (compact_text e) (members_text true (member k d rest))
    ∙ so_far e (member k d rest) ∙ ap (λ ms. base ++ compact_text (object ms)) (sym (before_more front last e (member k d rest)) ∙ ap (λ l. before l (member k d rest)) (sym all_are))

-- the object ends
pub object_end : (base s old now : List ℕ) (front : Members) (last : List ℕ) (e : Data) (done : Members)
    → ((x : Data) (xs : Members) → s ++ (compact_text x ++ members_text true xs) ≡ base ++ compact_text (object (before front (member last x xs))))
    → old ≡ s ++ compact_text e → done ≡ and_member front last e → now ≡ old ++ 125 ∷ [] → now ≡ base ++ compact_text (object done)
object_end base s old now front last e done so_far put all_are is =
    is ∙ ap (λ l. l ++ 125 ∷ []) put ∙ append_assoc s (compact_text e) (125 ∷ []) ∙ so_far e no_members
    ∙ ap (λ ms. base ++ compact_text (object ms)) (before_none front last e ∙ sym all_are)

-- the list ends
pub list_end : (base old now : List ℕ) (later : Bool) (done : List Data)
    → ((rest : List Data) → old ++ items_text later (items_of rest) ≡ base ++ compact_text (array (items_of (done ++ rest)))) → now ≡ old ++ 93 ∷ []
    → now ≡ base ++ compact_text (array (items_of done))
list_end base old now later done so_far is = is ∙ so_far [] ∙ ap (λ ds. base ++ compact_text (array (items_of ds))) (append-nil done)

-- ---- lists that are written item by item

-- one more item stands there, the first of those that are left
pub one_more : {X : Type 0} (shown : X → Data) (x : X) (left behind : List X) (done whole : List Data) → left ≡ x ∷ behind
    → done ++ map shown left ≡ whole → (done ++ shown x ∷ []) ++ map shown behind ≡ whole
one_more shown x left behind done whole is so_far =
    append_assoc done (shown x ∷ []) (map shown behind) ∙ ap (λ l. done ++ map shown l) (sym is) ∙ so_far

-- none is left
pub none_left : {X : Type 0} (shown : X → Data) (left : List X) (done whole : List Data) → left ≡ [] → done ++ map shown left ≡ whole → done ≡ whole
none_left shown left done whole is so_far = sym (append-nil done) ∙ ap (λ l. done ++ map shown l) (sym is) ∙ so_far

-- the same of a slice, from the item with a number on
pub next_of_slice : {X : Type 0} (shown : X → Data) (items : List X) (i : ℕ) (x : X) (done whole : List Data) → i < length items
    → done ++ map shown (drop i items) ≡ whole → (done ++ shown (get_or items i x) ∷ []) ++ map shown (drop (i + 1) items) ≡ whole
next_of_slice shown items i x done whole inside so_far =
    one_more shown (get_or items i x) (drop i items) (drop (i + 1) items) done whole (drop_more items i x inside) so_far

pub end_of_slice : {X : Type 0} (shown : X → Data) (items : List X) (i : ℕ) (done whole : List Data) → length items ≤ i
    → done ++ map shown (drop i items) ≡ whole → done ≡ whole
end_of_slice shown items i done whole past so_far = none_left shown (drop i items) done whole (drop_all i items past) so_far
