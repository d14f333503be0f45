-- An object whose text is put behind another, member by member.
use Rattle.std.proofs.Common.{◌≡◌, ℕ, Bool, true, false, List, [], ◌∷◌, ◌++◌, refl, sym, ap, ◌∙◌, append_assoc}
use Rattle.serde_json.specs.Data.{Data, string, object, Members, member, no_members}
use Rattle.serde_json.specs.Written.{compact_text, members_text, comma_if}
use Rattle.json.specs.Print.{escape}
use Rattle.pst_text.specs.Quoted.{all_plain, key_text}
use Rattle.pst_value_json.specs.Pen.{key_and_colon}
use Rattle.pst_text.proofs.EscapeLemmas.{all_escaped}

-- the object begins
pub opened : (ms : Members) (text put : List ℕ) → put ≡ text ++ 123 ∷ [] → put ++ members_text false ms ≡ text ++ compact_text (object ms)
opened ms text put is = ap (λ l. l ++ members_text false ms) is ∙ append_assoc text (123 ∷ []) (members_text false ms)

shape : (text comma key value rest : List ℕ) → (text ++ ((comma ++ key) ++ 58 ∷ [])) ++ (value ++ rest) ≡ text ++ (comma ++ (key ++ 58 ∷ (value ++ rest)))
shape text comma key value rest = simp append_assoc

-- the next member is put: its key, and its value
pub member_put : (later : Bool) (k : List ℕ) (d : Data) (ms : Members) (text key put whole : List ℕ) → key ≡ text ++ key_text later k → put ≡ key ++ compact_text d
    → text ++ members_text later (member k d ms) ≡ whole → put ++ members_text true ms ≡ whole
member_put later k d ms text key put whole keyed is so_far =
    ap (λ l. l ++ members_text true ms) is ∙ append_assoc key (compact_text d) (members_text true ms) ∙ ap (λ l. l ++ (compact_text d ++ members_text true ms)) keyed
    ∙ shape text (comma_if later) (compact_text (string k)) (compact_text d) (members_text true ms) ∙ so_far

-- the object ends
pub closed : (text put whole : List ℕ) → put ≡ text ++ 125 ∷ [] → text ++ members_text true no_members ≡ whole → put ≡ whole
closed text put whole is so_far = is ∙ so_far

-- ---- keys of which each byte stands for itself, put at once with what stands around them

key_is_marked : (later : Bool) (k : List ℕ) → all_plain k ≡ true → key_text later k ≡ comma_if later ++ key_and_colon k
key_is_marked later k all =
    append_assoc (comma_if later) (34 ∷ (escape k ++ 34 ∷ [])) (58 ∷ [])
    ∙ ap (λ l. comma_if later ++ 34 ∷ l) (append_assoc (escape k) (34 ∷ []) (58 ∷ []) ∙ ap (λ l. l ++ 34 ∷ 58 ∷ []) (all_escaped k all))

-- the object begins, with its first member
pub first_marked : (k : List ℕ) (d : Data) (ms : Members) (text key put : List ℕ) → all_plain k ≡ true → key ≡ text ++ 123 ∷ key_and_colon k → put ≡ key ++ compact_text d
    → put ++ members_text true ms ≡ text ++ compact_text (object (member k d ms))
first_marked k d ms text key put all keyed is =
    member_put false k d ms (text ++ 123 ∷ []) key put (text ++ compact_text (object (member k d ms)))
    (keyed ∙ sym (append_assoc text (123 ∷ []) (key_and_colon k)) ∙ ap (λ l. (text ++ 123 ∷ []) ++ l) (sym (key_is_marked false k all))) is
    (opened (member k d ms) text (text ++ 123 ∷ []) refl)

-- the next member is put, behind a comma
pub next_marked : (k : List ℕ) (d : Data) (ms : Members) (text key put whole : List ℕ) → all_plain k ≡ true → key ≡ text ++ 44 ∷ key_and_colon k → put ≡ key ++ compact_text d
    → text ++ members_text true (member k d ms) ≡ whole → put ++ members_text true ms ≡ whole
next_marked k d ms text key put whole all keyed is so_far =
    member_put true k d ms text key put whole (keyed ∙ ap (λ l. text ++ l) (sym (key_is_marked true k all))) is so_far
