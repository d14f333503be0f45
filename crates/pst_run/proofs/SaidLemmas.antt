-- What is said on the error output.
use Rattle.std.proofs.Common.{◌≡◌, ◌∙◌, ◌+◌, ◌<◌, ◌≤◌, ap, subst, ℕ, List, [], ◌∷◌, ◌++◌, length, drop, get_or, Option, Some, None}
use Rattle.std.specs.Prelude.{Bool, true, false, IfSome}
use Rattle.std.specs.Fmt.{WritesText, with_newline}
use Rattle.std.specs.Io.KnownBytes.{Appends}
use Rattle.std.proofs.lemmas.Fmt.{contents_after_writes}
use Rattle.std.proofs.lemmas.List.{at_drop_more, drop_all}
use Rattle.arrayvec.specs.ArrayString.{ArrayString}
use Rattle.pst_json.specs.Output.{AppendsFront}
use Rattle.pst_json.proofs.OutputLemmas.{Written, written_all, written_front, written_more}
use Rattle.pst_run.specs.Refusal.{line_of_text, path_text, step_text}
use Rattle.pst_run.specs.Run.{SaysLine}

-- a front of a line that was made of a text is a front of that text's line
pub front_is : (text : Option (List ℕ)) (made : List ℕ) (old new : Option (List ℕ)) → IfSome text (λ line. made ≡ line_of_text line)
    → AppendsFront old new made → IfSome text (λ line. SaysLine line old new)
front_is None made old new is front = tt
front_is (Some line) made old new is front = subst (λ x. AppendsFront old new x) is front

-- what is written of a text and a line feed into an empty string is the text's line
pub line_is : (text : Option (List ℕ)) (w v : ArrayString) → w.bytes ≡ []
    → WritesText (λ (s : ArrayString) bytes (t : ArrayString). t.bytes ≡ s.bytes ++ bytes) w (with_newline text) v
    → IfSome text (λ line. v.bytes ≡ line_of_text line)
line_is None w v empty written = tt
line_is (Some line) w v empty written =
    contents_after_writes (λ (s : ArrayString) bytes (t : ArrayString). t.bytes ≡ s.bytes ++ bytes) (λ (s : ArrayString). s.bytes) (λ s bytes t same. same)
    w (line ++ 10 ∷ []) v written ∙ ap (λ l. l ++ (line ++ 10 ∷ [])) empty

-- what is written of a text into an empty string is that text
pub piece_is : (text : Option (List ℕ)) (w v : ArrayString) → w.bytes ≡ [] → WritesText (λ (s : ArrayString) bytes (t : ArrayString). t.bytes ≡ s.bytes ++ bytes) w text v
    → IfSome text (λ bytes. v.bytes ≡ bytes)
piece_is None w v empty written = tt
piece_is (Some bytes) w v empty written =
    contents_after_writes (λ (s : ArrayString) bytes (t : ArrayString). t.bytes ≡ s.bytes ++ bytes) (λ (s : ArrayString). s.bytes) (λ s bytes t same. same)
    w bytes v written ∙ ap (λ l. l ++ bytes) empty

-- a piece that was made of a text is that text
pub piece_front : (text : Option (List ℕ)) (made : List ℕ) (old new : Option (List ℕ)) → IfSome text (λ bytes. made ≡ bytes) → AppendsFront old new made
    → IfSome text (λ bytes. AppendsFront old new bytes)
piece_front None made old new is front = tt
piece_front (Some bytes) made old new is front = subst (λ x. AppendsFront old new x) is front

pub piece_all : (text : Option (List ℕ)) (made : List ℕ) (old new : Option (List ℕ)) → IfSome text (λ bytes. made ≡ bytes) → Appends old new made
    → IfSome text (λ bytes. Appends old new bytes)
piece_all None made old new is all = tt
piece_all (Some bytes) made old new is all = subst (λ x. Appends old new x) is all

-- ---- a path, identifier by identifier

pub path_next : (first : Bool) (path : List ℕ) (i d : ℕ) → i < length path → path_text first (drop i path) ≡ step_text first (get_or path i d) ++ path_text false (drop (i + 1) path)
unfolding path_text
path_next first path i d inside = at_drop_more (path_text first) path i d inside

pub path_end : (first : Bool) (path : List ℕ) (i : ℕ) → length path ≤ i → path_text first (drop i path) ≡ []
unfolding path_text
path_end first path i outside = ap (path_text first) (drop_all i path outside)

-- one identifier more, one that failed, and all of them
pub step_more : (old now new : Option (List ℕ)) (first : Bool) (path : List ℕ) (i d : ℕ) → i < length path → Written old now (path_text true path) (path_text first (drop i path))
    → Appends now new (step_text first (get_or path i d)) → Written old new (path_text true path) (path_text false (drop (i + 1) path))
step_more old now new first path i d inside w more =
    written_more old now new (path_text true path) (step_text first (get_or path i d)) (path_text false (drop (i + 1) path))
    (subst (Written old now (path_text true path)) (path_next first path i d inside) w) more

pub step_front : (old now new : Option (List ℕ)) (first : Bool) (path : List ℕ) (i d : ℕ) → i < length path → Written old now (path_text true path) (path_text first (drop i path))
    → AppendsFront now new (step_text first (get_or path i d)) → AppendsFront old new (path_text true path)
step_front old now new first path i d inside w front =
    written_front old now new (path_text true path) (step_text first (get_or path i d)) (path_text false (drop (i + 1) path))
    (subst (Written old now (path_text true path)) (path_next first path i d inside) w) front

pub path_all : (old now : Option (List ℕ)) (first : Bool) (path : List ℕ) (i : ℕ) → length path ≤ i → Written old now (path_text true path) (path_text first (drop i path))
    → Appends old now (path_text true path)
path_all old now first path i outside w = written_all old now (path_text true path) (subst (Written old now (path_text true path)) (path_end first path i outside) w)
