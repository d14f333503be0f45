-- A file of a value has its bytes, or those of its text.
use Rattle.std.proofs.Common.{◌≡◌, ℕ, true, List, [], ◌∷◌, ◌++◌, refl, sym, ap, subst, ◌∙◌, arith}
use Rattle.std.specs.Prelude.{Option, Some, codes}
use Rattle.std.specs.List.{Contains}
use Rattle.std.proofs.lemmas.List.Elements.{Contains-append_left, Contains-append_right}
use Rattle.pst_block.specs.Table.{Table}
use Rattle.pst_btree.proofs.EntryLemmas.{with_contains}
use Rattle.pst_ndb.specs.Roots.{Roots}
use Rattle.pst_value_json.specs.declared.filed.TheConstants.{HEADERS, BODY, HTML, RTF, CONTENT}
use Rattle.pst_value_json.specs.Filed.{message_file, attachment_file}
use Rattle.pst_value_json.specs.pst_text.Text.{utf8_of}
use Rattle.pst_value_json.specs.pst_pc.Values.{Property, id_of, props_of}
use Rattle.pst_json.specs.Property.{written_of}
use Rattle.pst_tar.specs.Archive.{Member}
use Rattle.pst_export.specs.Files.{file_at, member_in, place_files, value_file}
use Rattle.pst_export.specs.Laws.{BodiesLaw, ContentLaw, IsThere, binary_type, text_type}

-- the file of a property, where this is called so and these bytes are written of it
there : (file : ℕ → ℕ → Option (List ℕ)) (t : Table) (r : Roots) (folder : List ℕ) (time id kind : ℕ) (p : Property) (name bytes : List ℕ) → IsThere t r id kind p
    → file id kind ≡ Some name → written_of true (record p { kind = kind }) ≡ bytes → file_at file t r folder time id ≡ member_in folder time name bytes ∷ []
unfolding file_at
there file t r folder time id kind p name bytes is called shown =
    let own : p.id ≡ id = (with_contains id_of (props_of t r) id p is.0).1 in
    let named : file p.id p.kind ≡ Some name = ap (λ i. file i p.kind) own ∙ ap (file id) is.1 ∙ called in
    let written : written_of true p ≡ bytes = subst (λ k. written_of true (record p { kind = k }) ≡ bytes) (sym is.1) shown in
    ap (value_file file folder time) is.0 ∙ rw named (ap (λ b. member_in folder time name b ∷ []) written)

-- one file is among those of several properties
first_of : (m : Member) (xs ys : List Member) → xs ≡ m ∷ [] → Contains (xs ++ ys) m
first_of m xs ys is = Contains-append_left xs ys m (subst (λ l. Contains l m) (sym is) (0, omega arith, refl))

later_of : (m : Member) (xs ys : List Member) → Contains ys m → Contains (xs ++ ys) m
later_of m xs ys is = Contains-append_right xs ys m is

pub bodies_law : BodiesLaw
unfolding place_files message_file
bodies_law names t time folder nid r =
    let h : List Member = file_at message_file t r folder time HEADERS in
    let b : List Member = file_at message_file t r folder time BODY in
    let m : List Member = file_at message_file t r folder time HTML in
    let f : List Member = file_at message_file t r folder time RTF in
    record {
      headers = λ p is. later_of _ (_ ∷ []) (h ++ (b ++ (m ++ (f ++ [])))) (first_of _ h (b ++ (m ++ (f ++ []))) (there message_file t r folder time HEADERS text_type p (codes "headers.txt") (utf8_of p.bytes) is refl refl));
      text = λ p is. later_of _ (_ ∷ []) (h ++ (b ++ (m ++ (f ++ [])))) (later_of _ h (b ++ (m ++ (f ++ []))) (first_of _ b (m ++ (f ++ [])) (there message_file t r folder time BODY text_type p (codes "body.txt") (utf8_of p.bytes) is refl refl)));
      html = λ p is. later_of _ (_ ∷ []) (h ++ (b ++ (m ++ (f ++ [])))) (later_of _ h (b ++ (m ++ (f ++ []))) (later_of _ b (m ++ (f ++ [])) (first_of _ m (f ++ []) (there message_file t r folder time HTML binary_type p (codes "body.html") p.bytes is refl refl))));
      html_text = λ p is. later_of _ (_ ∷ []) (h ++ (b ++ (m ++ (f ++ [])))) (later_of _ h (b ++ (m ++ (f ++ []))) (later_of _ b (m ++ (f ++ [])) (first_of _ m (f ++ []) (there message_file t r folder time HTML text_type p (codes "body.html") (utf8_of p.bytes) is refl refl))));
      rtf = λ p is. later_of _ (_ ∷ []) (h ++ (b ++ (m ++ (f ++ [])))) (later_of _ h (b ++ (m ++ (f ++ []))) (later_of _ b (m ++ (f ++ [])) (later_of _ m (f ++ []) (first_of _ f [] (there message_file t r folder time RTF binary_type p (codes "body.rtf.lzfu") p.bytes is refl refl)))));
    }

pub content_law : ContentLaw
unfolding place_files attachment_file
content_law names t time folder nid r p is =
    let these = there attachment_file t r folder time CONTENT binary_type p (codes "data") p.bytes is refl refl in
    later_of _ (_ ∷ []) _ (subst (λ l. Contains l (member_in folder time (codes "data") p.bytes)) (sym these) (0, omega arith, refl))
