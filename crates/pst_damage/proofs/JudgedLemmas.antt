-- Nodes that are judged one after another, as a loop goes through them.
use Rattle.std.proofs.Common.{◌≡◌, ℕ, zero, suc, ◌+◌, ◌<◌, ◌≤◌, List, [], ◌∷◌, ◌++◌, length, drop, get_or, Option, Some, None, refl, sym, ap, ◌∙◌, append_assoc, arith}
use Rattle.std.proofs.lemmas.List.{append-nil, drop_more}
use Rattle.pst_fault.specs.declared.fault.Fault.{Fault}
use Rattle.pst_page.specs.declared.entry.NodeEntry.{NodeEntry}
use Rattle.pst_damage.specs.declared.broken.BrokenNode.{BrokenNode}
use Rattle.pst_damage.specs.Judged.{Judged, kept_node, told_node, sound_by, broken_by}

pub drop_past : {X : Type 0} (xs : List X) (i : ℕ) → length xs ≤ i → drop i xs ≡ []
drop_past [] zero le = refl
drop_past [] (suc i) le = refl
drop_past (x ∷ rest) zero le = absurd (omega arith)
drop_past (x ∷ rest) (suc i) le = drop_past rest i (omega arith)

-- ---- from one to the next

pub sound_first : (part : Judged) (e : NodeEntry) (rest : List NodeEntry) (o : Option Fault) → part e ≡ o → sound_by part (e ∷ rest) ≡ kept_node o e [] ++ sound_by part rest
unfolding sound_by
sound_first part e rest None is = rw is refl
sound_first part e rest (Some f) is = rw is refl

pub told_first : (part : Judged) (e : NodeEntry) (rest : List NodeEntry) (o : Option Fault) → part e ≡ o → broken_by part (e ∷ rest) ≡ told_node o e [] ++ broken_by part rest
unfolding broken_by
told_first part e rest None is = rw is refl
told_first part e rest (Some f) is = rw is refl

pub no_sound : (part : Judged) → sound_by part [] ≡ []
unfolding sound_by
no_sound part = refl

pub no_told : (part : Judged) → broken_by part [] ≡ []
unfolding broken_by
no_told part = refl

more : {X : Type 0} (now next some rest total : List X) → next ≡ now ++ some → now ++ (some ++ rest) ≡ total → next ++ rest ≡ total
more now next some rest total h so_far = ap (λ xs. xs ++ rest) h ∙ append_assoc now some rest ∙ so_far

pub sound_next : (part : Judged) (now next total nodes : List NodeEntry) (i : ℕ) (d : NodeEntry) (o : Option Fault) → i < length nodes → part (get_or nodes i d) ≡ o → next ≡ now ++ kept_node o (get_or nodes i d) []
    → now ++ sound_by part (drop i nodes) ≡ total → next ++ sound_by part (drop (i + 1) nodes) ≡ total
sound_next part now next total nodes i d o lt is h so_far =
    let e = get_or nodes i d in
    let rest = drop (i + 1) nodes in
    more now next (kept_node o e []) (sound_by part rest) total h
    (ap (λ (xs : List NodeEntry). now ++ xs) (sym (ap (sound_by part) (drop_more nodes i d lt) ∙ sound_first part e rest o is)) ∙ so_far)

pub sound_done : (part : Judged) (now total nodes : List NodeEntry) (i : ℕ) → length nodes ≤ i → now ++ sound_by part (drop i nodes) ≡ total → now ≡ total
sound_done part now total nodes i le so_far =
    sym (append-nil now) ∙ sym (ap (λ (xs : List NodeEntry). now ++ xs) (ap (sound_by part) (drop_past nodes i le) ∙ no_sound part)) ∙ so_far

pub told_next : (part : Judged) (now next total : List BrokenNode) (nodes : List NodeEntry) (i : ℕ) (d : NodeEntry) (o : Option Fault) → i < length nodes → part (get_or nodes i d) ≡ o → next ≡ now ++ told_node o (get_or nodes i d) []
    → now ++ broken_by part (drop i nodes) ≡ total → next ++ broken_by part (drop (i + 1) nodes) ≡ total
told_next part now next total nodes i d o lt is h so_far =
    let e = get_or nodes i d in
    let rest = drop (i + 1) nodes in
    more now next (told_node o e []) (broken_by part rest) total h
    (ap (λ (xs : List BrokenNode). now ++ xs) (sym (ap (broken_by part) (drop_more nodes i d lt) ∙ told_first part e rest o is)) ∙ so_far)

pub told_done : (part : Judged) (now total : List BrokenNode) (nodes : List NodeEntry) (i : ℕ) → length nodes ≤ i → now ++ broken_by part (drop i nodes) ≡ total → now ≡ total
told_done part now total nodes i le so_far =
    sym (append-nil now) ∙ sym (ap (λ (xs : List BrokenNode). now ++ xs) (ap (broken_by part) (drop_past nodes i le) ∙ no_told part)) ∙ so_far
