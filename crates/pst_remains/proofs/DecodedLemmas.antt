-- Blocks without fault have none once the data blocks among them are decoded.
use Rattle.std.proofs.Common.{◌≡◌, ℕ, ◌+◌, ◌≤◌, List, [], ◌∷◌, length, Some, None, refl, sym, ap, subst, ◌∙◌, arith}
use Rattle.std.specs.List.{All, filter}
use Rattle.std.proofs.lemmas.List.Elements.{All-nil, All-cons}
use Rattle.pst_page.specs.declared.entry.BlockEntry.{BlockEntry}
use Rattle.pst_space.specs.Apart.{AreApart}
use Rattle.pst_block.specs.Block.{block_size}
use Rattle.pst_block.specs.Fault.{block_trailer_fault, has_block_trailer, block_fault}
use Rattle.pst_block.specs.Walk.{AreGood, blocks_fault, block_spans}
use Rattle.pst_encoding.specs.declared.method.Method.{Method}
use Rattle.pst_encoding.specs.Method.{decoded}
use Rattle.pst_encoding.specs.Tables.{IsByte}
use Rattle.pst_plain.specs.Blocks.{has_data, EndsBy}
use Rattle.pst_plain.specs.Twin.{method_of, with_method, data_decoded}
use Rattle.pst_plain.proofs.CodingLemmas.{decoding, all_changed, decoded_is}
use Rattle.pst_plain.proofs.LawLemmas.{all_kept, head_told}
use Rattle.pst_plain.proofs.TrailerLemmas.{HaveSameTrailers, filter_ends, trailers_kept}
use Rattle.pst_plain.proofs.TwinLemmas.{method_long}
use Rattle.pst_remains.specs.declared.found.Found.{Found}
use Rattle.pst_remains.specs.Decoded.{decoded_remains_of, parts_decoded}
use Rattle.pst_remains.specs.Remains.{RemainsParts, all_blocks_left, remains_of}
use Rattle.pst_remains.specs.View.{IsAllFound, IsOver, parts_over}
use Rattle.pst_remains.proofs.ApartLemmas.{are_good, good_apart}

-- ---- they end in the file

good_end : (end last : ℕ) (I : List ℕ) (entries : List BlockEntry) → end ≤ last → AreGood I end entries → All (EndsBy last) entries
good_end end last I [] le good = All-nil (EndsBy last)
good_end end last I (e ∷ rest) le good =
    let inside : e.ib + block_size e.cb ≤ end = good.0.place.inside in
    All-cons (EndsBy last) e rest (omega (arith, inside, le)) (good_end end last I rest le good.1)

pub sound_ends : (end : ℕ) (I : List ℕ) (entries : List BlockEntry) → end ≤ length I → blocks_fault end I entries ≡ None → All (EndsBy (length I)) entries
sound_ends end I entries le none = good_end end (length I) I entries le (are_good end I entries none)

-- ---- their trailers stay right

fault_same : (end : ℕ) (I T : List ℕ) (e : BlockEntry) → has_block_trailer T e ≡ has_block_trailer I e → block_fault end T e ≡ block_fault end I e
unfolding block_fault block_trailer_fault
fault_same end I T e same = rw same refl

faults_same : (end : ℕ) (I T : List ℕ) (entries : List BlockEntry) → HaveSameTrailers I T entries → blocks_fault end T entries ≡ blocks_fault end I entries
unfolding blocks_fault
faults_same end I T [] same = refl
faults_same end I T (e ∷ rest) same = rw (fault_same end I T e same.0, faults_same end I T rest same.1) refl

record IsKept (end : ℕ) (J T : List ℕ) (entries : List BlockEntry) : Type 0 where
  long : length T ≡ length J
  faults : blocks_fault end T entries ≡ blocks_fault end J entries

decoded_kept : (end : ℕ) (J : List ℕ) (method : Method) (entries : List BlockEntry) → All IsByte J → All (EndsBy (length J)) entries → AreApart (block_spans entries) → IsKept end J (data_decoded method entries J) entries
decoded_kept end J method entries all ends apart =
    let T = all_changed (decoded method) (filter has_data entries) J in
    subst (λ (X : List ℕ). IsKept end J X entries) (sym (decoded_is method (filter has_data entries) J)) (record {
      long = (all_kept (filter has_data entries) J (decoded method) (decoding method) all (filter_ends (length J) entries ends)).same.length_same;
      faults = faults_same end J T entries (trailers_kept entries J (decoded method) (decoding method) all ends apart);
    })

-- ---- what was found

found_good : (J : List ℕ) (f : Found) → IsAllFound J f → f.good.items ≡ (all_blocks_left J).good
unfolding remains_of
found_good J f is = ap (λ (p : RemainsParts). p.table.entries) is.parts

pub found_ends : (J : List ℕ) (f : Found) → IsAllFound J f → All (EndsBy (length J)) f.good.items
found_ends J f is = sound_ends f.end J f.good.items is.over.inside is.over.sound

-- once they are decoded its blocks have no fault
pub found_over : (J T : List ℕ) (f : Found) (method : Method) → All IsByte J → IsAllFound J f → T ≡ data_decoded method f.good.items J → IsOver T f
found_over J T f method all is made =
    let apart : AreApart (block_spans f.good.items) = subst (λ (l : List BlockEntry). AreApart (block_spans l)) (sym (found_good J f is)) (good_apart J) in
    let kept = decoded_kept f.end J method f.good.items all (found_ends J f is) apart in
    subst (λ (X : List ℕ). IsOver X f) (sym made) (record {
      inside = omega (arith, kept.long, is.over.inside);
      sound = kept.faults ∙ is.over.sound;
    })

pub found_decoded : (I J T : List ℕ) (f : Found) (method : Method) → J ≡ with_method 0 I → IsAllFound J f → T ≡ data_decoded method f.good.items J → parts_over T f ≡ decoded_remains_of method I
unfolding decoded_remains_of
found_decoded I J T f method head is made =
    ap (λ (X : List ℕ). parts_over X f) made ∙ ap (parts_decoded method J) is.parts ∙ ap (λ (X : List ℕ). parts_decoded method X (remains_of X)) head

pub plain_bytes : (I : List ℕ) (method : Method) → All IsByte I → method_of I ≡ Some method → All IsByte (with_method 0 I)
plain_bytes I method all is = (head_told I 0 all (omega arith) (method_long I method is)).bytes

pub plain_long : (I : List ℕ) (method : Method) → All IsByte I → method_of I ≡ Some method → 564 ≤ length (with_method 0 I)
plain_long I method all is =
    let long = method_long I method is in
    let same = (head_told I 0 all (omega arith) long).len in
    omega (arith, same, long)
