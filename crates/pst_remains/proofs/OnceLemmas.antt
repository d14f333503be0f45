-- Each data block that is left is decoded once.
use Rattle.std.proofs.Common.{◌≡◌, ℕ, Bool, true, false, List, [], ◌∷◌, length, refl, sym, subst}
use Rattle.std.specs.List.{All, filter}
use Rattle.std.proofs.lemmas.List.Elements.{All-nil, All-cons}
use Rattle.pst_header.specs.Header.{end_of}
use Rattle.pst_header.proofs.Head as head
use Rattle.pst_page.specs.declared.entry.BlockEntry.{BlockEntry}
use Rattle.pst_block.specs.Walk.{AreGood}
use Rattle.pst_encoding.specs.Method.{decoded}
use Rattle.pst_plain.specs.Blocks.{has_data, EndsBy}
use Rattle.pst_plain.specs.Twin.{with_method}
use Rattle.pst_plain.proofs.CodingLemmas.{all_changed, decoded_is, decoding}
use Rattle.pst_plain.proofs.HeaderLemmas.{method_behind}
use Rattle.pst_plain.proofs.LaterLemmas.{HasBody, all_bodies, bodies_changed}
use Rattle.pst_plain.proofs.PlacedLemmas.{LiesIn}
use Rattle.pst_plain.proofs.TwinLemmas.{method_long}
use Rattle.pst_remains.specs.Decoded.{decoded_remains_of}
use Rattle.pst_remains.specs.Header.{has_maps, mended}
use Rattle.pst_remains.specs.Laws.{DecodedOnceLaw}
use Rattle.pst_remains.specs.Remains.{all_blocks_left, mapped_end, remains_of}
use Rattle.pst_remains.proofs.ApartLemmas.{are_good, good_apart, good_sound}
use Rattle.pst_remains.proofs.HeaderLemmas.{mended_mapped}
use Rattle.pst_remains.proofs.RemainsLemmas.{third_lost}
use Rattle.pst_remains.proofs.DecodedLemmas.{plain_bytes, sound_ends}

good_lie : (end : ℕ) (I : List ℕ) (entries : List BlockEntry) → AreGood I end entries → All (LiesIn end) entries
good_lie end I [] good = All-nil (LiesIn end)
good_lie end I (e ∷ rest) good = All-cons (LiesIn end) e rest good.0.place (good_lie end I rest good.1)

-- they end in the file; where nothing is mapped there are none
good_ends : (I : List ℕ) → All (EndsBy (length I)) (all_blocks_left I).good
good_ends I = by_maps (has_maps I) refl
  where
    by_maps : (b : Bool) → has_maps I ≡ b → All (EndsBy (length I)) (all_blocks_left I).good
    by_maps true e = sound_ends (end_of (mended I)) I (all_blocks_left I).good (head.mapped_end I (mended I) (mended_mapped I e)) (rw e at (good_sound I))
    by_maps false e = rw (third_lost I e) (All-nil (EndsBy (length I)))

pub decoded_once : DecodedOnceLaw
unfolding decoded_remains_of remains_of
decoded_once I method all is =
    let J = with_method 0 I in
    let entries = (all_blocks_left J).good in
    let sound = good_sound J in
    let have = bodies_changed entries J (decoded method) (decoding method) (plain_bytes I method all is) (good_ends J) (good_apart J) in
    let T = all_changed (decoded method) (filter has_data entries) J in
    subst (λ (X : List ℕ). All (HasBody (decoded method) I X) entries) (sym (decoded_is method (filter has_data entries) J))
    (all_bodies I J T (decoded method) (mapped_end J) entries (method_behind I 0 (method_long I method is)) (good_lie (mapped_end J) J entries (are_good (mapped_end J) J entries sound)) have)
