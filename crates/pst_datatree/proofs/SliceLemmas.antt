-- The bytes of the slices of a value.
use Rattle.std.proofs.Common.{◌≡◌, ℕ, ◌+◌, ◌≤◌, List, ◌∷◌, ◌++◌, length, refl, ◌∙◌, arith, append_assoc, length-append}
use Rattle.std.specs.Prelude.{take, slice_range}
use Rattle.std.proofs.lemmas.List.{append-nil}
use Rattle.std.proofs.lemmas.Slice.{take-put_mid}
use Rattle.std.proofs.lemmas.Grind.{common_steps}
use borrow.Rule.Slice.PartMut.{put_mid}
use Rattle.std.specs.List.{concat}
use Rattle.pst_datatree.specs.declared.value_view.Value.{Value}
use Rattle.pst_datatree.specs.declared.value_view.Value.TheVariants.{Whole, Pieces}
use Rattle.pst_datatree.specs.Shown.{bytes_in}
use Rattle.pst_datatree.specs.Slices.{value_slices}

-- joined, they are the value's
pub value_bytes : (v : Value) (slices : List (List ℕ)) → slices ≡ value_slices v → concat slices ≡ bytes_in v
value_bytes (Whole at slice) slices e = rw e (simp append-nil)
value_bytes (Pieces p) slices e = rw e refl

range_length : (count at : ℕ) (all : List ℕ) → at + count ≤ length all → length (slice_range all at (at + count)) ≡ count
range_length count at all there = grind (arith, common_steps)

-- one more slice is gathered behind the others
pub gathered : (n count k : ℕ) (bytes written slice all : List ℕ) (left behind : List (List ℕ)) → left ≡ slice ∷ behind → take count bytes ++ concat left ≡ all → n ≡ count + length written → count ≤ length bytes → written ≡ slice → take n (put_mid count k bytes written) ++ concat behind ≡ all
gathered n count k bytes written slice all left behind is so_far more fits copied =
    rw (take-put_mid count k bytes written n more fits, copied, append_assoc) (rw is at so_far)

-- fewer bytes are left behind it
pub fewer_left : (count : ℕ) (slice : List ℕ) (left behind : List (List ℕ)) (all : ℕ) → left ≡ slice ∷ behind → count + length (concat left) ≡ all → (count + length slice) + length (concat behind) ≡ all
fewer_left count slice left behind all is counted =
    let here : count + length (slice ++ concat behind) ≡ all = rw is at counted in
    omega (arith, length-append slice (concat behind))

-- So many bytes of a part, gathered, are those of the whole.
pub front_is_range : (count at : ℕ) (bytes all part joined : List ℕ) → take (length joined) bytes ≡ joined → joined ≡ part → part ≡ slice_range all at (at + count) → at + count ≤ length all → take count bytes ≡ slice_range all at (at + count)
front_is_range count at bytes all part joined gathers shows is there =
    let long : length joined ≡ count = rw (shows, is) (range_length count at all there) in
    (rw long at gathers) ∙ shows ∙ is

pub range_is_short : (count at : ℕ) (all part joined : List ℕ) → joined ≡ part → part ≡ slice_range all at (at + count) → at + count ≤ length all → count ≤ 8 → length joined ≤ 8
range_is_short count at all part joined shows is there few = rw (shows, is, range_length count at all there) few
