-- The entries of a page, from one on; and their keys.
use Rattle.std.proofs.Common.{◌≡◌, ℕ, zero, suc, ◌+◌, ◌-◌, ◌*◌, ◌<◌, ◌≤◌, List, [], ◌∷◌, length, refl, arith}
use Rattle.pst_page.specs.declared.kind.PageKind.TheVariants.{Bbt}
use Rattle.pst_page.specs.Entry.{key_of, key_at, block_entry_at}
use Rattle.pst_page.specs.Page.{entries_at, entries_from, count_at, width_at, places}

-- ---- places, step by step

pub entries_from_start : (I : List ℕ) (ib : ℕ) → entries_from I ib 0 ≡ entries_at I ib
unfolding entries_from entries_at
entries_from_start I ib =
    let at : ib + 0 * width_at I ib ≡ ib = omega arith in
    let n : count_at I ib - 0 ≡ count_at I ib = omega arith in
    rw (at, n) refl

pub entries_from_next : (I : List ℕ) (ib i : ℕ) → i < count_at I ib → entries_from I ib i ≡ (ib + i * width_at I ib) ∷ entries_from I ib (i + 1)
unfolding entries_from
entries_from_next I ib i lt =
    let n : count_at I ib - i ≡ suc (count_at I ib - (i + 1)) = omega arith in
    let at : (ib + i * width_at I ib) + width_at I ib ≡ ib + (i + 1) * width_at I ib = omega arith in
    rw (n, at) refl

pub entries_from_end : (I : List ℕ) (ib i : ℕ) → count_at I ib ≤ i → entries_from I ib i ≡ []
unfolding entries_from
entries_from_end I ib i le =
    let n : count_at I ib - i ≡ 0 = omega arith in
    rw n refl

-- ---- how many

pub places_count : (at width count : ℕ) → length (places at width count) ≡ count
places_count at width zero = refl
places_count at width (suc count) = let e : length (places (at + width) width count) ≡ count = places_count (at + width) width count in rw e refl

pub entries_count : (I : List ℕ) (ib : ℕ) → length (entries_at I ib) ≡ count_at I ib
unfolding entries_at
entries_count I ib = places_count ib (width_at I ib) (count_at I ib)

-- ---- keys of leaf entries

pub block_entry_key : (I : List ℕ) (at : ℕ) → key_of Bbt (block_entry_at I at).bid ≡ key_at Bbt I at
unfolding key_at block_entry_at
block_entry_key I at = refl
