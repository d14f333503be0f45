-- Look-ups among the entries of a tree, each entry by its place.
use Rattle.std.specs.Prelude.{◌≡◌, ℕ, ◌+◌, ◌-◌, ◌*◌, ◌^◌, ◌<◌, ◌≤◌, ◌==◌, nat_le, filter, List, [], ◌∷◌, take, length, Option, Some, None, if◌then◌else◌}
use Rattle.pst_page.specs.declared.kind.PageKind.{PageKind}
use Rattle.pst_page.specs.Entry.{key_at, entry_size}
use Rattle.pst_page.specs.Page.{count_at, entry_place, places}

-- the first entry with a key
unfoldable pub first_at : PageKind → List ℕ → ℕ → List ℕ → Option ℕ
first_at kind I key [] = None
first_at kind I key (at ∷ rest) = if key_at kind I at == key then Some at else first_at kind I key rest

-- the entries whose keys are at least low
abbrev pub rest_from : PageKind → List ℕ → ℕ → List ℕ → List ℕ
rest_from kind I low entries = filter (λ at. nat_le low (key_at kind I at)) entries

-- The entries from a key on begin with a stretch of a leaf: so many, the first of them at a place, and each a width after the
-- one before it. They lie in the file, and where they end is a number of 64 bits.
pub record IsStretch (kind : PageKind) (I entries : List ℕ) (low at width count : ℕ) : Type 0 where
  pub first : take count (rest_from kind I low entries) ≡ places at width count
  pub wide : 0 < count → entry_size kind 0 ≤ width
  pub inside : at + count * width ≤ length I
  pub small : at + count * width < 2 ^ 64

-- how many entries of a page have a key of at most this one, where keys rise
pub record IsUpTo (kind : PageKind) (I : List ℕ) (ib key n : ℕ) : Type 0 where
  pub within : n ≤ count_at I ib
  pub before : 0 < n → key_at kind I (entry_place I ib (n - 1)) ≤ key
  pub after : n < count_at I ib → key < key_at kind I (entry_place I ib n)
