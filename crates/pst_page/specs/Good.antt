-- A good page of a B-tree, and its shape.
use Rattle.std.specs.Prelude.{◌≡◌, ℕ, ◌+◌, ◌*◌, ◌<◌, ◌≤◌, ◌↔◌, List, None}
use Rattle.pst_bytes.specs.Image.{num, bytes_at}
use Rattle.pst_crc.specs.Crc.{crc, signature_of}
use Rattle.pst_header.specs.Place.{IsPlace}
use Rattle.pst_header.specs.declared.header.Bref.{Bref}
use Rattle.pst_page.specs.declared.kind.PageKind.{PageKind}
use Rattle.pst_page.specs.Entry.{entry_size}
use Rattle.pst_page.specs.Page.{page_type, page_span, checked_span, count_at, width_at, level_at}
use Rattle.pst_page.specs.Fault.{page_fault}

-- its trailer (2.2.2.7.1): ptype, ptypeRepeat, wSig, dwCRC, bid
pub record HasPageTrailer (I : List ℕ) (kind : PageKind) (bref : Bref) : Type 0 where
  pub ptype : num I (bref.ib + 496) 1 ≡ page_type kind
  pub ptype_repeat : num I (bref.ib + 497) 1 ≡ page_type kind
  pub signature : num I (bref.ib + 498) 2 ≡ signature_of bref.ib bref.bid
  pub check : num I (bref.ib + 500) 4 ≡ crc (bytes_at I (checked_span bref.ib))
  pub bid : num I (bref.ib + 504) 8 ≡ bref.bid

-- The page that a reference names is good: it is in the mapped part, and its trailer is right.
pub record GoodPage (I : List ℕ) (end : ℕ) (kind : PageKind) (bref : Bref) : Type 0 where
  pub place : IsPlace end (page_span bref.ib)
  pub trailer : HasPageTrailer I kind bref

-- its shape (2.2.2.7.7.1)
pub record HasShape (I : List ℕ) (kind : PageKind) (ib : ℕ) : Type 0 where
  -- cbEnt: an entry has all its fields
  pub wide : entry_size kind (level_at I ib) ≤ width_at I ib
  -- the entries fit before cEnt
  pub room : count_at I ib * width_at I ib ≤ 488
  -- cLevel
  pub low : level_at I ib ≤ 15
  -- a branch names a page
  pub names : 0 < level_at I ib → 0 < count_at I ib

-- a page is good and has its shape exactly where it has no first fault
abbrev pub PageLaw : Type 0
PageLaw = (I : List ℕ) (end : ℕ) (kind : PageKind) (bref : Bref) → (GoodPage I end kind bref × HasShape I kind bref.ib) ↔ (page_fault end kind I bref ≡ None)
