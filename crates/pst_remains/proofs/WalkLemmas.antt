-- Steps of the walk of a damaged tree.
use Rattle.std.proofs.Common.{◌≡◌, ℕ, suc, zero, ◌+◌, ◌*◌, ◌<◌, true, false, List, [], ◌∷◌, Option, Some, None, refl, sym, ap, ◌∙◌, arith}
use Rattle.pst_fault.specs.declared.fault.Fault.{Fault}
use Rattle.pst_fault.proofs.FirstLemmas.{then_some}
use Rattle.pst_header.specs.declared.header.Bref.{Bref}
use Rattle.pst_page.specs.declared.kind.PageKind.{PageKind}
use Rattle.pst_page.specs.Page.{entries_at, entries_from, count_at, width_at, level_at}
use Rattle.pst_page.specs.Entry.{key_at, child_at}
use Rattle.pst_page.specs.Fault.{page_place_fault}
use Rattle.pst_page.proofs.EntryLemmas.{entries_from_next}
use Rattle.pst_space.specs.Claimed.{Claimed}
use Rattle.pst_btree.specs.Walk.{next_key}
use Rattle.pst_remains.specs.Pages.{Left, Look, claim_fault, is_open, keys_end, left_so_far, tree_left, look_at, look_each, told_page, with_leaf, with_page}
use Rattle.pst_remains.proofs.JudgedLemmas.{lost_damage, lost_shut}

module _ (kind : PageKind) (I : List ℕ) (end : ℕ) (left : Left) (page : Bref) (from low : ℕ) (high : Option ℕ) where
  pub look_shut : (level : ℕ) → is_open kind I end level left.claimed page low high ≡ false
      → look_at kind I end level left page from low high ≡ with_page kind I end level left page from low high
  unfolding look_at
  look_shut zero e = rw e refl
  look_shut (suc level) e = rw e refl

  pub look_leaf : is_open kind I end 0 left.claimed page low high ≡ true
      → look_at kind I end 0 left page from low high ≡ with_leaf page (with_page kind I end 0 left page from low high)
  unfolding look_at
  look_leaf e = rw e refl

  pub look_branch : (level below : ℕ) → level ≡ below + 1 → is_open kind I end level left.claimed page low high ≡ true
      → look_at kind I end level left page from low high
      ≡ look_each kind I (look_at kind I end below) from high (with_page kind I end level left page from low high) (entries_at I page.ib)
  unfolding look_at
  look_branch zero below s e = absurd (omega arith)
  look_branch (suc level) below s e =
      let same : level ≡ below = omega arith in
      rw e (ap (λ (n : ℕ). look_each kind I (look_at kind I end n) from high (with_page kind I end (suc level) left page from low high) (entries_at I page.ib)) same)

pub each_done : (kind : PageKind) (I : List ℕ) (look : Look) (from : ℕ) (high : Option ℕ) (left : Left) → look_each kind I look from high left [] ≡ left
unfolding look_each
each_done kind I look from high left = refl

each_next : (kind : PageKind) (I : List ℕ) (look : Look) (from : ℕ) (high : Option ℕ) (left next : Left) (at : ℕ) (rest : List ℕ)
    → look left (child_at I at) from (key_at kind I at) (next_key kind I rest high) ≡ next
    → look_each kind I look from high left (at ∷ rest) ≡ look_each kind I look (keys_end (next_key kind I rest high)) high next rest
unfolding look_each
each_next kind I look from high left next at rest e = rw e refl

-- a page that an entry names is gone through, and leaves the rest
pub each_goes_on : (kind : PageKind) (I : List ℕ) (look : Look) (from : ℕ) (high : Option ℕ) (left next total : Left) (ib i : ℕ) (child : Bref) (key : ℕ) (bound : Option ℕ)
    → i < count_at I ib → child ≡ child_at I (ib + i * width_at I ib) → key ≡ key_at kind I (ib + i * width_at I ib) → bound ≡ next_key kind I (entries_from I ib (i + 1)) high
    → look left child from key bound ≡ next → look_each kind I look from high left (entries_from I ib i) ≡ total
    → look_each kind I look (keys_end bound) high next (entries_from I ib (i + 1)) ≡ total
each_goes_on kind I look from high left next total ib i child key bound lt a b c e so_far =
    let at = ib + i * width_at I ib in
    let one : look left (child_at I at) from (key_at kind I at) (next_key kind I (entries_from I ib (i + 1)) high) ≡ next = rw (← a, ← b, ← c) e in
    let step : look_each kind I look from high left (entries_from I ib i) ≡ look_each kind I look (keys_end (next_key kind I (entries_from I ib (i + 1)) high)) high next (entries_from I ib (i + 1)) =
    rw (entries_from_next I ib i lt) (each_next kind I look from high left next at (entries_from I ib (i + 1)) one) in
    rw c (sym step ∙ so_far)

no_claim : (end : ℕ) (claimed : Claimed) (page : Bref) (f : Fault) → page_place_fault end page ≡ Some f → claim_fault end claimed page ≡ Some f
unfolding claim_fault
no_claim end claimed page f e = then_some _ _ f e

-- a page that has no place of its own, whatever level is asked for
pub look_no_place : (kind : PageKind) (I : List ℕ) (end level : ℕ) (left : Left) (page : Bref) (from low : ℕ) (high : Option ℕ) (f : Fault) → claim_fault end left.claimed page ≡ Some f
    → look_at kind I end level left page from low high ≡ told_page (Some f) left page from high
unfolding with_page
look_no_place kind I end level left page from low high f e =
    look_shut kind I end left page from low high level (lost_shut kind I end level left.claimed page low high f e)
    ∙ rw (lost_damage kind I end level left.claimed page low high f e) refl

-- nor has the root of a whole tree
pub tree_no_place : (kind : PageKind) (I : List ℕ) (end : ℕ) (claimed : Claimed) (root : Bref) (f : Fault) → page_place_fault end root ≡ Some f
    → tree_left kind I end claimed root ≡ left_so_far claimed (record { fault = f; from = 0; high = None } ∷ []) []
tree_no_place kind I end claimed root f e = look_no_place kind I end (level_at I root.ib) (left_so_far claimed [] []) root 0 0 None f (no_claim end claimed root f e)
