-- Steps of a walk.
use Rattle.std.proofs.Common.{◌≡◌, ℕ, suc, zero, ◌+◌, ◌*◌, ◌<◌, List, [], ◌∷◌, ◌++◌, Option, Some, Ok, Err, refl, sym, ap, ◌∙◌, append_assoc, arith, ◌⊎◌, inl, inr}
use Rattle.std.proofs.lemmas.List.{append-nil}
use Rattle.pst_fault.specs.declared.fault.Fault.{Fault}
use Rattle.pst_fault.specs.Fault.{no_memory}
use Rattle.pst_header.specs.declared.header.Bref.{Bref}
use Rattle.pst_page.specs.declared.kind.PageKind.{PageKind}
use Rattle.pst_page.specs.Page.{entries_at, entries_from, count_at, width_at}
use Rattle.pst_page.specs.Entry.{key_at, child_at}
use Rattle.pst_page.specs.Fault.{page_place_fault}
use Rattle.pst_page.proofs.EntryLemmas.{entries_from_next}
use Rattle.pst_space.specs.Claimed.{Claimed}
use Rattle.pst_space.specs.Step.{Step}
use Rattle.pst_btree.specs.Walk.{Found, found_so_far, Visit, children, walk_of, opened, next_key}

pub appended : (xs : List ℕ) (x : ℕ) (ys : List ℕ) → (xs ++ x ∷ []) ++ ys ≡ xs ++ x ∷ ys
appended xs x ys = append_assoc xs (x ∷ []) ys

pub append_none : (xs : List ℕ) → xs ++ [] ≡ xs
append_none xs = append-nil xs

pub children_go_on : (kind : PageKind) (I : List ℕ) (visit : Visit) (high : Option ℕ) (found next : Found) (at : ℕ) (rest : List ℕ) → visit found (child_at I at) (key_at kind I at) (next_key kind I rest high) ≡ Ok next
    → children kind I visit high found (at ∷ rest) ≡ children kind I visit high next rest
unfolding children
children_go_on kind I visit high found next at rest e = rw e refl

pub children_fail : (kind : PageKind) (I : List ℕ) (visit : Visit) (high : Option ℕ) (found : Found) (at : ℕ) (rest : List ℕ) (e : Claimed × Fault) → visit found (child_at I at) (key_at kind I at) (next_key kind I rest high) ≡ Err e
    → children kind I visit high found (at ∷ rest) ≡ Err e
unfolding children
children_fail kind I visit high found at rest e h = rw h refl

pub children_done : (kind : PageKind) (I : List ℕ) (visit : Visit) (high : Option ℕ) (found : Found) → children kind I visit high found [] ≡ Ok found
unfolding children
children_done kind I visit high found = refl

pub walk_fail : (kind : PageKind) (I : List ℕ) (end level : ℕ) (old : Claimed) (entries : List ℕ) (pages : ℕ) (page : Bref) (low : ℕ) (high : Option ℕ) (e : Claimed × Fault) → opened kind I end level old page low high ≡ Err e
    → walk_of kind I end level (found_so_far old entries pages) page low high ≡ Err e
unfolding walk_of
walk_fail kind I end zero old entries pages page low high e h = rw h refl
walk_fail kind I end (suc level) old entries pages page low high e h = rw h refl

pub walk_leaf : (kind : PageKind) (I : List ℕ) (end : ℕ) (old : Claimed) (entries : List ℕ) (pages : ℕ) (page : Bref) (low : ℕ) (high : Option ℕ) (claimed : Claimed) → opened kind I end 0 old page low high ≡ Ok claimed
    → walk_of kind I end 0 (found_so_far old entries pages) page low high ≡ Ok (found_so_far claimed (entries ++ entries_at I page.ib) (pages + 1))
unfolding walk_of
walk_leaf kind I end old entries pages page low high claimed h = rw h refl

pub walk_branch : (kind : PageKind) (I : List ℕ) (end level below : ℕ) (old : Claimed) (entries : List ℕ) (pages : ℕ) (page : Bref) (low : ℕ) (high : Option ℕ) (claimed : Claimed) → opened kind I end level old page low high ≡ Ok claimed → level ≡ below + 1
    → walk_of kind I end level (found_so_far old entries pages) page low high ≡ children kind I (walk_of kind I end below) high (found_so_far claimed entries (pages + 1)) (entries_at I page.ib)
unfolding walk_of
walk_branch kind I end zero below old entries pages page low high claimed h e = absurd (omega arith)
walk_branch kind I end (suc level) below old entries pages page low high claimed h e =
    let same : level ≡ below = omega arith in
    rw h (ap (λ (n : ℕ). children kind I (walk_of kind I end n) high (found_so_far claimed entries (pages + 1)) (entries_at I page.ib)) same)

-- a page that is refused ends its walk
pub page_fails : (kind : PageKind) (I : List ℕ) (end level : ℕ) (old new : Claimed) (entries : List ℕ) (pages : ℕ) (page : Bref) (low : ℕ) (high : Option ℕ) (f : Fault)
    → (f ≡ no_memory) ⊎ (opened kind I end level old page low high ≡ Err (new, f)) → (f ≡ no_memory) ⊎ (walk_of kind I end level (found_so_far old entries pages) page low high ≡ Err (new, f))
page_fails kind I end level old new entries pages page low high f (inl e) = inl e
page_fails kind I end level old new entries pages page low high f (inr e) = inr (walk_fail kind I end level old entries pages page low high (new, f) e)

-- a child that fails, or memory that runs out there, ends the walk of its page
pub child_fails : (kind : PageKind) (I : List ℕ) (visit : Visit) (high : Option ℕ) (found : Found) (ib i : ℕ) (total : Step Found) (f : Fault) (new : Claimed) (child : Bref) (key : ℕ) (bound : Option ℕ)
    → i < count_at I ib → child ≡ child_at I (ib + i * width_at I ib) → key ≡ key_at kind I (ib + i * width_at I ib) → bound ≡ next_key kind I (entries_from I ib (i + 1)) high
    → (f ≡ no_memory) ⊎ (visit found child key bound ≡ Err (new, f)) → children kind I visit high found (entries_from I ib i) ≡ total → (f ≡ no_memory) ⊎ (total ≡ Err (new, f))
child_fails kind I visit high found ib i total f new child key bound lt a b c (inl e) so_far = inl e
child_fails kind I visit high found ib i total f new child key bound lt a b c (inr e) so_far =
    let at = ib + i * width_at I ib in
    let one : visit found (child_at I at) (key_at kind I at) (next_key kind I (entries_from I ib (i + 1)) high) ≡ Err (new, f) = rw (← a, ← b, ← c) e in
    inr (sym so_far ∙ rw (entries_from_next I ib i lt) (children_fail kind I visit high found at (entries_from I ib (i + 1)) (new, f) one))

pub opened_no_place : (kind : PageKind) (I : List ℕ) (end level : ℕ) (old : Claimed) (page : Bref) (low : ℕ) (high : Option ℕ) (f : Fault) → page_place_fault end page ≡ Some f → opened kind I end level old page low high ≡ Err (old, f)
unfolding opened
opened_no_place kind I end level old page low high f e = rw e refl

pub walk_no_place : (kind : PageKind) (I : List ℕ) (end level : ℕ) (old : Claimed) (entries : List ℕ) (pages : ℕ) (page : Bref) (low : ℕ) (high : Option ℕ) (f : Fault) → page_place_fault end page ≡ Some f → walk_of kind I end level (found_so_far old entries pages) page low high ≡ Err (old, f)
walk_no_place kind I end level old entries pages page low high f e = walk_fail kind I end level old entries pages page low high (old, f) (opened_no_place kind I end level old page low high f e)

-- a child that is walked without fault leaves the rest
pub child_goes_on : (kind : PageKind) (I : List ℕ) (visit : Visit) (high : Option ℕ) (found next : Found) (ib i : ℕ) (total : Step Found) (child : Bref) (key : ℕ) (bound : Option ℕ)
    → i < count_at I ib → child ≡ child_at I (ib + i * width_at I ib) → key ≡ key_at kind I (ib + i * width_at I ib) → bound ≡ next_key kind I (entries_from I ib (i + 1)) high
    → visit found child key bound ≡ Ok next → children kind I visit high found (entries_from I ib i) ≡ total → children kind I visit high next (entries_from I ib (i + 1)) ≡ total
child_goes_on kind I visit high found next ib i total child key bound lt a b c e so_far =
    let at = ib + i * width_at I ib in
    let one : visit found (child_at I at) (key_at kind I at) (next_key kind I (entries_from I ib (i + 1)) high) ≡ Ok next = rw (← a, ← b, ← c) e in
    let step : children kind I visit high found (entries_from I ib i) ≡ children kind I visit high next (entries_from I ib (i + 1)) = rw (entries_from_next I ib i lt) (children_go_on kind I visit high found next at (entries_from I ib (i + 1)) one) in
    sym step ∙ so_far
