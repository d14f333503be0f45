-- What is claimed when a walk is refused.
use Rattle.std.proofs.Common.{◌≡◌, ℕ, suc, zero, ◌+◌, ◌*◌, ◌<◌, List, [], ◌∷◌, ◌++◌, map, Option, Some, Ok, refl, sym, subst, arith, ◌⊎◌, inl, inr}
use Rattle.std.proofs.lemmas.List.{map-append}
use Rattle.pst_bytes.specs.declared.span.Span.{Span}
use Rattle.pst_fault.proofs.GeneralLemmas.{some_is}
use Rattle.pst_header.specs.declared.header.Bref.{Bref}
use Rattle.pst_page.specs.declared.kind.PageKind.{PageKind}
use Rattle.pst_page.specs.Page.{count_at, width_at}
use Rattle.pst_page.specs.Entry.{child_at}
use Rattle.pst_page.proofs.EntryLemmas.{entries_from_start, entries_from_next}
use Rattle.pst_space.specs.Claimed.{Claimed, claim_of, claim_all}
use Rattle.pst_space.specs.Step.{ClaimsSome}
use Rattle.pst_space.proofs.StepLemmas.{claims_none}
use Rattle.pst_btree.specs.Walk.{walk_of, found_so_far}
use Rattle.pst_btree.specs.Tree.{tree_at, forest_pages, span_of, page_spans_at}
use Rattle.pst_btree.proofs.FindLemmas.{forest_from}
use Rattle.pst_btree.proofs.TreeLaws.{then_some, has_walked}

pub some_front : (old new : Claimed) (xs ys : List Span) → ClaimsSome old new xs → ClaimsSome old new (xs ++ ys)
some_front old new [] ys h = subst (λ (c : Claimed). ClaimsSome old c ys) (sym h) (claims_none old ys)
some_front old new (x ∷ xs) ys (inl e) = inl e
some_front old new (x ∷ xs) ys (inr h) = inr (h.0, h.1, some_front h.0 new xs ys h.2)

pub some_after : (old next new : Claimed) (xs ys : List Span) → claim_all old xs ≡ Some next → ClaimsSome next new ys → ClaimsSome old new (xs ++ ys)
some_after old next new [] ys e h = subst (λ (c : Claimed). ClaimsSome c new ys) (sym (some_is _ _ e)) h
some_after old next new (x ∷ xs) ys e h =
    let b = then_some (λ c. claim_all c xs) (claim_of old x) next e in
    inr (b.0, b.1, some_after b.0 next new xs ys b.2 h)

-- those below a page from entry i on
unfoldable pub spans_from : PageKind → List ℕ → ℕ → ℕ → ℕ → List Span
spans_from kind I level ib i = map span_of (forest_pages (forest_from kind I level ib i))

spans_start : (kind : PageKind) (I : List ℕ) (level below : ℕ) (page : Bref) → level ≡ below + 1 → page_spans_at kind I level page ≡ span_of page ∷ spans_from kind I below page.ib 0
unfolding page_spans_at spans_from forest_from tree_at
spans_start kind I zero below page e = absurd (omega arith)
spans_start kind I (suc level) below page e =
    let same : level ≡ below = omega arith in
    rw (entries_from_start I page.ib, ← same) refl

spans_next : (kind : PageKind) (I : List ℕ) (level ib i : ℕ) → i < count_at I ib → spans_from kind I level ib i ≡ page_spans_at kind I level (child_at I (ib + i * width_at I ib)) ++ spans_from kind I level ib (i + 1)
unfolding page_spans_at spans_from forest_from
spans_next kind I level ib i lt = rw (entries_from_next I ib i lt) (map-append span_of _ _)

-- whatever of the rest is claimed from here on is some of the whole
pub record IsSomeLeft (kind : PageKind) (I : List ℕ) (below ib i : ℕ) (now old : Claimed) (spans : List Span) : Type 0 where
  pub goes_on : (new : Claimed) → ClaimsSome now new (spans_from kind I below ib i) → ClaimsSome old new spans

pub left_start : (kind : PageKind) (I : List ℕ) (level below : ℕ) (page : Bref) (old now : Claimed) → level ≡ below + 1 → claim_of old (span_of page) ≡ Some now → IsSomeLeft kind I below page.ib 0 now old (page_spans_at kind I level page)
left_start kind I level below page old now e c = record { goes_on = λ new h. rw (spans_start kind I level below page e) (inr (now, c, h)) }

pub left_next : (kind : PageKind) (I : List ℕ) (below ib i : ℕ) (now next old : Claimed) (spans : List Span) → i < count_at I ib → IsSomeLeft kind I below ib i now old spans → claim_all now (page_spans_at kind I below (child_at I (ib + i * width_at I ib))) ≡ Some next
    → IsSomeLeft kind I below ib (i + 1) next old spans
left_next kind I below ib i now next old spans lt l c = record { goes_on = λ new h. l.goes_on new (rw (spans_next kind I below ib i lt) (some_after now next new _ _ c h)) }

pub left_refused : (kind : PageKind) (I : List ℕ) (below ib i : ℕ) (now new old : Claimed) (spans : List Span) → i < count_at I ib → IsSomeLeft kind I below ib i now old spans → ClaimsSome now new (page_spans_at kind I below (child_at I (ib + i * width_at I ib)))
    → ClaimsSome old new spans
left_refused kind I below ib i now new old spans lt l h = l.goes_on new (rw (spans_next kind I below ib i lt) (some_front now new _ _ h))

pub left_end : (kind : PageKind) (I : List ℕ) (below ib i : ℕ) (now old : Claimed) (spans : List Span) → IsSomeLeft kind I below ib i now old spans → ClaimsSome old now spans
left_end kind I below ib i now old spans l = l.goes_on now (claims_none now _)

pub left_page : (kind : PageKind) (I : List ℕ) (level : ℕ) (page : Bref) (old new : Claimed) → (new ≡ old) ⊎ (claim_of old (span_of page) ≡ Some new) → ClaimsSome old new (page_spans_at kind I level page)
unfolding page_spans_at tree_at
left_page kind I level page old new (inl e) = subst (λ (c : Claimed). ClaimsSome old c (page_spans_at kind I level page)) (sym e) (claims_none old (page_spans_at kind I level page))
left_page kind I zero page old new (inr e) = inr (new, e, refl)
left_page kind I (suc level) page old new (inr e) = inr (new, e, claims_none new _)

pub walk_spans : (kind : PageKind) (I : List ℕ) (end level : ℕ) (old now : Claimed) (entries more : List ℕ) (pages count : ℕ) (page : Bref) (low : ℕ) (high : Option ℕ)
    → walk_of kind I end level (found_so_far old entries pages) page low high ≡ Ok (found_so_far now more count) → claim_all old (page_spans_at kind I level page) ≡ Some now
unfolding page_spans_at
walk_spans kind I end level old now entries more pages count page low high e = (has_walked kind I end level _ _ page low high e).claims
