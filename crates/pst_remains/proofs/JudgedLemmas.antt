-- What is judged of a page.
use Rattle.std.proofs.Common.{◌≡◌, ℕ, ◌&&◌, Bool, true, false, List, Option, Some, None, Result, Ok, Err, refl, sym, ◌∙◌}
use Rattle.std.specs.Prelude.{not}
use Rattle.pst_bytes.specs.declared.span.Span.{Span}
use Rattle.pst_fault.specs.declared.fault.Fault.{Fault}
use Rattle.pst_fault.proofs.FirstLemmas.{then_some, then_none, none_then, holds_or_none}
use Rattle.pst_fault.proofs.GeneralLemmas.{some_is}
use Rattle.pst_header.specs.declared.header.Bref.{Bref}
use Rattle.pst_page.specs.declared.kind.PageKind.{PageKind}
use Rattle.pst_page.specs.Fault.{open_fault, page_place_fault, has_page_trailer}
use Rattle.pst_space.specs.Claimed.{Claimed, ClaimAnswers, claim_of, is_clear, first_unit, unit_count, with_span}
use Rattle.pst_btree.specs.Tree.{span_of}
use Rattle.pst_btree.specs.Walk.{body_fault}
use Rattle.pst_remains.specs.Judged.{overlap_fault}
use Rattle.pst_remains.specs.Pages.{claim_fault, page_damage, inner_fault, leads_on, is_followed, is_open}

-- where nothing lies, a claim is made
pub claim_free : {X : Type 0} (old new : Claimed) (span : Span) (r : Result X Fault) → ClaimAnswers old span new r → is_clear old (first_unit span) (unit_count span) ≡ true → new ≡ with_span old span
unfolding claim_of
claim_free old new span (Ok x) a free = sym (some_is _ _ (rw free at a))
claim_free old new span (Err f) a free = let impossible : Some (with_span old span) ≡ None = (rw free at a.2) in absurd cc

pub span_clear : (claimed : Claimed) (span : Span) (bid : ℕ) → overlap_fault claimed span bid ≡ None → is_clear claimed (first_unit span) (unit_count span) ≡ true
unfolding overlap_fault
span_clear claimed span bid e = holds_or_none _ _ e

pub place_clear : (end : ℕ) (claimed : Claimed) (page : Bref) → claim_fault end claimed page ≡ None → is_clear claimed (first_unit (span_of page)) (unit_count (span_of page)) ≡ true
unfolding claim_fault
place_clear end claimed page e = span_clear claimed (span_of page) page.bid (none_then (page_place_fault end page) _ e).1

and_false : (b : Bool) → (b && false) ≡ false
and_false true = refl
and_false false = refl

module _ (kind : PageKind) (I : List ℕ) (end level : ℕ) (claimed : Claimed) (page : Bref) (low : ℕ) (high : Option ℕ) where
  -- it has no place of its own
  pub lost_damage : (f : Fault) → claim_fault end claimed page ≡ Some f → page_damage kind I end level claimed page low high ≡ Some f
  unfolding page_damage
  lost_damage f e = then_some _ _ f e

  pub lost_shut : (f : Fault) → claim_fault end claimed page ≡ Some f → is_open kind I end level claimed page low high ≡ false
  unfolding is_open is_followed
  lost_shut f e = rw (lost_damage f e, e) refl

  -- it has no fault
  pub good_damage : claim_fault end claimed page ≡ None → body_fault kind I level page low high ≡ None → page_damage kind I end level claimed page low high ≡ None
  unfolding page_damage
  good_damage a b = then_none _ _ a ∙ b

  pub good_open : claim_fault end claimed page ≡ None → body_fault kind I level page low high ≡ None → is_open kind I end level claimed page low high ≡ true
  unfolding is_open
  good_open a b = rw (good_damage a b) refl

  -- it has a fault of its own
  pub bad_damage : (f : Fault) → claim_fault end claimed page ≡ None → body_fault kind I level page low high ≡ Some f → page_damage kind I end level claimed page low high ≡ Some f
  unfolding page_damage
  bad_damage f a b = then_none _ _ a ∙ b

  inner_bad : (f : Fault) → has_page_trailer kind I page ≡ true → body_fault kind I level page low high ≡ Some f → inner_fault kind I level page low high ≡ Some f
  unfolding body_fault open_fault inner_fault
  inner_bad f t b = rw t at b

  shut_bad : (f : Fault) → inner_fault kind I level page low high ≡ Some f → leads_on kind I level page low high ≡ false
  unfolding leads_on
  shut_bad f e = rw e (and_false _)

  followed_bad : (t : Bool) (f : Fault) → has_page_trailer kind I page ≡ t → body_fault kind I level page low high ≡ Some f → (not t && leads_on kind I level page low high) ≡ leads_on kind I level page low high
  followed_bad false f t b = refl
  followed_bad true f t b = sym (shut_bad f (inner_bad f t b))

  pub bad_open : (f : Fault) → claim_fault end claimed page ≡ None → body_fault kind I level page low high ≡ Some f → is_open kind I end level claimed page low high ≡ leads_on kind I level page low high
  unfolding is_open is_followed
  bad_open f a b = rw (bad_damage f a b, a) (followed_bad _ f refl b)
