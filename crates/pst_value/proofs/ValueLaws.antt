-- The grammar of values, and their first fault and spans, say the same.
use Rattle.std.proofs.Common.{◌≡◌, ℕ, ◌≤◌, Bool, true, List, Option, Some, None, refl, sym, ap, ◌↔◌, ◌⊎◌, inl, inr}
use Rattle.std.specs.Prelude.{nat_eq, ◌||◌, option_map}
use Rattle.std.proofs.lemmas.Bool.{le-leb, leb-true, eqb-true, eq-eqb, ne_eqb, cases_eq}
use Rattle.pst_bytes.specs.declared.span.Span.{Span}
use Rattle.pst_bytes.specs.Image.{num}
use Rattle.pst_fault.specs.declared.fault.Fault.{Fault}
use Rattle.pst_fault.specs.Each.{there_or}
use Rattle.pst_fault.proofs.FirstLemmas.{holds_or_none, holds_or_true}
use Rattle.pst_fault.proofs.GeneralLemmas.{some_is, or_true}
use Rattle.pst_block.specs.Table.{Table}
use Rattle.pst_datatree.specs.Data.{size_of}
use Rattle.pst_ndb.specs.Roots.{Roots}
use Rattle.pst_value.specs.declared.class.Class.{Class}
use Rattle.pst_value.specs.declared.class.Class.TheVariants.{Inline, Eight, Guid, Object, Open, Multi, Opaque}
use Rattle.pst_value.specs.declared.hnid.Hnid.{Hnid}
use Rattle.pst_value.specs.declared.hnid.Hnid.TheVariants.{Nothing, Item, Subnode}
use Rattle.pst_value.specs.Class.{class_of}
use Rattle.pst_value.specs.Hnid.{hnid_of}
use Rattle.pst_value.specs.Values.{held_of, one_span, node_spans, spans_under, hnid_spans, some_spans, held_spans, value_spans}
use Rattle.pst_value.specs.Fault.{missing_at, is_length_of, is_length, length_fault, hnid_fault, value_held_fault, value_fault}
use Rattle.pst_value.specs.Grammar.{HasSpansUnder, HasHnid, HasLength, HasValueAs, HasValue}
use Rattle.pst_value.specs.Laws.{ValueLaw, PlaceLaw}

mapped_law : {X : Type 0} (f : X → List Span) (o : Option X) (spans : List Span) → ((s : X) × (o ≡ Some s) × (spans ≡ f s)) ↔ (option_map f o ≡ Some spans)
mapped_law f None spans = ((λ w. let bad = w.1 in cc), (λ e. absurd cc))
mapped_law f (Some x) spans = (
  (λ w. let same : x ≡ w.0 = some_is _ _ w.1 in rw same (ap Some (sym w.2))),
  (λ e. (x, refl, sym (some_is _ _ e))),
)

named_law : (t : Table) (r : Roots) (h : Hnid) (spans : List Span) → HasSpansUnder t r h spans ↔ (spans_under t r h ≡ Some spans)
named_law t r Nothing spans = ((λ e. ap Some (sym e)), (λ e. sym (some_is _ _ e)))
named_law t r (Item hid) spans = mapped_law one_span _ spans
named_law t r (Subnode nid) spans = mapped_law (node_spans t) _ spans

pub hnid_law : (t : Table) (r : Roots) (hnid : ℕ) (spans : List Span) → HasHnid t r hnid spans ↔ (hnid_spans t r hnid ≡ Some spans)
unfolding hnid_spans
hnid_law t r hnid spans = named_law t r (hnid_of hnid) spans

or_law : (n : ℕ) (b : Bool) (B : Type 0) → B ↔ (b ≡ true) → ((n ≡ 0) ⊎ B) ↔ ((nat_eq n 0 || b) ≡ true)
or_law n b B law = elim (cases_eq n 0) [
  | inl e ↦ ((λ w. rw (eq-eqb _ _ e) refl), (λ h. inl e))
  | inr m ↦ (
    (λ w. elim w [ inl e ↦ absurd (m e) | inr x ↦ rw (ne_eqb _ _ m, law.0 x) refl ]),
    (λ h. inr (law.1 (rw (ne_eqb _ _ m) at h))),
  )
]

class_law : (c : Class) (n : ℕ) → HasLength c n ↔ ((nat_eq n 0 || is_length_of c n) ≡ true)
class_law Inline n = ((λ w. or_true (nat_eq n 0)), (λ h. tt))
class_law Eight n = or_law n (nat_eq n 8) (n ≡ 8) ((λ e. eq-eqb _ _ e), (λ h. eqb-true _ _ h))
class_law Guid n = or_law n (nat_eq n 16) (n ≡ 16) ((λ e. eq-eqb _ _ e), (λ h. eqb-true _ _ h))
class_law Object n = or_law n _ (8 ≤ n) ((λ e. le-leb _ _ e), (λ h. leb-true _ _ h))
class_law Open n = ((λ w. or_true (nat_eq n 0)), (λ h. tt))
class_law Multi n = ((λ w. or_true (nat_eq n 0)), (λ h. tt))
class_law Opaque n = ((λ w. or_true (nat_eq n 0)), (λ h. tt))

length_law : (kind n : ℕ) → HasLength (class_of kind) n ↔ (is_length kind n ≡ true)
unfolding is_length
length_law kind n = class_law (class_of kind) n

there_law : (missing : Fault) (part : List Span → Option Fault) (o : Option (List Span)) (spans : List Span) →
    ((o ≡ Some spans) × (part spans ≡ None)) ↔ ((there_or missing part o ≡ None) × (spans ≡ some_spans o) × (part spans ≡ None))
there_law missing part None spans = ((λ w. let bad = w.0 in absurd cc), (λ w. let bad = w.0 in absurd cc))
there_law missing part (Some x) spans = (
  (λ w. let same : x ≡ spans = some_is _ _ w.0 in (rw same w.1, sym same, w.1)),
  (λ w. (ap Some (sym w.1), w.2)),
)

named_value_law : (t : Table) (r : Roots) (kind place named : ℕ) (spans : List Span) →
    (HasHnid t r (num t.image named 4) spans × HasLength (class_of kind) (size_of spans))
    ↔ ((hnid_fault t r kind place named ≡ None) × (spans ≡ some_spans (hnid_spans t r (num t.image named 4))))
unfolding hnid_fault
named_value_law t r kind place named spans =
    let hnid = num t.image named 4 in
    let law = there_law (missing_at named hnid) (length_fault kind place) (hnid_spans t r hnid) spans in (
      (λ w.
          let l = law.0 ((hnid_law t r hnid spans).0 w.0, holds_or_true _ _ ((length_law kind (size_of spans)).0 w.1)) in
          (l.0, l.1)),
      (λ w.
          let fine : length_fault kind place spans ≡ None = whole (hnid_spans t r hnid) w.0 w.1 in
          let l = law.1 (w.0, w.1, fine) in
          ((hnid_law t r hnid spans).1 l.0, (length_law kind (size_of spans)).1 (holds_or_none _ _ l.1))),
    )
  where
    whole : (o : Option (List Span)) → there_or (missing_at named (num t.image named 4)) (length_fault kind place) o ≡ None → spans ≡ some_spans o → length_fault kind place spans ≡ None
    whole None e is = absurd cc
    whole (Some x) e is = rw is e

as_law : (t : Table) (r : Roots) (kind place : ℕ) (raw : Span) (spans : List Span) (o : Option ℕ) →
    HasValueAs t r kind raw spans o ↔ ((value_held_fault t r kind place raw o ≡ None) × (spans ≡ held_spans t r raw o))
as_law t r kind place raw spans None = named_value_law t r kind place raw.at spans
as_law t r kind place raw spans (Some width) = ((λ w. (refl, w)), (λ w. w.1))

pub value_law : ValueLaw
unfolding value_fault value_spans HasValue
value_law t r kind place raw spans = as_law t r kind place raw spans (held_of kind raw.len)

-- that there is a value does not depend on where a fault would be told
pub place_law : PlaceLaw
place_law t r kind place other raw none =
    let spans = value_spans t r kind raw in
    ((value_law t r kind other raw spans).0 ((value_law t r kind place raw spans).1 (none, refl))).0
