-- A heap of one span.
use Rattle.std.proofs.Common.{◌≡◌, ℕ, Bool, true, false, [], ◌∷◌, Option, Some, None, refl, ◌∙◌}
use Rattle.std.specs.Prelude.{slice_get, if◌then◌else◌}
use Rattle.pst_fault.specs.declared.fault.Fault.{Fault}
use Rattle.pst_bytes.specs.declared.span.Span.{Span}
use Rattle.pst_fault.specs.First.{◌then◌}
use Rattle.pst_fault.specs.Each.{first_of}
use Rattle.pst_datatree.specs.Bid.{is_internal, is_no_block}
use Rattle.pst_datatree.specs.declared.named.Named.{Named}
use Rattle.pst_datatree.specs.declared.named.Named.TheVariants.{Nothing}
use Rattle.pst_datatree.specs.Named.{named_at, named_by}
use Rattle.pst_datatree.specs.Data.{named_spans, data_spans}
use Rattle.pst_datatree.proofs.AddLemmas.{internal_same, entry_key}
use Rattle.pst_ndb.specs.pst_block.Table.{Table, entry_of}
use Rattle.pst_ndb.specs.pst_block.Block.{body_span}
use Rattle.pst_heap.specs.PageMap.{has_front}
use Rattle.pst_heap.specs.Values.{HeapData}
use Rattle.pst_heap.specs.Fault.{bad_span, front_fault, page_map_fault, heap_fault}

-- ---- a data block is one span

by_option : {E : Type 0} (o : Option E) (P : Option E → Type 0) → P None → ((e : E) → o ≡ Some e → P (Some e)) → P o
by_option None P none some = none
by_option (Some e) P none some = some e refl

after_test : (t : Table) (b : Bool) (named : Named) (s : Span) → (slice_get (named_spans t named) 0 ≡ Some s → named_spans t named ≡ s ∷ []) → slice_get (named_spans t (if b then Nothing else named)) 0 ≡ Some s → named_spans t (if b then Nothing else named) ≡ s ∷ []
after_test t true named s one is = absurd cc
after_test t false named s one is = one is

pub block_alone : (t : Table) (bid : ℕ) (s : Span) → is_internal bid ≡ false → slice_get (data_spans t bid) 0 ≡ Some s → data_spans t bid ≡ s ∷ []
unfolding data_spans named_by
block_alone t bid s out is =
    after_test t (is_no_block bid) (named_at t (entry_of t bid)) s
    (by_option (entry_of t bid) (λ o. slice_get (named_spans t (named_at t o)) 0 ≡ Some s → named_spans t (named_at t o) ≡ s ∷ [])
    (λ none. absurd cc)
    (λ e found there.
    let block : is_internal e.bid ≡ false = internal_same e.bid bid (entry_key t bid e found) ∙ out in
    let first : Some (body_span e) ≡ Some s = rw block at there in
    let same : body_span e ≡ s = cc in
    rw (block, same) refl))
    is

-- ---- its first fault

nothing_after : (a : Option Fault) → (a then None) ≡ a
nothing_after None = refl
nothing_after (Some f) = refl

pub alone_front : (h : HeapData) (s : Span) → h.spans ≡ s ∷ [] → has_front h.image s ≡ false → heap_fault h ≡ Some (bad_span s)
unfolding heap_fault front_fault
alone_front h s e bad = rw (e, bad) refl

pub alone_map : (h : HeapData) (s : Span) → h.spans ≡ s ∷ [] → has_front h.image s ≡ true → heap_fault h ≡ page_map_fault h.image s
unfolding heap_fault front_fault first_of
alone_map h s e good = rw (e, good) (nothing_after (page_map_fault h.image s))
