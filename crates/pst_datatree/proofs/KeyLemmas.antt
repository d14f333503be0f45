-- Block identifiers that differ in bit 0 alone name the same.
use Rattle.std.proofs.Common.{◌≡◌, ℕ, Option, Some, None, refl, sym, ap, arith}
use Rattle.std.proofs.lemmas.Bool.Decides.{nat_tests}
use Rattle.pst_fault.specs.declared.fault.Fault.{Fault}
use Rattle.pst_page.specs.Entry.{key_of}
use Rattle.pst_page.specs.declared.entry.BlockEntry.{BlockEntry}
use Rattle.pst_btree.specs.Entries.{block_with}
use Rattle.pst_block.specs.Block.{bid_key}
use Rattle.pst_block.specs.Table.{Table, entry_of}
use Rattle.pst_datatree.specs.Bid.{is_no_block}
use Rattle.pst_datatree.specs.Data.{named_spans, data_spans, named_fault, data_fault}
use Rattle.pst_fault.specs.Each.{there_or}
use Rattle.pst_datatree.specs.declared.named.Named.{Named}
use Rattle.pst_datatree.specs.declared.named.Named.TheVariants.{Nothing, Missing, Data, Xblock, Xxblock}
use Rattle.pst_datatree.specs.Named.{named_by}
use Rattle.pst_datatree.specs.Laws.{SameDataLaw}

pub none_same : (a b : ℕ) → bid_key a ≡ bid_key b → is_no_block a ≡ is_no_block b
unfolding key_of is_no_block
none_same a b e = grind (arith, nat_tests)

pub entry_same : (t : Table) (a b : ℕ) → bid_key a ≡ bid_key b → entry_of t a ≡ entry_of t b
unfolding entry_of
entry_same t a b e = ap (λ k. block_with k t.entries) e

pub named_same : (t : Table) (a b : ℕ) → bid_key a ≡ bid_key b → named_by t a ≡ named_by t b
unfolding named_by
named_same t a b e = rw (none_same a b e, entry_same t a b e) refl

pub data_spans_same : (t : Table) (a b : ℕ) → bid_key a ≡ bid_key b → data_spans t a ≡ data_spans t b
unfolding data_spans
data_spans_same t a b e = ap (named_spans t) (named_same t a b e)

pub missing_same : (f g : Fault) (part : BlockEntry → Option Fault) (o : Option BlockEntry) → there_or f part o ≡ None → there_or g part o ≡ None
missing_same f g part None h = cc
missing_same f g part (Some e) h = h

pub data_none_same : (t : Table) (a b : ℕ) → bid_key a ≡ bid_key b → data_fault t a ≡ None → data_fault t b ≡ None
unfolding data_fault
data_none_same t a b e none = rw (← named_same t a b e) (by_name (named_by t a) none)
  where
    by_name : (n : Named) → named_fault t a n ≡ None → named_fault t b n ≡ None
    by_name Nothing h = h
    by_name Missing h = cc
    by_name (Data x) h = h
    by_name (Xblock x) h = h
    by_name (Xxblock x) h = h

pub same_data_law : SameDataLaw
same_data_law t a b e = (data_spans_same t a b e, (data_none_same t a b e, data_none_same t b a (sym e)))
