-- What is told of a block by what its identifier names.
use Rattle.std.proofs.Common.{◌≡◌, ℕ, Bool, true, false, Option, Some, None, refl}
use Rattle.std.specs.Prelude.{if◌then◌else◌}
use Rattle.pst_page.specs.declared.entry.BlockEntry.{BlockEntry}
use Rattle.pst_block.specs.Table.{Table, entry_of, body_of}
use Rattle.pst_datatree.specs.declared.named.Named.{Named}
use Rattle.pst_datatree.specs.declared.named.Named.TheVariants.{Nothing, Missing, Data, Xblock, Xxblock}
use Rattle.pst_datatree.specs.Bid.{is_internal, is_no_block}
use Rattle.pst_datatree.specs.List.{has_level_two}
use Rattle.pst_datatree.specs.Named.{named_at, named_by}

-- the block B-tree has the block of an identifier
abbrev pub IsThere : Table → ℕ → BlockEntry → Type 0
IsThere t bid e = (is_no_block bid ≡ false) × (entry_of t bid ≡ Some e)

-- what holds where an identifier names this
abbrev pub IsNamed : Table → ℕ → Named → Type 0
IsNamed t bid Nothing = is_no_block bid ≡ true
IsNamed t bid Missing = (is_no_block bid ≡ false) × (entry_of t bid ≡ None)
IsNamed t bid (Data e) = IsThere t bid e × (is_internal e.bid ≡ false)
IsNamed t bid (Xblock e) = IsThere t bid e × (is_internal e.bid ≡ true) × (has_level_two (body_of t e) ≡ false)
IsNamed t bid (Xxblock e) = IsThere t bid e × (is_internal e.bid ≡ true) × (has_level_two (body_of t e) ≡ true)

pub named_is : (t : Table) (bid : ℕ) → IsNamed t bid (named_by t bid)
unfolding named_by
named_is t bid = by_name (is_no_block bid) refl
  where
    by_level : (e : BlockEntry) → IsThere t bid e → is_internal e.bid ≡ true → (v : Bool) → has_level_two (body_of t e) ≡ v → IsNamed t bid (if v then Xxblock e else Xblock e)
    by_level e there kind true h = (there, kind, h)
    by_level e there kind false h = (there, kind, h)

    by_kind : (e : BlockEntry) → IsThere t bid e → (v : Bool) → is_internal e.bid ≡ v → IsNamed t bid (if v then (if has_level_two (body_of t e) then Xxblock e else Xblock e) else Data e)
    by_kind e there true h = by_level e there h (has_level_two (body_of t e)) refl
    by_kind e there false h = (there, h)

    by_entry : is_no_block bid ≡ false → (o : Option BlockEntry) → entry_of t bid ≡ o → IsNamed t bid (named_at t o)
    by_entry some None h = (some, h)
    by_entry some (Some e) h = by_kind e (some, h) (is_internal e.bid) refl

    by_name : (v : Bool) → is_no_block bid ≡ v → IsNamed t bid (if v then Nothing else named_at t (entry_of t bid))
    by_name true h = h
    by_name false h = by_entry h (entry_of t bid) refl

pub facts_of : (t : Table) (bid : ℕ) (n : Named) → n ≡ named_by t bid → IsNamed t bid n
facts_of t bid n is = rw is (named_is t bid)
