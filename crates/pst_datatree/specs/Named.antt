-- What a block identifier names: no block, one that the block B-tree lacks, or one of three kinds of blocks ([MS-PST]
-- 2.2.2.8.3).
use Rattle.std.specs.Prelude.{ℕ, ⊤, List, Option, Some, None, if◌then◌else◌}
use Rattle.std.proofs.Props.{props}
use Rattle.pst_page.specs.declared.entry.BlockEntry.{BlockEntry}
use Rattle.pst_block.specs.Table.{Table, entry_of, body_of, IsWithin}
use Rattle.pst_datatree.specs.declared.named.Named.{Named}
use Rattle.pst_datatree.specs.declared.named.Named.TheVariants.{Nothing, Missing, Data, Xblock, Xxblock}
use Rattle.pst_datatree.specs.Bid.{is_internal, is_no_block}
use Rattle.pst_datatree.specs.List.{has_level_two}

-- the block with an entry; an internal block is an XBLOCK or an XXBLOCK by its level
abbrev pub named_at : Table → Option BlockEntry → Named
named_at t None = Missing
named_at t (Some e) = if is_internal e.bid then (if has_level_two (body_of t e) then Xxblock e else Xblock e) else Data e

unfoldable pub named_by : Table → ℕ → Named
named_by t bid = if is_no_block bid then Nothing else named_at t (entry_of t bid)

-- a fact of the block that is named, if one is
abbrev pub IfBlock : Named → (BlockEntry → Type 0) → Type 0
IfBlock Nothing Is = ⊤
IfBlock Missing Is = ⊤
IfBlock (Data e) Is = Is e
IfBlock (Xblock e) Is = Is e
IfBlock (Xxblock e) Is = Is e

-- that its body lies in the file has one proof, so a view may keep it
pub IfWithin-prop : (I : List ℕ) (named : Named) → IsProp (IfBlock named (IsWithin I))
IfWithin-prop I Nothing = hlevel props
IfWithin-prop I Missing = hlevel props
IfWithin-prop I (Data e) = hlevel props
IfWithin-prop I (Xblock e) = hlevel props
IfWithin-prop I (Xxblock e) = hlevel props
