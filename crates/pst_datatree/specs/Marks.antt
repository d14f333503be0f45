-- Where the parts of a data tree begin: how many spans come before each.
use Rattle.std.specs.Prelude.{◌≡◌, ℕ, ◌+◌, ◌*◌, ◌<◌, ◌≤◌, None, Some, length, slice_get}
use Rattle.std.proofs.Props.{props}
use Rattle.pst_fault.specs.First.{join_below}
use Rattle.pst_block.specs.Table.{Table, IsWithin}
use Rattle.pst_datatree.specs.declared.found.FoundPart.{FoundPart}
use Rattle.pst_datatree.specs.declared.marks.Marks.{Marks}
use Rattle.pst_datatree.specs.Named.{IfBlock, IfWithin-prop}
use Rattle.pst_datatree.specs.Data.{named_spans, data_spans, tree_fault}
use Rattle.pst_datatree.specs.Parts.{part_spans}

-- how many spans of a data tree come before the part with a number
unfoldable pub start_of : Table → ℕ → ℕ → ℕ
start_of t bid i = length (join_below (part_spans t bid) i)

-- the marks tell where every 32nd part behind the first one begins
abbrev pub AreMarks : (ℕ → ℕ) → Marks → Type 0
AreMarks start marks = (k : ℕ) → k < marks.count → slice_get marks.starts k ≡ Some (start (32 * (k + 1)))

-- a part that was found: its spans are those of the data tree from where it begins
pub record IsFound (t : Table) (bid : ℕ) (f : FoundPart) : Type 0 where
  pub start : f.before ≡ start_of t bid f.part
  pub spans : (k : ℕ) → k < f.len → slice_get (data_spans t bid) (f.before + k) ≡ slice_get (named_spans t f.named) k
  pub sound : tree_fault t f.named ≡ None
  pub there : IfBlock f.named (IsWithin t.image)

-- which has one proof, so a view may keep it
pub IsFound-prop : (t : Table) (bid : ℕ) (f : FoundPart) → IsProp (IsFound t bid f)
IsFound-prop t bid f = hlevel (props, IfWithin-prop)

-- the span with a number is one of a part's
abbrev pub HasSpan : FoundPart → ℕ → Type 0
HasSpan f n = (f.before ≤ n) × (n < f.before + f.len)
