-- The types of properties ([MS-OXCDATA] 2.11.1), by one table: how their values are kept ([MS-PST] 2.3.3.3), the widths of cells
-- (2.3.4.4), how each of several values is found (2.3.3.4.1, 2.3.3.4.2), and how a single value is shown.
use Rattle.std.specs.Prelude.{ℕ, Bool, false, ◌||◌, nat_eq, Option, Some, None, List, [], ◌∷◌, if◌then◌else◌}
use Rattle.pst_value.specs.declared.class.Class.{Class}
use Rattle.pst_value.specs.declared.class.Class.TheVariants.{Inline, Eight, Guid, Object, Open, Multi, Opaque}
use Rattle.pst_value.specs.declared.form.Form.{Form}
use Rattle.pst_value.specs.declared.form.Form.TheVariants as form
use Rattle.pst_value.specs.declared.type_row.Several.{Several}
use Rattle.pst_value.specs.declared.type_row.Several.TheVariants.{No, Wide, Listed}
use Rattle.pst_value.specs.declared.type_row.TypeRow.{TypeRow}

-- ---- what is said of a type

-- a type of single values: how they are kept, how many bytes a cell has, how a value is shown
abbrev pub single : Class → ℕ → Form → TypeRow
single c width f = record { class = c; cell = Some width; several = No; form = f }

-- a type of several values, which an HNID names
abbrev pub of_several : Several → TypeRow
of_several s = record { class = Multi; cell = Some 4; several = s; form = form.Open }

-- a type that is not listed
abbrev pub unlisted : TypeRow
unlisted = record { class = Opaque; cell = None; several = No; form = form.Open }

-- ---- the table

-- the number is one of these
abbrev pub is_one_of : List ℕ → ℕ → Bool
is_one_of [] t = false
is_one_of (n ∷ ns) t = nat_eq t n || is_one_of ns t

-- the numbers of types, and what is said of each of them
abbrev pub type_rows : List (List ℕ × TypeRow)
type_rows =
    (0x0002 ∷ [], single Inline 2 form.Int16)
    ∷ (0x0003 ∷ [], single Inline 4 form.Int32)
    ∷ (0x0004 ∷ [], single Inline 4 form.Fixed)
    ∷ (0x0005 ∷ 0x0007 ∷ [], single Eight 8 form.Fixed)
    ∷ (0x0006 ∷ 0x0014 ∷ [], single Eight 8 form.Int64)
    ∷ (0x000A ∷ [], single Inline 4 form.Nat32)
    ∷ (0x000B ∷ [], single Inline 1 form.Truth)
    ∷ (0x000D ∷ [], single Object 4 form.Object)
    ∷ (0x001E ∷ 0x00FB ∷ 0x00FD ∷ 0x00FE ∷ 0x0102 ∷ [], single Open 4 form.Open)
    ∷ (0x001F ∷ [], single Open 4 form.Text)
    ∷ (0x0040 ∷ [], single Eight 8 form.Nat64)
    ∷ (0x0048 ∷ [], single Guid 4 form.Guid)
    ∷ (0x1002 ∷ [], of_several (Wide 2))
    ∷ (0x1003 ∷ 0x1004 ∷ [], of_several (Wide 4))
    ∷ (0x1005 ∷ 0x1006 ∷ 0x1007 ∷ 0x1014 ∷ 0x1040 ∷ [], of_several (Wide 8))
    ∷ (0x1048 ∷ [], of_several (Wide 16))
    ∷ (0x101E ∷ 0x101F ∷ 0x1102 ∷ [], of_several Listed)
    ∷ []

abbrev pub row_in : List (List ℕ × TypeRow) → ℕ → TypeRow
row_in [] t = unlisted
row_in (row ∷ rows) t = if is_one_of row.0 t then row.1 else row_in rows t

unfoldable pub type_row : ℕ → TypeRow
type_row t = row_in type_rows t

-- ---- what the table says

-- how values of a type are kept
abbrev pub class_of : ℕ → Class
class_of t = (type_row t).class

-- how many bytes a cell has in a row; none for a type that is not listed
abbrev pub cell_width_of : ℕ → Option ℕ
cell_width_of t = (type_row t).cell

-- how a single value is shown
abbrev pub form_of : ℕ → Form
form_of t = (type_row t).form
