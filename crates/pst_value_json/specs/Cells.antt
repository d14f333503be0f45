-- The rows of a table as a document, with the cells that they have ([MS-PST] 2.3.4).
use Rattle.std.specs.Prelude.{ℕ, Bool, ◌%◌, List, [], ◌∷◌, ◌++◌, Option, Some, None, option_map, codes, if◌then◌else◌}
use Rattle.serde_json.specs.Data.{Data, string, object, Members, member, no_members}
use Rattle.pst_bytes.specs.declared.span.Span.{Span}
use Rattle.pst_block.specs.Table.{Table}
use Rattle.pst_ndb.specs.Roots.{Roots}
use Rattle.pst_value.specs.Class.{cell_width_of}
use Rattle.pst_tc.specs.Info.{has_width}
use Rattle.pst_tc.specs.Values.{ColumnParts, RowParts, tc_cell, tc_columns}
use Rattle.pst_value_json.specs.Columns.{distinct_columns}
use Rattle.pst_text.specs.Names.{nid_data, tag_text}
use Rattle.pst_text.specs.Parts.{list_data}
use Rattle.pst_value_json.specs.Places.{Content, joined_content, places_data, if_asked, member_if}
use Rattle.pst_text.specs.Text.{hex_data}
use Rattle.pst_value_json.specs.Value.{value_data}

-- ---- cells

-- a cell that a row has: the tag and the width of its column, and what is told of its value
pub record Cell : Type 0 where
  pub tag : ℕ
  pub width : ℕ
  pub content : Content

-- the type of a column
abbrev pub tag_kind : ℕ → ℕ
tag_kind tag = tag % 0x10000

-- a value of the column's type, where the column has the width of its type; else only bytes
abbrev pub cell_value : Cell → Data
cell_value c =
    if has_width (cell_width_of (tag_kind c.tag)) c.width then value_data (tag_kind c.tag) c.content.bytes
    else hex_data c.content.bytes

-- the members of an object that begins with places, where they are told
abbrev pub placed_members : Bool → List Span → Members
placed_members places spans = member_if (codes "places") (option_map places_data (if_asked places spans)) no_members

-- its places where they are told, its tag and its value
unfoldable pub cell_data : Bool → Cell → Data
cell_data places c =
    object
    (member_if (codes "places") (option_map places_data (if_asked places c.content.places))
    (member (codes "tag") (string (tag_text c.tag))
    (member (codes "value") (cell_value c)
    no_members)))

abbrev pub cell_with : ColumnParts → Content → Cell
cell_with c content = record { tag = c.tag; width = c.width; content = content }

-- the cell of a column, where the row has it
abbrev pub cell_in : ColumnParts → Option Content → List Cell
cell_in c None = []
cell_in c (Some content) = cell_with c content ∷ []

-- what is told of the cell that the row at a place has in the first column with a tag
abbrev pub cell_content : Table → Roots → ℕ → ℕ → Option Content
cell_content t r row tag = option_map (joined_content t.image) (tc_cell t r row tag)

-- the cells that it has in these columns
unfoldable pub cells_of : Table → Roots → ℕ → List ColumnParts → List Cell
cells_of t r row [] = []
cells_of t r row (c ∷ rest) = cell_in c (cell_content t r row c.tag) ++ cells_of t r row rest

-- ---- rows

-- a row: its cells in these columns, and its identifier
unfoldable pub row_data : Bool → Table → Roots → List ColumnParts → RowParts → Data
row_data places t r columns x =
    object
    (member (codes "cells") (list_data (cell_data places) (cells_of t r x.place.at columns))
    (member (codes "row") (nid_data x.id)
    no_members))

-- a row of the table context of a node, with its cells in all columns that are shown
abbrev pub table_row_data : Bool → Table → Roots → RowParts → Data
table_row_data places t r = row_data places t r (distinct_columns (tc_columns t r))
