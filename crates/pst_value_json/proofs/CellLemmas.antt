-- The cells of a row, column by column.
use Rattle.std.proofs.Common.{◌≡◌, ℕ, ◌+◌, ◌<◌, ◌≤◌, Bool, true, false, refl, length, drop, get_or, List, [], ◌∷◌, ◌++◌, map, Option, sym, ap, ◌∙◌, append_assoc, append-nil}
use Rattle.std.proofs.lemmas.List.{map-append, drop_more, drop_all}
use Rattle.std.specs.Prelude.{codes, option_map}
use Rattle.serde_json.specs.Data.{Data, member, no_members}
use Rattle.pst_bytes.specs.declared.span.Span.{Span}
use Rattle.pst_value_json.specs.Pen.{and_member, is_last}
use Rattle.pst_block.specs.Table.{Table}
use Rattle.pst_ndb.specs.Roots.{Roots}
use Rattle.pst_tc.specs.declared.columns.Column.{Column}
use Rattle.pst_tc.specs.Values.{ColumnParts}
use Rattle.pst_tc.specs.View.{column_of}
use Rattle.pst_value_json.specs.Cells.{cell_data, cell_in, cell_content, cells_of, placed_members}
use Rattle.pst_value_json.specs.Places.{Content, places_data, if_asked, member_if}

-- the cell of the next column stands there
cells_next : (places : Bool) (t : Table) (r : Roots) (row : ℕ) (c : ColumnParts) (left behind : List ColumnParts) (docs whole : List Data) → left ≡ c ∷ behind
    → docs ++ map (cell_data places) (cells_of t r row left) ≡ whole
    → (docs ++ map (cell_data places) (cell_in c (cell_content t r row c.tag))) ++ map (cell_data places) (cells_of t r row behind) ≡ whole
unfolding cells_of
cells_next places t r row c left behind docs whole is so_far =
    let here = cell_in c (cell_content t r row c.tag) in
    append_assoc docs (map (cell_data places) here) (map (cell_data places) (cells_of t r row behind))
    ∙ ap (λ l. docs ++ l) (sym (map-append (cell_data places) here (cells_of t r row behind)))
    ∙ rw is at so_far

-- no column is left
cells_end : (places : Bool) (t : Table) (r : Roots) (row : ℕ) (left : List ColumnParts) (docs whole : List Data) → left ≡ []
    → docs ++ map (cell_data places) (cells_of t r row left) ≡ whole → docs ≡ whole
unfolding cells_of
cells_end places t r row left docs whole is so_far = sym (append-nil docs) ∙ rw is at so_far

-- the same, of the columns from the one with a number on
pub cells_at : (places : Bool) (t : Table) (r : Roots) (row : ℕ) (columns : List Column) (i : ℕ) (d : Column) (content : Option Content) (docs new whole : List Data) → i < length columns
    → content ≡ cell_content t r row (get_or columns i d).tag → new ≡ docs ++ map (cell_data places) (cell_in (column_of (get_or columns i d)) content)
    → docs ++ map (cell_data places) (cells_of t r row (map column_of (drop i columns))) ≡ whole
    → new ++ map (cell_data places) (cells_of t r row (map column_of (drop (i + 1) columns))) ≡ whole
cells_at places t r row columns i d content docs new whole inside has is so_far =
    let c = column_of (get_or columns i d) in
    let behind = map column_of (drop (i + 1) columns) in
    ap (λ l. l ++ map (cell_data places) (cells_of t r row behind)) (is ∙ ap (λ o. docs ++ map (cell_data places) (cell_in c o)) has)
    ∙ cells_next places t r row c (map column_of (drop i columns)) behind docs whole (ap (map column_of) (drop_more columns i d inside)) so_far

pub cells_past : (places : Bool) (t : Table) (r : Roots) (row : ℕ) (columns : List Column) (i : ℕ) (docs whole : List Data) → length columns ≤ i
    → docs ++ map (cell_data places) (cells_of t r row (map column_of (drop i columns))) ≡ whole → docs ≡ whole
cells_past places t r row columns i docs whole past so_far =
    cells_end places t r row (map column_of (drop i columns)) docs whole (ap (map column_of) (drop_all i columns past)) so_far

-- ---- the members of a cell

pub last_tag : (places : Bool) (spans : List Span) → is_last (placed_members places spans) (codes "tag") ≡ true
last_tag true spans = refl
last_tag false spans = refl

pub last_value : (places : Bool) (spans : List Span) (tag : Data) → is_last (and_member (placed_members places spans) (codes "tag") tag) (codes "value") ≡ true
last_value true spans tag = refl
last_value false spans tag = refl

pub cell_members : (places : Bool) (spans : List Span) (tag value : Data) → and_member (and_member (placed_members places spans) (codes "tag") tag) (codes "value") value
    ≡ member_if (codes "places") (option_map places_data (if_asked places spans)) (member (codes "tag") tag (member (codes "value") value no_members))
cell_members true spans tag value = refl
cell_members false spans tag value = refl
