-- The columns of a table that are shown ([MS-PST] 2.3.4.2).
use Rattle.std.specs.Prelude.{◌≡◌, ℕ, Bool, nat_eq, List, [], ◌∷◌, ◌++◌, map, if◌then◌else◌}
use Rattle.std.specs.List.{list_any}
use Rattle.pst_ndb.specs.Views.{table_of_node, roots_of}
use Rattle.pst_tc.specs.declared.columns.Column.{Column}
use Rattle.pst_tc.specs.declared.tc.Tc.{Tc}
use Rattle.pst_tc.specs.Tc.{node_of_tc}
use Rattle.pst_tc.specs.Values.{ColumnParts, tc_columns}
use Rattle.pst_tc.specs.View.{column_of}

-- a column with this tag is among them
abbrev pub has_tag : ℕ → List ColumnParts → Bool
has_tag tag columns = list_any (λ c. nat_eq c.tag tag) columns

-- one more, unless an earlier one has its tag
abbrev pub with_column : List ColumnParts → ColumnParts → List ColumnParts
with_column shown c = if has_tag c.tag shown then shown else shown ++ c ∷ []

abbrev pub with_columns : List ColumnParts → List ColumnParts → List ColumnParts
with_columns shown [] = shown
with_columns shown (c ∷ rest) = with_columns (with_column shown c) rest

-- all columns in order, but for those whose tag an earlier one has
unfoldable pub distinct_columns : List ColumnParts → List ColumnParts
distinct_columns columns = with_columns [] columns

-- these columns are those that are shown of a table context
abbrev pub AreShown : Tc → List Column → Type 0
AreShown tc columns =
    let node = node_of_tc tc in
    map column_of columns ≡ distinct_columns (tc_columns (table_of_node node) (roots_of node))
