-- The rows of an attachment table that are left, where nothing is at fault.
use Rattle.std.specs.Prelude.{◌≡◌, Option, Some, None, List, []}
use Rattle.pst_fault.specs.Each.{first_of}
use Rattle.pst_block.specs.Table.{Table}
use Rattle.pst_ndb.specs.Roots.{Roots}
use Rattle.pst_tc.specs.declared.rows.Rows.{Rows}
use Rattle.pst_tc.specs.Left.{tc_rows_left}
use Rattle.pst_tc.specs.Values.{RowParts}
use Rattle.pst_mail.specs.Fault.{attachment_row_fault, attachment_fault}

-- those of an iterator, where there is a table
abbrev pub rows_of_rest : Option Rows → List RowParts
rows_of_rest None = []
rows_of_rest (Some rest) = tc_rows_left rest

-- each of them names an attachment
abbrev pub NameAttachments : Table → Roots → List RowParts → Type 0
NameAttachments t r rows = first_of (attachment_row_fault t (attachment_fault t) r 0) rows ≡ None
