-- What a file says that it spells, read with no check.
use Rattle.std.specs.Prelude.{ℕ, List, ◌++◌}
use Rattle.pst_bytes.specs.declared.span.Span.{Span}
use Rattle.pst_header.specs.Header.{fields, end_of, amap_count_of}
use Rattle.pst_page.specs.declared.kind.PageKind.TheVariants.{Bbt, Nbt}
use Rattle.pst_space.specs.Claimed.{unit_total}
use Rattle.pst_amap.specs.declared.report.BitOrder.{BitOrder}
use Rattle.pst_amap.specs.Marks.{bit_order_of}
use Rattle.pst_amap.specs.Values.{old_pages, runs_beside}
use Rattle.pst_ndb.specs.Database.{used_spans}
use Rattle.pst_ndb.specs.Entries.{tree_under}
use Rattle.pst_ndb.specs.Space.{space_claimed}
use Rattle.pst_store.specs.Parts.{StoreParts}

-- the order of bits of its maps, and the spans in use
abbrev pub order_in : List ℕ → BitOrder
order_in I = bit_order_of I (space_claimed I (fields I))

abbrev pub spans_in_use : List ℕ → List Span
spans_in_use I = used_spans I (fields I) (tree_under Bbt I (fields I).bbt) (tree_under Nbt I (fields I).nbt)

-- the old map pages, and the lost runs
unfoldable pub old_in : List ℕ → List Span
old_in I = old_pages (order_in I) I (end_of (fields I)) (spans_in_use I) (amap_count_of (fields I))

unfoldable pub lost_runs_in : List ℕ → List Span
lost_runs_in I = runs_beside (order_in I) I (unit_total (fields I)) (spans_in_use I ++ old_in I)

unfoldable pub store_in : List ℕ → StoreParts
store_in I = record {
  header = fields I;
  blocks = tree_under Bbt I (fields I).bbt;
  nodes = tree_under Nbt I (fields I).nbt;
  order = order_in I;
  old = old_in I;
  lost = lost_runs_in I;
}
