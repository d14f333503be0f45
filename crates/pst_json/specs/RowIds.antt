-- What is known of the rows of tables, by their data: only what is true is known. Rows that nobody asks for are not among them.
use Rattle.std.specs.Prelude.{◌≡◌, ℕ, Bool, true, Some, List, map}
use Rattle.std.specs.BTreeMap.{get}
use Rattle.std.specs.Global.{Vec}
use Rattle.std.specs.List.{filter}
use Rattle.std.specs.Ordering.{nat_cmp}
use Rattle.std.proofs.Props.{props}
use Rattle.pst_block.specs.Block.{bid_key}
use Rattle.pst_block.specs.Table.{Table}
use Rattle.pst_ndb.specs.Roots.{Roots}
use Rattle.pst_value_json.specs.pst_tc.Values.{row_id_of, tc_rows}
use Rattle.pst_json.specs.declared.row_ids.RowIds.{RowIds}

-- all identifiers are asked for
abbrev pub all_asked : ℕ → Bool
all_asked nid = true

-- the identifiers of a table's rows that are
abbrev pub ids_asked : (ℕ → Bool) → Table → Roots → List ℕ
ids_asked asked t r = filter asked (map row_id_of (tc_rows t r))

-- they are those of each table with this data
abbrev pub AreIdsOf : (ℕ → Bool) → Table → ℕ → List ℕ → Type 0
AreIdsOf asked t block nids = (r : Roots) → bid_key r.bid_data ≡ block → nids ≡ ids_asked asked t r

-- all that is known is true
unfoldable pub AreRowIdsTrue : (ℕ → Bool) → Table → RowIds → Type 0
AreRowIdsTrue asked t c = (block : ℕ) (nids : Vec ℕ) → get nat_cmp c.tables block ≡ Some nids → AreIdsOf asked t block nids.items

-- which has one proof, so a struct may keep it
pub AreRowIdsTrue-prop : (asked : ℕ → Bool) (t : Table) (c : RowIds) → IsProp (AreRowIdsTrue asked t c)
unfolding AreRowIdsTrue
AreRowIdsTrue-prop asked t c = hlevel props
