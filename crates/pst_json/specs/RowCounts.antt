-- How many rows tables have, as far as they were counted: only what is true is known. So what is known of one
-- message is so of each that names the same list of subnodes, and what is known of one table of each with the same data.
use Rattle.std.specs.Prelude.{◌≡◌, ℕ, Some, length}
use Rattle.std.specs.BTreeMap.{get}
use Rattle.std.specs.Ordering.{nat_cmp}
use Rattle.std.proofs.Props.{props}
use Rattle.pst_block.specs.Block.{bid_key}
use Rattle.pst_block.specs.Table.{Table}
use Rattle.pst_ndb.specs.Roots.{Roots, subnode_of}
use Rattle.pst_msg.specs.RowCounts.{IsCountOf}
use Rattle.pst_verify.specs.pst_msg.Shown.{attachment_rows}
use Rattle.pst_json.specs.declared.row_counts.Held.{Held}
use Rattle.pst_json.specs.declared.row_counts.RowCounts.{RowCounts}
use Rattle.pst_json.specs.Folders.{row_total}
use Rattle.pst_props.specs.Node.{recipient_nid}

-- a message has so many attachments and recipients
abbrev pub IsHeld : Table → Roots → Held → Type 0
IsHeld t r held = (held.attachments ≡ length (attachment_rows t r)) × (held.recipients ≡ row_total t (subnode_of t r recipient_nid))

-- each message with a list of subnodes has
abbrev pub IsHeldBy : Table → ℕ → Held → Type 0
IsHeldBy t list held = (r : Roots) → bid_key r.bid_sub ≡ list → IsHeld t r held

abbrev pub AreListsTrue : Table → RowCounts → Type 0
AreListsTrue t c = (list : ℕ) (held : Held) → get nat_cmp c.lists list ≡ Some held → IsHeldBy t list held

abbrev pub AreTablesTrue : Table → RowCounts → Type 0
AreTablesTrue t c = (block count : ℕ) → get nat_cmp c.tables block ≡ Some count → IsCountOf t block count

-- all that is known is true
unfoldable pub AreCountsTrue : Table → RowCounts → Type 0
AreCountsTrue t c = AreListsTrue t c × AreTablesTrue t c

-- which has one proof, so a struct may keep it
pub AreCountsTrue-prop : (t : Table) (c : RowCounts) → IsProp (AreCountsTrue t c)
unfolding AreCountsTrue
AreCountsTrue-prop t c = hlevel props
