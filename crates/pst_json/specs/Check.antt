-- The report of a check as a document, and its line.
use Rattle.std.specs.Prelude.{ℕ, Option, option_map, List, codes}
use Rattle.serde_json.specs.Data.{Data, string, object, member, no_members}
use Rattle.pst_bytes.specs.declared.span.Span.{Span}
use Rattle.pst_amap.specs.declared.report.BitOrder.{BitOrder}
use Rattle.pst_amap.specs.declared.report.BitOrder.TheVariants.{High, Low}
use Rattle.pst_verify.specs.declared.report.Report.{Report}
use Rattle.pst_value_json.specs.Places.{member_if}
use Rattle.pst_value_json.specs.pst_text.Parts.{natural, list_data}
use Rattle.pst_value_json.specs.pst_text.Line.{data_line}
use Rattle.pst_value_json.specs.pst_text.Text.{hex_data}

-- ---- what is shown of a report

pub record ReportParts : Type 0 where
  pub pages : ℕ
  pub blocks : ℕ
  pub nodes : ℕ
  pub folders : ℕ
  pub messages : ℕ
  pub order : BitOrder
  pub lost : List Span

abbrev pub report_parts : Report → ReportParts
report_parts r = record { pages = r.pages; blocks = r.blocks; nodes = r.nodes; folders = r.folders; messages = r.messages; order = r.order; lost = r.lost.items }

-- ---- the document

-- a lost run
unfoldable pub lost_data : Span → Data
lost_data s = object (member (codes "at") (natural s.at) (member (codes "len") (natural s.len) no_members))

abbrev pub order_data : BitOrder → Data
order_data High = string (codes "high")
order_data Low = string (codes "low")

-- the verdict
abbrev pub yes_data : Data
yes_data = string (codes "yes")

-- the members stand in the order of their keys' bytes; the SHA-256 of the file is one of them where it is told
unfoldable pub check_data : ReportParts → Option (List ℕ) → Data
check_data r digest =
    object
    (member (codes "blocks") (natural r.blocks)
    (member (codes "folders") (natural r.folders)
    (member (codes "lost") (list_data lost_data r.lost)
    (member (codes "messages") (natural r.messages)
    (member (codes "nodes") (natural r.nodes)
    (member (codes "order") (order_data r.order)
    (member (codes "pages") (natural r.pages)
    (member_if (codes "sha256") (option_map hex_data digest)
    (member (codes "verdict") yes_data
    no_members)))))))))

-- the line that shows a report
unfoldable pub check_line : ReportParts → Option (List ℕ) → List ℕ
check_line r digest = data_line (check_data r digest)
