-- The header as a document, and its line.
use Rattle.std.specs.Prelude.{ℕ, List, codes}
use Rattle.serde_json.specs.Data.{Data, object, member, no_members}
use Rattle.pst_header.specs.declared.header.Header.{Header}
use Rattle.pst_header.specs.declared.header.Bref.{Bref}
use Rattle.pst_value_json.specs.pst_text.Line.{data_line}
use Rattle.pst_value_json.specs.pst_text.Parts.{natural}

abbrev pub bref_data : Bref → Data
bref_data b = object (member (codes "bid") (natural b.bid) (member (codes "ib") (natural b.ib) no_members))

-- the members stand in the order of their keys' bytes
unfoldable pub head_data : Header → Data
head_data h =
    object
    (member (codes "bbt") (bref_data h.bbt)
    (member (codes "eof") (natural h.eof)
    (member (codes "free") (natural h.free)
    (member (codes "last_amap") (natural h.last_amap)
    (member (codes "maps_valid") (natural h.maps_valid)
    (member (codes "nbt") (bref_data h.nbt)
    (member (codes "next_block") (natural h.next_block)
    (member (codes "next_page") (natural h.next_page)
    (member (codes "version") (natural h.version)
    no_members)))))))))

-- the line that shows a header
abbrev pub head_line : Header → List ℕ
head_line h = data_line (head_data h)
