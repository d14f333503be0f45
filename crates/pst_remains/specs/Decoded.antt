-- What remains of a damaged file that is encoded, its blocks decoded ([MS-PST] 2.2.2.6, 5.1, 5.2).
use Rattle.std.specs.Prelude.{ℕ, List}
use Rattle.pst_block.specs.Table.{Table, table_with}
use Rattle.pst_encoding.specs.declared.method.Method.{Method}
use Rattle.pst_plain.specs.Twin.{with_method, data_decoded}
use Rattle.pst_remains.specs.Remains.{RemainsParts, remains_of}

-- some blocks of a file, of which the data blocks are decoded
abbrev pub table_decoded : Method → List ℕ → Table → Table
table_decoded method J t = table_with (data_decoded method t.entries J) t.entries

-- the parts of a file, with its blocks without fault decoded
abbrev pub parts_decoded : Method → List ℕ → RemainsParts → RemainsParts
parts_decoded method J r = record {
  header = r.header;
  pages = r.pages;
  blocks = r.blocks;
  maps = r.maps;
  table = table_decoded method J r.table;
  nodes = r.nodes;
  broken = r.broken;
}

-- All is judged as it is stored, but for bCryptMethod, which is 0: the header, the pages, the blocks and the maps. Then each data
-- block without fault is decoded, and its check value carried over. A block with a fault stays as it is.
unfoldable pub decoded_remains_of : Method → List ℕ → RemainsParts
decoded_remains_of method I = let J = with_method 0 I in parts_decoded method J (remains_of J)
