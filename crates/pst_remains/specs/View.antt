-- What a contract sees of what remains of a file.
use Rattle.std.specs.Prelude.{◌≡◌, ℕ, ◌≤◌, List, length, None}
use Rattle.pst_bytes.specs.declared.Image.{Image}
use Rattle.pst_bytes.specs.Image.{bytes_of}
use Rattle.pst_block.specs.Table.{Table, table_with}
use Rattle.pst_block.specs.Walk.{blocks_fault}
use Rattle.pst_remains.specs.declared.found.Found.{Found}
use Rattle.pst_remains.specs.declared.remains.Remains.{Remains}
use Rattle.pst_remains.specs.Remains.{RemainsParts, remains_of}

-- the file
abbrev pub image_in : Remains → Image
image_in r = r.image

-- the blocks without fault, by their identifiers
abbrev pub table_in : Remains → Table
table_in r = table_with (bytes_of r.image) r.good.items

-- all that it shows
abbrev pub parts_in : Remains → RemainsParts
parts_in r = record {
  header = r.header;
  pages = r.pages.items;
  blocks = r.blocks.items;
  maps = r.maps;
  table = table_in r;
  nodes = r.nodes.items;
  broken = r.broken.items;
}

-- it is what remains of the file
abbrev pub IsRemains : List ℕ → Remains → Type 0
IsRemains I r = parts_in r ≡ remains_of I

-- ---- what was found, without the bytes

-- the same, over some bytes
abbrev pub parts_over : List ℕ → Found → RemainsParts
parts_over I f = record {
  header = f.header;
  pages = f.pages.items;
  blocks = f.blocks.items;
  maps = f.maps;
  table = table_with I f.good.items;
  nodes = f.nodes.items;
  broken = f.broken.items;
}

-- its blocks lie in these bytes, and have no fault over them
pub record IsOver (I : List ℕ) (f : Found) : Type 0 where
  pub inside : f.end ≤ length I
  pub sound : blocks_fault f.end I f.good.items ≡ None

-- it is what was found of these bytes
pub record IsAllFound (I : List ℕ) (f : Found) : Type 0 where
  pub parts : parts_over I f ≡ remains_of I
  pub over : IsOver I f
