-- What a contract sees of what is whole of a damaged file, and of what is told of the rest.
use Rattle.pst_btree.specs.Lists.{nodes_in_list}
use Rattle.pst_block.specs.Blocks.{table_of}
use Rattle.pst_remains.specs.Remains.{RemainsParts}
use Rattle.pst_remains.specs.View.{parts_in}
use Rattle.pst_damage.specs.BrokenPages.{pages_in}
use Rattle.pst_whole.specs.declared.lost.Lost.{Lost}
use Rattle.pst_whole.specs.declared.lost.Lost.TheVariants.{Nothing, Damaged}
use Rattle.pst_whole.specs.declared.lost.LeftNodes.{LeftNodes}
use Rattle.pst_whole.specs.declared.whole.WholeNodes.{WholeNodes}
use Rattle.pst_whole.specs.Lost.{LostParts, lost_of, nothing_lost}

-- what remains of the file
abbrev pub remains_whole : WholeNodes → RemainsParts
remains_whole w = parts_in w.remains

-- what is told of identifiers
abbrev pub lost_left : LeftNodes → LostParts
lost_left l = lost_of (table_of l.blocks) (nodes_in_list l.nodes) (pages_in l.pages.now)

abbrev pub lost_in : Lost → LostParts
lost_in Nothing = nothing_lost
lost_in (Damaged left) = lost_left left
