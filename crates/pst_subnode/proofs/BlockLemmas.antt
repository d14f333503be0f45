-- What a block of a list has by its classification: its entries, and the first fault of its shape.
use Rattle.std.proofs.Common.{◌≡◌, Bool, true, false, [], Some, None, refl}
use Rattle.std.specs.Prelude.{cond}
use Rattle.pst_bytes.specs.declared.Image.{Image}
use Rattle.pst_bytes.specs.Image.{bytes_of}
use Rattle.pst_fault.specs.First.{first_below, join_below}
use Rattle.pst_page.specs.declared.entry.BlockEntry.{BlockEntry}
use Rattle.pst_block.specs.Table.{Table, body_of}
use Rattle.pst_datatree.specs.List.{count_in}
use Rattle.pst_subnode.specs.Body.{has_level_one, subs_in}
use Rattle.pst_subnode.specs.List.{slblock_subs, leaf_subs, siblock_subs, block_subs, bad_list, slblock_fault, list_leaf_fault, siblock_fault, shape_fault}
use Rattle.pst_subnode.specs.ListBlock.{HasEntries, NamesSlblocks, IsNoList}
use Rattle.pst_subnode.proofs.ListLaws.{level_zero, level_one}

alike : {X : Type 0} (v : Bool) (x : X) → cond v x x ≡ x
alike true x = refl
alike false x = refl

pub slblock_all : (t : Table) (e : BlockEntry) (b : Image) → HasEntries t e b → block_subs t e ≡ subs_in (bytes_of b)
unfolding block_subs slblock_subs
slblock_all t e b w = rw (level_zero (body_of t e) w.is, w.is, w.bytes) refl

pub siblock_all : (t : Table) (e : BlockEntry) (b : Image) → NamesSlblocks t e b → block_subs t e ≡ join_below (leaf_subs t (bytes_of b)) (count_in (bytes_of b))
unfolding block_subs siblock_subs
siblock_all t e b w = rw (level_one (body_of t e) w.is, w.is, w.bytes) refl

pub neither_all : (t : Table) (e : BlockEntry) → IsNoList t e → block_subs t e ≡ []
unfolding block_subs siblock_subs slblock_subs
neither_all t e w = rw (w.no_slblock, w.no_siblock) (alike (has_level_one (body_of t e)) _)

pub slblock_shape : (t : Table) (e : BlockEntry) (b : Image) → HasEntries t e b → shape_fault t e ≡ None
unfolding shape_fault slblock_fault
slblock_shape t e b w = rw (level_zero (body_of t e) w.is, w.is) refl

pub siblock_shape : (t : Table) (e : BlockEntry) (b : Image) → NamesSlblocks t e b → shape_fault t e ≡ first_below (list_leaf_fault t e) (count_in (bytes_of b))
unfolding shape_fault siblock_fault
siblock_shape t e b w = rw (level_one (body_of t e) w.is, w.is, w.bytes) refl

pub neither_shape : (t : Table) (e : BlockEntry) → IsNoList t e → shape_fault t e ≡ Some (bad_list e)
unfolding shape_fault siblock_fault slblock_fault
neither_shape t e w = rw (w.no_slblock, w.no_siblock) (alike (has_level_one (body_of t e)) _)
