-- Which block of a subnode list a block is, and its body.
use Rattle.std.specs.Prelude.{◌≡◌, ◌+◌, ◌*◌, ◌≤◌, true, false, length}
use Rattle.pst_bytes.specs.declared.Image.{Image}
use Rattle.pst_bytes.specs.Image.{bytes_of}
use Rattle.pst_page.specs.declared.entry.BlockEntry.{BlockEntry}
use Rattle.pst_block.specs.Table.{Table, body_of}
use Rattle.pst_datatree.specs.List.{count_in}
use Rattle.pst_subnode.specs.declared.list_block.ListBlock.{ListBlock}
use Rattle.pst_subnode.specs.declared.list_block.ListBlock.TheVariants.{Slblock, Siblock, Neither}
use Rattle.pst_subnode.specs.Body.{is_slblock, is_siblock}

-- an SLBLOCK, and its body
pub record HasEntries (t : Table) (e : BlockEntry) (body : Image) : Type 0 where
  pub is : is_slblock (body_of t e) ≡ true
  pub bytes : bytes_of body ≡ body_of t e
  pub fits : 8 + 24 * count_in (bytes_of body) ≤ length (bytes_of body)

-- an SIBLOCK, and its body
pub record NamesSlblocks (t : Table) (e : BlockEntry) (body : Image) : Type 0 where
  pub other : is_slblock (body_of t e) ≡ false
  pub is : is_siblock (body_of t e) ≡ true
  pub bytes : bytes_of body ≡ body_of t e
  pub fits : 8 + 16 * count_in (bytes_of body) ≤ length (bytes_of body)

-- neither
pub record IsNoList (t : Table) (e : BlockEntry) : Type 0 where
  pub no_slblock : is_slblock (body_of t e) ≡ false
  pub no_siblock : is_siblock (body_of t e) ≡ false

-- what the classification of a block says of it
abbrev pub IsListBlock : Table → BlockEntry → ListBlock → Type 0
IsListBlock t e (Slblock body) = HasEntries t e body
IsListBlock t e (Siblock body) = NamesSlblocks t e body
IsListBlock t e Neither = IsNoList t e
