-- The bodies of the blocks of subnode lists ([MS-PST] 2.2.2.8.3.3): btype, a byte; cLevel, a byte; cEnt, 2 bytes; padding,
-- 4 bytes; then cEnt entries. In an SLBLOCK these are SLENTRYs of 24 bytes, in an SIBLOCK SIENTRYs of 16 bytes.
use Rattle.std.specs.Prelude.{ℕ, ◌+◌, ◌*◌, Bool, ◌&&◌, nat_eq, nat_le, List, [], ◌∷◌, length}
use Rattle.pst_bytes.specs.Image.{num}
use Rattle.pst_fault.specs.First.{join_below}
use Rattle.pst_page.specs.declared.kind.PageKind.TheVariants.{Nbt}
use Rattle.pst_page.specs.Entry.{key_of}
use Rattle.pst_datatree.specs.List.{level_in, count_in, is_list_body}
use Rattle.pst_subnode.specs.declared.sub.Sub.{Sub}

-- the SLENTRY with a number (2.2.2.8.3.3.1.1): nid, 8 bytes of which the low 32 bits are the node's; bidData; bidSub
unfoldable pub sub_in : List ℕ → ℕ → Sub
sub_in body i = record {
  nid = key_of Nbt (num body (8 + 24 * i) 8);
  bid_data = num body (16 + 24 * i) 8;
  bid_sub = num body (24 + 24 * i) 8;
}

-- the block identifier of the SIENTRY with a number (2.2.2.8.3.3.2.1), behind its nid: that of an SLBLOCK
abbrev pub leaf_bid_in : List ℕ → ℕ → ℕ
leaf_bid_in body i = num body (16 + 16 * i) 8

-- btype is 2
unfoldable pub is_slblock : List ℕ → Bool
is_slblock body = is_list_body 2 0 24 body

unfoldable pub is_siblock : List ℕ → Bool
is_siblock body = is_list_body 2 1 16 body

-- cLevel is 1: the body is an SIBLOCK's, if it is any
unfoldable pub has_level_one : List ℕ → Bool
has_level_one body = nat_le 2 (length body) && nat_eq (level_in body) 1

-- the entries of an SLBLOCK, in order
abbrev pub sub_at : List ℕ → ℕ → List Sub
sub_at body i = sub_in body i ∷ []

unfoldable pub subs_in : List ℕ → List Sub
subs_in body = join_below (sub_at body) (count_in body)
