-- What the look-ups of a node answer, in the words of the file that it is of: its blocks, its memory.
use Rattle.std.specs.Prelude.{◌≡◌, ℕ, List, Option, IfSome, option_map}
use Rattle.pst_bytes.specs.declared.Image.{Image}
use Rattle.pst_bytes.specs.declared.span.Span.{Span}
use Rattle.pst_block.specs.Table.{Table}
use Rattle.pst_datatree.specs.declared.value_view.Value.{Value}
use Rattle.pst_datatree.specs.Data.{data_spans}
use Rattle.pst_datatree.specs.Relation.{HasData}
use Rattle.pst_datatree.specs.Shown.{ShowsSpans, bytes_in}
use Rattle.pst_datatree.specs.Spans.{joined_bytes}
use Rattle.pst_subnode.specs.List.{subs_of}
use Rattle.pst_subnode.specs.Relation.{HasSubs}
use Rattle.pst_ndb.specs.declared.node.Node.{Node}
use Rattle.pst_ndb.specs.Roots.{subnode_of}
use Rattle.pst_ndb.specs.Views.{image_of_node, table_of_node, nid_of, data_bid_of, sub_bid_of, roots_of}

-- a node is of a file, and is read from these blocks
abbrev pub IsNodeOf : Image → Table → Node → Type 0
IsNodeOf file t n = (image_of_node n ≡ file) × (table_of_node n ≡ t)

-- A value shows these spans of a file, as one slice of the file's own memory exactly where at most one of them has bytes; and its
-- bytes are theirs.
abbrev pub LendsSpans : Image → Table → List Span → Value → Type 0
LendsSpans file t spans v = ShowsSpans file spans v × (bytes_in v ≡ joined_bytes t.image spans)

-- ---- the clauses of `bytes` and `sub`

abbrev pub GivesBytes : Node → Value → Type 0
GivesBytes n v = LendsSpans (image_of_node n) (table_of_node n) (data_spans (table_of_node n) (data_bid_of n)) v

abbrev pub GivesSub : Node → ℕ → Option Node → Type 0
GivesSub n nid found =
    (option_map roots_of found ≡ subnode_of (table_of_node n) (roots_of n) nid)
    × IfSome found (λ s. image_of_node s ≡ image_of_node n)
    × IfSome found (λ s. table_of_node s ≡ table_of_node n)
    × IfSome found (λ s. nid_of s ≡ nid)

-- ---- and what they are then

pub record NodeLookUps (file : Image) (t : Table) (n : Node) : Type 0 where
  -- its data has a tree of blocks, and its subnodes have lists, by the grammar
  pub content : HasData t (data_bid_of n) (data_spans t (data_bid_of n))
  pub list : (height : ℕ) × HasSubs t (sub_bid_of n) height (subs_of t (sub_bid_of n))
  -- `bytes`: those of the spans of that tree, lent from the file
  pub bytes : (v : Value) → GivesBytes n v → LendsSpans file t (data_spans t (data_bid_of n)) v
  -- `sub`: the subnode with an identifier, of the same file; None exactly where the list has none
  pub sub : (nid : ℕ) (found : Option Node) → GivesSub n nid found →
      (option_map roots_of found ≡ subnode_of t (roots_of n) nid)
      × IfSome found (IsNodeOf file t) × IfSome found (λ s. nid_of s ≡ nid)
