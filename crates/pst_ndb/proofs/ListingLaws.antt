-- Nodes are listed exactly where the file has them.
use Rattle.std.proofs.Common.{◌≡◌, ℕ, List, ◌++◌, map, length, Option, Some, None, Ok, Err, refl, sym, ap, ◌∙◌}
use Rattle.pst_fault.specs.declared.fault.Fault.{Fault}
use Rattle.pst_fault.specs.First.{answer}
use Rattle.pst_header.specs.declared.header.Header.{Header}
use Rattle.pst_header.specs.Header.{header_fault, fields, end_of}
use Rattle.pst_header.proofs.Head.{header_law, head_only}
use Rattle.pst_page.specs.declared.kind.PageKind.TheVariants.{Bbt, Nbt}
use Rattle.pst_page.specs.declared.entry.NodeEntry.{NodeEntry}
use Rattle.pst_page.specs.Entry.{node_entry_at}
use Rattle.pst_space.specs.Claimed.{maps_claimed}
use Rattle.pst_space.specs.Step.{Step, ◌>>=◌}
use Rattle.pst_btree.specs.Tree.{entries_of, pages_of, page_spans}
use Rattle.pst_btree.specs.Walk.{Found, found_so_far, tree_walk}
use Rattle.pst_btree.proofs.TreeLaws.{walk_claims}
use Rattle.pst_ndb.proofs.SpaceLaws.{claim_parts, claim_join, pages_units, apart_claims, claims_apart}
use Rattle.pst_ndb.specs.Trees.{listed, listed_under, trees_walk, listed_nodes, HasNodes, ListingLaw}

-- ---- what is listed was walked

list_is : (I : List ℕ) (nodes : List NodeEntry) (step : Step Found) → listed I step ≡ Ok nodes → (found : Found) × (step ≡ Ok found) × (nodes ≡ map (node_entry_at I) found.entries)
list_is I nodes (Ok found) e = (found, refl, cc)
list_is I nodes (Err stop) e = absurd cc

first_step : (I : List ℕ) (nodes : List NodeEntry) (step : Step Found) (next : Found → Step Found) → listed I (step >>= next) ≡ Ok nodes → (found : Found) × (step ≡ Ok found) × (listed I (next found) ≡ Ok nodes)
first_step I nodes (Ok found) next e = (found, refl, e)
first_step I nodes (Err stop) next e = absurd cc

under_header : (I : List ℕ) (nodes : List NodeEntry) (fault : Option Fault) (h : Header) → listed_under I (answer fault h) ≡ Ok nodes → (fault ≡ None) × (listed I (trees_walk I h (maps_claimed h)) ≡ Ok nodes)
under_header I nodes None h e = (refl, e)
under_header I nodes (Some f) h e = absurd cc

-- ---- and the other way round

step_again : (first : Step Found) (next : Found → Step Found) (found : Found) → first ≡ Ok found → first >>= next ≡ next found
step_again first next found e = rw e refl

has_nodes : (I : List ℕ) (nodes : List NodeEntry) → listed_nodes I ≡ Ok nodes → HasNodes I nodes
unfolding listed_nodes trees_walk
has_nodes I nodes e =
    let h = fields I in
    let (none, walks) = under_header I nodes (header_fault I) h e in
    let (b, first, rest) = first_step I nodes (tree_walk Bbt I (end_of h) (maps_claimed h) h.bbt) (λ blocks. tree_walk Nbt I (end_of h) blocks.claimed h.nbt) walks in
    let (n, second, are) = list_is I nodes (tree_walk Nbt I (end_of h) b.claimed h.nbt) rest in
    let (level, tree, t, f) = (walk_claims Bbt I (end_of h) (maps_claimed h) h.bbt b).0 first in
    let (nlevel, ntree, nt, nf) = (walk_claims Nbt I (end_of h) b.claimed h.nbt n).0 second in
    let head = (header_law I h).1 (none, refl) in
    let units = pages_units I h tree ntree head (level, t) (nlevel, nt) in
    let pages = claim_join (maps_claimed h) b.claimed n.claimed (page_spans tree) (page_spans ntree) f.claims nf.claims in
    record {
      header = h;
      head = head;
      block_level = level;
      block_tree = tree;
      is_block_tree = t;
      node_level = nlevel;
      node_tree = ntree;
      is_node_tree = nt;
      apart = claims_apart h (page_spans tree ++ page_spans ntree) n.claimed units pages;
      entries = are ∙ ap (map (node_entry_at I)) nf.entries;
    }

lists_them : (I : List ℕ) (nodes : List NodeEntry) → HasNodes I nodes → listed_nodes I ≡ Ok nodes
unfolding listed_nodes trees_walk
lists_them I nodes has =
    let h = has.header in
    let units = pages_units I h has.block_tree has.node_tree has.head (has.block_level, has.is_block_tree) (has.node_level, has.is_node_tree) in
    let all = apart_claims I h (page_spans has.block_tree ++ page_spans has.node_tree) units has.apart in
    let parts = claim_parts (maps_claimed h) (page_spans has.block_tree) (page_spans has.node_tree) all.0 all.1 in
    let b = found_so_far parts.0 (entries_of has.block_tree) (length (pages_of has.block_tree)) in
    let n = found_so_far all.0 (entries_of has.node_tree) (length (pages_of has.node_tree)) in
    let first = (walk_claims Bbt I (end_of h) (maps_claimed h) h.bbt b).1 (has.block_level, has.block_tree, has.is_block_tree, record { entries = refl; pages = refl; claims = parts.1 }) in
    let second = (walk_claims Nbt I (end_of h) parts.0 h.nbt n).1 (has.node_level, has.node_tree, has.is_node_tree, record { entries = refl; pages = refl; claims = parts.2 }) in
    let both = step_again (tree_walk Bbt I (end_of h) (maps_claimed h) h.bbt) (λ blocks. tree_walk Nbt I (end_of h) blocks.claimed h.nbt) b first ∙ second in
    ap (listed_under I) (head_only I h has.head) ∙ ap (listed I) both ∙ ap (λ x. Ok x) (sym has.entries)

pub listing_law : ListingLaw
listing_law I nodes = (has_nodes I nodes, lists_them I nodes)
