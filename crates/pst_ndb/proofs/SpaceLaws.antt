-- The walks of a file's space find no fault exactly where the trees are spelt, the blocks are good, and all are apart.
use Rattle.std.proofs.Common.{◌≡◌, ℕ, false, List, [], ◌∷◌, ◌++◌, length, replicate, Option, Some, None, Ok, refl, sym, ap, subst, ◌∙◌}
use Rattle.std.specs.Prelude.{option_and_then}
use Rattle.std.proofs.lemmas.List.{length-replicate}
use Rattle.pst_bytes.specs.declared.span.Span.{Span}
use Rattle.pst_fault.proofs.GeneralLemmas.{some_is}
use Rattle.pst_header.specs.declared.header.Header.{Header}
use Rattle.pst_header.specs.declared.header.Bref.{Bref}
use Rattle.pst_header.specs.Header.{end_of}
use Rattle.pst_header.specs.Head.{Head}
use Rattle.pst_page.specs.declared.kind.PageKind.{PageKind}
use Rattle.pst_page.specs.declared.kind.PageKind.TheVariants.{Bbt, Nbt}
use Rattle.pst_page.specs.Page.{level_at}
use Rattle.pst_space.specs.Claimed.{Claimed, unit_total, map_pages, nothing_claimed, maps_claimed, claim_of, claim_all}
use Rattle.pst_space.specs.Apart.{AreApart, AreUnits}
use Rattle.pst_space.proofs.ApartLemmas.{apart_law, units_append}
use Rattle.pst_space.proofs.MapLemmas.{maps_law}
use Rattle.pst_space.proofs.StepLemmas.{bind_ok}
use Rattle.pst_space.proofs.UnitLemmas.{maps_units}
use Rattle.pst_btree.specs.Tree.{Tree, root_of, entries_of, pages_of, tree_at, page_spans}
use Rattle.pst_btree.specs.Walk.{found_so_far, tree_walk}
use Rattle.pst_btree.proofs.TreeLaws.{walk_claims, tree_is, spelt_level}
use Rattle.pst_btree.proofs.UnitLemmas.{tree_units}
use Rattle.pst_block.specs.Walk.{AreGood, block_spans}
use Rattle.pst_block.proofs.WalkLaws.{blocks_claims}
use Rattle.pst_block.proofs.UnitLemmas.{blocks_units}
use Rattle.pst_ndb.specs.Entries.{tree_under, block_list}
use Rattle.pst_ndb.specs.Space.{space_walk, space_claimed}
use Rattle.pst_ndb.specs.Trees.{trees_walk}
use Rattle.pst_ndb.specs.Database.{IsSpelt, blocks_in, used_spans}
use Rattle.pst_ndb.proofs.SpaceLemmas.{trees_end, trees_claim, space_ends, space_is}

-- ---- a tree that is spelt is the one that lies there

pub spelt_is : (kind : PageKind) (I : List ℕ) (end : ℕ) (root : Bref) (tree : Tree) → IsSpelt kind I end root tree → tree ≡ tree_under kind I root
spelt_is kind I end root tree (level, t) =
    tree_is kind I end level tree t.spells
    ∙ ap (λ (l : ℕ). tree_at kind I l (root_of tree)) (sym (spelt_level kind I end level tree t.spells))
    ∙ ap (λ (r : Bref). tree_at kind I (level_at I r.ib) r) t.root_is

-- ---- spans one after another

-- spans can be claimed exactly where those in front can, and then the others
pub claim_parts : (m : Claimed) (xs ys : List Span) (new : Claimed) → claim_all m (xs ++ ys) ≡ Some new → (next : Claimed) × (claim_all m xs ≡ Some next) × (claim_all next ys ≡ Some new)
claim_parts m [] ys new e = (m, refl, e)
claim_parts m (x ∷ xs) ys new e = by_claim (claim_of m x) (λ c h. claim_parts c xs ys new h) e
  where
    by_claim : (o : Option Claimed) → ((c : Claimed) → claim_all c (xs ++ ys) ≡ Some new → (next : Claimed) × (claim_all c xs ≡ Some next) × (claim_all next ys ≡ Some new))
        → option_and_then (λ (c : Claimed). claim_all c (xs ++ ys)) o ≡ Some new → (next : Claimed) × (option_and_then (λ (c : Claimed). claim_all c xs) o ≡ Some next) × (claim_all next ys ≡ Some new)
    by_claim None ih h = absurd cc
    by_claim (Some c) ih h = ih c h

pub claim_join : (m next new : Claimed) (xs ys : List Span) → claim_all m xs ≡ Some next → claim_all next ys ≡ Some new → claim_all m (xs ++ ys) ≡ Some new
claim_join m next new [] ys a b = ap (λ (c : Claimed). claim_all c ys) (some_is m next a) ∙ b
claim_join m next new (x ∷ xs) ys a b = by_claim (claim_of m x) (λ c h. claim_join c next new xs ys h b) a
  where
    by_claim : (o : Option Claimed) → ((c : Claimed) → claim_all c xs ≡ Some next → claim_all c (xs ++ ys) ≡ Some new)
        → option_and_then (λ (c : Claimed). claim_all c xs) o ≡ Some next → option_and_then (λ (c : Claimed). claim_all c (xs ++ ys)) o ≡ Some new
    by_claim None ih h = absurd cc
    by_claim (Some c) ih h = ih c h

-- ---- all of a file's spans

-- each is of whole units
pub used_units : (I : List ℕ) (h : Header) (blocks nodes : Tree) → Head I h → IsSpelt Bbt I (end_of h) h.bbt blocks → IsSpelt Nbt I (end_of h) h.nbt nodes → AreGood I (end_of h) (blocks_in I blocks)
    → AreUnits (replicate (unit_total h) false) (used_spans I h blocks nodes)
used_units I h blocks nodes head (b, bt) (n, nt) good =
    let m : Claimed = replicate (unit_total h) false in
    let long : length m ≡ unit_total h = length-replicate (unit_total h) false in
    units_append m (map_pages h) (page_spans blocks ++ page_spans nodes ++ block_spans (blocks_in I blocks)) (maps_units h m head.last_map long)
    (units_append m (page_spans blocks ++ page_spans nodes) (block_spans (blocks_in I blocks))
    (units_append m (page_spans blocks) (page_spans nodes) (tree_units Bbt I (end_of h) b m blocks long bt.spells) (tree_units Nbt I (end_of h) n m nodes long nt.spells))
    (blocks_units I (end_of h) m (blocks_in I blocks) long good))

-- and so is each page
pub pages_units : (I : List ℕ) (h : Header) (blocks nodes : Tree) → Head I h → IsSpelt Bbt I (end_of h) h.bbt blocks → IsSpelt Nbt I (end_of h) h.nbt nodes
    → AreUnits (replicate (unit_total h) false) (map_pages h ++ (page_spans blocks ++ page_spans nodes))
pages_units I h blocks nodes head (b, bt) (n, nt) =
    let m : Claimed = replicate (unit_total h) false in
    let long : length m ≡ unit_total h = length-replicate (unit_total h) false in
    units_append m (map_pages h) (page_spans blocks ++ page_spans nodes) (maps_units h m head.last_map long)
    (units_append m (page_spans blocks) (page_spans nodes) (tree_units Bbt I (end_of h) b m blocks long bt.spells) (tree_units Nbt I (end_of h) n m nodes long nt.spells))

-- they are apart exactly where, once the map pages are claimed, the others can be
pub apart_claims : (I : List ℕ) (h : Header) (spans : List Span) → AreUnits (replicate (unit_total h) false) (map_pages h ++ spans) → AreApart (map_pages h ++ spans) → (new : Claimed) × (claim_all (maps_claimed h) spans ≡ Some new)
unfolding nothing_claimed
apart_claims I h spans units apart =
    let all = (apart_law (unit_total h) (map_pages h ++ spans) units).1 apart in
    let parts = claim_parts (replicate (unit_total h) false) (map_pages h) spans all.0 all.1 in
    let same : parts.0 ≡ maps_claimed h = some_is parts.0 (maps_claimed h) (sym parts.1 ∙ maps_law h) in
    (all.0, ap (λ (c : Claimed). claim_all c spans) (sym same) ∙ parts.2)

pub claims_apart : (h : Header) (spans : List Span) (new : Claimed) → AreUnits (replicate (unit_total h) false) (map_pages h ++ spans) → claim_all (maps_claimed h) spans ≡ Some new → AreApart (map_pages h ++ spans)
unfolding nothing_claimed
claims_apart h spans new units e =
    (apart_law (unit_total h) (map_pages h ++ spans) units).0 (new, claim_join (replicate (unit_total h) false) (maps_claimed h) new (map_pages h) spans (maps_law h) e)

-- ---- the walks

pub record IsSpace (I : List ℕ) (h : Header) (blocks nodes : Tree) : Type 0 where
  pub block_tree : IsSpelt Bbt I (end_of h) h.bbt blocks
  pub node_tree : IsSpelt Nbt I (end_of h) h.nbt nodes
  pub good : AreGood I (end_of h) (blocks_in I blocks)
  pub apart : AreApart (used_spans I h blocks nodes)

list_is : (I : List ℕ) (h : Header) (blocks : Tree) → blocks ≡ tree_under Bbt I h.bbt → blocks_in I blocks ≡ block_list I h
unfolding block_list
list_is I h blocks e = ap (blocks_in I) e

-- a tree that is spelt, whose pages can be claimed, is walked
spelt_walked : (kind : PageKind) (I : List ℕ) (end : ℕ) (root : Bref) (tree : Tree) (m next : Claimed) → IsSpelt kind I end root tree → claim_all m (page_spans tree) ≡ Some next
    → tree_walk kind I end m root ≡ Ok (found_so_far next (entries_of tree) (length (pages_of tree)))
spelt_walked kind I end root tree m next (level, t) e =
    (walk_claims kind I end m root (found_so_far next (entries_of tree) (length (pages_of tree)))).1 (level, tree, t, record { entries = refl; pages = refl; claims = e })

-- where space is used as it has to be, it is walked
pub space_walked : (I : List ℕ) (h : Header) (blocks nodes : Tree) → Head I h → IsSpace I h blocks nodes → space_walk I h (maps_claimed h) ≡ Ok (space_claimed I h)
space_walked I h blocks nodes head s =
    let units = used_units I h blocks nodes head s.block_tree s.node_tree s.good in
    let all = apart_claims I h (page_spans blocks ++ page_spans nodes ++ block_spans (blocks_in I blocks)) units s.apart in
    let front = claim_parts (maps_claimed h) (page_spans blocks ++ page_spans nodes) (block_spans (blocks_in I blocks)) all.0 all.1 in
    let trees = claim_parts (maps_claimed h) (page_spans blocks) (page_spans nodes) front.0 front.1 in
    let list = list_is I h blocks (spelt_is Bbt I (end_of h) h.bbt blocks s.block_tree) in
    let last = (blocks_claims I (end_of h) front.0 all.0 (blocks_in I blocks)).0 (s.good, front.2) in
    let spelt_b = spelt_is Bbt I (end_of h) h.bbt blocks s.block_tree in
    let spelt_n = spelt_is Nbt I (end_of h) h.nbt nodes s.node_tree in
    let is = space_is I h (maps_claimed h) front.0 all.0 (blocks_in I blocks) (trees_claim I h (maps_claimed h) trees.0 front.0 blocks nodes trees.1 trees.2 spelt_b spelt_n) front.2 list in
    space_ends I h (maps_claimed h) (found_so_far front.0 (entries_of nodes) (length (pages_of nodes))) (blocks_in I blocks) (Ok (space_claimed I h))
    (trees_end I h (maps_claimed h) (found_so_far trees.0 (entries_of blocks) (length (pages_of blocks))) (found_so_far front.0 (entries_of nodes) (length (pages_of nodes)))
    (spelt_walked Bbt I (end_of h) h.bbt blocks (maps_claimed h) trees.0 s.block_tree trees.1)
    (spelt_walked Nbt I (end_of h) h.nbt nodes trees.0 front.0 s.node_tree trees.2))
    list (last ∙ ap Ok is)

-- what is walked is used as it has to be
pub walked_space : (I : List ℕ) (h : Header) (new : Claimed) → Head I h → space_walk I h (maps_claimed h) ≡ Ok new → IsSpace I h (tree_under Bbt I h.bbt) (tree_under Nbt I h.nbt) × (new ≡ space_claimed I h)
unfolding space_walk trees_walk block_list
walked_space I h new head e =
    let two = bind_ok (trees_walk I h (maps_claimed h)) _ new e in
    let one = bind_ok (tree_walk Bbt I (end_of h) (maps_claimed h) h.bbt) _ two.0 two.1 in
    let b = (walk_claims Bbt I (end_of h) (maps_claimed h) h.bbt one.0).0 one.1 in
    let n = (walk_claims Nbt I (end_of h) one.0.claimed h.nbt two.0).0 one.2 in
    let last = (blocks_claims I (end_of h) two.0.claimed new (block_list I h)).1 two.2 in
    let spelt_b : IsSpelt Bbt I (end_of h) h.bbt b.1 = (b.0, b.2) in
    let spelt_n : IsSpelt Nbt I (end_of h) h.nbt n.1 = (n.0, n.2) in
    let same_b = spelt_is Bbt I (end_of h) h.bbt b.1 spelt_b in
    let same_n = spelt_is Nbt I (end_of h) h.nbt n.1 spelt_n in
    let at_b : IsSpelt Bbt I (end_of h) h.bbt (tree_under Bbt I h.bbt) = subst (IsSpelt Bbt I (end_of h) h.bbt) same_b spelt_b in
    let at_n : IsSpelt Nbt I (end_of h) h.nbt (tree_under Nbt I h.nbt) = subst (IsSpelt Nbt I (end_of h) h.nbt) same_n spelt_n in
    let good : AreGood I (end_of h) (blocks_in I (tree_under Bbt I h.bbt)) = last.0 in
    let claims_b : claim_all (maps_claimed h) (page_spans (tree_under Bbt I h.bbt)) ≡ Some one.0.claimed = ap (λ (t : Tree). claim_all (maps_claimed h) (page_spans t)) (sym same_b) ∙ b.3.claims in
    let claims_n : claim_all one.0.claimed (page_spans (tree_under Nbt I h.nbt)) ≡ Some two.0.claimed = ap (λ (t : Tree). claim_all one.0.claimed (page_spans t)) (sym same_n) ∙ n.3.claims in
    let trees = claim_join (maps_claimed h) one.0.claimed two.0.claimed (page_spans (tree_under Bbt I h.bbt)) (page_spans (tree_under Nbt I h.nbt)) claims_b claims_n in
    let all = claim_join (maps_claimed h) two.0.claimed new (page_spans (tree_under Bbt I h.bbt) ++ page_spans (tree_under Nbt I h.nbt)) (block_spans (block_list I h)) trees last.1 in
    let units = used_units I h (tree_under Bbt I h.bbt) (tree_under Nbt I h.nbt) head at_b at_n good in (
      record { block_tree = at_b; node_tree = at_n; good = good; apart = claims_apart h _ new units all },
      space_is I h (maps_claimed h) two.0.claimed new (block_list I h)
          (trees_claim I h (maps_claimed h) one.0.claimed two.0.claimed (tree_under Bbt I h.bbt) (tree_under Nbt I h.nbt) claims_b claims_n refl refl) last.1 refl,
    )
