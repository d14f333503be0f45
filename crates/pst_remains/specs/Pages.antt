-- The pages of a tree of a damaged file, from its root on, each before the pages that it names: the faults of those that have one,
-- and the leaves that are left.
use Rattle.std.specs.Prelude.{ℕ, zero, suc, ◌+◌, Bool, true, false, not, ◌&&◌, ◌||◌, nat_eq, nat_le, List, [], ◌∷◌, ◌++◌, Option, Some, None, is_none, if◌then◌else◌}
use Rattle.pst_bytes.specs.Image.{num}
use Rattle.pst_fault.specs.declared.fault.Fault.{Fault}
use Rattle.pst_fault.specs.First.{◌then◌}
use Rattle.pst_header.specs.declared.header.Bref.{Bref}
use Rattle.pst_page.specs.declared.kind.PageKind.{PageKind}
use Rattle.pst_page.specs.declared.kind.PageKind.TheVariants.{Bbt, Nbt}
use Rattle.pst_page.specs.Entry.{key_at, child_at}
use Rattle.pst_page.specs.Fault.{page_place_fault, page_shape_fault, level_fault, has_page_trailer}
use Rattle.pst_page.specs.Page.{page_type, entries_at, level_at}
use Rattle.pst_space.specs.Claimed.{Claimed, with_span}
use Rattle.pst_btree.specs.Order.{order_fault, is_below}
use Rattle.pst_btree.specs.Tree.{span_of}
use Rattle.pst_btree.specs.Walk.{body_fault, next_key}
use Rattle.pst_remains.specs.declared.pages.Broken.{Broken}
use Rattle.pst_remains.specs.Judged.{overlap_fault}

-- its place, and whether something lies there
unfoldable pub claim_fault : ℕ → Claimed → Bref → Option Fault
claim_fault end claimed page = page_place_fault end page then overlap_fault claimed (span_of page) page.bid

-- The first fault of a page under its bounds, beside what is claimed: its place, whether something lies there, its trailer and its
-- shape, its level, and the order of its keys.
unfoldable pub page_damage : PageKind → List ℕ → ℕ → ℕ → Claimed → Bref → ℕ → Option ℕ → Option Fault
page_damage kind I end level claimed page low high = claim_fault end claimed page then body_fault kind I level page low high

-- ---- pages that are followed

-- its two type bytes are right ([MS-PST] 2.2.2.7.1)
abbrev pub has_types : PageKind → List ℕ → Bref → Bool
has_types kind I page = nat_eq (num I (page.ib + 496) 1) (page_type kind) && nat_eq (num I (page.ib + 497) 1) (page_type kind)

-- it is a leaf of the node B-tree: what it says of its nodes nothing else confirms
abbrev pub is_node_leaf : PageKind → ℕ → Bool
is_node_leaf Nbt zero = true
is_node_leaf Bbt zero = false
is_node_leaf kind (suc level) = false

-- its shape, its level and the order of its keys, whatever its trailer says
unfoldable pub inner_fault : PageKind → List ℕ → ℕ → Bref → ℕ → Option ℕ → Option Fault
inner_fault kind I level page low high =
    page_shape_fault kind I page then level_fault I level page then order_fault kind I page.bid low high (entries_at I page.ib)

-- Its types are right, it has no fault of shape or order, and it is no leaf of the node B-tree: each page and block that it names has
-- a trailer of its own that must fit.
unfoldable pub leads_on : PageKind → List ℕ → ℕ → Bref → ℕ → Option ℕ → Bool
leads_on kind I level page low high = has_types kind I page && not (is_node_leaf kind level) && is_none (inner_fault kind I level page low high)

-- A page is followed where nothing but its trailer is wrong, and it leads on.
unfoldable pub is_followed : PageKind → List ℕ → ℕ → ℕ → Claimed → Bref → ℕ → Option ℕ → Bool
is_followed kind I end level claimed page low high =
    is_none (claim_fault end claimed page) && not (has_page_trailer kind I page) && leads_on kind I level page low high

-- What a page names is looked at where it has no fault, and where it is followed.
unfoldable pub is_open : PageKind → List ℕ → ℕ → ℕ → Claimed → Bref → ℕ → Option ℕ → Bool
is_open kind I end level claimed page low high =
    is_none (page_damage kind I end level claimed page low high) || is_followed kind I end level claimed page low high

-- ---- what lies behind a page with a fault

-- A key lies behind a page with a fault where it is sought by way of it: from `from` on and, where there is a `high`, below it.
abbrev pub lies_behind : ℕ → Broken → Bool
lies_behind key b = nat_le b.from key && is_below key b.high

-- the first of some pages behind which a key lies
unfoldable pub page_before : List Broken → ℕ → Option Broken
page_before [] key = None
page_before (b ∷ rest) key = if lies_behind key b then Some b else page_before rest key

-- ---- the walk

-- what is found so far: what is claimed, the pages with a fault, and the places of the leaves that are left
pub record Left : Type 0 where
  pub claimed : Claimed
  pub broken : List Broken
  pub leaves : List ℕ

abbrev pub left_so_far : Claimed → List Broken → List ℕ → Left
left_so_far claimed broken leaves = record { claimed = claimed; broken = broken; leaves = leaves }

-- the entries of leaves
abbrev pub leaf_entries : List ℕ → List ℕ → List ℕ
leaf_entries I [] = []
leaf_entries I (ib ∷ rest) = entries_at I ib ++ leaf_entries I rest

-- A page with a fault is told, and claims nothing; one without a fault claims its space.
abbrev pub told_page : Option Fault → Left → Bref → ℕ → Option ℕ → Left
told_page None left page from high = left_so_far (with_span left.claimed (span_of page)) left.broken left.leaves
told_page (Some f) left page from high =
    left_so_far left.claimed (left.broken ++ record { fault = f; from = from; high = high } ∷ []) left.leaves

-- a page alone, under its bounds, by way of which keys from `from` on are sought
unfoldable pub with_page : PageKind → List ℕ → ℕ → ℕ → Left → Bref → ℕ → ℕ → Option ℕ → Left
with_page kind I end level left page from low high =
    told_page (page_damage kind I end level left.claimed page low high) left page from high

-- what is done at a page, by way of which keys from a first one on are sought, under its bounds
abbrev pub Look : Type 0
Look = Left → Bref → ℕ → ℕ → Option ℕ → Left

-- the key with which those of a page end, where others follow
abbrev pub keys_end : Option ℕ → ℕ
keys_end None = 0
keys_end (Some high) = high

-- The pages that the entries name, from left to right. A key below that of the first entry is sought by way of the first; and
-- where the keys of one page end, those of the next begin.
unfoldable pub look_each : PageKind → List ℕ → Look → ℕ → Option ℕ → Left → List ℕ → Left
look_each kind I look from high left [] = left
look_each kind I look from high left (at ∷ rest) =
    look_each kind I look (keys_end (next_key kind I rest high)) high
    (look left (child_at I at) from (key_at kind I at) (next_key kind I rest high)) rest

-- a leaf that is left
abbrev pub with_leaf : Bref → Left → Left
with_leaf page left = left_so_far left.claimed left.broken (left.leaves ++ page.ib ∷ [])

-- goes on below a page that is open
abbrev pub look_on : Bool → (Left → Left) → Left → Left
look_on true below left = below left
look_on false below left = left

-- a page of this level, and all below it that is looked at
unfoldable pub look_at : PageKind → List ℕ → ℕ → ℕ → Look
look_at kind I end zero left page from low high =
    look_on (is_open kind I end 0 left.claimed page low high) (with_leaf page) (with_page kind I end 0 left page from low high)
look_at kind I end (suc level) left page from low high =
    look_on (is_open kind I end (suc level) left.claimed page low high)
    (λ passed. look_each kind I (look_at kind I end level) from high passed (entries_at I page.ib))
    (with_page kind I end (suc level) left page from low high)

-- a whole tree, from its root: all keys are sought by way of it, and it has the level that it says
abbrev pub tree_left : PageKind → List ℕ → ℕ → Claimed → Bref → Left
tree_left kind I end claimed root = look_at kind I end (level_at I root.ib) (left_so_far claimed [] []) root 0 0 None

-- the faults of pages, in order
abbrev pub faults_of : List Broken → List Fault
faults_of [] = []
faults_of (b ∷ rest) = b.fault ∷ faults_of rest
