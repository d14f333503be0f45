-- The cursor only goes forward, and a tree has few pages.
use Rattle.std.proofs.Common.{◌≡◌, ℕ, zero, suc, ◌+◌, ◌-◌, ◌*◌, ◌/◌, ◌%◌, ◌^◌, ◌<◌, ◌≤◌, inl, inr, Bool, true, false, cond, eqb, leb, List, [], ◌∷◌, ◌++◌, length, map, drop, get_or, max, refl, sym, ap, ◌∙◌, arith}
use Rattle.std.proofs.lemmas.Bool.{le-leb, cases_lt}
use Rattle.std.proofs.lemmas.List.{get_or-map, drop_more, drop_all, length-map, map-append, append_assoc, append-nil}
use Rattle.std.proofs.lemmas.List.Elements.{All-weaker, All-push}
use Rattle.std.proofs.Math.Nat.{div-mul-le_self}
use Rattle.std.proofs.lemmas.Nat.{mul-le}
use Rattle.std.specs.List.{All}
use Rattle.pst_make.specs.declared.layout.Bref.{Bref}
use Rattle.pst_make.specs.declared.layout.BlockPlace.{BlockPlace}
use Rattle.pst_make.specs.declared.layout.PlacedBlock.{PlacedBlock}
use Rattle.pst_make.specs.declared.plan.BlockPlan.{BlockPlan}
use Rattle.pst_make.specs.declared.plan.Plan.{Plan}
use Rattle.pst_make.specs.Plan.{body_length, body_lengths}
use Rattle.pst_make.specs.declared.plan.MakeFault.{MakeFault}
use Rattle.pst_make.specs.declared.plan.MakeFault.TheVariants.{TooLarge, Body, Memory}
use Rattle.pst_make.specs.declared.layout.TheConstants.{FIRST_MAP}
use Rattle.pst_make.specs.Layout.{map_place, region_of, free_from, place_of, after, after_pages, after_blocks, pages_for, pages_above, branch_pages, tree_pages, layout_end, place_of_block, places_from, block_places, IsPlaceFault, IsPageBelow, IsBlockBelow}
use Rattle.pst_make.specs.Sealed.{sealed_size}

free_above : (j : ℕ) (b : Bool) → map_place j + 512 ≤ map_place j + cond b 1024 512
free_above j true = omega arith
free_above j false = omega arith

chosen : (b : Bool) (next x y : ℕ) → next ≤ x → next ≤ y → next ≤ cond b x y
chosen true next x y p q = p
chosen false next x y p q = q

pub place_forward : (next size : ℕ) → next ≤ place_of next size
unfolding place_of
place_forward next size =
    let j = region_of next in
    let here : next ≤ max next (free_from j) = omega arith in
    let below : next ≤ map_place (j + 1) = omega arith in
    let free = free_above (j + 1) (eqb ((j + 1) % 8) 0) in
    chosen (leb (max next (free_from j) + size) (map_place (j + 1))) next (max next (free_from j)) (free_from (j + 1)) here (omega (arith, free, below))

pub pages_forward : (next n : ℕ) → next ≤ after_pages next n
pages_forward next zero = omega arith
pages_forward next (suc n) = let step = place_forward next 512 in let rest = pages_forward (after next 512) n in omega (arith, step, rest)

pub blocks_forward : (next : ℕ) (lengths : List ℕ) → next ≤ after_blocks next lengths
blocks_forward next [] = omega arith
blocks_forward next (cb ∷ rest) =
    let step = place_forward next (sealed_size cb) in
    let all = blocks_forward (after next (sealed_size cb)) rest in
    omega (arith, step, all)

-- a fault of a part of the placing is one of all of it, where all of it ends no sooner
pub fault_later : (here end : ℕ) (f : MakeFault) → IsPlaceFault here f → here ≤ end → IsPlaceFault end f
fault_later here end TooLarge h le = omega (arith, h, le)
fault_later here end Body h le = h
fault_later here end Memory h le = tt

-- ---- the pages of a tree

above_few : (n : ℕ) → pages_above n + pages_above n ≤ n
above_few n =
    elim (cases_lt 1 n) [
      | inl more ↦ let e : leb n 1 ≡ false = grind arith in rw e (omega arith)
      | inr one ↦ rw (le-leb n 1 one) (omega arith)
    ]

branches_few : (k n : ℕ) → branch_pages k n ≤ n
unfolding branch_pages
branches_few zero n = omega arith
branches_few (suc k) n =
    let half = above_few n in
    let few = branches_few k (pages_above n) in
    omega (arith, half, few)

pub branches_none : (level : ℕ) → branch_pages 0 level ≡ 0
unfolding branch_pages
branches_none level = refl

-- one level more
branches_more : (k n : ℕ) → branch_pages (suc k) n ≡ pages_above n + branch_pages k (pages_above n)
unfolding branch_pages
branches_more k n = refl

pub branches_step : (i pages level next total : ℕ) → i < 15 → next ≡ pages_above level → pages + branch_pages (15 - i) level ≡ total
    → (pages + next) + branch_pages (15 - (i + 1)) next ≡ total
branches_step i pages level next total lt is so_far =
    let k : 15 - i ≡ suc (15 - (i + 1)) = omega arith in
    let e : branch_pages (15 - i) level ≡ next + branch_pages (15 - (i + 1)) next = ap (λ n. branch_pages n level) k ∙ branches_more (15 - (i + 1)) level ∙ rw (sym is) refl in
    omega (arith, e, so_far)

-- as many leaves as that, and all pages, are numbers of 64 bits
pub leaves_few : (capacity n : ℕ) → 15 ≤ capacity → pages_for capacity n ≤ n / 15 + 1
leaves_few capacity n wide =
    let q = n / capacity in
    let whole : q * capacity ≤ n = div-mul-le_self n capacity in
    let part : q * 15 ≤ q * capacity = mul-le q 15 q capacity (omega arith) wide in
    let few : q ≤ n / 15 = omega (arith, whole, part) in
    omega (arith, few)

pub tree_few : (capacity n : ℕ) → 15 ≤ capacity → n < 2 ^ 64 → pages_for capacity n + branch_pages 15 (pages_for capacity n) < 2 ^ 64
tree_few capacity n wide fits =
    let leaves = pages_for capacity n in
    let above = branches_few 15 leaves in
    let few = leaves_few capacity n wide in
    omega (arith, above, few)

-- ---- steps of placing

pub pages_step : (count i next behind total : ℕ) → i < count → after_pages next (count - i) ≡ total → behind ≡ after next 512 → after_pages behind (count - (i + 1)) ≡ total
pages_step count i next behind total lt so_far is =
    let k : count - i ≡ suc (count - (i + 1)) = omega arith in
    rw is (sym (ap (after_pages next) k) ∙ so_far)

pub pages_reach : (count i next total : ℕ) → i < count → after_pages next (count - i) ≡ total → after next 512 ≤ total
pages_reach count i next total lt so_far =
    let k : count - i ≡ suc (count - (i + 1)) = omega arith in
    let e : after_pages (after next 512) (count - (i + 1)) ≡ total = sym (ap (after_pages next) k) ∙ so_far in
    let step = pages_forward (after next 512) (count - (i + 1)) in
    omega (arith, e, step)

pub pages_below : (pages : List Bref) (page : Bref) (next behind : ℕ) → All (IsPageBelow next) pages → next ≤ behind → FIRST_MAP ≤ page.ib → page.ib + 512 ≤ behind → All (IsPageBelow behind) (pages ++ page ∷ [])
pages_below pages page next behind all le above below =
    All-push (IsPageBelow behind) pages page (All-weaker (IsPageBelow next) (IsPageBelow behind) (λ p h. (h.0, omega arith)) pages all) (above, below)

pub blocks_at : (blocks : List BlockPlan) (i : ℕ) (block : BlockPlan) → i < length blocks → block ≡ get_or blocks i block
    → drop i (body_lengths blocks) ≡ body_length block ∷ drop (i + 1) (body_lengths blocks)
blocks_at blocks i block lt is =
    let cb = body_length block in
    let long : i < length (body_lengths blocks) = rw (length-map blocks body_length) lt in
    let here : get_or (body_lengths blocks) i cb ≡ cb = get_or-map body_length blocks i block cb lt ∙ ap body_length (sym is) in
    drop_more (body_lengths blocks) i cb long ∙ ap (λ (n : ℕ). n ∷ drop (i + 1) (body_lengths blocks)) here

pub blocks_step : (blocks : List BlockPlan) (i : ℕ) (block : BlockPlan) (next behind total : ℕ) → i < length blocks → block ≡ get_or blocks i block
    → after_blocks next (drop i (body_lengths blocks)) ≡ total → behind ≡ after next (sealed_size (body_length block)) → after_blocks behind (drop (i + 1) (body_lengths blocks)) ≡ total
blocks_step blocks i block next behind total lt at so_far is =
    rw is (sym (ap (after_blocks next) (blocks_at blocks i block lt at)) ∙ so_far)

pub blocks_reach : (blocks : List BlockPlan) (i : ℕ) (block : BlockPlan) (next total : ℕ) → i < length blocks → block ≡ get_or blocks i block
    → after_blocks next (drop i (body_lengths blocks)) ≡ total → after next (sealed_size (body_length block)) ≤ total
blocks_reach blocks i block next total lt at so_far =
    let e : after_blocks (after next (sealed_size (body_length block))) (drop (i + 1) (body_lengths blocks)) ≡ total = sym (ap (after_blocks next) (blocks_at blocks i block lt at)) ∙ so_far in
    let step = blocks_forward (after next (sealed_size (body_length block))) (drop (i + 1) (body_lengths blocks)) in
    omega (arith, e, step)

pub blocks_below : (placed : List PlacedBlock) (block : PlacedBlock) (next behind : ℕ) → All (IsBlockBelow next) placed → next ≤ behind → IsBlockBelow behind block → All (IsBlockBelow behind) (placed ++ block ∷ [])
blocks_below placed block next behind all le here =
    All-push (IsBlockBelow behind) placed block (All-weaker (IsBlockBelow next) (IsBlockBelow behind) (λ p h. (h.0, h.1, omega arith)) placed all) here

-- where they lie: what is placed, and what is left, are all of it
pub places_next : (blocks : List BlockPlan) (i : ℕ) (block : BlockPlan) (placed : List PlacedBlock) (one : PlacedBlock) (next behind : ℕ) (total : List BlockPlace) → i < length blocks
    → block ≡ get_or blocks i block → one.bid ≡ block.bid → one.ib ≡ place_of next (sealed_size (body_length block)) → length one.body.now ≡ body_length block
    → behind ≡ after next (sealed_size (body_length block)) → map place_of_block placed ++ places_from next (drop i blocks) ≡ total
    → map place_of_block (placed ++ one ∷ []) ++ places_from behind (drop (i + 1) blocks) ≡ total
places_next blocks i block placed one next behind total lt at bid ib cb is so_far =
    let split : drop i blocks ≡ block ∷ drop (i + 1) blocks = drop_more blocks i block lt ∙ ap (λ (b : BlockPlan). b ∷ drop (i + 1) blocks) (sym at) in
    rw (map-append place_of_block placed (one ∷ []), append_assoc, bid, ib, cb, is) (ap (λ (l : List BlockPlan). map place_of_block placed ++ places_from next l) (sym split) ∙ so_far)

pub places_done : (blocks : List BlockPlan) (i : ℕ) (placed : List PlacedBlock) (next : ℕ) (total : List BlockPlace) → length blocks ≤ i
    → map place_of_block placed ++ places_from next (drop i blocks) ≡ total → map place_of_block placed ≡ total
places_done blocks i placed next total past so_far =
    sym (append-nil (map place_of_block placed)) ∙ ap (λ (l : List BlockPlan). map place_of_block placed ++ places_from next l) (sym (drop_all i blocks past)) ∙ so_far

-- ---- the whole

pub places_are : (plan : Plan) (node_pages block_pages one two : ℕ) (shown : List BlockPlan) (places : List BlockPlace) → shown ≡ plan.blocks.items → node_pages ≡ tree_pages 15 (length plan.nodes.items)
    → block_pages ≡ tree_pages 20 (length (body_lengths plan.blocks.items)) → one ≡ after_pages 18432 node_pages → two ≡ after_pages one block_pages → places ≡ places_from two shown → places ≡ block_places plan
unfolding block_places
places_are plan node_pages block_pages one two shown places same np bp first second is =
    is ∙ ap (places_from two) same ∙ ap (λ n. places_from n plan.blocks.items) (second ∙ rw (first, np, bp) refl)

pub end_is : (nodes node_pages block_pages : ℕ) (lengths : List ℕ) (one two three : ℕ) → node_pages ≡ tree_pages 15 nodes → block_pages ≡ tree_pages 20 (length lengths)
    → one ≡ after_pages 18432 node_pages → two ≡ after_pages one block_pages → three ≡ after_blocks two lengths → three ≡ layout_end nodes lengths
unfolding layout_end
end_is nodes node_pages block_pages lengths one two three np bp first second third =
    third ∙ ap (λ n. after_blocks n lengths) (second ∙ rw (first, np, bp) refl)

-- each part ends before the whole
pub nodes_before : (nodes node_pages : ℕ) (lengths : List ℕ) → node_pages ≡ tree_pages 15 nodes → after_pages 18432 node_pages ≤ layout_end nodes lengths
unfolding layout_end
nodes_before nodes node_pages lengths np =
    let one = after_pages 18432 (tree_pages 15 nodes) in
    let pages = pages_forward one (tree_pages 20 (length lengths)) in
    let blocks = blocks_forward (after_pages one (tree_pages 20 (length lengths))) lengths in
    rw np (omega (arith, pages, blocks))

pub pages_before : (nodes node_pages block_pages : ℕ) (lengths : List ℕ) (one : ℕ) → node_pages ≡ tree_pages 15 nodes → block_pages ≡ tree_pages 20 (length lengths)
    → one ≡ after_pages 18432 node_pages → after_pages one block_pages ≤ layout_end nodes lengths
unfolding layout_end
pages_before nodes node_pages block_pages lengths one np bp first =
    let blocks = blocks_forward (after_pages (after_pages 18432 (tree_pages 15 nodes)) (tree_pages 20 (length lengths))) lengths in
    rw (first, np, bp) blocks

pub blocks_before : (nodes node_pages block_pages : ℕ) (lengths : List ℕ) (one two : ℕ) → node_pages ≡ tree_pages 15 nodes → block_pages ≡ tree_pages 20 (length lengths)
    → one ≡ after_pages 18432 node_pages → two ≡ after_pages one block_pages → after_blocks two lengths ≤ layout_end nodes lengths
blocks_before nodes node_pages block_pages lengths one two np bp first second =
    let e = end_is nodes node_pages block_pages lengths one two (after_blocks two lengths) np bp first second refl in
    omega (arith, e)

pub tree_some : (capacity n : ℕ) → 0 < tree_pages capacity n
unfolding tree_pages
tree_some capacity n = omega arith

pub still_below : (pages : List Bref) (next behind : ℕ) → All (IsPageBelow next) pages → next ≤ behind → All (IsPageBelow behind) pages
still_below pages next behind all le = All-weaker (IsPageBelow next) (IsPageBelow behind) (λ p h. (h.0, omega arith)) pages all
