-- Each step of the walk of lists leaves less to be walked.
use Rattle.std.proofs.Common.{◌≡◌, ℕ, zero, suc, ◌+◌, ◌-◌, ◌*◌, ◌<◌, ◌≤◌, List, [], ◌∷◌, ◌++◌, length, length-append, refl, ap, ◌∙◌, arith, inl, inr}
use Rattle.std.specs.Prelude.{reverse}
use Rattle.std.proofs.lemmas.List.{reverse-append}
use Rattle.std.proofs.lemmas.Bool.{cases_lt}
use Rattle.std.proofs.lemmas.Nat.{mul-le}
use Rattle.std.proofs.Math.Nat.{suc-mul}
use Rattle.pst_bytes.specs.Image.{bytes_of}
use Rattle.pst_fault.specs.First.{join_from}
use Rattle.pst_block.specs.Blocks.{table_of}
use Rattle.pst_subnode.specs.declared.sub.Sub.{Sub}
use Rattle.pst_subnode.specs.declared.entries.Subs.{Subs}
use Rattle.pst_subnode.specs.declared.frame.LeafBlocks.{LeafBlocks}
use Rattle.pst_subnode.specs.declared.frame.Below.TheVariants.{Entries, Leaves}
use Rattle.pst_subnode.specs.Body.{sub_in}
use Rattle.pst_subnode.specs.List.{leaf_subs}
use Rattle.pst_subnode.specs.Left.{sub_entries_left, leaves_left, subs_left}
use Rattle.pst_subnode.specs.declared.frame.Frame.{Frame}
use Rattle.pst_subnode.specs.Weight.{unit_weight, frame_weight, stack_weight, below_rank}

pub last_first : {X : Type 0} (xs : List X) (x : X) → reverse (xs ++ (x ∷ [])) ≡ x ∷ reverse xs
last_first xs x = reverse-append xs (x ∷ [])

unit_next : (r : ℕ) → unit_weight (suc r) ≡ 65536 * unit_weight r + 3
unfolding unit_weight
unit_next r = refl

-- a unit of a higher rank weighs no less
pub unit_rises : (low high : ℕ) → low ≤ high → unit_weight low ≤ unit_weight high
unit_rises low zero le = let same : low ≡ 0 = omega arith in rw same (omega arith)
unit_rises low (suc high) le =
    elim (cases_lt low (suc high)) [
      | inl less ↦ omega (arith, unit_rises low high (omega (arith, less)), unit_next high)
      | inr least ↦ let same : low ≡ suc high = omega arith in rw same (omega arith)
    ]

pub unit_least : (r : ℕ) → 2 ≤ unit_weight r
unfolding unit_weight
unit_least zero = omega arith
unit_least (suc r) = omega arith

-- a list with fewer than 65,536 units weighs less than one unit of the next rank
pub list_light : (rank left : ℕ) → left < 65536 → left * unit_weight rank + 2 < unit_weight (rank + 1)
list_light rank left few =
    let more : rank + 1 ≡ suc rank = omega arith in
    let most : left * unit_weight rank ≤ 65535 * unit_weight rank = mul-le left (unit_weight rank) 65535 (unit_weight rank) (omega (arith, few)) (omega arith) in
    rw more (omega (arith, unit_next rank, most))

-- one unit is taken from a list
pub unit_taken : (left more rank : ℕ) → left + 1 ≡ more → left * unit_weight rank + 2 + unit_weight rank ≡ more * unit_weight rank + 2
unit_taken left more rank is =
    let are : more ≡ suc left = omega (arith, is) in
    rw are (omega (arith, suc-mul left (unit_weight rank)))

-- ---- how much is left of a list

length_from : {X : Type 0} (part : ℕ → X) (i n : ℕ) → length (join_from (λ k. part k ∷ []) i n) ≡ n
unfolding join_from
length_from part i zero = refl
length_from part i (suc n) = ap suc (length_from part (i + 1) n)

none_from : {X : Type 0} (part : ℕ → List X) (i n : ℕ) → n ≡ 0 → join_from part i n ≡ []
unfolding join_from
none_from part i n z = rw z refl

-- of an SLBLOCK, whose entries alone are left
pub entries_length : (s : Subs) → s.leaves.left ≡ 0 → length (subs_left s) ≡ s.entries.left
entries_length s none =
    length-append (sub_entries_left s.entries) (leaves_left (table_of s.blocks) s.leaves)
    ∙ omega (arith, length_from (sub_in (bytes_of s.entries.body)) s.entries.next s.entries.left, ap length (none_from (leaf_subs (table_of s.blocks) (bytes_of s.leaves.body)) s.leaves.next s.leaves.left none))

pub entries_light : (f : Frame) (subs : Subs) → f.below ≡ Entries subs → subs.leaves.left ≡ 0 → subs.entries.left < 65536 → frame_weight f < unit_weight (2 * f.limit + 1)
unfolding frame_weight
entries_light f subs is none few = rw is (list_light (2 * f.limit) (length (subs_left subs)) (omega (arith, entries_length subs none, few)))

pub leaves_light : (f : Frame) (leaves : LeafBlocks) → f.below ≡ Leaves leaves → leaves.count < 65536 → frame_weight f < unit_weight (2 * f.limit + 2)
unfolding frame_weight
leaves_light f leaves is few =
    let same : 2 * f.limit + 2 ≡ 2 * f.limit + 1 + 1 = omega arith in
    rw (is, same) (list_light (2 * f.limit + 1) (leaves.count - leaves.next) (omega (arith, few)))

-- ---- steps

-- a frame with a unit less, and a unit of its rank, weigh as much as the frame
pub entry_taken : (f g : Frame) (subs rest : Subs) (sub : Sub) → f.below ≡ Entries subs → g.below ≡ Entries rest → g.limit ≡ f.limit → subs_left subs ≡ sub ∷ subs_left rest → frame_weight g + unit_weight (below_rank g.limit g.below) ≡ frame_weight f
unfolding frame_weight
entry_taken f g subs rest sub is after limit steps =
    let fewer : length (subs_left rest) + 1 ≡ length (subs_left subs) = omega (arith, ap length steps) in
    rw (is, after, limit) (unit_taken (length (subs_left rest)) (length (subs_left subs)) (2 * f.limit) fewer)

pub leaf_taken : (f g : Frame) (leaves behind : LeafBlocks) → f.below ≡ Leaves leaves → g.below ≡ Leaves behind → g.limit ≡ f.limit → behind.next ≡ leaves.next + 1 → behind.count ≡ leaves.count → leaves.next < leaves.count → frame_weight g + unit_weight (below_rank g.limit g.below) ≡ frame_weight f
unfolding frame_weight
leaf_taken f g leaves behind is after limit next count lt =
    let fewer : behind.count - behind.next + 1 ≡ leaves.count - leaves.next = omega (arith, next, count, lt) in
    rw (is, after, limit) (unit_taken (behind.count - behind.next) (leaves.count - leaves.next) (2 * f.limit + 1) fewer)

pub frame_least : (f : Frame) → 2 ≤ frame_weight f
unfolding frame_weight
frame_least f = omega arith

pub stack_more : (f : Frame) (below : List Frame) → stack_weight (f ∷ below) ≡ frame_weight f + stack_weight below
unfolding stack_weight
stack_more f below = refl

pub stack_pushed : (frames : List Frame) (f : Frame) → stack_weight (reverse (frames ++ (f ∷ []))) ≡ frame_weight f + stack_weight (reverse frames)
stack_pushed frames f = ap stack_weight (last_first frames f) ∙ stack_more f (reverse frames)

pub frame_same : (f g : Frame) → g.limit ≡ f.limit → g.below ≡ f.below → frame_weight g ≡ frame_weight f
unfolding frame_weight
frame_same f g limit below = rw (limit, below) refl
