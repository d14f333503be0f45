-- What is known of a list below one that is being expanded counts at once, without the stack.
use Rattle.std.proofs.Common.{◌≡◌, ℕ, ◌+◌, ◌-◌, ◌<◌, max, List, ◌∷◌, None, refl}
use Rattle.pst_block.specs.Table.{Table, body_of}
use Rattle.pst_datatree.specs.declared.seen.Seen.{Seen}
use Rattle.pst_datatree.specs.Data.{data_fault}
use Rattle.pst_datatree.specs.Seen.{IsKnownTree, KeepsCount}
use Rattle.pst_subnode.specs.declared.sub.Sub.{Sub}
use Rattle.pst_subnode.specs.declared.entries.Subs.{Subs}
use Rattle.pst_subnode.specs.declared.heights.Heights.{Heights}
use Rattle.pst_subnode.specs.declared.frame.LeafBlocks.{LeafBlocks}
use Rattle.pst_subnode.specs.declared.frame.Below.{Below}
use Rattle.pst_subnode.specs.declared.frame.Below.TheVariants.{Entries, Leaves}
use Rattle.pst_subnode.specs.declared.frame.Frame.{Frame}
use Rattle.pst_subnode.specs.Body.{leaf_bid_in}
use Rattle.pst_subnode.specs.Left.{subs_left}
use Rattle.pst_subnode.specs.Stack.{IsAnswered, Start, IsExpanding}
use Rattle.pst_subnode.proofs.StackLemmas.{IsChecked, entry_waits, leaf_waits, below_answered}

-- what is left of a list, and the greatest height below it so far
abbrev pub left_of : Frame → ℕ → Below → Frame
left_of f most below = record f { most = most; below = below }

-- none of it has been walked
pub left_whole : (t : Table) (a : Start) (frames : List Frame) (f : Frame) (below : Below) (s : Seen) (h : Heights) → f.below ≡ below → IsExpanding t a frames f s h → IsExpanding t a frames (left_of f f.most below) s h
left_whole t a frames f below s h is up = record {
  seen = up.seen;
  heights = up.heights;
  waits = up.waits;
  since = up.since;
  left = (rw is at up.left);
}

-- an entry whose own list has a height
pub entry_passed : (t : Table) (a : Start) (frames : List Frame) (f : Frame) (subs rest : Subs) (sub : Sub) (most height : ℕ) (s s' : Seen) (h h' : Heights) → IsExpanding t a frames (left_of f most (Entries subs)) s h → subs_left subs ≡ sub ∷ subs_left rest → IsChecked t sub s s' → data_fault t sub.bid_data ≡ None → IsKnownTree t s' sub.bid_data → KeepsCount s s' → IsAnswered t sub.bid_sub (f.limit - 1) height s' h s' h' → IsExpanding t a frames (left_of f (max most height) (Entries rest)) s' h'
entry_passed t a frames f subs rest sub most height s s' h h' up is checked none tree counts answered =
    let waits = entry_waits t a frames (left_of f most (Entries subs)) subs rest sub s s' h up refl is checked none tree counts in
    below_answered t a frames (left_of f most (Entries rest)) (left_of f (max most height) (Entries rest)) sub.bid_sub (f.limit - 1) height s' h s' h' waits answered refl refl refl refl

-- an SLBLOCK that has a height
pub leaf_passed : (t : Table) (a : Start) (frames : List Frame) (f : Frame) (leaves : LeafBlocks) (most height : ℕ) (s : Seen) (h h' : Heights) → IsExpanding t a frames (left_of f most (Leaves leaves)) s h → leaves.next < leaves.count → IsAnswered t (leaf_bid_in (body_of t leaves.holder) leaves.next) f.limit height s h s h' → IsExpanding t a frames (left_of f (max most height) (Leaves (record leaves { next = leaves.next + 1 }))) s h'
leaf_passed t a frames f leaves most height s h h' up lt answered =
    let rest = record leaves { next = leaves.next + 1 } in
    let waits = leaf_waits t a frames (left_of f most (Leaves leaves)) leaves s h up refl lt in
    below_answered t a frames (left_of f most (Leaves rest)) (left_of f (max most height) (Leaves rest)) (leaf_bid_in (body_of t leaves.holder) leaves.next) f.limit height s h s h' waits answered refl refl refl refl
