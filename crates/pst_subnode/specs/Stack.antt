-- The stack of the walk of lists: which lists are being expanded, each for the one above it, and what is left of each.
use Rattle.std.specs.Prelude.{◌≡◌, ℕ, ◌+◌, ◌-◌, ◌*◌, max, cond, ◌<◌, ◌≤◌, Some, None, List, [], ◌∷◌, reverse, Result, Ok, Err}
use Rattle.std.specs.List.{Contains}
use Rattle.std.specs.Ordering.{nat_cmp, eq_by_cmp}
use Rattle.pst_fault.specs.declared.fault.Fault.{Fault}
use Rattle.pst_fault.specs.First.{IsFirst}
use Rattle.pst_block.specs.Block.{bid_key}
use Rattle.pst_block.specs.Table.{Table, body_of, IsWithin}
use Rattle.pst_datatree.specs.declared.seen.Seen.{Seen}
use Rattle.pst_datatree.specs.List.{count_in}
use Rattle.pst_subnode.specs.declared.sub.Sub.{Sub}
use Rattle.pst_subnode.specs.declared.entries.Subs.{Subs}
use Rattle.pst_subnode.specs.declared.heights.Heights.{Heights}
use Rattle.pst_subnode.specs.declared.frame.LeafBlocks.{LeafBlocks}
use Rattle.pst_subnode.specs.declared.frame.Below.{Below}
use Rattle.pst_subnode.specs.declared.frame.Below.TheVariants.{Entries, Leaves}
use Rattle.pst_subnode.specs.declared.frame.Frame.{Frame}
use Rattle.pst_subnode.specs.declared.frame.Turn.{Turn}
use Rattle.pst_subnode.specs.declared.frame.Turn.TheVariants.{Expands, Answers}
use Rattle.pst_subnode.specs.List.{subs_of, list_fault}
use Rattle.pst_subnode.specs.Tree.{most_among, entry_height, sub_fault, sub_height}
use Rattle.pst_subnode.specs.Left.{subs_left}
use Rattle.pst_subnode.specs.Heights.{list_expansions, state_at, state_of}
use Rattle.pst_subnode.specs.Marks.{IsSlblockList, IsSiList, HaveCome, at_list, at_entries, at_leaves, leaf_height, most_below, rank_of}
use Rattle.pst_subnode.specs.Reach.{Leads}
use Rattle.pst_subnode.specs.Known.{IsKnownList, AreKnownOr, AreKnownBelow}
use Rattle.pst_subnode.specs.Walk.{IsWalked, KeepsCounts}
use Rattle.pst_subnode.specs.Weight.{below_rank}

-- ---- the walk of one list, from what was known as it began to what is known as it ended

-- it found no fault
pub record IsAnswered (t : Table) (bid limit height : ℕ) (s : Seen) (h : Heights) (s' : Seen) (h' : Heights) : Type 0 where
  pub none : sub_fault t limit bid ≡ None
  pub value : height ≡ sub_height t limit bid
  pub small : height ≤ limit
  pub walked : IsWalked t (λ from. Leads t from bid) s h s' h'
  pub counts : KeepsCounts s h s' h'
  pub there : IsKnownList t h' bid

-- it found a fault, or memory ran out
pub record IsRefused (t : Table) (bid limit : ℕ) (f : Fault) (s : Seen) (h : Heights) (s' : Seen) (h' : Heights) : Type 0 where
  pub exact : IsFirst (sub_fault t limit bid) f
  pub walked : IsWalked t (λ from. Leads t from bid) s h s' h'

-- ---- what is left of a list that is being expanded

-- of an SLBLOCK
pub record EntriesAt (t : Table) (bid limit most : ℕ) (subs : Subs) (s : Seen) (h : Heights) : Type 0 where
  pub room : 0 < limit
  pub is : IsSlblockList t bid
  pub first : at_entries t (subs_left subs) (limit - 1) ≡ at_entries t (subs_of t bid) (limit - 1)
  pub highest : max most (most_among (entry_height (sub_height t (limit - 1))) (subs_left subs)) ≡ most_among (entry_height (sub_height t (limit - 1))) (subs_of t bid)
  pub small : most < limit
  pub come : HaveCome t h (at_entries t (subs_left subs)) 1 (limit - 1)
  pub there : AreKnownOr t s h (subs_of t bid) (subs_left subs)
  pub within : (sub : Sub) → Contains (subs_left subs) sub → Contains (subs_of t bid) sub

-- of an SIBLOCK
pub record LeavesAt (t : Table) (bid limit most : ℕ) (leaves : LeafBlocks) (h : Heights) : Type 0 where
  pub room : 0 < limit
  pub is : IsSiList t bid leaves.holder
  pub holder : IsWithin t.image leaves.holder
  pub count : leaves.count ≡ count_in (body_of t leaves.holder)
  pub low : leaves.next ≤ leaves.count
  pub first : at_leaves t leaves.holder leaves.next limit ≡ None
  pub highest : most ≡ most_below (leaf_height t leaves.holder limit) leaves.next
  pub small : most ≤ limit
  pub come : HaveCome t h (at_leaves t leaves.holder leaves.count) 0 limit
  pub there : AreKnownBelow t h leaves.holder leaves.next

abbrev pub IsLeft : Table → ℕ → ℕ → ℕ → Below → Seen → Heights → Type 0
IsLeft t bid limit most (Entries subs) s h = EntriesAt t bid limit most subs s h
IsLeft t bid limit most (Leaves leaves) s h = LeavesAt t bid limit most leaves h

-- a list without fault of its own blocks, of which nothing was known, is marked
pub record IsMarking (t : Table) (bid : ℕ) (h begun : Heights) : Type 0 where
  pub list : list_fault t bid ≡ None
  pub fresh : state_of h bid ≡ None
  pub put : (key : ℕ) → state_at begun key ≡ cond (eq_by_cmp nat_cmp (bid_key bid) key) (Some 0) (state_at h key)
  pub grows : list_expansions h ≤ list_expansions begun

-- a list was marked, and since then the walk has come to here
pub record IsSince (t : Table) (bid : ℕ) (s : Seen) (h : Heights) (s' : Seen) (h' : Heights) : Type 0 where
  pub begun : Heights
  pub marking : IsMarking t bid h begun
  pub walked : IsWalked t (λ from. Leads t from bid) s begun s' h'
  pub counts : KeepsCounts s h s' h'

-- ---- a frame that waits for the walk of a list below it, which begins here

pub record IsWaiting (t : Table) (f : Frame) (bid limit : ℕ) (s : Seen) (h : Heights) : Type 0 where
  pub come : HaveCome t h (at_list t bid) (rank_of t bid) limit
  pub lower : 2 * limit + rank_of t bid < below_rank f.limit f.below
  pub led : (from : List ℕ) → Leads t from f.bid → Leads t from bid
  pub resumes : (height : ℕ) (s' : Seen) (h' : Heights) → IsAnswered t bid limit height s h s' h' → IsLeft t f.bid f.limit (max f.most height) f.below s' h'
  pub refuses : (fault : Fault) → sub_fault t limit bid ≡ Some fault → sub_fault t f.limit f.bid ≡ Some fault

-- ---- the whole stack

-- what a walk began with
pub record Start : Type 0 where
  pub bid : ℕ
  pub limit : ℕ
  pub seen : Seen
  pub heights : Heights

pub record IsStart (a : Start) (bid limit : ℕ) (s : Seen) (h : Heights) : Type 0 where
  pub same_bid : bid ≡ a.bid
  pub same_limit : limit ≡ a.limit
  pub seen : s ≡ a.seen
  pub heights : h ≡ a.heights

-- Frames, the top one first, wait for the walk of a list that begins here.
abbrev pub AreWaiting : Table → Start → List Frame → ℕ → ℕ → Seen → Heights → Type 0
AreWaiting t a [] bid limit s h = IsStart a bid limit s h
AreWaiting t a (f ∷ below) bid limit s h =
    (s' : Seen) × (h' : Heights) × AreWaiting t a below f.bid f.limit s' h' × IsSince t f.bid s' h' s h × IsWaiting t f bid limit s h

-- a stack, whose last frame is the top one
abbrev pub Waits : Table → Start → List Frame → ℕ → ℕ → Seen → Heights → Type 0
Waits t a frames bid limit s h = AreWaiting t a (reverse frames) bid limit s h

-- it waits for a list that is being expanded
pub record IsExpanding (t : Table) (a : Start) (frames : List Frame) (f : Frame) (s : Seen) (h : Heights) : Type 0 where
  pub seen : Seen
  pub heights : Heights
  pub waits : Waits t a frames f.bid f.limit seen heights
  pub since : IsSince t f.bid seen heights s h
  pub left : IsLeft t f.bid f.limit f.most f.below s h

-- it waits for a list that has been walked
pub record IsAnswering (t : Table) (a : Start) (frames : List Frame) (height : ℕ) (s : Seen) (h : Heights) : Type 0 where
  pub bid : ℕ
  pub limit : ℕ
  pub seen : Seen
  pub heights : Heights
  pub waits : Waits t a frames bid limit seen heights
  pub answered : IsAnswered t bid limit height seen heights s h

-- it waits for a list that has a fault
pub record IsGivingUp (t : Table) (a : Start) (frames : List Frame) (fault : Fault) (s : Seen) (h : Heights) : Type 0 where
  pub bid : ℕ
  pub limit : ℕ
  pub seen : Seen
  pub heights : Heights
  pub waits : Waits t a frames bid limit seen heights
  pub refused : IsRefused t bid limit fault seen heights s h

abbrev pub IsTurn : Table → Start → List Frame → Turn → Seen → Heights → Type 0
IsTurn t a frames (Expands f) s h = IsExpanding t a frames f s h
IsTurn t a frames (Answers height) s h = IsAnswering t a frames height s h

abbrev pub IsNext : Table → Start → List Frame → Result Turn Fault → Seen → Heights → Type 0
IsNext t a frames (Ok turn) s h = IsTurn t a frames turn s h
IsNext t a frames (Err fault) s h = IsGivingUp t a frames fault s h

-- the walk ends: with an answer to what it began with, or a fault, while some are still marked
abbrev pub Ends : Table → Start → List Frame → Result ℕ Fault → Seen → Heights → Type 0
Ends t a frames (Ok height) s h = IsAnswered t a.bid a.limit height a.seen a.heights s h
Ends t a frames (Err fault) s h = IsGivingUp t a frames fault s h

-- ---- a list is entered, over whatever stack

pub record IsOpened (t : Table) (bid limit : ℕ) (f : Frame) (s : Seen) (h h' : Heights) : Type 0 where
  pub same_bid : f.bid ≡ bid
  pub same_limit : f.limit ≡ limit
  pub since : IsSince t bid s h s h'
  pub left : IsLeft t bid limit f.most f.below s h'

abbrev pub Opens : Table → ℕ → ℕ → Seen → Heights → Result Frame Fault → Heights → Type 0
Opens t bid limit s h (Ok f) h' = IsOpened t bid limit f s h h'
Opens t bid limit s h (Err fault) h' = IsRefused t bid limit fault s h s h'

abbrev pub Enters : Table → ℕ → ℕ → Seen → Heights → Result Turn Fault → Heights → Type 0
Enters t bid limit s h (Ok (Expands f)) h' = IsOpened t bid limit f s h h'
Enters t bid limit s h (Ok (Answers height)) h' = IsAnswered t bid limit height s h s h'
Enters t bid limit s h (Err fault) h' = IsRefused t bid limit fault s h s h'
