-- The lists on the stack of the walk: one is pushed, goes on, gets its height, or is given up.
use Rattle.std.proofs.Common.{◌≡◌, ℕ, ◌+◌, ◌-◌, ◌<◌, ◌≤◌, max, List, [], ◌∷◌, ◌++◌, Some, None, Result, Ok, Err, refl, sym, ap, ◌∙◌, arith, inl, inr}
use Rattle.std.specs.Prelude.{cond, reverse}
use Rattle.std.specs.Ordering.{nat_cmp, eq_by_cmp}
use Rattle.pst_block.specs.Block.{bid_key}
use Rattle.pst_fault.specs.declared.fault.Fault.{Fault}
use Rattle.pst_fault.specs.Fault.{no_memory}
use Rattle.pst_fault.specs.First.{IsFirst}
use Rattle.pst_page.specs.declared.entry.BlockEntry.{BlockEntry}
use Rattle.pst_block.specs.Table.{Table, body_of}
use Rattle.pst_datatree.specs.declared.seen.Seen.{Seen}
use Rattle.pst_datatree.specs.Data.{data_fault}
use Rattle.pst_datatree.specs.Names.{IsInternal, IsInTree}
use Rattle.pst_datatree.specs.Seen.{tree_expansions, IsSeenTrue, IsKnownTree, AddsTrees, KeepsCount}
use Rattle.pst_subnode.specs.declared.sub.Sub.{Sub}
use Rattle.pst_subnode.specs.declared.entries.Subs.{Subs}
use Rattle.pst_subnode.specs.declared.heights.Heights.{Heights}
use Rattle.pst_subnode.specs.declared.frame.LeafBlocks.{LeafBlocks}
use Rattle.pst_subnode.specs.declared.frame.Below.TheVariants.{Entries, Leaves}
use Rattle.pst_subnode.specs.declared.frame.Frame.{Frame}
use Rattle.pst_subnode.specs.declared.frame.Turn.{Turn}
use Rattle.pst_subnode.specs.declared.frame.Turn.TheVariants.{Expands, Answers}
use Rattle.pst_subnode.specs.Body.{leaf_bid_in}
use Rattle.pst_subnode.specs.List.{list_fault}
use Rattle.pst_subnode.specs.Tree.{sub_fault, sub_height}
use Rattle.pst_subnode.specs.Left.{subs_left}
use Rattle.pst_subnode.specs.Heights.{list_expansions, AreTrue, AreAlike, AreHeightsCounted}
use Rattle.pst_subnode.specs.Reach.{NamesNext, Leads}
use Rattle.pst_subnode.specs.Known.{IsKnownBlock, AreLedTo}
use Rattle.pst_subnode.specs.Walk.{IsWalked}
use Rattle.pst_subnode.specs.Stack.{IsAnswered, IsRefused, IsSince, IsWaiting, EntriesAt, LeavesAt, Start, IsStart, AreWaiting, IsExpanding, IsAnswering, IsGivingUp, IsOpened, IsNext, Opens, Enters}
use Rattle.pst_subnode.proofs.MarkLemmas.{IsPut, IsSame, rank_small}
use Rattle.pst_subnode.proofs.StateLemmas.{same_true, alike_same}
use Rattle.pst_subnode.proofs.HeightLaws.{height_low}
use Rattle.pst_subnode.proofs.AddLemmas.{put_known}
use Rattle.pst_subnode.proofs.WalkLemmas.{walked_then, walked_of, walked_data, walked_forget, walked_settle, walked_same, walked_behind, counts_then, counts_behind}
use Rattle.pst_subnode.proofs.WeightLemmas.{last_first}
use Rattle.pst_subnode.proofs.ExpandLemmas.{entry_come, entry_led, entry_resumes, data_refuses, below_refuses, leaf_come, leaf_rank, leaf_led, leaf_resumes, leaf_refuses}

-- ---- a list is entered

-- its mark takes no memory that there is not
pub begin_refused : (t : Table) (bid limit : ℕ) (s : Seen) (h h' : Heights) (f : Fault) → IsSeenTrue t s → AreTrue t h → f ≡ no_memory → IsSame h h' → h'.ranges ≡ h.ranges → list_expansions h ≤ list_expansions h' → IsRefused t bid limit f s h s h'
begin_refused t bid limit s h h' f trees lists memory same ranges grows = record {
  exact = inl memory;
  walked = walked_same t (λ from. Leads t from bid) s h h' trees (same_true t h h' same (rw ranges lists.ranges) lists) same grows;
}

-- behind the check of its own blocks, which changes no height and no mark
pub opens_alike : (t : Table) (bid limit : ℕ) (s : Seen) (h h' h'' : Heights) (r : Result Frame Fault) → IsSeenTrue t s → AreTrue t h' → AreAlike h h' → Opens t bid limit s h' r h'' → Opens t bid limit s h r h''
opens_alike t bid limit s h h' h'' (Ok f) trees lists alike opened =
    let since = opened.since in
    record {
      same_bid = opened.same_bid;
      same_limit = opened.same_limit;
      since = record {
        begun = since.begun;
        marking = record {
          list = since.marking.list;
          fresh = sym (alike_same h h' alike (bid_key bid)) ∙ since.marking.fresh;
          put = λ key. since.marking.put key ∙ ap (cond (eq_by_cmp nat_cmp (bid_key bid) key) (Some 0)) (alike_same h h' alike key);
          grows = omega (arith, alike.count, since.marking.grows);
        };
        walked = since.walked;
        counts = counts_behind s h h' s h'' alike since.counts;
      };
      left = opened.left;
    }
opens_alike t bid limit s h h' h'' (Err fault) trees lists alike refused = record {
  exact = refused.exact;
  walked = walked_behind t (λ from. Leads t from bid) s h h' s h'' trees lists alike refused.walked;
}

pub entered : (t : Table) (a : Start) (frames : List Frame) (bid limit : ℕ) (s : Seen) (h h' : Heights) (r : Result Turn Fault) → AreWaiting t a (reverse frames) bid limit s h → Enters t bid limit s h r h' → IsNext t a frames r s h'
entered t a frames bid limit s h h' (Ok (Expands f)) waits opened = record {
  seen = s;
  heights = h;
  waits = rw (opened.same_bid, opened.same_limit) waits;
  since = rw opened.same_bid opened.since;
  left = rw (opened.same_bid, opened.same_limit) opened.left;
}
entered t a frames bid limit s h h' (Ok (Answers height)) waits answered = record { bid = bid; limit = limit; seen = s; heights = h; waits = waits; answered = answered }
entered t a frames bid limit s h h' (Err fault) waits refused = record { bid = bid; limit = limit; seen = s; heights = h; waits = waits; refused = refused }

-- an opened list, above a frame that was pushed
pub opened_below : (t : Table) (a : Start) (frames : List Frame) (f g : Frame) (bid limit : ℕ) (s : Seen) (h h' : Heights) → AreWaiting t a (f ∷ reverse frames) bid limit s h → IsOpened t bid limit g s h h' → IsExpanding t a (frames ++ (f ∷ [])) g s h'
opened_below t a frames f g bid limit s h h' waits opened = entered t a (frames ++ (f ∷ [])) bid limit s h h' (Ok (Expands g)) (rw last_first waits) opened

-- ---- a list is given up

pub since_forgotten : (t : Table) (bid limit : ℕ) (fault : Fault) (s : Seen) (h : Heights) (s' : Seen) (h' new : Heights) → IsSince t bid s h s' h' → IsFirst (sub_fault t limit bid) fault → IsPut h' new bid None → new.ranges ≡ h'.ranges → list_expansions h' ≤ list_expansions new → IsRefused t bid limit fault s h s' new
since_forgotten t bid limit fault s h s' h' new since exact put ranges grows = record {
  exact = exact;
  walked = walked_forget t bid s s' h since.begun h' new since.marking since.walked put ranges grows;
}

-- what has come to a list below has come to the list itself
pub since_below : (t : Table) (f : Frame) (bid limit : ℕ) (s : Seen) (h : Heights) (s' : Seen) (h' : Heights) (s'' : Seen) (h'' : Heights) → (since : IsSince t f.bid s h s' h') → IsWaiting t f bid limit s' h' → IsWalked t (λ from. Leads t from bid) s' h' s'' h'' → IsWalked t (λ from. Leads t from f.bid) s since.begun s'' h''
since_below t f bid limit s h s' h' s'' h'' since waiting walked =
    walked_then t (λ from. Leads t from f.bid) s since.begun s' h' s'' h'' since.walked (walked_of t (λ from. Leads t from bid) (λ from. Leads t from f.bid) s' h' s'' h'' waiting.led walked)

-- the list below it is refused
pub below_given_up : (t : Table) (a : Start) (frames : List Frame) (f : Frame) (fault : Fault) (bid limit : ℕ) (s : Seen) (h : Heights) (s' : Seen) (h' new : Heights) → AreWaiting t a (f ∷ reverse frames) bid limit s h → IsRefused t bid limit fault s h s' h' → IsPut h' new f.bid None → new.ranges ≡ h'.ranges → list_expansions h' ≤ list_expansions new → IsGivingUp t a frames fault s' new
below_given_up t a frames f fault bid limit s h s' h' new w refused put ranges grows =
    let since = w.3 in
    let waiting = w.4 in
    let whole = since_below t f bid limit w.0 w.1 s h s' h' since waiting refused.walked in
    record {
      bid = f.bid;
      limit = f.limit;
      seen = w.0;
      heights = w.1;
      waits = w.2;
      refused = record {
        exact = elim refused.exact [ inl memory ↦ inl memory | inr is ↦ inr (waiting.refuses fault is) ];
        walked = walked_forget t f.bid w.0 s' w.1 since.begun h' new since.marking whole put ranges grows;
      };
    }

pub given_up : (t : Table) (a : Start) (frames : List Frame) (f : Frame) (fault : Fault) (s : Seen) (h new : Heights) → IsGivingUp t a (frames ++ (f ∷ [])) fault s h → IsPut h new f.bid None → new.ranges ≡ h.ranges → list_expansions h ≤ list_expansions new → IsGivingUp t a frames fault s new
given_up t a frames f fault s h new up put ranges grows =
    let w : AreWaiting t a (f ∷ reverse frames) up.bid up.limit up.seen up.heights = (rw last_first at up.waits) in
    below_given_up t a frames f fault up.bid up.limit up.seen up.heights s h new w up.refused put ranges grows

-- the fault of a list is that of the frame that waits for it
pub given_up_first : (t : Table) (a : Start) (frames : List Frame) (f : Frame) (fault : Fault) (s : Seen) (h : Heights) → IsGivingUp t a (frames ++ (f ∷ [])) fault s h → IsFirst (sub_fault t f.limit f.bid) fault
given_up_first t a frames f fault s h up =
    let w : AreWaiting t a (f ∷ reverse frames) up.bid up.limit up.seen up.heights = (rw last_first at up.waits) in
    elim up.refused.exact [ inl memory ↦ inl memory | inr is ↦ inr (w.4.refuses fault is) ]

-- whose own blocks have no fault
pub given_up_whole : (t : Table) (a : Start) (frames : List Frame) (f : Frame) (fault : Fault) (s : Seen) (h : Heights) → IsGivingUp t a (frames ++ (f ∷ [])) fault s h → list_fault t f.bid ≡ None
given_up_whole t a frames f fault s h up =
    let w : AreWaiting t a (f ∷ reverse frames) up.bid up.limit up.seen up.heights = (rw last_first at up.waits) in
    w.3.marking.list

-- the list below it is opened, and no memory is left for the stack
pub both_given_up : (t : Table) (a : Start) (frames : List Frame) (f g : Frame) (fault : Fault) (bid limit : ℕ) (s : Seen) (h h' mid new : Heights) → AreWaiting t a (f ∷ reverse frames) bid limit s h → IsOpened t bid limit g s h h' → fault ≡ no_memory → IsPut h' mid g.bid None → mid.ranges ≡ h'.ranges → list_expansions h' ≤ list_expansions mid → IsPut mid new f.bid None → new.ranges ≡ mid.ranges → list_expansions mid ≤ list_expansions new → IsGivingUp t a frames fault s new
both_given_up t a frames f g fault bid limit s h h' mid new w opened memory first first_ranges first_grows put ranges grows =
    let forgot : IsPut h' mid bid None = (rw opened.same_bid at first) in
    below_given_up t a frames f fault bid limit s h s mid new w (since_forgotten t bid limit fault s h s h' mid opened.since (inl memory) forgot first_ranges first_grows) put ranges grows

pub all_given_up : (t : Table) (a : Start) (frames : List Frame) (fault : Fault) (s : Seen) (h : Heights) → frames ≡ [] → IsGivingUp t a frames fault s h → IsRefused t a.bid a.limit fault a.seen a.heights s h
all_given_up t a frames fault s h none up = at_start up.bid up.limit up.seen up.heights (rw none at up.waits) up.refused
  where
    at_start : (bid limit : ℕ) (s' : Seen) (h' : Heights) → IsStart a bid limit s' h' → IsRefused t bid limit fault s' h' s h → IsRefused t a.bid a.limit fault a.seen a.heights s h
    at_start bid limit s' h' is refused = rw (is.same_bid, is.same_limit, is.seen, is.heights) at refused

-- the list itself is given up, whose data or memory is refused
pub own_given_up : (t : Table) (a : Start) (frames : List Frame) (f : Frame) (fault : Fault) (s : Seen) (h : Heights) (s' : Seen) (h' new : Heights) → AreWaiting t a (reverse frames) f.bid f.limit s h → IsSince t f.bid s h s' h' → IsFirst (sub_fault t f.limit f.bid) fault → IsPut h' new f.bid None → new.ranges ≡ h'.ranges → list_expansions h' ≤ list_expansions new → IsGivingUp t a frames fault s' new
own_given_up t a frames f fault s h s' h' new waits since exact put ranges grows = record {
  bid = f.bid;
  limit = f.limit;
  seen = s;
  heights = h;
  waits = waits;
  refused = since_forgotten t f.bid f.limit fault s h s' h' new since exact put ranges grows;
}

-- ---- a list goes on, when the one that it waited for has a height

pub below_answered : (t : Table) (a : Start) (frames : List Frame) (f g : Frame) (bid limit height : ℕ) (s : Seen) (h : Heights) (s' : Seen) (h' : Heights) → AreWaiting t a (f ∷ reverse frames) bid limit s h → IsAnswered t bid limit height s h s' h' → g.bid ≡ f.bid → g.limit ≡ f.limit → g.most ≡ max f.most height → g.below ≡ f.below → IsExpanding t a frames g s' h'
below_answered t a frames f g bid limit height s h s' h' w answered same_bid same_limit most below =
    let since = w.3 in
    let waiting = w.4 in
    let whole = since_below t f bid limit w.0 w.1 s h s' h' since waiting answered.walked in
    let so_far : IsSince t f.bid w.0 w.1 s' h' = record {
      begun = since.begun;
      marking = since.marking;
      walked = whole;
      counts = counts_then w.0 w.1 s h s' h' since.counts answered.counts;
    } in
    record {
      seen = w.0;
      heights = w.1;
      waits = rw (same_bid, same_limit) w.2;
      since = rw same_bid so_far;
      left = rw (same_bid, same_limit, most, below) (waiting.resumes height s' h' answered);
    }

pub resumed : (t : Table) (a : Start) (frames : List Frame) (f g : Frame) (height : ℕ) (s : Seen) (h : Heights) → IsAnswering t a (frames ++ (f ∷ [])) height s h → g.bid ≡ f.bid → g.limit ≡ f.limit → g.most ≡ max f.most height → g.below ≡ f.below → IsExpanding t a frames g s h
resumed t a frames f g height s h up bid limit most below =
    let w : AreWaiting t a (f ∷ reverse frames) up.bid up.limit up.seen up.heights = (rw last_first at up.waits) in
    below_answered t a frames f g up.bid up.limit height up.seen up.heights s h w up.answered bid limit most below

pub all_answered : (t : Table) (a : Start) (frames : List Frame) (height : ℕ) (s : Seen) (h : Heights) → frames ≡ [] → IsAnswering t a frames height s h → IsAnswered t a.bid a.limit height a.seen a.heights s h
all_answered t a frames height s h none up = at_start up.bid up.limit up.seen up.heights (rw none at up.waits) up.answered
  where
    at_start : (bid limit : ℕ) (s' : Seen) (h' : Heights) → IsStart a bid limit s' h' → IsAnswered t bid limit height s' h' s h → IsAnswered t a.bid a.limit height a.seen a.heights s h
    at_start bid limit s' h' is answered = rw (is.same_bid, is.same_limit, is.seen, is.heights) at answered

-- ---- a list gets its height

pub settled : (t : Table) (a : Start) (frames : List Frame) (f : Frame) (height : ℕ) (s : Seen) (h new : Heights) → IsExpanding t a frames f s h → 0 < height → (sub_fault t f.limit f.bid ≡ None) × (height ≡ sub_height t f.limit f.bid) → ((next : ℕ) (x : BlockEntry) → NamesNext t f.bid next → IsInternal t next x → IsKnownBlock s h next) → IsPut h new f.bid (Some height) → new.ranges ≡ h.ranges → list_expansions h ≤ list_expansions new → (AreHeightsCounted h → AreHeightsCounted new) → IsAnswering t a frames height s new
settled t a frames f height s h new at more tells known put ranges grows keeps = record {
  bid = f.bid;
  limit = f.limit;
  seen = at.seen;
  heights = at.heights;
  waits = at.waits;
  answered = record {
    none = tells.0;
    value = tells.1;
    small = omega (arith, tells.1, height_low t f.limit f.bid tells.0);
    walked = walked_settle t f.bid f.limit height at.seen s at.heights at.since.begun h new more at.since.marking at.since.walked tells known put ranges grows;
    counts = record { trees = at.since.counts.trees; lists = λ is. keeps (at.since.counts.lists is) };
    there = put_known t h new f.bid height more put;
  };
}

-- ---- a list comes to what is next below it

-- the data of an entry of an SLBLOCK is checked: what is known of trees is true, and chains lead to what is new
pub record IsChecked (t : Table) (sub : Sub) (s s' : Seen) : Type 0 where
  pub trees : IsSeenTrue t s'
  pub adds : AddsTrees t (IsInTree t sub.bid_data) s s'
  pub grows : tree_expansions s ≤ tree_expansions s'

pub data_walked : (t : Table) (sub : Sub) (s s' : Seen) (h : Heights) → AreTrue t h → IsChecked t sub s s' → IsWalked t (λ from. AreLedTo t from sub) s h s' h
data_walked t sub s s' h lists is = walked_data t sub s s' h lists is.trees is.adds is.grows

entry_walked : (t : Table) (f : Frame) (subs rest : Subs) (sub : Sub) (s : Seen) (h : Heights) (s' s'' : Seen) (h' : Heights) → (since : IsSince t f.bid s h s' h') → EntriesAt t f.bid f.limit f.most subs s' h' → subs_left subs ≡ sub ∷ subs_left rest → IsChecked t sub s' s'' → IsWalked t (λ from. Leads t from f.bid) s since.begun s'' h'
entry_walked t f subs rest sub s h s' s'' h' since at is checked =
    walked_then t (λ from. Leads t from f.bid) s since.begun s' h' s'' h' since.walked (walked_of t (λ from. AreLedTo t from sub) (λ from. Leads t from f.bid) s' h' s'' h' (entry_led t f.bid f.limit f.most subs rest sub s' h' at is) (data_walked t sub s' s'' h' since.walked.lists checked))

-- it has a fault, or memory ran out
pub data_given_up : (t : Table) (a : Start) (frames : List Frame) (f : Frame) (subs rest : Subs) (sub : Sub) (fault : Fault) (s s' : Seen) (h new : Heights) → IsExpanding t a frames f s h → f.below ≡ Entries subs → subs_left subs ≡ sub ∷ subs_left rest → IsChecked t sub s s' → IsFirst (data_fault t sub.bid_data) fault → IsPut h new f.bid None → new.ranges ≡ h.ranges → list_expansions h ≤ list_expansions new → IsGivingUp t a frames fault s' new
data_given_up t a frames f subs rest sub fault s s' h new up below is checked exact put ranges grows =
    let at : EntriesAt t f.bid f.limit f.most subs s h = (rw below at up.left) in
    let whole = entry_walked t f subs rest sub up.seen up.heights s s' h up.since at is checked in
    record {
      bid = f.bid;
      limit = f.limit;
      seen = up.seen;
      heights = up.heights;
      waits = up.waits;
      refused = record {
        exact = elim exact [ inl memory ↦ inl memory | inr some ↦ inr (data_refuses t f.bid f.limit f.most subs rest sub s h fault at is some) ];
        walked = walked_forget t f.bid up.seen s' up.heights up.since.begun h new up.since.marking whole put ranges grows;
      };
    }

-- it has none
pub entry_waits : (t : Table) (a : Start) (frames : List Frame) (f : Frame) (subs rest : Subs) (sub : Sub) (s s' : Seen) (h : Heights) → IsExpanding t a frames f s h → f.below ≡ Entries subs → subs_left subs ≡ sub ∷ subs_left rest → IsChecked t sub s s' → data_fault t sub.bid_data ≡ None → IsKnownTree t s' sub.bid_data → KeepsCount s s' → AreWaiting t a (record f { below = Entries rest } ∷ reverse frames) sub.bid_sub (f.limit - 1) s' h
entry_waits t a frames f subs rest sub s s' h up below is checked none tree counts =
    let at : EntriesAt t f.bid f.limit f.most subs s h = (rw below at up.left) in
    let since = up.since in (
      up.seen,
      up.heights,
      up.waits,
      record {
        begun = since.begun;
        marking = since.marking;
        walked = entry_walked t f subs rest sub up.seen up.heights s s' h since at is checked;
        counts = record { trees = λ k was. counts k (since.counts.trees k was); lists = since.counts.lists };
      },
      record {
        come = entry_come t f.bid f.limit f.most subs rest sub s s' h at is none;
        lower = omega (arith, rank_small t sub.bid_sub, at.room);
        led = λ from led. (entry_led t f.bid f.limit f.most subs rest sub s h at is from led).1;
        resumes = λ height s'' h'' answered. entry_resumes t f.bid f.limit f.most height subs rest sub s s' h s'' h'' at is none (data_walked t sub s s' h since.walked.lists checked) tree answered;
        refuses = λ fault some. below_refuses t f.bid f.limit f.most subs rest sub s h fault at is none some;
      },
    )

-- an SLBLOCK of an SIBLOCK
pub leaf_waits : (t : Table) (a : Start) (frames : List Frame) (f : Frame) (leaves : LeafBlocks) (s : Seen) (h : Heights) → IsExpanding t a frames f s h → f.below ≡ Leaves leaves → leaves.next < leaves.count → AreWaiting t a (record f { below = Leaves (record leaves { next = leaves.next + 1 }) } ∷ reverse frames) (leaf_bid_in (body_of t leaves.holder) leaves.next) f.limit s h
leaf_waits t a frames f leaves s h up below lt =
    let at : LeavesAt t f.bid f.limit f.most leaves h = (rw below at up.left) in (
      up.seen,
      up.heights,
      up.waits,
      up.since,
      record {
        come = leaf_come t f.bid f.limit f.most leaves h at lt;
        lower = omega (arith, leaf_rank t f.bid f.limit f.most leaves h at lt);
        led = leaf_led t f.bid f.limit f.most leaves h at lt;
        resumes = λ height s' h' answered. leaf_resumes t f.bid f.limit f.most height leaves (record leaves { next = leaves.next + 1 }) s h s' h' at lt refl refl refl answered;
        refuses = λ fault some. leaf_refuses t f.bid f.limit f.most leaves h fault at lt some;
      },
    )

-- ---- an empty stack

pub starts : (t : Table) (a : Start) (frames : List Frame) → frames ≡ [] → AreWaiting t a (reverse frames) a.bid a.limit a.seen a.heights
starts t a frames none = rw none (record { same_bid = refl; same_limit = refl; seen = refl; heights = refl })
