-- A list is opened, its entries or SLBLOCKs are walked one after another, and it gets its height or is given up.
use Rattle.std.proofs.Common.{◌≡◌, ℕ, ◌+◌, ◌-◌, ◌*◌, ◌<◌, ◌≤◌, max, List, [], ◌∷◌, length, Option, Some, None, refl, sym, ap, ◌∙◌, arith, inr}
use Rattle.pst_fault.specs.declared.fault.Fault.{Fault}
use Rattle.pst_fault.proofs.FirstLemmas.{then_none, then_some, first_more, first_at}
use Rattle.pst_fault.proofs.EachLemmas.{each_next, each_fails, each_done, contains_here, contains_later}
use Rattle.pst_page.specs.declared.entry.BlockEntry.{BlockEntry}
use Rattle.pst_block.specs.Table.{Table, entry_of, body_of, IsWithin}
use Rattle.pst_datatree.specs.declared.seen.Seen.{Seen}
use Rattle.pst_datatree.specs.Data.{data_fault}
use Rattle.pst_datatree.specs.List.{count_in}
use Rattle.pst_datatree.specs.Names.{IsInternal}
use Rattle.pst_datatree.specs.Seen.{IsSeenTrue, IsKnownTree}
use Rattle.pst_subnode.specs.declared.sub.Sub.{Sub}
use Rattle.pst_subnode.specs.declared.entries.Subs.{Subs}
use Rattle.pst_subnode.specs.declared.heights.Heights.{Heights}
use Rattle.pst_subnode.specs.declared.frame.LeafBlocks.{LeafBlocks}
use Rattle.pst_subnode.specs.Body.{leaf_bid_in}
use Rattle.pst_subnode.specs.List.{subs_at, slblock_subs, subs_of}
use Rattle.pst_subnode.specs.Tree.{most_among, entry_fault, entry_height, sub_fault, sub_height}
use Rattle.pst_subnode.specs.Left.{subs_left}
use Rattle.pst_subnode.specs.Heights.{AreTrue, AreHeightsCounted}
use Rattle.pst_subnode.specs.Marks.{IsSlblockList, IsSiList, HaveCome, at_list, at_entries, at_leaf, leaf_height, rank_of}
use Rattle.pst_subnode.specs.Reach.{NamesNext, Leads}
use Rattle.pst_subnode.specs.Known.{IsKnownBlock, AreLedTo, IsKnownEntry}
use Rattle.pst_subnode.specs.Walk.{IsWalked}
use Rattle.pst_subnode.specs.Stack.{IsAnswered, IsSince, IsMarking, EntriesAt, LeavesAt}
use Rattle.pst_subnode.proofs.MarkLemmas.{IsPut, come_on, begin_come, to_entry, to_below, past_entry, rank_small}
use Rattle.pst_subnode.proofs.StateLemmas.{begin_true, same_place, to_leaves, to_leaf}
use Rattle.pst_subnode.proofs.SubLemmas.{sub_fault_list, most_more, most_end}
use Rattle.pst_subnode.proofs.LeafLemmas.{si_fault, si_fits, si_tells, list_tells, most_start, most_next, most_least, leaf_list}
use Rattle.pst_subnode.proofs.ReachLemmas.{sl_list}
use Rattle.pst_subnode.proofs.AddLemmas.{both_known}
use Rattle.pst_subnode.proofs.PartLemmas.{slblock_known, siblock_known, entries_done, led_entries, led_leaves, entry_next, leaf_next}
use Rattle.pst_subnode.proofs.WalkLemmas.{walked_none, walked_both}

-- ---- a place of a list, by the rank of the list

pub come_lower : (t : Table) (h : Heights) (place : ℕ → Option Fault) (rank lower limit : ℕ) → lower ≤ rank → HaveCome t h place rank limit → HaveCome t h place lower limit
come_lower t h place rank lower limit le come =
    come_on t h h place place rank limit lower limit (λ q marked. marked) (omega arith) (λ k low. inr (k, omega (arith, le), low, (λ f at. at))) come

pub come_rank : (t : Table) (h : Heights) (bid limit : ℕ) → HaveCome t h (at_list t bid) 1 limit → HaveCome t h (at_list t bid) (rank_of t bid) limit
come_rank t h bid limit come = come_lower t h (at_list t bid) 1 (rank_of t bid) limit (rank_small t bid) come

-- ---- a list is opened

-- an SLBLOCK's entries are its own
pub slblock_entries : (t : Table) (bid : ℕ) → IsSlblockList t bid → subs_at (slblock_subs t) (entry_of t bid) ≡ subs_of t bid
unfolding slblock_subs
slblock_entries t bid is =
    let w = sl_list t bid is.is_list is.rank in
    rw (w.1.internal.0, w.1.body) (sym w.1.subs)

pub since_begun : (t : Table) (bid : ℕ) (s : Seen) (h begun : Heights) → IsMarking t bid h begun → begun.ranges ≡ h.ranges → (AreHeightsCounted h → AreHeightsCounted begun) → IsSeenTrue t s → AreTrue t h → IsSince t bid s h s begun
since_begun t bid s h begun marking ranges keeps trees lists = record {
  begun = begun;
  marking = marking;
  walked = walked_none t (λ from. Leads t from bid) s begun trees (begin_true t h begun bid marking.put ranges lists);
  counts = record { trees = λ k is. is; lists = keeps };
}

pub slblock_left : (t : Table) (bid limit : ℕ) (subs : Subs) (s : Seen) (h begun : Heights) → 0 < limit → IsSlblockList t bid → subs_left subs ≡ subs_of t bid → HaveCome t h (at_list t bid) 0 limit → IsPut h begun bid (Some 0) → EntriesAt t bid limit 0 subs s begun
slblock_left t bid limit subs s h begun room is are come put = record {
  room = room;
  is = is;
  first = ap (λ xs. at_entries t xs (limit - 1)) are;
  highest = ap (λ xs. max 0 (most_among (entry_height (sub_height t (limit - 1))) xs)) are ∙ none_more (most_among (entry_height (sub_height t (limit - 1))) (subs_of t bid));
  small = room;
  come = begin_come t h begun limit (limit - 1) bid (subs_left subs) are (omega (arith, room)) is.is_list.named is.is_list.list put come;
  there = λ sub w. inr (rw are w);
  within = λ sub w. (rw are at w);
}
  where
    none_more : (n : ℕ) → max 0 n ≡ n
    none_more n = omega arith

pub siblock_left : (t : Table) (bid limit : ℕ) (leaves : LeafBlocks) (h begun : Heights) → 0 < limit → IsSiList t bid leaves.holder → IsWithin t.image leaves.holder → leaves.count ≡ count_in (body_of t leaves.holder) → leaves.next ≡ 0 → HaveCome t h (at_list t bid) 1 limit → IsPut h begun bid (Some 0) → LeavesAt t bid limit 1 leaves begun
siblock_left t bid limit leaves h begun room is holder count start come put = record {
  room = room;
  is = is;
  holder = holder;
  count = count;
  low = omega (arith, start);
  first = rw start refl;
  highest = rw start (sym (most_start (leaf_height t leaves.holder limit)));
  small = room;
  come = rw count (to_leaves t h begun limit bid leaves.holder room is put come);
  there = λ j lt. absurd (omega (arith, lt, start));
}

-- ---- an entry, once its data is checked, and then its own list

pub entry_come : (t : Table) (bid limit most : ℕ) (subs rest : Subs) (sub : Sub) (s s' : Seen) (h : Heights) → EntriesAt t bid limit most subs s h → subs_left subs ≡ sub ∷ subs_left rest → data_fault t sub.bid_data ≡ None → HaveCome t h (at_list t sub.bid_sub) (rank_of t sub.bid_sub) (limit - 1)
entry_come t bid limit most subs rest sub s s' h at is none =
    come_rank t h sub.bid_sub (limit - 1) (to_below t h (limit - 1) sub none (to_entry t h (limit - 1) sub (subs_left subs) (subs_left rest) is at.come))

pub entry_led : (t : Table) (bid limit most : ℕ) (subs rest : Subs) (sub : Sub) (s : Seen) (h : Heights) → EntriesAt t bid limit most subs s h → subs_left subs ≡ sub ∷ subs_left rest → (from : List ℕ) → Leads t from bid → AreLedTo t from sub
entry_led t bid limit most subs rest sub s h at is from led =
    led_entries t bid (subs_of t bid) at.is.is_list at.is.rank refl from led sub (at.within sub (rw is (contains_here sub (subs_left rest))))

-- its fault is the list's
pub entry_refuses : (t : Table) (bid limit most : ℕ) (subs rest : Subs) (sub : Sub) (s : Seen) (h : Heights) (f : Fault) → EntriesAt t bid limit most subs s h → subs_left subs ≡ sub ∷ subs_left rest → entry_fault t (sub_fault t (limit - 1)) sub ≡ Some f → sub_fault t limit bid ≡ Some f
entry_refuses t bid limit most subs rest sub s h f at is fault =
    let first = each_fails (entry_fault t (sub_fault t (limit - 1))) (subs_left subs) (subs_left rest) sub _ f is fault at.first in
    sub_fault_list t limit (limit - 1) bid (omega (arith, at.room)) at.is.is_list.named ∙ (then_none _ _ at.is.is_list.list ∙ first)

pub entry_resumes : (t : Table) (bid limit most height : ℕ) (subs rest : Subs) (sub : Sub) (s s' : Seen) (h : Heights) (s'' : Seen) (h'' : Heights) → EntriesAt t bid limit most subs s h → subs_left subs ≡ sub ∷ subs_left rest → data_fault t sub.bid_data ≡ None → IsWalked t (λ from. AreLedTo t from sub) s h s' h → IsKnownTree t s' sub.bid_data → IsAnswered t sub.bid_sub (limit - 1) height s' h s'' h'' → EntriesAt t bid limit (max most height) rest s'' h''
unfolding entry_fault entry_height
entry_resumes t bid limit most height subs rest sub s s' h s'' h'' at is none first tree answered =
    let part = entry_fault t (sub_fault t (limit - 1)) in
    let high = entry_height (sub_height t (limit - 1)) in
    let whole = walked_both t sub s h s' s'' h'' first answered.walked in
    let own : part sub ≡ None = then_none (data_fault t sub.bid_data) _ none ∙ answered.none in
    let known : IsKnownEntry t s'' h'' sub = both_known t sub _ s' h s'' h'' tree answered.walked.adds answered.there in
    record {
      room = at.room;
      is = at.is;
      first = each_next part (subs_left subs) (subs_left rest) sub _ is own at.first;
      highest = most_more high most (max most height) (subs_left subs) (subs_left rest) sub is (ap (max most) answered.value) ∙ at.highest;
      small = omega (arith, at.small, answered.small, at.room);
      come = past_entry t h h'' (limit - 1) sub (subs_left subs) (subs_left rest) is answered.walked.marks own at.come;
      there = entry_next t _ (subs_of t bid) (subs_left subs) (subs_left rest) sub s h s'' h'' is at.there whole.adds known;
      within = λ other w. at.within other (rw is (contains_later sub other (subs_left rest) w));
    }

pub data_refuses : (t : Table) (bid limit most : ℕ) (subs rest : Subs) (sub : Sub) (s : Seen) (h : Heights) (f : Fault) → EntriesAt t bid limit most subs s h → subs_left subs ≡ sub ∷ subs_left rest → data_fault t sub.bid_data ≡ Some f → sub_fault t limit bid ≡ Some f
unfolding entry_fault
data_refuses t bid limit most subs rest sub s h f at is fault = entry_refuses t bid limit most subs rest sub s h f at is (then_some (data_fault t sub.bid_data) (sub_fault t (limit - 1) sub.bid_sub) f fault)

pub below_refuses : (t : Table) (bid limit most : ℕ) (subs rest : Subs) (sub : Sub) (s : Seen) (h : Heights) (f : Fault) → EntriesAt t bid limit most subs s h → subs_left subs ≡ sub ∷ subs_left rest → data_fault t sub.bid_data ≡ None → sub_fault t (limit - 1) sub.bid_sub ≡ Some f → sub_fault t limit bid ≡ Some f
unfolding entry_fault
below_refuses t bid limit most subs rest sub s h f at is none fault = entry_refuses t bid limit most subs rest sub s h f at is (then_none (data_fault t sub.bid_data) (sub_fault t (limit - 1) sub.bid_sub) none ∙ fault)

-- nothing is left: the height of an SLBLOCK, and all that it names is known
pub entries_end : (t : Table) (bid limit most : ℕ) (subs : Subs) (s : Seen) (h : Heights) → EntriesAt t bid limit most subs s h → subs_left subs ≡ [] → (sub_fault t limit bid ≡ None) × (most + 1 ≡ sub_height t limit bid)
entries_end t bid limit most subs s h at end =
    let part = entry_fault t (sub_fault t (limit - 1)) in
    let high = entry_height (sub_height t (limit - 1)) in
    list_tells t bid limit (limit - 1) most (subs_of t bid) (omega (arith, at.room)) at.is.is_list refl (
      each_done part (subs_left subs) _ end at.first,
      sym (most_end high most (subs_left subs) end) ∙ at.highest,
    )

pub entries_known : (t : Table) (bid limit most : ℕ) (subs : Subs) (s : Seen) (h : Heights) → EntriesAt t bid limit most subs s h → subs_left subs ≡ [] → (next : ℕ) (x : BlockEntry) → NamesNext t bid next → IsInternal t next x → IsKnownBlock s h next
entries_known t bid limit most subs s h at end = slblock_known t bid (subs_of t bid) s h at.is.is_list at.is.rank refl (entries_done t s h (subs_of t bid) (subs_left subs) end at.there)

-- ---- an SLBLOCK of an SIBLOCK

pub leaf_come : (t : Table) (bid limit most : ℕ) (leaves : LeafBlocks) (h : Heights) → LeavesAt t bid limit most leaves h → leaves.next < leaves.count → HaveCome t h (at_list t (leaf_bid_in (body_of t leaves.holder) leaves.next)) (rank_of t (leaf_bid_in (body_of t leaves.holder) leaves.next)) limit
leaf_come t bid limit most leaves h at lt =
    let leaf = leaf_list t bid leaves.holder leaves.next at.is (omega (arith, lt, at.count)) in
    rw leaf.rank (to_leaf t h limit leaves.count leaves.next leaves.holder at.first lt at.come)

pub leaf_rank : (t : Table) (bid limit most : ℕ) (leaves : LeafBlocks) (h : Heights) → LeavesAt t bid limit most leaves h → leaves.next < leaves.count → rank_of t (leaf_bid_in (body_of t leaves.holder) leaves.next) ≡ 0
leaf_rank t bid limit most leaves h at lt = (leaf_list t bid leaves.holder leaves.next at.is (omega (arith, lt, at.count))).rank

pub leaf_led : (t : Table) (bid limit most : ℕ) (leaves : LeafBlocks) (h : Heights) → LeavesAt t bid limit most leaves h → leaves.next < leaves.count → (from : List ℕ) → Leads t from bid → Leads t from (leaf_bid_in (body_of t leaves.holder) leaves.next)
leaf_led t bid limit most leaves h at lt from led = led_leaves t bid leaves.holder leaves.count at.is at.count from led leaves.next lt

pub leaf_refuses : (t : Table) (bid limit most : ℕ) (leaves : LeafBlocks) (h : Heights) (f : Fault) → LeavesAt t bid limit most leaves h → leaves.next < leaves.count → sub_fault t limit (leaf_bid_in (body_of t leaves.holder) leaves.next) ≡ Some f → sub_fault t limit bid ≡ Some f
leaf_refuses t bid limit most leaves h f at lt fault =
    si_fault t bid leaves.holder limit (limit - 1) at.is (omega (arith, at.room))
    ∙ first_at (at_leaf t leaves.holder limit) (count_in (body_of t leaves.holder)) leaves.next f at.first fault (omega (arith, lt, at.count))

pub leaf_resumes : (t : Table) (bid limit most height : ℕ) (leaves behind : LeafBlocks) (s : Seen) (h : Heights) (s' : Seen) (h' : Heights) → LeavesAt t bid limit most leaves h → leaves.next < leaves.count → behind.holder ≡ leaves.holder → behind.next ≡ leaves.next + 1 → behind.count ≡ leaves.count → IsAnswered t (leaf_bid_in (body_of t leaves.holder) leaves.next) limit height s h s' h' → LeavesAt t bid limit (max most height) behind h'
leaf_resumes t bid limit most height leaves behind s h s' h' at lt holder next count answered =
    let high = leaf_height t leaves.holder limit in
    record {
      room = at.room;
      is = rw holder at.is;
      holder = rw holder at.holder;
      count = rw (count, holder) at.count;
      low = omega (arith, next, count, lt);
      first = rw (holder, next) (first_more (at_leaf t leaves.holder limit) leaves.next at.first answered.none);
      highest = rw (holder, next) (ap (max most) answered.value ∙ (ap (λ m. max m (high leaves.next)) at.highest ∙ sym (most_next high leaves.next)));
      small = omega (arith, at.small, answered.small);
      come = rw (holder, count) (same_place t h h' _ 0 limit answered.walked.marks at.come);
      there = rw (holder, next) (leaf_next t leaves.holder _ leaves.next s h s' h' at.there answered.walked.adds answered.there);
    }

pub leaves_end : (t : Table) (bid limit most : ℕ) (leaves : LeafBlocks) (h : Heights) → LeavesAt t bid limit most leaves h → leaves.count ≤ leaves.next → (sub_fault t limit bid ≡ None) × (most ≡ sub_height t limit bid)
leaves_end t bid limit most leaves h at end =
    let all : leaves.next ≡ leaves.count = omega (arith, end, at.low) in
    si_tells t bid leaves.holder limit leaves.next most at.room at.is (all ∙ at.count) (at.first, at.highest)

pub leaves_known : (t : Table) (bid limit most : ℕ) (leaves : LeafBlocks) (s : Seen) (h : Heights) → LeavesAt t bid limit most leaves h → leaves.count ≤ leaves.next → (next : ℕ) (x : BlockEntry) → NamesNext t bid next → IsInternal t next x → IsKnownBlock s h next
leaves_known t bid limit most leaves s h at end =
    let all : leaves.next ≡ leaves.count = omega (arith, end, at.low) in
    siblock_known t bid leaves.holder leaves.next s h at.is (all ∙ at.count) at.there

pub leaves_most : (t : Table) (bid limit most : ℕ) (leaves : LeafBlocks) (h : Heights) → LeavesAt t bid limit most leaves h → 0 < most
leaves_most t bid limit most leaves h at = omega (arith, at.highest, most_least (leaf_height t leaves.holder limit) leaves.next)

pub leaves_fit : (t : Table) (bid limit most : ℕ) (leaves : LeafBlocks) (h : Heights) → LeavesAt t bid limit most leaves h → leaves.next < leaves.count → 24 + 16 * leaves.next ≤ length (body_of t leaves.holder)
leaves_fit t bid limit most leaves h at lt = omega (arith, si_fits t bid leaves.holder at.is, at.count, lt)
